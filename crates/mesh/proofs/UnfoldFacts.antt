-- Laws of events, and of writing them one after the other.
use Rattle.std.proofs.Common.{◌≡◌, ℕ, Bool, true, false, cond, List, [], ◌∷◌, ◌++◌, is_ok, IfOk, Some, None, Ok, Err, Result, sym, refl, ap, ◌∙◌, subst, arith, MatchResult}
use Rattle.std.specs.List.{flat_map}
use Rattle.std.proofs.lemmas.List.{append-nil, append_assoc}
use Rattle.std.proofs.lemmas.Result.{MatchResult-weaker}
use Rattle.elements.specs.declared.corner.VertexIndices.{VertexIndices}
use Rattle.elements.specs.declared.options.LoadOptions.{LoadOptions}
use Rattle.elements.specs.declared.error.LoadError.{LoadError}
use Rattle.elements.specs.Checks.{first}
use Rattle.elements.specs.Contents.{Sources}
use Rattle.elements.specs.First.{distinct}
use Rattle.mesh.specs.declared.lists.Lists.{Lists}
use Rattle.mesh.specs.Unfold.{Event, corner, corner_in, arity_in, corners_of, arities_of}
use Rattle.mesh.specs.Surface.{Surface, Rooms, Capacities}
use Rattle.mesh.specs.Lists.{surface, rooms}
use Rattle.mesh.specs.Numbering.{Keys, corner_keys, single, multi, single_keys, multi_keys, with_arities}
use Rattle.mesh.specs.Rules.{single_checks, multi_checks, corner_checks, checks, checks_after}
use Rattle.mesh.specs.Steps.{DrawnOf, AddsSingle, AddsMulti, Adds}
use Rattle.mesh.specs.Writing.{Stock, Drawn, Wrote, Stopped, Kept, Writing}

-- ---- the first check that holds

module _ {E : Type 0} where
  -- checks that let pass leave the answer to those after them
  pub first_pass : (xs ys : List (Bool × E)) → first xs ≡ None → first (xs ++ ys) ≡ first ys
  first_pass [] ys h = refl
  first_pass ((true, e) ∷ xs) ys h = let z : ◌≡◌ {A = ℕ} 0 1 = cc in absurd (omega arith)
  first_pass ((false, e) ∷ xs) ys h = first_pass xs ys h

  -- a check that holds answers before all after it
  pub first_stop : (xs ys : List (Bool × E)) (x : E) → first xs ≡ Some x → first (xs ++ ys) ≡ Some x
  first_stop [] ys x h = let z : ◌≡◌ {A = ℕ} 0 1 = cc in absurd (omega arith)
  first_stop ((true, e) ∷ xs) ys x h = h
  first_stop ((false, e) ∷ xs) ys x h = first_stop xs ys x h

-- what holds if the answer is good
pub cases_ok : {X E : Type 0} (r : Result X E) (P : Type 0) → (is_ok r ≡ true → P) → IfOk r (λ _. P)
cases_ok (Ok x) P h = h refl
cases_ok (Err e) P h = tt

-- ---- events one after the other

pub joined-append : {X A : Type 0} (f : X → List A) (xs ys : List X) → flat_map f (xs ++ ys) ≡ flat_map f xs ++ flat_map f ys
joined-append f [] ys = refl
joined-append f (x ∷ xs) ys = ap (λ zs. f x ++ zs) (joined-append f xs ys) ∙ sym (append_assoc (f x) (flat_map f xs) (flat_map f ys))

pub corners-append : (es fs : List Event) → corners_of (es ++ fs) ≡ corners_of es ++ corners_of fs
corners-append es fs = joined-append corner_in es fs

pub arities-append : (es fs : List Event) → arities_of (es ++ fs) ≡ arities_of es ++ arities_of fs
arities-append es fs = joined-append arity_in es fs

module _ (o : LoadOptions) (s : Sources) (rs : Rooms) (n : Capacities) where
  -- the checks of events, and of those after them
  pub checks-append : (es fs gs : List Event) → checks_after o s rs n es (fs ++ gs) ≡ checks_after o s rs n es fs ++ checks_after o s rs n (es ++ fs) gs
  checks-append es [] gs = ap (λ xs. checks_after o s rs n xs gs) (sym (append-nil es))
  checks-append es (f ∷ fs) gs =
      ap (λ xs. checks o s rs n es f ++ xs) (checks-append (es ++ f ∷ []) fs gs)
      ∙ (ap (λ xs. checks o s rs n es f ++ (checks_after o s rs n (es ++ f ∷ []) fs ++ checks_after o s rs n xs gs)) (append_assoc es (f ∷ []) fs)
      ∙ sym (append_assoc (checks o s rs n es f) (checks_after o s rs n (es ++ f ∷ []) fs) (checks_after o s rs n (es ++ f ∷ fs) gs)))

  module _ (m : Surface) (ks : Keys) where
    pub wrote_none : Wrote o s rs n [] m ks m ks
    wrote_none es d = (refl, subst (λ xs. Drawn o s xs m ks) (sym (append-nil es)) d)

    module _ (fs gs : List Event) where
      pub wrote_then : (m' m'' : Surface) (ks' ks'' : Keys) → Wrote o s rs n fs m ks m' ks' → Wrote o s rs n gs m' ks' m'' ks'' → Wrote o s rs n (fs ++ gs) m ks m'' ks''
      wrote_then m' m'' ks' ks'' a b es d =
          let one = a es d in
          let two = b (es ++ fs) one.1 in (
            ap first (checks-append es fs gs) ∙ (first_pass (checks_after o s rs n es fs) (checks_after o s rs n (es ++ fs) gs) one.0 ∙ two.0),
            subst (λ xs. Drawn o s xs m'' ks'') (append_assoc es fs gs) two.1,
          )

      pub stopped_later : (m' : Surface) (ks' : Keys) (e : LoadError) → Wrote o s rs n fs m ks m' ks' → Stopped o s rs n gs m' ks' e → Stopped o s rs n (fs ++ gs) m ks e
      stopped_later m' ks' e a b es d =
          let one = a es d in
          ap first (checks-append es fs gs) ∙ (first_pass (checks_after o s rs n es fs) (checks_after o s rs n (es ++ fs) gs) one.0 ∙ b (es ++ fs) one.1)

      pub stopped_before : (e : LoadError) → Stopped o s rs n fs m ks e → Stopped o s rs n (fs ++ gs) m ks e
      stopped_before e a es d = ap first (checks-append es fs gs) ∙ first_stop (checks_after o s rs n es fs) (checks_after o s rs n (es ++ fs) gs) e (a es d)

-- ---- one corner

module _ {X : Type 0} (o : LoadOptions) (s : Sources) (rs : Rooms) (n : Capacities) (c : VertexIndices) where
  -- a corner added is the event of that corner written
  pub adds_writes : (m m' : Surface) (ks ks' : Keys) (r : Result X LoadError) → Adds s rs n c o m ks m' ks' r
      → MatchResult r (λ _. Wrote o s rs n (corner c ∷ []) m ks m' ks') (Stopped o s rs n (corner c ∷ []) m ks)
  adds_writes m m' ks ks' (Ok x) h = λ es d.
      let a = h (arities_of es) (corners_of es) d in
      let cs : corners_of es ++ c ∷ [] ≡ corners_of (es ++ corner c ∷ []) = sym (corners-append es (corner c ∷ [])) in
      let ns : arities_of es ≡ arities_of (es ++ corner c ∷ []) = sym (arities-append es (corner c ∷ []) ∙ append-nil (arities_of es)) in (
        ap first (append-nil (corner_checks o s rs n (arities_of es) (corners_of es) c)) ∙ a.0,
        subst (λ xs. DrawnOf o s (arities_of (es ++ corner c ∷ [])) xs m' ks') cs (subst (λ xs. DrawnOf o s xs (corners_of es ++ c ∷ []) m' ks') ns a.1),
      )
  adds_writes m m' ks ks' (Err e) h = λ es d.
      ap first (append-nil (corner_checks o s rs n (arities_of es) (corners_of es) c)) ∙ h (arities_of es) (corners_of es) d

  module _ (m m' : Surface) (k k' p p' t t' q q' : List (List ℕ)) (r : Result X LoadError) where
    pub single_adds : o.single_index ≡ true → AddsSingle s rs n c m k m' k' r
        → Adds s rs n c o m (record { corners = k; positions = p; textures = t; normals = q }) m' (record { corners = k'; positions = p; textures = t; normals = q }) r
    single_adds e h ns cs d =
        let keys : record { corners = k; positions = p; textures = t; normals = q } ≡ single_keys cs = d.keys ∙ ap (λ b. cond b (single_keys cs) (multi_keys s cs)) e in
        MatchResult-weaker r (h ns cs (record { surface = d.surface ∙ ap (λ b. with_arities ns (cond b (single s cs) (multi s cs))) e; keys = ap (λ (x : Keys). x.corners) keys }))
        (λ _ g. (
          ap (λ b. first (cond b (single_checks s rs n ns cs c) (multi_checks s rs n ns cs c))) e ∙ g.0,
          record {
            surface = g.1.surface ∙ sym (ap (λ b. with_arities ns (cond b (single s (cs ++ c ∷ [])) (multi s (cs ++ c ∷ [])))) e);
            keys = (ap (λ w. record { corners = w; positions = p; textures = t; normals = q }) g.1.keys
                ∙ (ap (λ (x : Keys). record { corners = distinct (corner_keys (cs ++ c ∷ [])); positions = x.positions; textures = x.textures; normals = x.normals }) keys)
                ∙ sym (ap (λ b. cond b (single_keys (cs ++ c ∷ [])) (multi_keys s (cs ++ c ∷ []))) e));
          },
        ))
        (λ x g. ap (λ b. first (cond b (single_checks s rs n ns cs c) (multi_checks s rs n ns cs c))) e ∙ g)

    pub multi_adds : o.single_index ≡ false → AddsMulti s rs n c m (record { corners = []; positions = p; textures = t; normals = q }) m' (record { corners = []; positions = p'; textures = t'; normals = q' }) r
        → Adds s rs n c o m (record { corners = k; positions = p; textures = t; normals = q }) m' (record { corners = k; positions = p'; textures = t'; normals = q' }) r
    multi_adds e h ns cs d =
        let keys : record { corners = k; positions = p; textures = t; normals = q } ≡ multi_keys s cs = d.keys ∙ ap (λ b. cond b (single_keys cs) (multi_keys s cs)) e in
        let none : k ≡ [] = ap (λ (x : Keys). x.corners) keys in
        MatchResult-weaker r (h ns cs (record {
          surface = d.surface ∙ ap (λ b. with_arities ns (cond b (single s cs) (multi s cs))) e;
          keys = ap (λ (x : Keys). record { corners = []; positions = x.positions; textures = x.textures; normals = x.normals }) keys;
        }))
        (λ _ g. (
          ap (λ b. first (cond b (single_checks s rs n ns cs c) (multi_checks s rs n ns cs c))) e ∙ g.0,
          record {
            surface = g.1.surface ∙ sym (ap (λ b. with_arities ns (cond b (single s (cs ++ c ∷ [])) (multi s (cs ++ c ∷ [])))) e);
            keys = (ap (λ w. record { corners = w; positions = p'; textures = t'; normals = q' }) none ∙ g.1.keys)
                ∙ sym (ap (λ b. cond b (single_keys (cs ++ c ∷ [])) (multi_keys s (cs ++ c ∷ []))) e);
          },
        ))
        (λ x g. ap (λ b. first (cond b (single_checks s rs n ns cs c) (multi_checks s rs n ns cs c))) e ∙ g)

-- ---- calls one after the other

module _ (o : LoadOptions) (s : Sources) (rs rs' : Rooms) (n n' : Capacities) (fs : List Event) (m : Surface) (ks : Keys) where
  wrote_at : (m' : Surface) (ks' : Keys) → rs ≡ rs' → n ≡ n' → Wrote o s rs n fs m ks m' ks' → Wrote o s rs' n' fs m ks m' ks'
  wrote_at m' ks' a b w = subst (λ x. Wrote o s x n' fs m ks m' ks') a (subst (λ x. Wrote o s rs x fs m ks m' ks') b w)

  stopped_at : (e : LoadError) → rs ≡ rs' → n ≡ n' → Stopped o s rs n fs m ks e → Stopped o s rs' n' fs m ks e
  stopped_at e a b w = subst (λ x. Stopped o s x n' fs m ks e) a (subst (λ x. Stopped o s rs x fs m ks e) b w)

module _ {l₀ l₁ l₂ : Lists} {t₀ t₁ t₂ : Stock} {S₀ S₁ S₂ : Type 0} where
  pub kept_then : Kept l₀ l₁ t₀ t₁ S₀ S₁ → Kept l₁ l₂ t₁ t₂ S₁ S₂ → Kept l₀ l₂ t₀ t₂ S₀ S₂
  kept_then a b =
      record {
        rooms = b.rooms ∙ a.rooms;
        remap = b.remap ∙ a.remap;
        blank = λ h. b.blank (a.blank h);
        capacities = b.capacities ∙ a.capacities;
        points = b.points ∙ a.points;
        pairs = b.pairs ∙ a.pairs;
        sound = λ h. b.sound (a.sound h);
      }

  -- events that were written, and a call that was to write more
  module _ {o : LoadOptions} {s : Sources} {fs gs : List Event} {X Y : Type 0} {x : X} where
    pub writing_then : (r : Result Y LoadError) → Writing o s fs l₀ l₁ t₀ t₁ S₀ S₁ (Ok x) → Writing o s gs l₁ l₂ t₁ t₂ S₁ S₂ r → Writing o s (fs ++ gs) l₀ l₂ t₀ t₂ S₀ S₂ r
    writing_then r a b =
        record {
          kept = kept_then a.kept b.kept;
          writes = λ h. MatchResult-weaker r (b.writes (a.kept.sound h))
              (λ _ w. wrote_then o s (rooms l₀) t₀.capacities (surface l₀) t₀.keys fs gs (surface l₁) (surface l₂) t₁.keys t₂.keys (a.writes h)
              (wrote_at o s (rooms l₁) (rooms l₀) t₁.capacities t₀.capacities gs (surface l₁) t₁.keys (surface l₂) t₂.keys a.kept.rooms a.kept.capacities w))
              (λ e w. stopped_later o s (rooms l₀) t₀.capacities (surface l₀) t₀.keys fs gs (surface l₁) t₁.keys e (a.writes h)
              (stopped_at o s (rooms l₁) (rooms l₀) t₁.capacities t₀.capacities gs (surface l₁) t₁.keys e a.kept.rooms a.kept.capacities w));
        }

module _ {l l' : Lists} {t t' : Stock} {S S' : Type 0} {o : LoadOptions} {s : Sources} {fs : List Event} {X Y : Type 0} where
  pub writing_ok : {x : X} (y : Y) → Writing o s fs l l' t t' S S' (Ok x) → Writing o s fs l l' t t' S S' (Ok y)
  writing_ok y a = record { kept = a.kept; writes = a.writes }

  -- a refusal stays the first, whatever was to come after it
  pub writing_stop : (e : LoadError) (gs : List Event) → Writing o s fs l l' t t' S S' {X = X} (Err e) → Writing o s (fs ++ gs) l l' t t' S S' {X = Y} (Err e)
  writing_stop e gs a =
      record { kept = a.kept; writes = λ h. stopped_before o s (rooms l) t.capacities (surface l) t.keys fs gs e (a.writes h) }

pub writing_none : {X : Type 0} (x : X) {o : LoadOptions} {s : Sources} {l : Lists} {t : Stock} {S : Type 0} → Writing o s [] l l t t S S (Ok x)
writing_none x {o} {s} {l} {t} =
    record {
      kept = record { rooms = refl; remap = refl; blank = λ h. h; capacities = refl; points = refl; pairs = refl; sound = λ h. h };
      writes = λ _. wrote_none o s (rooms l) t.capacities (surface l) t.keys;
    }
