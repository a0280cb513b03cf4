-- From written events to the outcome of an export.
use Rattle.std.proofs.Common.{◌≡◌, ℕ, ◌-◌, Bool, true, false, cond, ◌&&◌, List, [], ◌++◌, map, length, Some, None, Ok, Err, filter, sym, refl, ap, ◌∙◌, subst, arith}
use Rattle.std.proofs.lemmas.List.{length-map}
use Rattle.elements.specs.declared.corner.VertexIndices.{VertexIndices}
use Rattle.elements.specs.declared.options.LoadOptions.{LoadOptions}
use Rattle.elements.specs.declared.error.LoadError.{LoadError}
use Rattle.elements.specs.declared.error.LoadError.TheVariants.{InvalidLoadOptionConfig}
use Rattle.elements.specs.declared.row.Row.{Row}
use Rattle.elements.specs.Checks.{first}
use Rattle.elements.specs.Contents.{Sources, Contents}
use Rattle.elements.specs.First.{distinct, numbers}
use Rattle.elements.specs.Rows.{held, items, room}
use Rattle.elements.specs.Cells.{blanked}
use Rattle.elements.proofs.FirstFacts.{length-numbers, numbers_back}
use Rattle.mesh.specs.declared.lists.Lists.{Lists}
use Rattle.mesh.specs.Unfold.{skips, wanted, events, corners_of, arities_of}
use Rattle.mesh.specs.Surface.{Surface, empty_surface, Rooms, Capacities}
use Rattle.mesh.specs.Lists.{surface, rooms, zero_number}
use Rattle.mesh.specs.Numbering.{some, element, v_of, one, Keys, coloured, corner_keys, position_refs, texture_refs, normal_refs, single, multi, single_keys, multi_keys, numbered, keyed, with_arities, picked, ref_numbers}
use Rattle.mesh.specs.Merging.{merged, merge_checks}
use Rattle.mesh.specs.Merges.{Within, Mergeable}
use Rattle.mesh.specs.Rules.{all_three, trimmed, unmerged, all_checks, verdict}
use Rattle.mesh.specs.Writing.{Stock, no_keys, Drawn, Writing, Merging}
use Rattle.mesh.specs.Outcome.{Trimmed, Finishing, Filling}
use Rattle.mesh.proofs.UnfoldFacts.{first_pass, first_stop}
use Rattle.mesh.proofs.UnfoldCells.{items-none, spare-cleared}
use Rattle.mesh.proofs.UnfoldArity.{with_row, rooms_row, blank_row}
use Rattle.mesh.proofs.UnfoldWaiting.{count_both}

-- ---- trimming

module _ (l : Lists) where
  pub trimmed-three : (r : Row ℕ) → all_three (items l.face_arities) ≡ true → r.count ≡ 0 → room r ≡ room l.face_arities → held r ≡ blanked (held l.face_arities) 0 → Trimmed l (with_row l r)
  trimmed-three r e z n cells =
      record {
        surface = ap (λ ns. with_arities ns (surface l)) (items-none r z ∙ sym (ap (λ b. cond b [] (items l.face_arities)) e));
        rooms = rooms_row l r n;
        remap = refl;
        blank = blank_row l r (spare-cleared zero_number l.face_arities r 0 z cells refl);
      }

-- ---- a mesh of no events

cond_same : {A : Type 0} (b : Bool) (x : A) → cond b x x ≡ x
cond_same true x = refl
cond_same false x = refl

module _ (s : Sources) where
  single-none : single s [] ≡ empty_surface
  single-none = let e : coloured s.colours [] ≡ [] = cond_same (some s.colours) [] in cc

  multi-none : multi s [] ≡ empty_surface
  multi-none =
      let a : coloured s.colours [] ≡ [] = cond_same (some s.colours) [] in
      let b : picked s.textures [] ≡ [] = ap (map (λ k. element s.textures (v_of k))) (cond_same (some s.textures) []) in
      let c : picked s.normals [] ≡ [] = ap (map (λ k. element s.normals (v_of k))) (cond_same (some s.normals) []) in
      let d : ref_numbers s.textures [] ≡ [] = cond_same (some s.textures) [] in
      let e : ref_numbers s.normals [] ≡ [] = cond_same (some s.normals) [] in
      cc

  multi_keys-none : multi_keys s [] ≡ no_keys
  multi_keys-none =
      let b = cond_same {A = List (List ℕ)} (some s.textures) [] in
      let c = cond_same {A = List (List ℕ)} (some s.normals) [] in
      cc

module _ (o : LoadOptions) (s : Sources) where
  numbered-none : numbered o s [] ≡ empty_surface
  numbered-none =
      elim o.single_index as (λ b. cond b (single s []) (multi s []) ≡ empty_surface) [ true ↦ single-none s | false ↦ multi-none s ]

  keyed-none : keyed o s [] ≡ no_keys
  keyed-none =
      elim o.single_index as (λ b. cond b (single_keys []) (multi_keys s []) ≡ no_keys) [ true ↦ refl | false ↦ multi_keys-none s ]

  pub drawn-none : (m : Surface) (ks : Keys) → m ≡ empty_surface → ks ≡ no_keys → Drawn o s [] m ks
  drawn-none m ks e k = record { surface = e ∙ sym (ap (with_arities []) numbered-none); keys = k ∙ sym keyed-none }

-- ---- numbers name elements

within-numbers : (xs : List (List ℕ)) → Within (length (distinct xs)) (numbers xs)
within-numbers xs i l = let n = length-numbers xs in (numbers_back xs i (omega arith)).0

within-map : (f : List ℕ → List ℕ) (xs : List (List ℕ)) → Within (length (map f (distinct xs))) (numbers xs)
within-map f xs i l = let n = length-map (distinct xs) f in let k = within-numbers xs i l in omega arith

within-cond : (b : Bool) (f : List ℕ → List ℕ) (xs : List (List ℕ)) → Within (length (map f (cond b (distinct xs) []))) (cond b (numbers xs) [])
within-cond true f xs i l = within-map f xs i l
within-cond false f xs i l = absurd (omega arith)

beside : (b : Bool) (f g : List ℕ → List ℕ) (ks : List (List ℕ)) → some (cond b (map f ks) []) ≡ true → length (cond b (map f ks) []) ≡ length (map g ks)
beside true f g ks e = length-map ks f ∙ sym (length-map ks g)
beside false f g ks e = let z : ◌≡◌ {A = ℕ} 0 1 = cc in absurd (omega arith)

module _ (s : Sources) (ns : List ℕ) (cs : List VertexIndices) where
  single_mergeable : Mergeable (with_arities ns (single s cs))
  single_mergeable =
      record {
        indices = within-map (λ k. element s.positions (v_of k)) (corner_keys cs);
        textures = λ i l. absurd (omega arith);
        normals = λ i l. absurd (omega arith);
        beside = beside (some s.colours) (λ k. element s.colours (v_of k)) (λ k. element s.positions (v_of k)) (distinct (corner_keys cs));
        none = refl;
      }

  pub multi_mergeable : Mergeable (with_arities ns (multi s cs))
  multi_mergeable =
      record {
        indices = within-map (λ k. element s.positions (v_of k)) (map one (position_refs cs));
        textures = within-cond (some s.textures) (λ k. element s.textures (v_of k)) (map one (texture_refs cs));
        normals = within-cond (some s.normals) (λ k. element s.normals (v_of k)) (map one (normal_refs cs));
        beside = beside (some s.colours) (λ k. element s.colours (v_of k)) (λ k. element s.positions (v_of k)) (distinct (map one (position_refs cs)));
        none = refl;
      }

  pub drawn_mergeable : (o : LoadOptions) (m : Surface) → m ≡ with_arities ns (numbered o s cs) → Mergeable m
  drawn_mergeable o m e =
      subst Mergeable (sym e)
      (elim o.single_index as (λ b. Mergeable (with_arities ns (cond b (single s cs) (multi s cs)))) [ true ↦ single_mergeable | false ↦ multi_mergeable ])

-- arities play no part
trimmed_mergeable : (m : Surface) → Mergeable m → Mergeable (trimmed m)
trimmed_mergeable m h = record { indices = h.indices; textures = h.textures; normals = h.normals; beside = h.beside; none = h.none }

-- ---- trimming and merging

module _ {o : LoadOptions} {l l₁ l₂ : Lists} {t t₂ : Stock} {S S₂ : Type 0} {X Y : Type 0} {x : X} (y : Y) (e : o.merge_identical_points ≡ true) (trim : Trimmed l l₁) (m : Merging l₁ l₂ t t₂ S S₂ (Ok x)) where
  pub finishing_merged : Finishing o l l₂ t t₂ S S₂ (Ok y)
  finishing_merged =
      record {
        refused = m.refused
            ∙ (ap (λ rs. first (merge_checks rs t.capacities (surface l₁))) trim.rooms
            ∙ (ap (λ x. first (merge_checks (rooms l) t.capacities x)) trim.surface
            ∙ sym (ap (λ b. first (cond b (merge_checks (rooms l) t.capacities (surface l)) [])) e)));
        granted = λ h. m.granted (subst Mergeable (sym trim.surface) (trimmed_mergeable (surface l) h))
            ∙ (ap merged trim.surface ∙ sym (ap (λ b. cond b (merged (trimmed (surface l))) (trimmed (surface l))) e));
        rooms = m.rooms ∙ trim.rooms;
        remap = λ z. m.remap;
        blank = λ b. m.blank (trim.blank b);
        keys = m.keys;
        none = λ a b. m.none;
        capacities = m.capacities;
        sound = m.sound;
      }

-- ---- the verdict

module _ (o : LoadOptions) (c : Contents) (rs : Rooms) (n : Capacities) where
  verdict_valid : (o.single_index && o.merge_identical_points) ≡ false
      → verdict o c rs n ≡ first (all_checks o c.sources rs n (events o c.waiting) ++ cond o.merge_identical_points (merge_checks rs n (unmerged o c)) [])
  verdict_valid e =
      ap (λ b. cond b (Some InvalidLoadOptionConfig) (first (all_checks o c.sources rs n (events o c.waiting) ++ cond o.merge_identical_points (merge_checks rs n (unmerged o c)) []))) e

  verdict_stopped : (o.single_index && o.merge_identical_points) ≡ false → (e : LoadError) → first (all_checks o c.sources rs n (events o c.waiting)) ≡ Some e → verdict o c rs n ≡ Some e
  verdict_stopped v e h = verdict_valid v ∙ first_stop (all_checks o c.sources rs n (events o c.waiting)) (cond o.merge_identical_points (merge_checks rs n (unmerged o c)) []) e h

  verdict_passed : (o.single_index && o.merge_identical_points) ≡ false → first (all_checks o c.sources rs n (events o c.waiting)) ≡ None
      → verdict o c rs n ≡ first (cond o.merge_identical_points (merge_checks rs n (unmerged o c)) [])
  verdict_passed v h = verdict_valid v ∙ first_pass (all_checks o c.sources rs n (events o c.waiting)) (cond o.merge_identical_points (merge_checks rs n (unmerged o c)) []) h

-- what was written from lists and tables that were empty
module _ (o : LoadOptions) (c : Contents) (l l₁ : Lists) (t t₁ : Stock) (S S₁ : Type 0) (n : ℕ)
    (valid : (o.single_index && o.merge_identical_points) ≡ false) (w : Writing o c.sources (events o c.waiting) l l₁ t t₁ S S₁ (Ok n))
    (h : S) (m : surface l ≡ empty_surface) (ks : t.keys ≡ no_keys) where
  passed : (first (all_checks o c.sources (rooms l) t.capacities (events o c.waiting)) ≡ None) × Drawn o c.sources (events o c.waiting) (surface l₁) t₁.keys
  passed = w.writes h [] (drawn-none o c.sources (surface l) t.keys m ks)

  drawn_is : surface l₁ ≡ unmerged o c
  drawn_is = passed.1.surface

  fit : Mergeable (surface l₁)
  fit = drawn_mergeable c.sources (arities_of (events o c.waiting)) (corners_of (events o c.waiting)) o (surface l₁) drawn_is

  last-checks : first (cond o.merge_identical_points (merge_checks (rooms l₁) t₁.capacities (surface l₁)) []) ≡ verdict o c (rooms l) t.capacities
  last-checks =
      ap (λ x. first (cond o.merge_identical_points (merge_checks x t₁.capacities (surface l₁)) [])) w.kept.rooms
      ∙ (ap (λ x. first (cond o.merge_identical_points (merge_checks (rooms l) x (surface l₁)) [])) w.kept.capacities
      ∙ (ap (λ x. first (cond o.merge_identical_points (merge_checks (rooms l) t.capacities x) [])) drawn_is
      ∙ sym (verdict_passed o c (rooms l) t.capacities valid passed.0)))

module _ {o : LoadOptions} {c : Contents} {l : Lists} {t : Stock} {S : Type 0} (valid : (o.single_index && o.merge_identical_points) ≡ false) {l₁ : Lists} {t₁ : Stock} {S₁ : Type 0} where
  pub filling_stopped : {e : LoadError} → Writing o c.sources (events o c.waiting) l l₁ t t₁ S S₁ {X = ℕ} (Err e) → Filling o c l l₁ t t₁ S S₁ (Err e)
  filling_stopped {e} w =
      let k = w.kept in
      record {
        refused = λ h m ks. sym (verdict_stopped o c (rooms l) t.capacities valid e (w.writes h [] (drawn-none o c.sources (surface l) t.keys m ks)));
        made = λ _ _ _. tt;
        rooms = k.rooms;
        remap = λ z. ap (λ (r : Row ℕ). r.count) k.remap ∙ z;
        blank = k.blank;
        none = λ a b. (k.points ∙ a, k.pairs ∙ b);
        capacities = k.capacities;
        sound = k.sound;
      }

  module _ {l₂ : Lists} {t₂ : Stock} {S₂ : Type 0} {n : ℕ} {X : Type 0} (w : Writing o c.sources (events o c.waiting) l l₁ t t₁ S S₁ (Ok n)) where
    pub filling_refused : {e : LoadError} → Finishing {X = X} o l₁ l₂ t₁ t₂ S₁ S₂ (Err e) → Filling o c l l₂ t t₂ S S₂ (Err e)
    filling_refused f =
        let k = w.kept in
        record {
          refused = λ h m ks. f.refused ∙ last-checks o c l l₁ t t₁ S S₁ n valid w h m ks;
          made = λ _ _ _. tt;
          rooms = f.rooms ∙ k.rooms;
          remap = λ z. f.remap (ap (λ (r : Row ℕ). r.count) k.remap ∙ z);
          blank = λ b. f.blank (k.blank b);
          none = λ a b. f.none (k.points ∙ a) (k.pairs ∙ b);
          capacities = f.capacities ∙ k.capacities;
          sound = λ h. f.sound (k.sound h);
        }

    pub filling_granted : {x : X} {all : ℕ} → n ≡ length (filter (wanted o) c.waiting) → length c.waiting ≡ all → Finishing o l₁ l₂ t₁ t₂ S₁ S₂ (Ok x) → Filling o c l l₂ t t₂ S S₂ (Ok (n, all - n))
    filling_granted {all} e a f =
        let k = w.kept in
        let both = count_both o c.waiting in
        let rest : all - n ≡ length (filter (skips o) c.waiting) = omega arith in
        record {
          refused = λ h m ks. f.refused ∙ last-checks o c l l₁ t t₁ S S₁ n valid w h m ks;
          made = λ h m ks. (
            f.granted (fit o c l l₁ t t₁ S S₁ n valid w h m ks) ∙ ap (λ x. cond o.merge_identical_points (merged (trimmed x)) (trimmed x)) (drawn_is o c l l₁ t t₁ S S₁ n valid w h m ks),
            f.keys ∙ (passed o c l l₁ t t₁ S S₁ n valid w h m ks).1.keys,
            (e, rest),
          );
          rooms = f.rooms ∙ k.rooms;
          remap = λ z. f.remap (ap (λ (r : Row ℕ). r.count) k.remap ∙ z);
          blank = λ b. f.blank (k.blank b);
          none = λ a b. f.none (k.points ∙ a) (k.pairs ∙ b);
          capacities = f.capacities ∙ k.capacities;
          sound = λ h. f.sound (k.sound h);
        }
