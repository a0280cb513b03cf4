-- One corner more: the mesh of the corners before it turns into the mesh of all.
use Rattle.std.proofs.Common.{◌≡◌, ℕ, ◌-◌, ◌<◌, ◌≤◌, Bool, true, false, cond, ◌||◌, List, [], ◌∷◌, ◌++◌, map, length, replicate, Some, None, sym, refl, ap, ◌∙◌, subst, ⊎_elim, arith}
use Rattle.std.proofs.lemmas.Bool.{lt-ltb, le-ltb, both_ways, cases_Bool, cases_lt, not-true, not-false, or_parts, cond-true, cond-false}
use Rattle.std.proofs.lemmas.List.{length-map, length_push, map_push}
use Rattle.elements.specs.declared.corner.VertexIndices.{VertexIndices}
use Rattle.elements.specs.declared.error.LoadError.{LoadError}
use Rattle.elements.specs.declared.error.LoadError.TheVariants.{TableFull, MeshFull}
use Rattle.elements.specs.Bits.{point_bits, pair_bits}
use Rattle.elements.specs.Checks.{first}
use Rattle.elements.specs.Contents.{Sources}
use Rattle.elements.specs.Corners.{refs}
use Rattle.elements.specs.First.{distinct, place, has, entered, numbers}
use Rattle.elements.proofs.FirstFacts.{distinct_more, numbers_more, entered-old, entered-new, place_of, place_none}
use Rattle.tables.specs.Tables.{Placed, Refused}
use Rattle.mesh.specs.declared.lists.Lists.{Lists}
use Rattle.mesh.specs.declared.single.Vertex.{Vertex}
use Rattle.mesh.specs.Surface.{Surface, Capacities, over, lacks}
use Rattle.mesh.specs.Lists.{surface, rooms}
use Rattle.mesh.specs.Numbering.{some, names, element, v_of, vt_of, vn_of, corner_keys, any_named, named_or, with_fillers, coloured, single, with_arities}
use Rattle.mesh.specs.Rules.{single_checks}
use Rattle.mesh.specs.Steps.{SingleOf}
use Rattle.mesh.specs.Single.{attached, followed, bits_of, Changed, Settles, numbered_again, widened}
use Rattle.mesh.proofs.SingleRowFacts.{padded-none, filled_more}
use Rattle.mesh.proofs.SingleListFacts.{or_false}
use Rattle.mesh.proofs.SingleSourceFacts.{first_before, first_after, asked, source_checks, Gathered, length_bits}

-- ---- fillers

module _ (z : List ℕ) (xs : List (List ℕ)) (ref : List ℕ → ℕ) where
  any_named_push : (ks : List (List ℕ)) (k : List ℕ) → any_named xs ref (ks ++ k ∷ []) ≡ (any_named xs ref ks || names xs (ref k))
  any_named_push [] k = or_false (names xs (ref k))
  any_named_push (h ∷ ks) k =
      elim (names xs (ref h)) as (λ b. (b || any_named xs ref (ks ++ k ∷ [])) ≡ ((b || any_named xs ref ks) || names xs (ref k))) [ true ↦ refl | false ↦ any_named_push ks k ]

  -- keys that ask for nothing have fillers alone
  all-fillers : (ks : List (List ℕ)) → any_named xs ref ks ≡ false → map (named_or z xs ref) ks ≡ replicate (length ks) z
  all-fillers [] h = refl
  all-fillers (k ∷ ks) h =
      let p = or_parts (names xs (ref k)) (any_named xs ref ks) h in
      let here = cond-false (names xs (ref k)) (element xs (ref k)) z p.0 in
      let rest = all-fillers ks p.1 in
      ap (λ (y : List ℕ). y ∷ map (named_or z xs ref) ks) here ∙ ap (λ ys. z ∷ ys) rest

  not_none : (ks : List (List ℕ)) → any_named xs ref ks ≡ true → length ks ≡ 0 → ⊥
  not_none [] h e = both_ways false refl h
  not_none (k ∷ ks) h e = omega arith

-- one key more, where b says that one before it asked, and d that it asks
fill_step : (n : ℕ) (z e : List ℕ) (ms : List (List ℕ)) (b d : Bool) → length ms ≡ n → (b ≡ false → ms ≡ replicate n z) → (b ≡ true → length ms ≡ 0 → ⊥)
    → cond (b || d) (ms ++ cond d e z ∷ []) [] ≡ attached n z (cond b ms []) (cond d (Some e) None)
fill_step n z e ms false false l none full = refl
fill_step n z e ms false true l none full =
    let m : n ≡ n - 0 = omega arith in
    ap (λ ys. ys ++ e ∷ []) (none refl ∙ ap (λ (k : ℕ). replicate k z) m)
fill_step n z e ms true false l none full = sym (filled_more z ms (full refl))
fill_step n z e ms true true l none full = ap (λ ys. ys ++ e ∷ []) (sym (padded-none n z ms (omega arith)))

fillers-more : (z : List ℕ) (xs : List (List ℕ)) (ref : List ℕ → ℕ) (ks : List (List ℕ)) (k : List ℕ)
    → with_fillers z xs ref (ks ++ k ∷ []) ≡ attached (length ks) z (with_fillers z xs ref ks) (asked xs (ref k))
fillers-more z xs ref ks k =
    let l = length-map ks (named_or z xs ref) in
    ap (λ b. cond b (map (named_or z xs ref) (ks ++ k ∷ [])) []) (any_named_push z xs ref ks k)
    ∙ (ap (λ ys. cond (any_named xs ref ks || names xs (ref k)) ys []) (map_push (named_or z xs ref) ks k)
    ∙ fill_step (length ks) z (element xs (ref k)) (map (named_or z xs ref) ks) (any_named xs ref ks) (names xs (ref k)) l (all-fillers z xs ref ks) (λ t e. not_none z xs ref ks t (sym l ∙ e)))

coloured-more : (xs ks : List (List ℕ)) (k : List ℕ) → coloured xs (ks ++ k ∷ []) ≡ followed (coloured xs ks) (cond (some xs) (Some (element xs (v_of k))) None)
coloured-more xs ks k =
    elim (some xs) as (λ b. cond b (map (λ h. element xs (v_of h)) (ks ++ k ∷ [])) [] ≡ followed (cond b (map (λ h. element xs (v_of h)) ks) []) (cond b (Some (element xs (v_of k))) None))
    [ true ↦ map_push (λ (h : List ℕ). element xs (v_of h)) ks k | false ↦ refl ]

-- ---- the mesh of some keys, with the indices is

abbrev mesh_of : Sources → List ℕ → List (List ℕ) → List ℕ → Surface
mesh_of s ns ks is =
    record {
      positions = map (λ k. element s.positions (v_of k)) ks;
      colours = coloured s.colours ks;
      textures = with_fillers (0 ∷ 0 ∷ []) s.textures vt_of ks;
      normals = with_fillers (0 ∷ 0 ∷ 0 ∷ []) s.normals vn_of ks;
      indices = is;
      arities = ns;
      colour_indices = [];
      texture_indices = [];
      normal_indices = [];
    }

keys-more : (s : Sources) (ns : List ℕ) (c : VertexIndices) (cs : List VertexIndices) (m : Surface) (ks : List (List ℕ)) → SingleOf s ns cs m ks → distinct (corner_keys (cs ++ c ∷ [])) ≡ entered ks (refs c)
keys-more s ns c cs m ks st =
    ap distinct (map_push refs cs c) ∙ (distinct_more (corner_keys cs) (refs c) ∙ ap (λ (k : List (List ℕ)). entered k (refs c)) (sym st.keys))

module _ (s : Sources) (ns : List ℕ) (c : VertexIndices) (v : Vertex) (ga : Gathered s c v) where
  -- what a new key brings
  widened_more : (ks : List (List ℕ)) (is : List ℕ) → widened (mesh_of s ns ks is) v ≡ mesh_of s ns (ks ++ refs c ∷ []) is
  widened_more ks is =
      let f : List ℕ → List ℕ = λ k. element s.positions (v_of k) in
      let n = length-map ks f in
      let a : map f ks ++ point_bits v.position ∷ [] ≡ map f (ks ++ refs c ∷ []) = ap (λ (x : List ℕ). map f ks ++ x ∷ []) ga.position ∙ sym (map_push f ks (refs c)) in
      let b = ap (followed (coloured s.colours ks)) ga.colour ∙ sym (coloured-more s.colours ks (refs c)) in
      let t = ap (λ (k : ℕ). attached k (0 ∷ 0 ∷ []) (with_fillers (0 ∷ 0 ∷ []) s.textures vt_of ks) (bits_of pair_bits v.texture)) n
      ∙ (ap (attached (length ks) (0 ∷ 0 ∷ []) (with_fillers (0 ∷ 0 ∷ []) s.textures vt_of ks)) ga.texture
      ∙ sym (fillers-more (0 ∷ 0 ∷ []) s.textures vt_of ks (refs c))) in
      let m = ap (λ (k : ℕ). attached k (0 ∷ 0 ∷ 0 ∷ []) (with_fillers (0 ∷ 0 ∷ 0 ∷ []) s.normals vn_of ks) (bits_of point_bits v.normal)) n
      ∙ (ap (attached (length ks) (0 ∷ 0 ∷ 0 ∷ []) (with_fillers (0 ∷ 0 ∷ 0 ∷ []) s.normals vn_of ks)) ga.normal
      ∙ sym (fillers-more (0 ∷ 0 ∷ 0 ∷ []) s.normals vn_of ks (refs c))) in
      cc

  module _ (cs : List VertexIndices) (m : Surface) (ks : List (List ℕ)) (st : SingleOf s ns cs m ks) where
    numbers_again : numbers (corner_keys (cs ++ c ∷ [])) ≡ numbers (corner_keys cs) ++ place ks (refs c) ∷ []
    numbers_again =
        ap numbers (map_push refs cs c) ∙ (numbers_more (corner_keys cs) (refs c)
        ∙ ap (λ (k : List (List ℕ)). numbers (corner_keys cs) ++ place k (refs c) ∷ []) (sym st.keys))

    as_mesh : m ≡ mesh_of s ns ks (numbers (corner_keys cs))
    as_mesh = st.surface ∙ ap (λ (k : List (List ℕ)). mesh_of s ns k (numbers (corner_keys cs))) (sym st.keys)

    as_many : length m.positions ≡ length ks
    as_many = ap (λ (w : Surface). length w.positions) as_mesh ∙ length-map ks (λ (k : List ℕ). element s.positions (v_of k))

    -- the mesh with all, from its keys and the last number
    whole : (ks' : List (List ℕ)) (i : ℕ) → ks' ≡ entered ks (refs c) → i ≡ place ks (refs c)
        → mesh_of s ns ks' (numbers (corner_keys cs) ++ i ∷ []) ≡ with_arities ns (single s (cs ++ c ∷ []))
    whole ks' i e p =
        ap (λ (k : List (List ℕ)). mesh_of s ns k (numbers (corner_keys cs) ++ i ∷ [])) (e ∙ sym (keys-more s ns c cs m ks st))
        ∙ ap (mesh_of s ns (distinct (corner_keys (cs ++ c ∷ [])))) (ap (λ (j : ℕ). numbers (corner_keys cs) ++ j ∷ []) p ∙ sym numbers_again)

    -- the mesh with the number of a key that it had, or has now
    old-single : (ks' : List (List ℕ)) (i : ℕ) → has ks (refs c) ≡ true → ks' ≡ entered ks (refs c) → i ≡ place ks (refs c) → numbered_again m i ≡ with_arities ns (single s (cs ++ c ∷ []))
    old-single ks' i old more at =
        let same : ks ≡ ks' = sym (more ∙ entered-old ks (refs c) old) in
        ap (λ (w : Surface). numbered_again w i) (as_mesh ∙ ap (λ (k : List (List ℕ)). mesh_of s ns k (numbers (corner_keys cs))) same) ∙ whole ks' i more at

    new-single : (ks' : List (List ℕ)) (i : ℕ) → has ks (refs c) ≡ false → ks' ≡ entered ks (refs c) → i ≡ place ks (refs c) → numbered_again (widened m v) i ≡ with_arities ns (single s (cs ++ c ∷ []))
    new-single ks' i new more at =
        let larger : ks ++ refs c ∷ [] ≡ ks' = sym (more ∙ entered-new ks (refs c) new) in
        ap (λ (w : Surface). numbered_again (widened w v) i) as_mesh
        ∙ (ap (λ (w : Surface). numbered_again w i) (widened_more ks (numbers (corner_keys cs)) ∙ ap (λ (k : List (List ℕ)). mesh_of s ns k (numbers (corner_keys cs))) larger)
        ∙ whole ks' i more at)

-- ---- the outcome of one corner more

module _ (s : Sources) (n : Capacities) (c : VertexIndices) (p : Lists) (ns : List ℕ) (cs : List VertexIndices) where
  abbrev later_checks : List (Bool × LoadError)
  later_checks =
      (over n.corners (distinct (corner_keys (cs ++ c ∷ []))), TableFull)
      ∷ (lacks (rooms p) (with_arities ns (single s (cs ++ c ∷ []))), MeshFull)
      ∷ []

  pub adds_refused : (e : LoadError) → first (source_checks s c) ≡ Some e → first (single_checks s (rooms p) n ns cs c) ≡ Some e
  adds_refused e h = first_before (source_checks s c) later_checks e h

  module _ (ks : List (List ℕ)) (st : SingleOf s ns cs (surface p) ks) (good : first (source_checks s c) ≡ None) where
    pub adds_crowded : (ks' : List (List ℕ)) → Refused n.corners (refs c) ks ks' → first (single_checks s (rooms p) n ns cs c) ≡ Some TableFull
    adds_crowded ks' h =
        let e = keys-more s ns c cs (surface p) ks st ∙ entered-new ks (refs c) h.new in
        let l = ap length e ∙ length_push ks (refs c) in
        let full = h.full in
        first_after (source_checks s c) later_checks good ∙ cond-true _ _ _ (lt-ltb n.corners (length (distinct (corner_keys (cs ++ c ∷ [])))) (omega arith))

    module _ (v : Vertex) (ga : Gathered s c v) (ks' : List (List ℕ)) (i : ℕ) (h : Placed n.corners (refs c) ks ks' i) (within : length ks' ≤ n.corners) (q : Lists) (b : Bool)
        (old : i < p.positions.count → Settles p q (numbered_again (surface p) i) b) (new : p.positions.count ≤ i → Settles p q (numbered_again (widened (surface p) v) i) b) where
      all-keys : ks' ≡ distinct (corner_keys (cs ++ c ∷ []))
      all-keys = h.holds ∙ sym (keys-more s ns c cs (surface p) ks st)

      -- the corner is settled as the rules have it
      settled_single : Settles p q (with_arities ns (single s (cs ++ c ∷ []))) b
      settled_single =
          let P : Surface → Type 0 = λ w. Settles p q w b in
          let many : p.positions.count ≡ length ks = sym (length_bits point_bits p.positions) ∙ as_many s ns c v ga cs (surface p) ks st in
          let at = h.at in
          ⊎_elim
          (λ o. let low = (place_of ks (refs c) o).0 in subst P (old-single s ns c v ga cs (surface p) ks st ks' i o h.holds h.at) (old (omega arith)))
          (λ w. let high = place_none ks (refs c) w in subst P (new-single s ns c v ga cs (surface p) ks st ks' i w h.holds h.at) (new (omega arith)))
          (cases_Bool (has ks (refs c)))

      fits_table : over n.corners (distinct (corner_keys (cs ++ c ∷ []))) ≡ false
      fits_table =
          let e = ap length all-keys in
          le-ltb n.corners (length (distinct (corner_keys (cs ++ c ∷ [])))) (omega arith)

      pub adds_full : b ≡ false → first (single_checks s (rooms p) n ns cs c) ≡ Some MeshFull
      adds_full e =
          first_after (source_checks s c) later_checks good ∙ (cond-false _ _ _ fits_table ∙ cond-true _ _ _ (not-false (lacks (rooms p) (with_arities ns (single s (cs ++ c ∷ [])))) (sym settled_single.tells ∙ e)))

      pub adds_done : b ≡ true → (first (single_checks s (rooms p) n ns cs c) ≡ None) × SingleOf s ns (cs ++ c ∷ []) (surface q) ks'
      adds_done e = (
        first_after (source_checks s c) later_checks good ∙ (cond-false _ _ _ fits_table ∙ cond-false _ _ _ (not-true (lacks (rooms p) (with_arities ns (single s (cs ++ c ∷ [])))) (sym settled_single.tells ∙ e))),
        record { surface = settled_single.granted e; keys = all-keys },
      )

-- whichever way a corner is settled, no other list changes
pub settled_changed : (p q : Lists) (i : ℕ) (v : Vertex) (b : Bool) → (i < p.positions.count → Settles p q (numbered_again (surface p) i) b) → (p.positions.count ≤ i → Settles p q (numbered_again (widened (surface p) v) i) b) → Changed p q
settled_changed p q i v b old new = ⊎_elim (λ l. (old l).changed) (λ l. (new l).changed) (cases_lt i p.positions.count)
