-- The laws of references carried on, and what each stage of a stream of references rests on.
use Rattle.std.proofs.Common.{◌≡◌, ℕ, suc, ◌-◌, ◌<◌, ◌≤◌, Bool, true, false, cond, not, ◌||◌, eqb, ltb, List, [], ◌∷◌, ◌++◌, map, length, get_or, Some, None, Option, sym, refl, ap, ◌∙◌, ⊎_elim, suc-le-suc, zero-le, arith, MatchOption}
use Rattle.std.proofs.lemmas.List.{length-map, get_or-map, map_push, length_push, nil_from_length}
use Rattle.std.proofs.lemmas.Bool.{cases_Bool, eq-eqb, ne_eqb, lt-ltb, le-ltb, le-leb, lt-leb, and_from, and_left, and_right, cond-true, cond-false, both_ways, not_from_false, not_from_true}
use Rattle.std.specs.List.{slice_get}
use Rattle.std.proofs.lemmas.Option.{slice_get_within, get_or_from_slice_get, slice_get-get_or}
use Rattle.elements.specs.declared.row.Row.{Row}
use Rattle.elements.specs.Corners.{missing}
use Rattle.elements.specs.First.{distinct, place, numbers, has, entered}
use Rattle.elements.specs.Rows.{items, room}
use Rattle.elements.proofs.RowFacts.{length-items}
use Rattle.elements.proofs.FirstFacts.{has-at, distinct-has, get_or-numbers, length-numbers, place_of, place_none, entered-old, entered-new, distinct_more, numbers_more}
use Rattle.tables.specs.declared.key.Reference.{Reference}
use Rattle.tables.specs.Tables.{Fit, Placed as Taken, Refused}
use Rattle.mesh.specs.declared.stream.Named.{Named}
use Rattle.mesh.specs.declared.stream.Named.TheVariants.{Nothing, Again, Element}
use Rattle.mesh.specs.Numbering.{some, element, v_of, one, carried, ref_keys, picked, ref_numbers}
use Rattle.mesh.specs.Surface.{over}
use Rattle.mesh.specs.Single.{Becomes, placed}
use Rattle.mesh.proofs.SingleRowFacts.{placed_past}
use Rattle.mesh.proofs.SingleListFacts.{by_bits, bits_fit}
use Rattle.mesh.proofs.SingleSourceFacts.{some-none, length_bits}
use Rattle.mesh.specs.Streams.{last_or, meant, ByReference, ByNumber, Names, Found, lost, LookedUp, Entered, Written}

-- ---- references carried on

-- one reference more: itself, or the last of those before it where it is missing
pub carried-more : (r : ℕ) (xs : List ℕ) (x : ℕ) → carried r (xs ++ x ∷ []) ≡ carried r xs ++ cond (eqb x missing) (last_or r (carried r xs)) x ∷ []
carried-more r [] x = elim (eqb x missing) as (λ b. cond b (r ∷ []) (x ∷ []) ≡ cond b r x ∷ []) [ true ↦ refl | false ↦ refl ]
carried-more r (y ∷ ys) x =
    elim (eqb y missing) as (λ b. cond b (r ∷ carried r (ys ++ x ∷ [])) (y ∷ carried y (ys ++ x ∷ []))
    ≡ cond b (r ∷ carried r ys) (y ∷ carried y ys) ++ cond (eqb x missing) (last_or r (cond b (r ∷ carried r ys) (y ∷ carried y ys))) x ∷ []) [
      | true ↦ ap (λ zs. r ∷ zs) (carried-more r ys x)
      | false ↦ ap (λ zs. y ∷ zs) (carried-more y ys x)
    ]

pub last-at : (rs : List ℕ) (d : ℕ) → 0 < length rs → get_or rs (length rs - 1) 0 ≡ last_or d rs
last-at [] d l = absurd (omega arith)
last-at (x ∷ []) d l = refl
last-at (x ∷ y ∷ ys) d l =
    let e : length (x ∷ y ∷ ys) - 1 ≡ suc (length (y ∷ ys) - 1) = omega arith in
    ap (λ (n : ℕ). get_or (x ∷ y ∷ ys) n 0) e ∙ last-at (y ∷ ys) x (suc-le-suc zero-le)

-- a list without a last element has none
none_last : (xs : List ℕ) → slice_get xs (length xs - 1) ≡ None → length xs ≡ 0
none_last [] e = refl
none_last (x ∷ xs) e =
    let within : length (x ∷ xs) - 1 < length (x ∷ xs) = omega arith in
    absurd (some-none _ (sym (slice_get-get_or (x ∷ xs) (length (x ∷ xs) - 1) x within) ∙ e))

-- ---- what a reference names

module _ {T : Type 0} (bits : T → List ℕ) (row : Row T) where
  pub some_bits : 0 < row.count → some (map bits (items row)) ≡ true
  some_bits l = let e = length_bits bits row in lt-ltb 0 (length (map bits (items row))) (omega arith)

  pub bits_at : (at : ℕ) (x : T) → at < length (items row) → x ≡ get_or (items row) at x → bits x ≡ element (map bits (items row)) at
  bits_at at x l e = ap bits e ∙ sym (get_or-map bits (items row) at x [] l)

module _ {T : Type 0} (row : Row T) (ns : Row ℕ) (r : ℕ) (here : 0 < row.count) where
  -- a reference that is not missing
  pub found_looked : (o : Option (Named Reference T)) → (r ≡ missing → ⊥) → MatchOption o (row.count ≤ r) (λ n. Found (items row) r n) → LookedUp row ns r o
  found_looked None ne h = and_from _ _ (and_from _ _ (lt-ltb 0 row.count here) (not_from_false _ (ne_eqb r missing ne))) (le-leb row.count r h)
  found_looked (Some Nothing) ne h = absurd h
  found_looked (Some (Again n)) ne h = absurd h
  found_looked (Some (Element k x)) ne h =
      let f = length-items row in (
        and_right _ _ (lt-leb row.count r (omega (arith, h.0))),
        λ bits rs _.
            let self : meant rs r ≡ r = cond-false (eqb r missing) (last_or 0 rs) r (ne_eqb r missing ne) in
            (some_bits bits row here, h.1 ∙ sym self, bits_at bits row r x h.0 h.2 ∙ ap (element (map bits (items row))) (sym self)),
      )

  module _ (m : r ≡ missing) where
    not-lost : lost row r ≡ false
    not-lost = and_left _ _ (and_right _ _ (not_from_true _ (eq-eqb r missing m)))

    carries : (rs : List ℕ) → meant rs r ≡ last_or 0 rs
    carries rs = cond-true (eqb r missing) (last_or 0 rs) r (eq-eqb r missing m)

    module _ (bits : T → List ℕ) (rs : List ℕ) (is : items ns ≡ ref_numbers (map bits (items row)) rs) where
      all-numbers : items ns ≡ numbers (map one rs)
      all-numbers = is ∙ cond-true (some (map bits (items row))) (numbers (map one rs)) [] (some_bits bits row here)

      as_many : length (items ns) ≡ length rs
      as_many = ap length all-numbers ∙ (length-numbers (map one rs) ∙ length-map rs one)

    -- a missing one at the first corner
    pub first_looked : (o : Option (Named Reference T)) → slice_get (items ns) (length (items ns) - 1) ≡ None → MatchOption o (row.count ≤ 0) (λ n. Found (items row) 0 n) → LookedUp row ns r o
    first_looked None z h = absurd (omega arith)
    first_looked (Some Nothing) z h = absurd h
    first_looked (Some (Again n)) z h = absurd h
    first_looked (Some (Element k x)) z h = (
      not-lost,
      λ bits rs is.
          let none : rs ≡ [] = nil_from_length rs (sym (as_many bits rs is) ∙ none_last (items ns) z) in
          let zero-ref : meant rs r ≡ 0 = carries rs ∙ ap (last_or 0) none in
          (some_bits bits row here, h.1 ∙ sym zero-ref, bits_at bits row 0 x h.0 h.2 ∙ ap (element (map bits (items row))) (sym zero-ref)),
    )

    -- a missing one at a later corner
    pub again_looked : (n : ℕ) → slice_get (items ns) (length (items ns) - 1) ≡ Some n → LookedUp row ns r (Some (Again n))
    again_looked n h = (
      not-lost,
      λ bits rs is.
          let count = as_many bits rs is in
          let within = slice_get_within (items ns) (length (items ns) - 1) n h in
          let some-rs : 0 < length rs = omega arith in
          let keys = length-map rs one in
          let last : length rs - 1 < length (map one rs) = omega arith in
          let k : get_or (map one rs) (length rs - 1) [] ≡ one (meant rs r) =
          get_or-map one rs (length rs - 1) 0 [] (omega arith) ∙ ap one (last-at rs 0 some-rs ∙ sym (carries rs)) in (
            some_bits bits row here,
            distinct-has (map one rs) (one (meant rs r)) (has-at (map one rs) (one (meant rs r)) (length rs - 1) (last, k)),
            sym (get_or_from_slice_get (items ns) (length (items ns) - 1) n 0 h)
                ∙ (ap (λ (i : ℕ). get_or (items ns) (i - 1) 0) count ∙ (ap (λ xs. get_or xs (length rs - 1) 0) (all-numbers bits rs is)
                ∙ (get_or-numbers (map one rs) (length rs - 1) last ∙ ap (place (distinct (map one rs))) k))),
          ),
    )

-- ---- one reference more

module _ (xs : List (List ℕ)) (rs : List ℕ) (m : ℕ) (t : some xs ≡ true) where
  pub all-keys : ref_keys xs rs ≡ distinct (map one rs)
  all-keys = cond-true (some xs) (distinct (map one rs)) [] t

  pub keys-more : ref_keys xs (rs ++ m ∷ []) ≡ entered (distinct (map one rs)) (one m)
  keys-more = cond-true (some xs) (distinct (map one (rs ++ m ∷ []))) [] t ∙ (ap distinct (map_push one rs m) ∙ distinct_more (map one rs) (one m))

  pub picked_more : picked xs (rs ++ m ∷ []) ≡ map (λ k. element xs (v_of k)) (entered (distinct (map one rs)) (one m))
  picked_more = ap (map (λ k. element xs (v_of k))) keys-more

  pub ref_numbers-more : ref_numbers xs (rs ++ m ∷ []) ≡ ref_numbers xs rs ++ place (distinct (map one rs)) (one m) ∷ []
  ref_numbers-more =
      cond-true (some xs) (numbers (map one (rs ++ m ∷ []))) [] t
      ∙ (ap numbers (map_push one rs m)
      ∙ (numbers_more (map one rs) (one m)
      ∙ ap (λ ns. ns ++ place (distinct (map one rs)) (one m) ∷ []) (sym (cond-true (some xs) (numbers (map one rs)) [] t))))

-- ---- entering it

module _ {T : Type 0} (bits : T → List ℕ) (xs : List (List ℕ)) (rs : List ℕ) (m : ℕ) (cap : ℕ) (ks : List (List ℕ)) (is : ks ≡ ref_keys xs rs) where
  pub nothing_entered : length ks ≤ cap → Names bits xs rs m ByReference Nothing → Entered bits xs rs m cap ks (Some Nothing)
  nothing_entered w h =
      let same : ks ≡ ref_keys xs (rs ++ m ∷ []) = is ∙ (cond-false (some xs) (distinct (map one rs)) [] h ∙ sym (cond-false (some xs) (distinct (map one (rs ++ m ∷ []))) [] h)) in
      (ap (over cap) (sym same) ∙ le-ltb cap (length ks) w, same, h)

  pub again_entered : (n : ℕ) → length ks ≤ cap → Names bits xs rs m ByReference (Again n) → Entered bits xs rs m cap ks (Some (Again n))
  again_entered n w h =
      let same : ks ≡ ref_keys xs (rs ++ m ∷ []) = is ∙ (all-keys xs rs m h.0 ∙ (sym (entered-old (distinct (map one rs)) (one m) h.1) ∙ sym (keys-more xs rs m h.0))) in
      (ap (over cap) (sym same) ∙ le-ltb cap (length ks) w, same, h)

  module _ (k : Reference) (x : T) (ks' : List (List ℕ)) (h : Names bits xs rs m ByReference (Element k x)) where
    -- the key and the keys as the references give them
    key_is : one k.at ≡ one m
    key_is = ap one h.1

    keys_are : ks ≡ distinct (map one rs)
    keys_are = is ∙ all-keys xs rs m h.0

    pub element-entered : (i : ℕ) → Fit cap ks' → Taken cap (one k.at) ks ks' i → Entered bits xs rs m cap ks' (Some (Element i x))
    element-entered i fit took =
        let same : ks' ≡ ref_keys xs (rs ++ m ∷ []) =
        took.holds ∙ (ap (entered ks) key_is ∙ (ap (λ (ys : List (List ℕ)). entered ys (one m)) keys_are ∙ sym (keys-more xs rs m h.0))) in
        let at : i ≡ place (distinct (map one rs)) (one m) = took.at ∙ (ap (place ks) key_is ∙ ap (λ (ys : List (List ℕ)). place ys (one m)) keys_are) in
        (ap (over cap) (sym same) ∙ le-ltb cap (length ks') fit.within, same, (h.0, at, h.2))

    pub none-entered : Refused cap (one k.at) ks ks' → Entered bits xs rs m cap ks' None
    none-entered full =
        let new : has (distinct (map one rs)) (one m) ≡ false = sym (ap (has ks) key_is ∙ ap (λ (ys : List (List ℕ)). has ys (one m)) keys_are) ∙ full.new in
        let more = keys-more xs rs m h.0 ∙ entered-new (distinct (map one rs)) (one m) new in
        let longer = length_push (distinct (map one rs)) (one m) in
        let count = ap length keys_are in
        ap (over cap) more ∙ lt-ltb cap (length (distinct (map one rs) ++ one m ∷ [])) (omega (arith, full.full))

-- ---- writing it

-- the element of a key, at its place among the distinct ones
placed-entered : {X : Type 0} (f : X → List ℕ) (zs : List X) (x : X) (ks : List (List ℕ)) (k : List ℕ) (g : List ℕ → List ℕ) → map f zs ≡ map g ks → f x ≡ g k → (n : ℕ) → n ≡ place ks k
    → map f (placed zs n x) ≡ map g (entered ks k)
placed-entered f zs x ks k g is same n at =
    let many : length zs ≡ length ks = sym (length-map zs f) ∙ (ap length is ∙ length-map ks g) in
    ⊎_elim
    (λ old. let within = (place_of ks k old).0 in
    ap (map f) (cond-true (ltb n (length zs)) zs (zs ++ x ∷ []) (lt-ltb n (length zs) (omega arith))) ∙ (is ∙ sym (ap (map g) (entered-old ks k old))))
    (λ new. let past = place_none ks k new in
    ap (map f) (placed_past zs n x (omega arith))
    ∙ (map_push f zs x ∙ (ap (λ ys. ys ++ f x ∷ []) is ∙ (ap (λ y. map g ks ++ y ∷ []) same ∙ (sym (map_push g ks k) ∙ sym (ap (map g) (entered-new ks k new)))))))
    (cases_Bool (has ks k))

-- a row that was to have the element of a key
pub placed_by : {X : Type 0} (f : X → List ℕ) (r s : Row X) (x : X) (t : Bool) (ks : List (List ℕ)) (k : List ℕ) (g : List ℕ → List ℕ) → map f (items r) ≡ map g ks → f x ≡ g k → (n : ℕ) → n ≡ place ks k
    → Becomes r s (placed (items r) n x) t → (over (room r) (map g (entered ks k)) ≡ not t) × (t ≡ true → map f (items s) ≡ map g (entered ks k))
placed_by f r s x t ks k g is same n at h = by_bits f r s (placed (items r) n x) (map g (entered ks k)) t (placed-entered f (items r) x ks k g is same n at) h

module _ {T : Type 0} (bits : T → List ℕ) (xs : List (List ℕ)) (rs : List ℕ) (m : ℕ) (a a' : Row T) (b b' : Row ℕ)
    (is : map bits (items a) ≡ picked xs rs) (ns : items b ≡ ref_numbers xs rs) (s : some xs ≡ true) (n : ℕ) (at : ByNumber rs m n) where
  all-picked : map bits (items a) ≡ map (λ k. element xs (v_of k)) (distinct (map one rs))
  all-picked = is ∙ ap (map (λ k. element xs (v_of k))) (all-keys xs rs m s)

  module _ (t : Bool) (h : Becomes b b' (items b ++ n ∷ []) t) where
    numbers-after : items b ++ n ∷ [] ≡ ref_numbers xs (rs ++ m ∷ [])
    numbers-after = ap (λ is. is ++ n ∷ []) ns ∙ (ap (λ i. ref_numbers xs rs ++ i ∷ []) at ∙ sym (ref_numbers-more xs rs m s))

    with-elements : (es : List (List ℕ)) → over (room a) (picked xs (rs ++ m ∷ [])) ≡ false → es ≡ picked xs (rs ++ m ∷ []) → Written bits xs rs m (room a) (room b) es (items b') t
    with-elements es fit all =
        record {
          tells = h.tells ∙ (ap (λ ys. not (over (room b) ys)) numbers-after ∙ ap (λ c. not (c || over (room b) (ref_numbers xs (rs ++ m ∷ [])))) (sym fit));
          elements = λ _. all;
          numbers = λ e. h.granted e ∙ numbers-after;
        }

    -- the number of the corner before it once more
    pub again_written : has (distinct (map one rs)) (one m) ≡ true → Written bits xs rs m (room a) (room b) (map bits (items a)) (items b') t
    again_written old =
        let same = all-picked ∙ sym (picked_more xs rs m s ∙ ap (map (λ k. element xs (v_of k))) (entered-old (distinct (map one rs)) (one m) old)) in
        with-elements (map bits (items a)) (ap (over (room a)) (sym same) ∙ bits_fit bits a) same

    -- an element, where there is room for it
    pub element-written : (x : T) → bits x ≡ element xs m → Becomes a a' (placed (items a) n x) true → Written bits xs rs m (room a) (room b) (map bits (items a')) (items b') t
    element-written x e p =
        let after = picked_more xs rs m s in
        let by = placed_by bits a a' x true (distinct (map one rs)) (one m) (λ k. element xs (v_of k)) all-picked e n at p in
        with-elements (map bits (items a')) (ap (over (room a)) after ∙ by.0) (by.1 refl ∙ sym after)

  -- an element, where there is none
  pub element-refused : (x : T) → bits x ≡ element xs m → Becomes a a' (placed (items a) n x) false → Written bits xs rs m (room a) (room b) (map bits (items a')) (items b) false
  element-refused x e p =
      let full : over (room a) (picked xs (rs ++ m ∷ [])) ≡ true =
      ap (over (room a)) (picked_more xs rs m s) ∙ (placed_by bits a a' x false (distinct (map one rs)) (one m) (λ k. element xs (v_of k)) all-picked e n at p).0 in
      record {
        tells = ap (λ c. not (c || over (room b) (ref_numbers xs (rs ++ m ∷ [])))) (sym full);
        elements = λ h. absurd (both_ways false refl h);
        numbers = λ h. absurd (both_ways false refl h);
      }
