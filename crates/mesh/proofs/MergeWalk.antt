-- The walk over the elements that are merged: what holds after the first of them, and at a refusal.
use Rattle.std.proofs.Common.{◌≡◌, ℕ, ◌+◌, ◌<◌, ◌≤◌, List, [], ◌∷◌, ◌++◌, map, length, get_or, take, drop, set, Some, None, Option, sym, ap, ◌∙◌, subst, ⊎_elim, arith}
use Rattle.std.proofs.lemmas.List.{length_push, length-map, length-take-le, length-set, map_push, map_more, take-map, take_more_set, get_or-drop, drop-drop, drop-set-lt}
use Rattle.std.proofs.lemmas.Bool.{lt-ltb, cond-true}
use Rattle.elements.specs.declared.row.Row.{Row}
use Rattle.elements.specs.declared.error.LoadError.TheVariants.{TableFull}
use Rattle.elements.specs.First.{distinct, numbers, place, entered, PlaceOf, Absent}
use Rattle.elements.specs.Rows.{items, room, Pushed}
use Rattle.elements.proofs.FirstFacts.{has-at, lacks_absent, place_unique, place_none, entered-old, entered-new, apart_distinct, distinct_more, numbers_more, distinct-take-le, length-numbers}
use Rattle.elements.proofs.RowFacts.{length-items}
use Rattle.tables.specs.Tables.{Entering}
use Rattle.mesh.specs.Entering.{Placed}
use Rattle.mesh.proofs.EnteringFacts.{took, met_full}
use Rattle.mesh.specs.Surface.{over}
use Rattle.mesh.specs.Merges.{Steady, too_many}
use Rattle.mesh.proofs.MergeRows.{steady-pushed, steady_then}

-- a table's answer, once it is known
module _ (cap : ℕ) (m : List ℕ) (ms ns : List (List ℕ)) (o : Option ℕ) where
  pub placed_at : (n : ℕ) → o ≡ Some n → Entering cap m ms ns o → Placed m ms ns n
  placed_at n e h = took cap m ms ns n (subst (λ p. Entering cap m ms ns p) e h)

  pub absent_at : o ≡ None → Entering cap m ms ns o → Absent m ms × (length ms ≡ cap) × (ns ≡ ms)
  absent_at e h = met_full cap m ms ns (subst (λ p. Entering cap m ms ns p) e h)

module _ {E : Type 0} (meaning : E → List ℕ) where
  -- after the first `at` of the elements xs: ys are the cells now, the first `kept` of them the first occurrences, which the keys ks name
  pub record Walked (cap : ℕ) (xs : List E) (at : ℕ) (ys : List E) (kept : ℕ) (r s : Row ℕ) (ks : List (List ℕ)) : Type 0 where
    pub keys : ks ≡ distinct (map meaning (take at xs))
    pub firsts : map meaning (take kept ys) ≡ ks
    pub few : kept ≤ at
    pub ahead : drop at ys ≡ drop at xs
    pub long : length ys ≡ length xs
    pub numbered : items s ≡ numbers (map meaning (take at xs))
    pub within : length ks ≤ cap
    pub steady : Steady 0 r s

  module _ {cap : ℕ} {xs : List E} {at : ℕ} {ys : List E} {kept : ℕ} {r s : Row ℕ} {ks : List (List ℕ)} (l : at < length xs) (st : Walked cap xs at ys kept r s ks) where
    -- as many are kept as there are keys
    pub kept-all : kept ≡ length ks
    kept-all =
        let a = length-take-le kept ys (let n = st.long in let m = st.few in omega arith) in
        let b = length-map (take kept ys) meaning in
        let d = ap length st.firsts in
        omega arith

    -- as many have their numbers as were met
    pub noted : s.count ≡ at
    noted =
        let a = length-items s in
        let b = ap length st.numbered in
        let d = length-numbers (map meaning (take at xs)) in
        let e = length-map (take at xs) meaning in
        let f = length-take-le at xs (omega arith) in
        omega arith

    module _ (x : E) (e : x ≡ get_or ys at x) where
      -- the next element has not been written over
      same : get_or xs at x ≡ x
      same =
          let z : at + 0 ≡ at = omega arith in
          ap (λ n. get_or xs n x) (sym z) ∙ (sym (get_or-drop at xs 0 x) ∙ (ap (λ zs. get_or zs 0 x) (sym st.ahead) ∙ (get_or-drop at ys 0 x ∙ (ap (λ n. get_or ys n x) z ∙ sym e))))

      one_more : map meaning (take (at + 1) xs) ≡ map meaning (take at xs) ++ meaning x ∷ []
      one_more = map_more meaning xs at x l ∙ ap (λ y. map meaning (take at xs) ++ meaning y ∷ []) same

      all_more : distinct (map meaning (take (at + 1) xs)) ≡ entered ks (meaning x)
      all_more = ap distinct one_more ∙ (distinct_more (map meaning (take at xs)) (meaning x) ∙ ap (λ zs. entered zs (meaning x)) (sym st.keys))

      behind : (zs : List E) → drop at zs ≡ drop at xs → drop (at + 1) zs ≡ drop (at + 1) xs
      behind zs h = sym (drop-drop 1 at zs) ∙ (ap (drop 1) h ∙ drop-drop 1 at xs)

      next_numbers : (n : ℕ) (s' : Row ℕ) → Pushed s s' n → n ≡ place ks (meaning x) → items s' ≡ numbers (map meaning (take (at + 1) xs))
      next_numbers n s' p is =
          p.items ∙ (ap (λ ms. ms ++ n ∷ []) st.numbered
          ∙ (ap (λ m. numbers (map meaning (take at xs)) ++ m ∷ []) (is ∙ ap (λ zs. place zs (meaning x)) st.keys)
          ∙ (sym (numbers_more (map meaning (take at xs)) (meaning x)) ∙ ap numbers (sym one_more))))

      apart : (n : ℕ) → PlaceOf (meaning x) ks n → n ≡ place ks (meaning x)
      apart n h =
          let P : List (List ℕ) → Type 0 = λ zs. PlaceOf (meaning x) zs n → n ≡ place zs (meaning x) in
          subst P (sym st.keys) (place_unique (distinct (map meaning (take at xs))) (meaning x) n (apart_distinct (map meaning (take at xs)))) h

      -- an element that was met before
      pub walked_old : (n : ℕ) (ks' : List (List ℕ)) (s' : Row ℕ) → Placed (meaning x) ks ks' n → (n ≡ kept → ⊥) → length ks' ≤ cap → Pushed s s' n → s.count < room s
          → Walked cap xs (at + 1) ys kept r s' ks'
      walked_old n ks' s' placed ne fit p h = ⊎_elim
          (λ old.
          record {
            keys = old.1 ∙ sym (all_more ∙ entered-old ks (meaning x) (has-at ks (meaning x) n old.0));
            firsts = st.firsts ∙ sym old.1;
            few = let f = st.few in omega arith;
            ahead = behind ys st.ahead;
            long = st.long;
            numbered = next_numbers n s' p (apart n old.0);
            within = fit;
            steady = steady_then st.steady (steady-pushed s s' n 0 p h);
          })
          (λ new. absurd (ne (new.1 ∙ sym kept-all)))
          placed

      -- one that is new is kept
      pub walked_new : (n : ℕ) (ks' : List (List ℕ)) (s' : Row ℕ) → Placed (meaning x) ks ks' n → n ≡ kept → length ks' ≤ cap → Pushed s s' n → s.count < room s
          → Walked cap xs (at + 1) (set ys kept x) (kept + 1) r s' ks'
      walked_new n ks' s' placed is fit p h = ⊎_elim
          (λ old. let k = kept-all in let b = old.0.0 in absurd (omega arith))
          (λ new.
          let lacks = lacks_absent ks (meaning x) new.0 in
          let f = st.few in
          let m = st.long in
          record {
            keys = new.2 ∙ sym (all_more ∙ entered-new ks (meaning x) lacks);
            firsts = ap (map meaning) (take_more_set ys kept x (omega arith)) ∙ (map_push meaning (take kept ys) x ∙ (ap (λ zs. zs ++ meaning x ∷ []) st.firsts ∙ sym new.2));
            few = omega arith;
            ahead = drop-set-lt (at + 1) ys kept x (omega arith) ∙ behind ys st.ahead;
            long = length-set ys kept x ∙ m;
            numbered = next_numbers n s' p (new.1 ∙ sym (place_none ks (meaning x) lacks));
            within = fit;
            steady = steady_then st.steady (steady-pushed s s' n 0 p h);
          })
          placed

      -- a full table has a key too few for all of the elements
      pub walked_full : Absent (meaning x) ks → length ks ≡ cap → Some TableFull ≡ too_many cap (map meaning xs)
      walked_full absent full =
          let ms = map meaning xs in
          let more = ap length (all_more ∙ entered-new ks (meaning x) (lacks_absent ks (meaning x) absent)) ∙ length_push ks (meaning x) in
          let le = distinct-take-le (at + 1) ms in
          let same_length = ap (λ zs. length (distinct zs)) (take-map meaning (at + 1) xs) in
          sym (cond-true (over cap (distinct ms)) (Some TableFull) None (lt-ltb cap (length (distinct ms)) (omega arith)))
