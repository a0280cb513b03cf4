-- Laws of the positions that no waiting corner names: how many they are, and that the numbers which are no key of a table list them.
use Rattle.std.proofs.Common.{◌≡◌, ℕ, zero, suc, ◌+◌, ◌-◌, ◌<◌, ◌≤◌, Bool, true, false, cond, not, ◌&&◌, ◌||◌, T, eqb, nat_lt, List, [], ◌∷◌, ◌++◌, map, length, get_or, take, drop, replicate, is_some, Some, None, filter, Option, sym, refl, ap, ◌∙◌, subst, ⊎_elim, add-one, arith}
use Rattle.std.specs.List.{range_with_len, ContainsAt as Has, flat_map}
use Rattle.std.proofs.lemmas.Bool.{cases_Bool, cases_eq, cases_lt, cases_order, cond-true, cond-false, not-true, not_from_true, not_from_false, ltb-true, ltb-false, lt-ltb, le-ltb, eqb-true, ne_eqb, and_parts}
use Rattle.std.proofs.lemmas.List.{append-nil, map-id, map-append, map_push, length-append, length_push, length-map, length-replicate, get_or-map, get_or_push, get_or_append_left, take-append-drop, drop-drop, drop_all, drop_at, drop-set-lt}
use Rattle.std.proofs.lemmas.List.FromFn.{map-range_with_len_more, length-range_with_len, get_or-range_with_len}
use Rattle.std.proofs.lemmas.List.Elements.{filter-append, filter_more}
use Rattle.std.proofs.ByRecursion.{All-get_or, All-from_get_or, all_kept_by, kept_by_passes, has_append_left, has_push}
use Rattle.std.proofs.lemmas.List.Filters.{length-filter_both}
use Rattle.elements.specs.declared.corner.Face.{Face}
use Rattle.elements.specs.declared.corner.VertexIndices.{VertexIndices}
use Rattle.elements.specs.declared.error.LoadError.{LoadError}
use Rattle.elements.specs.declared.error.LoadError.TheVariants.{TableFull, MeshFull}
use Rattle.elements.specs.declared.row.Row.{Row}
use Rattle.elements.specs.declared.waiting.Waiting.{Waiting}
use Rattle.elements.specs.Bits.{point_bits}
use Rattle.elements.specs.Cells.{room_of, blanked}
use Rattle.elements.specs.Checks.{first}
use Rattle.elements.specs.Contents.{Contents, faces_of}
use Rattle.elements.specs.First.{alike, has, distinct, place, Apart}
use Rattle.elements.specs.Rows.{held, items, room, Pushed}
use Rattle.elements.specs.Tiles.{part, tiles}
use Rattle.elements.proofs.FirstFacts.{has-at, has_left, place_of, same-has, distinct-has, distinct_apart, distinct-le, fewest}
use Rattle.elements.proofs.RowFacts.{length-items}
use Rattle.tables.specs.Tables.{Found, Placed, Refused}
use Rattle.tables.proofs.TableFacts.{placed_more, refused_over}
use Rattle.book.specs.declared.book.Book.{Book}
use Rattle.book.specs.Held.{contained}
use Rattle.book.specs.Unnamed.{name_of, names, named_among, others, position_count, waiting_corners, named_count, Unnames, unnamed_checks}

-- ---- the numbers below n that pass a test

counting_more : (n : ℕ) → range_with_len 0 (n + 1) ≡ range_with_len 0 n ++ n ∷ []
counting_more n =
    sym (map-id (range_with_len 0 (n + 1))) ∙ (map-range_with_len_more (λ i. i) 0 n n (omega arith) ∙ ap (λ xs. xs ++ n ∷ []) (map-id (range_with_len 0 n)))

-- each number is less than those after it
abbrev Rises : List ℕ → Type 0
Rises ns = (j k : ℕ) → j < k → k < length ns → get_or ns j 0 < get_or ns k 0

rises_push : (ns : List ℕ) (m : ℕ) → Rises ns → ((k : ℕ) → k < length ns → get_or ns k 0 < m) → Rises (ns ++ m ∷ [])
rises_push ns m r u j k jk kl =
    let n = length_push ns m in
    let left : j < length ns = omega arith in
    let a = get_or_append_left ns (m ∷ []) 0 j left in
    let below = u j left in
    ⊎_elim
    (λ (h : k < length ns). let b = get_or_append_left ns (m ∷ []) 0 k h in let lt = r j k jk h in omega arith)
    (λ (h : length ns ≤ k). let e : length ns ≡ k = omega arith in let b = get_or_push ns m 0 k e in omega arith)
    (cases_lt k (length ns))

module _ (p : ℕ → Bool) where
  abbrev passing : ℕ → List ℕ
  passing n = filter p (range_with_len 0 n)

  passing_more : (n : ℕ) → passing (n + 1) ≡ passing n ++ cond (p n) (n ∷ []) []
  passing_more n = ap (filter p) (counting_more n) ∙ filter-append p (range_with_len 0 n) (n ∷ [])

  pub passing_yes : (n : ℕ) → p n ≡ true → passing (n + 1) ≡ passing n ++ n ∷ []
  passing_yes n h = passing_more n ∙ ap (λ ns. passing n ++ ns) (cond-true (p n) (n ∷ []) [] h)

  pub passing_no : (n : ℕ) → p n ≡ false → passing (n + 1) ≡ passing n
  passing_no n h = passing_more n ∙ (ap (λ ns. passing n ++ ns) (cond-false (p n) (n ∷ []) [] h) ∙ append-nil (passing n))

  pub passing_passes : (n k : ℕ) → k < length (passing n) → p (get_or (passing n) k 0) ≡ true
  passing_passes n k l = All-get_or (λ i. p i ≡ true) (passing n) k 0 l (kept_by_passes p (range_with_len 0 n))

  pub passing_under : (n k : ℕ) → k < length (passing n) → get_or (passing n) k 0 < n
  passing_under n k l =
      let count = length-range_with_len 0 n in
      All-get_or (λ i. i < n) (passing n) k 0 l (all_kept_by p (λ i. i < n) (range_with_len 0 n)
      (All-from_get_or (λ i. i < n) (range_with_len 0 n) 0 (λ i h. let e = get_or-range_with_len 0 n i 0 (omega arith) in omega arith)))

  pub passing_rises : (n : ℕ) → Rises (passing n)
  passing_rises zero = λ j k jk kl. absurd (omega arith)
  passing_rises (suc n) =
      let P : List ℕ → Type 0 = λ ns. Rises ns in
      let Q : ℕ → Type 0 = λ m. Rises (passing m) in
      subst Q (add-one n) (⊎_elim
      (λ t. subst P (sym (passing_yes n t)) (rises_push (passing n) n (passing_rises n) (passing_under n)))
      (λ f. subst P (sym (passing_no n f)) (passing_rises n))
      (cases_Bool (p n)))

  pub passing_once : (n j k : ℕ) → j < length (passing n) → k < length (passing n) → get_or (passing n) j 0 ≡ get_or (passing n) k 0 → j ≡ k
  passing_once n j k lj lk e =
      ⊎_elim (λ (h : j ≡ k). h)
      (⊎_elim
      (λ (h : j < k). let lt = passing_rises n j k h lk in absurd (omega arith))
      (λ (h : k < j). let lt = passing_rises n k j h lj in absurd (omega arith)))
      (cases_order j k)

  pub passing_has : (n i : ℕ) → i < n → p i ≡ true → Has (passing n) i
  passing_has zero i l t = absurd (omega arith)
  passing_has (suc n) i l t =
      let P : List ℕ → Type 0 = λ ns. Has ns i in
      let Q : ℕ → Type 0 = λ m. Has (passing m) i in
      subst Q (add-one n) (⊎_elim
      (λ (e : i ≡ n). let here : p n ≡ true = ap p (sym e) ∙ t in
      let S : ℕ → Type 0 = λ m. Has (passing n ++ m ∷ []) i in
      subst P (sym (passing_yes n here)) (subst S e (has_push (passing n) i)))
      (λ (ne : i ≡ n → ⊥). let lt : i < n = omega arith in
      subst P (sym (passing_more n)) (has_append_left (passing n) (cond (p n) (n ∷ []) []) i (passing_has n i lt t)))
      (cases_eq i n))

  length_passing_more : (n : ℕ) → length (passing n) ≤ length (passing (n + 1))
  length_passing_more n =
      let e = ap length (passing_more n) ∙ length-append (passing n) (cond (p n) (n ∷ []) []) in
      omega arith

  pub length_passing_le : (i n : ℕ) → i ≤ n → length (passing i) ≤ length (passing n)
  length_passing_le i zero l = let P : ℕ → Type 0 = λ m. length (passing m) ≤ 0 in let e : 0 ≡ i = omega arith in subst P e (omega arith)
  length_passing_le i (suc n) l =
      let Q : ℕ → Type 0 = λ m. length (passing i) ≤ length (passing m) in
      ⊎_elim
      (λ (e : i ≡ suc n). subst Q e (omega arith))
      (λ (ne : i ≡ suc n → ⊥). let le = length_passing_le i n (omega arith) in
      subst Q (add-one n) (let more = length_passing_more n in omega arith))
      (cases_eq i (suc n))

-- ---- how many numbers below n are keys, and how many are not

-- each key is a number below n
abbrev Numbers : ℕ → List (List ℕ) → Type 0
Numbers n xs = (m : List ℕ) → has xs m ≡ true → (i : ℕ) × (i < n) × (m ≡ i ∷ [])

module _ (n : ℕ) (xs : List (List ℕ)) where
  abbrev is_key : ℕ → Bool
  is_key i = has (distinct xs) (i ∷ [])

  abbrev is_other : ℕ → Bool
  is_other i = not (has (distinct xs) (i ∷ []))

  -- the numbers below n that are keys, as keys
  abbrev as_keys : List (List ℕ)
  as_keys = map (λ i. i ∷ []) (passing is_key n)

  length_as_keys : length as_keys ≡ length (passing is_key n)
  length_as_keys = length-map (passing is_key n) (λ i. i ∷ [])

  get_or-as_keys : (k : ℕ) → k < length as_keys → get_or as_keys k [] ≡ get_or (passing is_key n) k 0 ∷ []
  get_or-as_keys k l = let e = length_as_keys in get_or-map (λ i. i ∷ []) (passing is_key n) k 0 [] (omega arith)

  as_keys-apart : Apart as_keys
  as_keys-apart j k lj lk e =
      let c = length_as_keys in
      let a = get_or-as_keys j lj in
      let b = get_or-as_keys k lk in
      let same : get_or (passing is_key n) j 0 ≡ get_or (passing is_key n) k 0 = cc in
      passing_once is_key n j k (omega arith) (omega arith) same

  as_keys-held : (m : List ℕ) → has as_keys m ≡ true → has (distinct xs) m ≡ true
  as_keys-held m t =
      let at = place_of as_keys m t in
      let c = length_as_keys in
      let P : List ℕ → Type 0 = λ k. has (distinct xs) k ≡ true in
      subst P (sym (get_or-as_keys (place as_keys m) at.0) ∙ at.1) (passing_passes is_key n (place as_keys m) (omega arith))

  held_as_keys : Numbers n xs → (m : List ℕ) → has xs m ≡ true → has as_keys m ≡ true
  held_as_keys h m t =
      let i = (h m t).0 in
      let e = (h m t).2 in
      let P : List ℕ → Type 0 = λ k. has (distinct xs) k ≡ true in
      let at = passing_has is_key n i (h m t).1 (subst P e (distinct-has xs m t)) in
      let c = length_as_keys in
      let inside : at.0 < length as_keys = omega arith in
      has-at as_keys m at.0 (inside, get_or-as_keys at.0 inside ∙ (ap (λ k. k ∷ []) (at.2 0) ∙ sym e))

  pub others-count : Numbers n xs → length (others n (distinct xs)) + length (distinct xs) ≡ n
  others-count h =
      let both = length-filter_both is_key is_other (λ i. refl) (range_with_len 0 n) in
      let all = length-range_with_len 0 n in
      let c = length_as_keys in
      let most = fewest xs as_keys (held_as_keys h) in
      let least = fewest as_keys (distinct xs) as_keys-held in
      let same = ap length (distinct_apart as_keys as_keys-apart) in
      omega arith

-- ---- what corners name

abbrev pub in_reach : ℕ → VertexIndices → Bool
in_reach n c = nat_lt c.v n

named-numbers : (n : ℕ) (cs : List VertexIndices) → Numbers n (map name_of (filter (in_reach n) cs))
named-numbers n cs m t =
    let ds = filter (in_reach n) cs in
    let d : VertexIndices = record { v = 0; vt = 0; vn = 0 } in
    let at = place_of (map name_of ds) m t in
    let k = place (map name_of ds) m in
    let count = length-map ds name_of in
    let inside : k < length ds = omega arith in
    let under = All-get_or (λ c. in_reach n c ≡ true) ds k d inside (kept_by_passes (in_reach n) cs) in
    ((get_or ds k d).v, ltb-true (get_or ds k d).v n under, sym at.1 ∙ get_or-map name_of ds k d [] inside)

-- as many positions are named by none as there are without those that are named
pub unnamed_count : (n : ℕ) (cs : List VertexIndices) → length (others n (named_among n cs)) ≡ n - length (named_among n cs)
unnamed_count n cs =
    let sum = others-count n (map name_of (filter (in_reach n) cs)) (named-numbers n cs) in
    omega arith

-- corners that name no position of the book leave the others as they are named
same-names-from : (n : ℕ) (cs : List VertexIndices) (i : ℕ) → i < n → has (map name_of (filter (in_reach n) cs)) (i ∷ []) ≡ has (map name_of cs) (i ∷ [])
same-names-from n [] i l = refl
same-names-from n (c ∷ cs) i l =
    let again = same-names-from n cs i l in
    let P : Bool → Type 0 = λ b. has (map name_of (cond b (c ∷ filter (in_reach n) cs) (filter (in_reach n) cs))) (i ∷ []) ≡ (alike (c.v ∷ []) (i ∷ []) || has (map name_of cs) (i ∷ [])) in
    ⊎_elim
    (λ t. subst P (sym t) (ap (λ b. alike (c.v ∷ []) (i ∷ []) || b) again))
    (λ f. let le = ltb-false c.v n f in
    let ne = ne_eqb c.v i (λ e. omega arith) in
    let Q : Bool → Type 0 = λ b. has (map name_of (filter (in_reach n) cs)) (i ∷ []) ≡ ((b && true) || has (map name_of cs) (i ∷ [])) in
    subst P (sym f) (subst Q (sym ne) again))
    (cases_Bool (in_reach n c))

pub same_names : (n : ℕ) (cs : List VertexIndices) (i : ℕ) → i < n → has (named_among n cs) (i ∷ []) ≡ names cs i
same_names n cs i l = same-has (map name_of (filter (in_reach n) cs)) (i ∷ []) ∙ same-names-from n cs i l

-- the numbers that are no key of a table which holds the named positions
pub others_unnamed : (c : Contents) (ns : List ℕ) → ns ≡ others (position_count c) (named_among (position_count c) (waiting_corners c)) → Unnames c ns
others_unnamed c ns e =
    let n = position_count c in
    let cs = waiting_corners c in
    let ks = named_among (position_count c) (waiting_corners c) in
    let p : ℕ → Bool = λ i. not (has ks (i ∷ [])) in
    let P : List ℕ → Type 0 = λ ms. Unnames c ms in
    subst P (sym e) (record {
      once = passing_once p n;
      only = λ k l. (passing_under p n k l, sym (same_names n cs (get_or (passing p n) k 0) (passing_under p n k l)) ∙ not-true (has ks (get_or (passing p n) k 0 ∷ [])) (passing_passes p n k l));
      every = λ i h. passing_has p n i h.0 (not_from_false (has ks (i ∷ [])) (same_names n cs i h.0 ∙ h.1));
    })

-- ---- a table's answer o, by whether it is none

module _ (m : List ℕ) (ks : List (List ℕ)) where
  pub found_none : (o : Option ℕ) → is_some o ≡ false → Found m ks o → has ks m ≡ false
  found_none None e h = h
  found_none (Some i) e h = cc

  pub found_some : (o : Option ℕ) → is_some o ≡ true → Found m ks o → has ks m ≡ true
  found_some None e h = cc
  found_some (Some i) e h = h.0

-- a lone check that m is not above n, where it is
pub over_refused : {E : Type 0} (n m : ℕ) (e : E) → n < m → first ((nat_lt n m, e) ∷ []) ≡ Some e
over_refused n m e l = cond-true (nat_lt n m) (Some e) None (lt-ltb n m l)

-- ---- the named positions enter a table, corner by corner

named-take-le : (n k : ℕ) (cs : List VertexIndices) → length (named_among n (take k cs)) ≤ length (named_among n cs)
named-take-le n k cs =
    let near = map name_of (filter (in_reach n) (take k cs)) in
    let far = map name_of (filter (in_reach n) (drop k cs)) in
    let split : map name_of (filter (in_reach n) cs) ≡ near ++ far =
    ap (λ ds. map name_of (filter (in_reach n) ds)) (sym (take-append-drop k cs))
    ∙ (ap (map name_of) (filter-append (in_reach n) (take k cs) (drop k cs))
    ∙ map-append name_of (filter (in_reach n) (take k cs)) (filter (in_reach n) (drop k cs))) in
    distinct-le near (map name_of (filter (in_reach n) cs)) (λ m t.
    let P : List (List ℕ) → Type 0 = λ xs. has xs m ≡ true in
    subst P (sym split) (has_left near far m t))

module _ (n : ℕ) (cs : List VertexIndices) (i : ℕ) (d : VertexIndices) (inside : i < length cs) where
  abbrev here : VertexIndices
  here = get_or cs i d

  kept_here : (b : Bool) → in_reach n here ≡ b → filter (in_reach n) (take (i + 1) cs) ≡ filter (in_reach n) (take i cs) ++ cond b (here ∷ []) []
  kept_here b e =
      let F : Bool → List VertexIndices = λ x. filter (in_reach n) (take i cs) ++ cond x (here ∷ []) [] in
      filter_more (in_reach n) cs i d inside ∙ ap F e

  -- a corner that names no position of the book changes nothing
  pub named_skip : n ≤ here.v → named_among n (take (i + 1) cs) ≡ named_among n (take i cs)
  named_skip l =
      ap (λ ds. distinct (map name_of ds)) (kept_here false (le-ltb here.v n l) ∙ append-nil (filter (in_reach n) (take i cs)))

  module _ (l : here.v < n) (cap : ℕ) (ks ls : List (List ℕ)) (e : ks ≡ named_among n (take i cs)) where
    abbrev before : List (List ℕ)
    before = map name_of (filter (in_reach n) (take i cs))

    reached : map name_of (filter (in_reach n) (take (i + 1) cs)) ≡ before ++ name_of here ∷ []
    reached = ap (map name_of) (kept_here true (lt-ltb here.v n l)) ∙ map_push name_of (filter (in_reach n) (take i cs)) here

    pub named_more : (p : ℕ) → Placed cap (name_of here) ks ls p → ls ≡ named_among n (take (i + 1) cs)
    named_more p h = placed_more cap before ks ls (name_of here) e p h ∙ ap distinct (sym reached)

    pub named_over : Refused cap (name_of here) ks ls → cap < length (named_among n cs)
    named_over h =
        let more : length (named_among n (take (i + 1) cs)) ≡ cap + 1 =
        ap (λ xs. length (distinct xs)) reached ∙ refused_over cap before ks ls (name_of here) e h in
        let le = named-take-le n (i + 1) cs in
        omega arith

-- ---- the others are listed, number by number

module _ (ks : List (List ℕ)) (i : ℕ) where
  abbrev other_test : ℕ → Bool
  other_test j = not (has ks (j ∷ []))

  pub others_skip : has ks (i ∷ []) ≡ true → others (i + 1) ks ≡ others i ks
  others_skip t = passing_no other_test i (not_from_true (has ks (i ∷ [])) t)

  pub others_more : has ks (i ∷ []) ≡ false → others (i + 1) ks ≡ others i ks ++ i ∷ []
  others_more f = passing_yes other_test i (not_from_false (has ks (i ∷ [])) f)

  -- a full list that lacks a number is too short for all
  pub others_over : (n : ℕ) (r : Row ℕ) → i < n → items r ≡ others i ks → has ks (i ∷ []) ≡ false → room r ≤ r.count → room r < length (others n ks)
  others_over n r l e f full =
      let held-count : length (others i ks) ≡ r.count = ap length (sym e) ∙ length-items r in
      let more = ap length (others_more f) ∙ length_push (others i ks) i in
      let le = length_passing_le other_test (i + 1) n (omega arith) in
      omega arith

drop-same-more : {X : Type 0} (n : ℕ) (xs ys : List X) → drop n xs ≡ drop n ys → drop (n + 1) xs ≡ drop (n + 1) ys
drop-same-more n xs ys e = sym (drop-drop 1 n xs) ∙ (ap (drop 1) e ∙ drop-drop 1 n ys)

drop-same-le : {X : Type 0} (n m : ℕ) (xs ys : List X) → n ≤ m → drop n xs ≡ drop n ys → drop m xs ≡ drop m ys
drop-same-le n m xs ys l e =
    let sum : n + (m - n) ≡ m = omega arith in
    ap (λ k. drop k xs) (sym sum) ∙ (sym (drop-drop (m - n) n xs) ∙ (ap (drop (m - n)) e ∙ (drop-drop (m - n) n ys ∙ ap (λ k. drop k ys) sum)))

-- the cells past a list are as they were, after one element more
pub past_more : (r s : Row ℕ) (x : ℕ) (old : List ℕ) → Pushed r s x → drop r.count (held r) ≡ drop r.count old → drop s.count (held s) ≡ drop s.count old
past_more r s x old h e =
    let one : drop (r.count + 1) (held s) ≡ drop (r.count + 1) old =
    ap (drop (r.count + 1)) h.cells ∙ (drop-set-lt (r.count + 1) (held r) r.count x (omega arith) ∙ drop-same-more r.count (held r) old e) in
    let P : ℕ → Type 0 = λ k. drop k (held s) ≡ drop k old in
    subst P (sym h.count) one

-- a list that was cleared and then filled is cleared again
pub blanked_again : (r : Row ℕ) (old new : List ℕ) → room r ≡ room_of (length old) → new ≡ blanked old 0 → drop r.count (held r) ≡ drop r.count new → blanked (held r) 0 ≡ blanked old 0
blanked_again r old new same e past =
    let n = room_of (length old) in
    let f = r.fits in
    let count : r.count ≤ room_of (length old) = omega arith in
    let far : drop n (held r) ≡ drop n old =
    drop-same-le r.count n (held r) new count past
    ∙ (ap (drop n) e ∙ drop_at (replicate n 0) (drop n old) n (length-replicate n 0)) in
    ap (λ k. replicate k 0 ++ drop k (held r)) same ∙ ap (λ xs. replicate n 0 ++ xs) far

-- ---- a book's positions and waiting corners

true_from : (b : Bool) → T b → b ≡ true
true_from true t = refl
true_from false t = absurd t

from_true : (b : Bool) → b ≡ true → T b
from_true b e = let P : Bool → Type 0 = λ x. T x in subst P (sym e) tt

-- faces that stand one after the other over corners have all of these
joined-parts : {X : Type 0} (cs : List X) (fs : List Face) (n : ℕ) → T (tiles n fs (length cs)) → flat_map (λ f. f) (map (part cs) fs) ≡ drop n cs
joined-parts cs [] n t =
    let e = eqb-true n (length cs) (true_from _ t) in
    sym (drop_all n cs (omega arith))
joined-parts cs (f ∷ fs) n t =
    let both = and_parts (eqb f.start n) (tiles (n + f.count) fs (length cs)) (true_from _ t) in
    let at = eqb-true f.start n both.0 in
    let rest = joined-parts cs fs (n + f.count) (from_true _ both.1) in
    ap (λ k. take f.count (drop k cs) ++ flat_map (λ g. g) (map (part cs) fs)) at
    ∙ (ap (λ xs. take f.count (drop n cs) ++ xs) (rest ∙ sym (drop-drop f.count n cs)) ∙ take-append-drop f.count (drop n cs))

pub corners-joined : (w : Waiting) → items w.corners ≡ flat_map (λ f. f) (faces_of w)
corners-joined w =
    let P : ℕ → Type 0 = λ m. T (tiles 0 (items w.faces) m) in
    sym (joined-parts (items w.corners) (items w.faces) 0 (subst P (sym (length-items w.corners)) w.tiled))

pub positions-counted : (b : Book) → b.attributes.positions.count ≡ position_count (contained b)
positions-counted b =
    let ps = b.attributes.positions in
    sym (length-map (items ps) point_bits ∙ length-items ps)

-- ---- what the call answers, where cs are the book's waiting corners

module _ (b : Book) (cs : List VertexIndices) (lent : cs ≡ items b.waiting.corners) (cap room : ℕ) where
  abbrev named_here : List (List ℕ)
  named_here = named_among b.attributes.positions.count cs

  named_is : named_here ≡ named_among (position_count (contained b)) (waiting_corners (contained b))
  named_is = ap (λ k. named_among k cs) (positions-counted b) ∙ ap (named_among (position_count (contained b))) (lent ∙ corners-joined b.waiting)

  -- the table's check is the first
  pub table_full : (e : LoadError) → Some e ≡ first ((nat_lt cap (length named_here), TableFull) ∷ []) → Some e ≡ first (unnamed_checks cap room (contained b))
  table_full e h =
      let P : Bool → Type 0 = λ x. Some e ≡ cond x (Some TableFull) None → Some e ≡ first ((x, TableFull) ∷ (nat_lt room (position_count (contained b) - named_count (contained b)), MeshFull) ∷ []) in
      let go : (x : Bool) → P x = λ x. elim x as P [ true ↦ λ y. y | false ↦ λ y. cc ] in
      go (nat_lt cap (named_count (contained b))) (h ∙ ap (λ xs. cond (nat_lt cap (length xs)) (Some TableFull) None) named_is)

  left : length (others b.attributes.positions.count named_here) ≡ position_count (contained b) - named_count (contained b)
  left = unnamed_count b.attributes.positions.count cs
      ∙ (ap (λ k. k - length named_here) (positions-counted b) ∙ ap (λ xs. position_count (contained b) - length xs) named_is)

  -- and that of the list the only other
  pub list_told : None ≡ first ((nat_lt cap (length named_here), TableFull) ∷ [])
      → first ((nat_lt room (length (others b.attributes.positions.count named_here)), MeshFull) ∷ []) ≡ first (unnamed_checks cap room (contained b))
  list_told h =
      let P : Bool → Type 0 = λ x. None ≡ cond x (Some TableFull) None → first ((nat_lt room (position_count (contained b) - named_count (contained b)), MeshFull) ∷ []) ≡ first ((x, TableFull) ∷ (nat_lt room (position_count (contained b) - named_count (contained b)), MeshFull) ∷ []) in
      let go : (x : Bool) → P x = λ x. elim x as P [ true ↦ λ y. cc | false ↦ λ y. refl ] in
      ap (λ k. first ((nat_lt room k, MeshFull) ∷ [])) left ∙ go (nat_lt cap (named_count (contained b))) (h ∙ ap (λ xs. cond (nat_lt cap (length xs)) (Some TableFull) None) named_is)

module _ (b : Book) (cs : List VertexIndices) (lent : cs ≡ items b.waiting.corners) where
  pub listed : (ns : List ℕ) → ns ≡ others b.attributes.positions.count (named_among b.attributes.positions.count cs) → Unnames (contained b) ns
  listed ns e = others_unnamed (contained b) ns (e ∙ (ap (others b.attributes.positions.count) (named_is b cs lent 0 0) ∙ ap (λ k. others k (named_among (position_count (contained b)) (waiting_corners (contained b)))) (positions-counted b)))

-- what the proofs of `enter_named`, `list_others` and `list_unnamed` stand on
pub ruleset enters = (named_over, over_refused)

pub ruleset lists = (found_none, found_some, others_skip, others_more, others_over, past_more, over_refused)

pub ruleset tells = (table_full, list_told)
