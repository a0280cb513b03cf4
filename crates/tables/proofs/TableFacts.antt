-- What callers of a table cite: how its answers follow the first appearances of the keys entered so far.
use Rattle.std.proofs.Common.{◌≡◌, ℕ, ◌+◌, ◌<◌, ◌≤◌, false, ◌⊎◌, List, [], ◌∷◌, ◌++◌, map, length, get_or, take, drop, set, Some, Option, sym, ap, ◌∙◌, subst, inl, inr, ⊎_elim, append_assoc, arith}
use Rattle.std.proofs.lemmas.Bool.{cases_Bool}
use Rattle.std.proofs.lemmas.List.{length_push, length-take-le, take_more, drop_more, set_at}
use Rattle.elements.specs.First.{has, distinct, place, numbers, entered, PlaceOf, Absent}
use Rattle.elements.proofs.FirstFacts.{same-has, place_of, place_none, absent_lacks, entered-old, entered-new, place-entered, distinct-new, distinct_more, distinct-take-le, numbers_more, length-numbers}
use Rattle.tables.specs.Numbering.{Stopped}
use Rattle.tables.specs.Tables.{Found, Placed, Refused, Entering}
use Rattle.tables.proofs.Places.{at_map}

-- a found key stands at its place
pub found_place : (m : List ℕ) (ks : List (List ℕ)) (i : ℕ) → Found m ks (Some i) → PlaceOf m ks i
found_place m ks i h = let P : ℕ → Type 0 = λ n. PlaceOf m ks n in subst P (sym h.1) (place_of ks m h.0)

-- an entered key was there before, or is the last one now
pub placed_either : (cap : ℕ) (m : List ℕ) (ks ls : List (List ℕ)) (i : ℕ) → Placed cap m ks ls i → (PlaceOf m ks i × (ls ≡ ks)) ⊎ (Absent m ks × (i ≡ length ks) × (ls ≡ ks ++ m ∷ []) × (length ks < cap))
placed_either cap m ks ls i h = ⊎_elim
    (λ t. inl (found_place m ks i (t, h.at), h.holds ∙ entered-old ks m t))
    (λ f. inr (absent_lacks ks m f, h.at ∙ place_none ks m f, h.holds ∙ entered-new ks m f, h.room f))
    (cases_Bool (has ks m))

-- ---- where the table holds the distinct ones of xs

module _ (cap : ℕ) (xs ks ls : List (List ℕ)) (m : List ℕ) (e : ks ≡ distinct xs) where
  -- it holds those of one key more
  pub placed_more : (i : ℕ) → Placed cap m ks ls i → ls ≡ distinct (xs ++ m ∷ [])
  placed_more i h = h.holds ∙ ap (λ zs. entered zs m) e ∙ sym (distinct_more xs m)

  pub placed_at : (i : ℕ) → Placed cap m ks ls i → i ≡ place (distinct (xs ++ m ∷ [])) m
  placed_at i h = h.at ∙ ap (λ zs. place zs m) e ∙ sym (place-entered (distinct xs) m) ∙ ap (λ zs. place zs m) (sym (distinct_more xs m))

  -- and answers the number of that key
  pub placed_number : (i : ℕ) → Placed cap m ks ls i → numbers xs ++ i ∷ [] ≡ numbers (xs ++ m ∷ [])
  placed_number i h = ap (λ (n : ℕ). numbers xs ++ n ∷ []) (h.at ∙ ap (λ zs. place zs m) e) ∙ sym (numbers_more xs m)

  -- where it refuses, the key is none of them, and with it they are too many
  pub refused-new : Refused cap m ks ls → has xs m ≡ false
  refused-new h = sym (same-has xs m) ∙ ap (λ zs. has zs m) (sym e) ∙ h.new

  pub refused_full : Refused cap m ks ls → length (distinct xs) ≡ cap
  refused_full h = ap length (sym e) ∙ h.full

  pub refused_over : Refused cap m ks ls → length (distinct (xs ++ m ∷ [])) ≡ cap + 1
  refused_over h = ap length (distinct-new xs m (refused-new h)) ∙ length_push (distinct xs) m ∙ ap (λ (n : ℕ). n + 1) (refused_full h)

-- ---- where the key at i of vs was entered

pub entering_at : {K : Type 0} (cap : ℕ) (f : K → List ℕ) (vs : List K) (ks ls : List (List ℕ)) (i : ℕ) (x : K) (o : Option ℕ) → i < length vs → x ≡ get_or vs i x → Entering cap (f x) ks ls o → Entering cap (get_or (map f vs) i []) ks ls o
entering_at cap f vs ks ls i x o l is h = let P : List ℕ → Type 0 = λ m. Entering cap m ks ls o in subst P (sym (at_map f vs i x l is)) h

-- ---- numbering the keys xs one by one into the cells `out`

module _ (cap : ℕ) (xs ks ls : List (List ℕ)) (i : ℕ) (inside : i < length xs) (e : ks ≡ distinct (take i xs)) where
  one_more : take (i + 1) xs ≡ take i xs ++ get_or xs i [] ∷ []
  one_more = take_more xs i [] inside

  pub step_keys : (p : ℕ) → Placed cap (get_or xs i []) ks ls p → ls ≡ distinct (take (i + 1) xs)
  step_keys p h = placed_more cap (take i xs) ks ls (get_or xs i []) e p h ∙ ap distinct (sym one_more)

  pub step_cells : (old out : List ℕ) (p : ℕ) → i < length old → out ≡ numbers (take i xs) ++ drop i old → Placed cap (get_or xs i []) ks ls p → set out i p ≡ numbers (take (i + 1) xs) ++ drop (i + 1) old
  step_cells old out p l o h =
      let count : length (numbers (take i xs)) ≡ i = length-numbers (take i xs) ∙ length-take-le i xs (omega arith) in
      ap (λ zs. set zs i p) (o ∙ ap (λ ys. numbers (take i xs) ++ ys) (drop_more old i 0 l))
      ∙ set_at (numbers (take i xs)) (get_or old i 0) (drop (i + 1) old) p i count
      ∙ sym (append_assoc (numbers (take i xs)) (p ∷ []) (drop (i + 1) old))
      ∙ ap (λ ns. ns ++ drop (i + 1) old) (placed_number cap (take i xs) ks ls (get_or xs i []) e p h ∙ ap numbers (sym one_more))

  pub step_over : Refused cap (get_or xs i []) ks ls → cap < length (distinct xs)
  step_over h =
      let more : length (distinct (take (i + 1) xs)) ≡ cap + 1 = ap (λ zs. length (distinct zs)) one_more ∙ refused_over cap (take i xs) ks ls (get_or xs i []) e h in
      let le = distinct-take-le (i + 1) xs in
      omega arith

  pub step_stopped : (old out : List ℕ) → length xs ≤ length old → out ≡ numbers (take i xs) ++ drop i old → Refused cap (get_or xs i []) ks ls → Stopped cap xs old out i
  step_stopped old out l o h = record {
    cells = l;
    over = step_over h;
    inside = inside;
    full = refused_full cap (take i xs) ks ls (get_or xs i []) e h;
    new = refused-new cap (take i xs) ks ls (get_or xs i []) e h;
    written = o;
  }
