-- What the keys of a row mean, and what a table answers of them.
use Rattle.std.proofs.Common.{◌≡◌, ℕ, ◌<◌, List, [], ◌∷◌, ◌++◌, map, length, get_or, take, Some, None, Option, zero-le, sym, ap, ◌∙◌, subst, arith, MatchOption}
use Rattle.std.proofs.lemmas.List.{length-map, get_or-map, map_push}
use Rattle.std.proofs.lemmas.Bool.{both_ways}
use Rattle.std.specs.List.{AllWithin, HoldsAt}
use Rattle.elements.specs.declared.row.Row.{Row}
use Rattle.elements.specs.First.{has, PlaceOf, Apart}
use Rattle.elements.specs.Rows.{held, items, room, Pushed}
use Rattle.elements.proofs.FirstFacts.{has-at, lacks_absent, place_unique, place_none, entered-old, entered-new, apart-entered}
use Rattle.elements.proofs.RowFacts.{length-items}
use Rattle.tables.specs.Tables.{Fit, Found, Placed, Entering}
use Rattle.tables.specs.Searching.{meanings}

-- what is read of a cell, by its meaning
pub at_map : {K : Type 0} (f : K → List ℕ) (xs : List K) (i : ℕ) (x : K) → i < length xs → x ≡ get_or xs i x → get_or (map f xs) i [] ≡ f x
at_map f xs i x h e = get_or-map f xs i x [] h ∙ ap f (sym e)

module _ {K : Type 0} (f : K → List ℕ) (r : Row K) where
  pub length-meanings : length (meanings f r) ≡ r.count
  length-meanings = length-map (items r) f ∙ length-items r

  pub meanings_fit : Apart (meanings f r) → Fit (room r) (meanings f r)
  meanings_fit apart = let h = r.fits in record { apart = apart; within = omega (arith, length-meanings); most = omega arith }

  pub meanings_none : r.count ≡ 0 → meanings f r ≡ []
  meanings_none e = ap (λ n. map f (take n (held r))) e

  pub meanings_push : (s : Row K) (k : K) → Pushed r s k → meanings f s ≡ meanings f r ++ f k ∷ []
  meanings_push s k p = ap (map f) p.items ∙ map_push f (items r) k

-- ---- answers from places

pub found_some : (m : List ℕ) (ks : List (List ℕ)) (i : ℕ) → Apart ks → PlaceOf m ks i → Found m ks (Some i)
found_some m ks i apart h = (has-at ks m i h, place_unique ks m i apart h)

pub placed_old : (cap : ℕ) (m : List ℕ) (ks : List (List ℕ)) (i : ℕ) → Found m ks (Some i) → Placed cap m ks ks i
placed_old cap m ks i h = record {
  at = h.1;
  holds = sym (entered-old ks m h.0);
  room = λ lacks. absurd (both_ways (has ks m) lacks h.0);
}

pub placed_new : (cap : ℕ) (m : List ℕ) (ks ls : List (List ℕ)) (i : ℕ) → Found m ks None → i ≡ length ks → i < cap → ls ≡ ks ++ m ∷ [] → Placed cap m ks ls i
placed_new cap m ks ls i lacks e room more = record {
  at = e ∙ sym (place_none ks m lacks);
  holds = more ∙ sym (entered-new ks m lacks);
  room = λ _. omega arith;
}

-- what is said of a key whatever stands past the last one, said of its meaning
pub at_meaning : {K : Type 0} (P : List ℕ → Type 0) (f : K → List ℕ) (ks : List K) (i : ℕ) → i < length ks → ((d : K) → P (f (get_or ks i d))) → P (get_or (map f ks) i [])
at_meaning P f [] i l h = absurd (omega arith)
at_meaning P f (k ∷ ks) i l h = subst P (sym (get_or-map f (k ∷ ks) i k [] l)) (h k)

-- what a search from the front answers, where the keys are told apart by what they mean
pub first_found : {K : Type 0} (f : K → List ℕ) (m : List ℕ) (ks : List K) (o : Option ℕ) → MatchOption o (AllWithin (λ k. f k ≡ m → ⊥) ks 0 (length ks)) (λ i. (i < length ks) × HoldsAt (λ k. f k ≡ m) ks i × AllWithin (λ k. f k ≡ m → ⊥) ks 0 i) → Apart (map f ks) → Found m (map f ks) o
first_found f m ks None h apart = lacks_absent (map f ks) m (λ i l.
    let P : List ℕ → Type 0 = λ x. x ≡ m → ⊥ in
    let inside : i < length ks = omega (arith, length-map ks f) in
    at_meaning P f ks i inside (λ d. h i d zero-le inside))
first_found f m ks (Some i) h apart =
    let P : List ℕ → Type 0 = λ x. x ≡ m in
    found_some m (map f ks) i apart (omega (arith, length-map ks f, h.0), at_meaning P f ks i h.0 h.1)

-- entering keeps the keys apart
pub entering_apart : (cap : ℕ) (m : List ℕ) (ks ls : List (List ℕ)) (o : Option ℕ) → Entering cap m ks ls o → Apart ks → Apart ls
entering_apart cap m ks ls (Some i) h apart = let P : List (List ℕ) → Type 0 = λ xs. Apart xs in subst P (sym h.holds) (apart-entered ks m apart)
entering_apart cap m ks ls None h apart = let P : List (List ℕ) → Type 0 = λ xs. Apart xs in subst P (sym h.holds) apart
