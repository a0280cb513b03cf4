use Rattle.std.proofs.Common.{◌≡◌, ℕ, ◌+◌, ◌-◌, ◌*◌, ◌<◌, ◌≤◌, true, List, [], ◌∷◌, length, get_or, drop, sym, refl, ◌∙◌, arith}
use Rattle.std.proofs.lemmas.List.{at_drop_more, at_drop_all}
use Rattle.std.proofs.lemmas.Bool.Decides.{nat_tests}
use Rattle.reading.specs.Value.{digits, numeral, number, number_after}

pub numeral-filled : (cs : List ℕ) → 0 < length cs → digits cs ≡ numeral cs
numeral-filled [] h = absurd (omega arith)
numeral-filled (c ∷ cs) h = refl

number_after-ge : (n : ℕ) (cs : List ℕ) → n ≤ number_after n cs
number_after-ge n [] = omega arith
number_after-ge n (c ∷ cs) = omega (arith, number_after-ge (n * 10 + (c - 48)) cs)

pub first-digit : (c : ℕ) (cs : List ℕ) → digits (c ∷ cs) ≡ true → (48 ≤ c) × (c ≤ 57) × (digits cs ≡ true)
first-digit c cs h = (grind (arith, nat_tests), grind (arith, nat_tests), grind (arith, nat_tests))

module _ (xs : List ℕ) (i : ℕ) where
  pub digit_at : i < length xs → digits (drop i xs) ≡ true → (48 ≤ get_or xs i 0) × (get_or xs i 0 ≤ 57) × (digits (drop (i + 1) xs) ≡ true)
  digit_at l h = first-digit (get_or xs i 0) (drop (i + 1) xs) (sym (at_drop_more digits xs i 0 l) ∙ h)

  pub number_go : (n : ℕ) → i < length xs → number_after n (drop i xs) ≡ number xs → number_after (n * 10 + (get_or xs i 0 - 48)) (drop (i + 1) xs) ≡ number xs
  number_go n l h = sym (at_drop_more (number_after n) xs i 0 l) ∙ h

  pub number-ge : (n : ℕ) → i < length xs → number_after n (drop i xs) ≡ number xs → n * 10 + (get_or xs i 0 - 48) ≤ number xs
  number-ge n l h = omega (arith, number_go n l h, number_after-ge (n * 10 + (get_or xs i 0 - 48)) (drop (i + 1) xs))

  pub number_end : (n : ℕ) → length xs ≤ i → number_after n (drop i xs) ≡ number xs → n ≡ number xs
  number_end n l h = sym (at_drop_all (number_after n) xs i l) ∙ h
