use Rattle.std.proofs.Common.{◌≡◌, ℕ, zero, suc, ◌+◌, ◌-◌, ◌^◌, ◌<◌, ◌≤◌, true, cond, ◌&&◌, eqb, ltb, leb, List, [], ◌∷◌, length, get_or, ℤ, pos, negsuc, neg_ℤ, Some, None, decimal, sym, ap, ◌∙◌, arith, rules}
use Rattle.std.proofs.lemmas.Str.Parse.{IsNumeralModel, numerals_by_fold}
use Rattle.std.proofs.lemmas.Fmt.{digits_decimal, digits_value-decimal, decimal_nonempty}
use Rattle.std.proofs.lemmas.List.{get_or-reverse}
use Rattle.std.proofs.lemmas.Int.{ints}
use Rattle.std.proofs.lemmas.Bool.{cond-true, cond-false, and_from, lt-ltb, le-leb, ne_eqb}
use Rattle.std.specs.Option.{option_map}
use Rattle.reading.specs.Value.{digits, numeral, number_after, number, signed, value, reference}
use Rattle.reading.specs.Laws.{ReadsBack, Named}
use Rattle.reading.proofs.ValueFacts.{first-digit}

-- a written number reads back

own : IsNumeralModel (λ ds. digits ds ≡ true) (number_after 0)
own = numerals_by_fold _ (search rules) number_after (search rules)

numeral-from : (ds : List ℕ) → digits ds ≡ true → 0 < length ds → numeral ds ≡ true
numeral-from [] h l = absurd (omega arith)
numeral-from (c ∷ cs) h l = h

signed-from : (sign : ℕ → ℤ) (limit : ℕ) (ds : List ℕ) → digits ds ≡ true → 0 < length ds → number ds < limit → signed sign limit ds ≡ Some (sign (number ds))
signed-from sign limit ds h l b =
    ap (option_map sign)
    (cond-true (numeral ds && ltb (number ds) limit) (Some (number ds)) None
    (and_from (numeral ds) (ltb (number ds) limit) (numeral-from ds h l) (lt-ltb (number ds) limit b)))

value-plain : (ds : List ℕ) → digits ds ≡ true → 0 < length ds → value ds ≡ signed pos (2 ^ 63) ds
value-plain [] h l = absurd (omega arith)
value-plain (c ∷ cs) h l =
    let d = first-digit c cs h in
    cond-false (eqb c 45) (signed (λ n. neg_ℤ (pos n)) (2 ^ 63 + 1) cs) (cond (eqb c 43) (signed pos (2 ^ 63) cs) (signed pos (2 ^ 63) (c ∷ cs))) (ne_eqb c 45 (λ e. omega (arith, d.0)))
    ∙ cond-false (eqb c 43) (signed pos (2 ^ 63) cs) (signed pos (2 ^ 63) (c ∷ cs)) (ne_eqb c 43 (λ e. omega (arith, d.0)))

module _ (n : ℕ) (sign : ℕ → ℤ) (limit : ℕ) (small : n < 2 ^ 64) (under : n < limit) where
  signed_decimal : signed sign limit (decimal n) ≡ Some (sign n)
  signed_decimal =
      let e = digits_value-decimal own n small in
      signed-from sign limit (decimal n) (digits_decimal own n small) (decimal_nonempty n small) (omega (arith, e)) ∙ ap (λ k. Some (sign k)) e

pub reads_back : ReadsBack
reads_back (pos n) low high =
    let b : n < 2 ^ 63 = omega (arith, ints) in
    value-plain (decimal n) (digits_decimal own n (omega arith)) (decimal_nonempty n (omega arith)) ∙ signed_decimal n pos (2 ^ 63) (omega arith) b
reads_back (negsuc k) low high =
    let b : suc k ≤ 2 ^ 63 = omega (arith, ints) in
    signed_decimal (suc k) (λ n. neg_ℤ (pos n)) (2 ^ 63 + 1) (omega arith) (omega arith)

-- a reference names the element that it counts to

pub named : Named
named xs zero one most small = absurd (omega arith)
named xs (suc j) one most small =
    let z : reference (length xs) (negsuc j) ≡ length xs - suc j = cond-true (leb (suc j) (length xs)) (length xs - suc j) (2 ^ 64 + length xs - suc j) (le-leb (suc j) (length xs) most) in
    let k : suc j - 1 ≡ j = omega arith in (
      (omega arith, ap (λ i. get_or xs i 0) (sym k)),
      (
        omega (arith, z),
        ap (λ i. get_or xs i 0) (z ∙ omega arith) ∙ sym (get_or-reverse xs (suc j - 1) 0 (omega arith)),
      ),
    )
