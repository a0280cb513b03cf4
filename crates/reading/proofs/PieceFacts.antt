use Rattle.std.proofs.Common.{◌≡◌, ℕ, zero, suc, ◌+◌, ◌<◌, Bool, true, false, cond, ◌&&◌, ltb, List, [], ◌∷◌, length, get_or, take, drop, Some, None, sym, refl, ap, ◌∙◌, subst, add-one, arith}
use Rattle.std.proofs.lemmas.List.{length-take-le}
use Rattle.std.proofs.lemmas.List.Sums.{passes_at_first, fails_before_first}
use Rattle.std.proofs.lemmas.Bool.{cond-true, cond-false, ltb-true, ltb-false}
use Rattle.std.proofs.lemmas.Option.{cond_some, none-some}
use Rattle.std.specs.List.{position, position_or_len, list_all}
use Rattle.reading.specs.Pieces.{onto, pieces, stretches, parts_from, slash, vacant}

none_by : (b : Bool) (k : ℕ) → cond b (Some k) None ≡ None → b ≡ false
none_by true k h = absurd (none-some k (sym h))
none_by false k h = refl

-- what `position` found
module _ (test : ℕ → Bool) (xs : List ℕ) where
  pub found : (n : ℕ) → position test xs ≡ Some n → (n < length xs) × (test (get_or xs n 0) ≡ true) × ((k : ℕ) → k < n → test (get_or xs k 0) ≡ false)
  found n h =
      let e = cond_some (ltb (position_or_len test xs) (length xs)) (position_or_len test xs) n h in
      let l = ltb-true (position_or_len test xs) (length xs) e.0 in
      subst (λ (m : ℕ). (m < length xs) × (test (get_or xs m 0) ≡ true) × ((k : ℕ) → k < m → test (get_or xs k 0) ≡ false)) e.1
      (l, passes_at_first test xs 0 l, λ k b. fails_before_first test xs k 0 b)

  pub missed : position test xs ≡ None → (k : ℕ) → k < length xs → test (get_or xs k 0) ≡ false
  missed h k l =
      let m = ltb-false (position_or_len test xs) (length xs) (none_by (ltb (position_or_len test xs) (length xs)) (position_or_len test xs) h) in
      fails_before_first test xs k 0 (omega arith)

module _ (cut : ℕ → Bool) where
  pub run_to : (xs : List ℕ) (i : ℕ) → i < length xs → ((k : ℕ) → k < i → cut (get_or xs k 0) ≡ false) → cut (get_or xs i 0) ≡ true → pieces cut xs ≡ take i xs ∷ pieces cut (drop (suc i) xs)
  run_to [] i l before here = absurd (omega arith)
  run_to (c ∷ cs) zero l before here = cond-true (cut c) ([] ∷ pieces cut cs) (onto c (pieces cut cs)) here
  run_to (c ∷ cs) (suc i) l before here =
      cond-false (cut c) ([] ∷ pieces cut cs) (onto c (pieces cut cs)) (before 0 (omega arith))
      ∙ ap (onto c) (run_to cs i (omega arith) (λ k h. before (suc k) (omega arith)) here)

  pub run_out : (xs : List ℕ) → ((k : ℕ) → k < length xs → cut (get_or xs k 0) ≡ false) → pieces cut xs ≡ xs ∷ []
  run_out [] before = refl
  run_out (c ∷ cs) before =
      cond-false (cut c) ([] ∷ pieces cut cs) (onto c (pieces cut cs)) (before 0 (omega arith))
      ∙ ap (onto c) (run_out cs (λ k h. before (suc k) (omega arith)))

-- the parts of a text are all empty exactly where it is nothing but slashes

onto_filled : (i c : ℕ) (ps : List (List ℕ)) → vacant (stretches i (onto c ps)) ≡ false
onto_filled i c [] = refl
onto_filled i c (p ∷ ps) = refl

slash_by : (b : Bool) (i c : ℕ) (cs : List ℕ) (a : Bool) → a ≡ vacant (parts_from (i + 0 + 1) cs) → b && a ≡ vacant (stretches i (cond b ([] ∷ pieces slash cs) (onto c (pieces slash cs))))
slash_by true i c cs a h = h
slash_by false i c cs a h = sym (onto_filled i c (pieces slash cs))

pub slashes : (i : ℕ) (xs : List ℕ) → list_all slash xs ≡ vacant (parts_from i xs)
slashes i [] = refl
slashes i (c ∷ cs) = slash_by (slash c) i c cs (list_all slash cs) (slashes (i + 0 + 1) cs)

-- the first part of a token that begins at i
module _ (i : ℕ) (xs : List ℕ) where
  pub last_part : position slash xs ≡ None → parts_from i xs ≡ record { from = i; bytes = xs } ∷ []
  last_part h = ap (stretches i) (run_out slash xs (missed slash xs h))

  pub next_part : (n : ℕ) → position slash xs ≡ Some n → parts_from i xs ≡ record { from = i; bytes = take n xs } ∷ parts_from (i + n + 1) (drop (n + 1) xs)
  next_part n h =
      let f = found slash xs n h in
      ap (stretches i) (run_to slash xs n f.0 f.2 f.1)
      ∙ (ap (λ k. record { from = i; bytes = take n xs } ∷ stretches (i + k + 1) (pieces slash (drop (suc n) xs))) (length-take-le n xs (omega arith))
      ∙ ap (λ k. record { from = i; bytes = take n xs } ∷ parts_from (i + n + 1) (drop k xs)) (sym (add-one n)))
