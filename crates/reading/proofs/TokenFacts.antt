use Rattle.std.proofs.Common.{◌≡◌, ℕ, zero, suc, ◌+◌, ◌<◌, ◌≤◌, Bool, true, false, not, List, [], ◌∷◌, length, get_or, take, drop, Some, None, Option, sym, refl, ap, ◌∙◌, subst, ⊎_elim, add-zero, add-one, arith}
use Rattle.std.proofs.lemmas.List.{at_drop_more, at_drop_all, get_or-drop, length-drop, length-take-le, take_all}
use Rattle.std.proofs.lemmas.Bool.{cond-true, cond-false, cases_lt, both_ways, not-true}
use Rattle.std.specs.List.{position}
use Rattle.std.specs.Option.{unwrap_or}
use Rattle.reading.specs.Pieces.{Stretch, onto, pieces, stretches, unless_empty, filled, space, tokens_from}
use Rattle.reading.proofs.PieceFacts.{found, missed, run_to, run_out}

pub tokens-space : (i c : ℕ) (cs : List ℕ) → space c ≡ true → tokens_from i (c ∷ cs) ≡ tokens_from (i + 1) cs
tokens-space i c cs h =
    ap (λ ps. filled (stretches i ps)) (cond-true (space c) ([] ∷ pieces space cs) (onto c (pieces space cs)) h)
    ∙ ap (λ k. tokens_from k cs) (omega arith)

pub keep_cons : (q : Stretch) (p : List ℕ) (qs : List Stretch) → 0 < length p → unless_empty q p qs ≡ q ∷ qs
keep_cons q [] qs h = absurd (omega arith)
keep_cons q (c ∷ cs) qs h = refl

not_out : (b : Bool) → not b ≡ false → b ≡ true
not_out true h = refl
not_out false h = sym h

-- spaces before a token
skip : (i : ℕ) (xs : List ℕ) (k : ℕ) → k ≤ length xs → ((j : ℕ) → j < k → not (space (get_or xs j 0)) ≡ false) → tokens_from i xs ≡ tokens_from (i + k) (drop k xs)
skip i xs zero l h = ap (λ j. tokens_from j xs) (sym (add-zero i))
skip i [] (suc k) l h = absurd (omega arith)
skip i (c ∷ cs) (suc k) l h =
    tokens-space i c cs (not_out (space c) (h 0 (omega arith)))
    ∙ (skip (i + 1) cs k (omega arith) (λ j b. h (suc j) (omega arith))
    ∙ ap (λ j. tokens_from j (drop k cs)) (omega arith))

pub no_token : (i : ℕ) (xs : List ℕ) → position (λ c. not (space c)) xs ≡ None → tokens_from i xs ≡ []
no_token i xs h =
    skip i xs (length xs) (omega arith) (missed (λ c. not (space c)) xs h)
    ∙ at_drop_all (tokens_from (i + length xs)) xs (length xs) (omega arith)

-- a text that begins with a token
module _ (i : ℕ) (xs : List ℕ) (some : 0 < length xs) (solid : space (get_or xs 0 0) ≡ false) where
  token_by : (r : Option ℕ) (n : ℕ) → position space xs ≡ r → n ≡ unwrap_or r (length xs) → tokens_from i xs ≡ record { from = i; bytes = take n xs } ∷ tokens_from (i + n) (drop n xs)
  token_by None n h e =
      ap (λ ps. filled (stretches i ps)) (run_out space xs (missed space xs h))
      ∙ (keep_cons (record { from = i; bytes = xs }) xs [] some
      ∙ (ap (λ zs. record { from = i; bytes = zs } ∷ []) (sym (take_all n xs (omega arith)))
      ∙ ap (λ ts. record { from = i; bytes = take n xs } ∷ ts) (sym (at_drop_all (tokens_from (i + n)) xs n (omega arith)))))
  token_by (Some m) n h e =
      let f = found space xs m h in
      let p : 0 < m =
      ⊎_elim (λ l. l)
      (λ (l : m ≤ 0). let o : m ≡ 0 = omega arith in absurd (both_ways (space (get_or xs 0 0)) solid (subst (λ (k : ℕ). space (get_or xs k 0) ≡ true) o f.1)))
      (cases_lt 0 m) in
      let q : Stretch = record { from = i; bytes = take m xs } in
      let z : tokens_from (i + m) (drop m xs) ≡ tokens_from (i + m + 1) (drop (m + 1) xs) =
      at_drop_more (tokens_from (i + m)) xs m 0 f.0 ∙ tokens-space (i + m) (get_or xs m 0) (drop (m + 1) xs) f.1 in
      subst (λ (k : ℕ). tokens_from i xs ≡ record { from = i; bytes = take k xs } ∷ tokens_from (i + k) (drop k xs)) (sym e)
      (ap (λ ps. filled (stretches i ps)) (run_to space xs m f.0 f.2 f.1)
      ∙ (keep_cons q (take m xs) _ (omega (arith, p, length-take-le m xs (omega (arith, f.0))))
      ∙ (ap (λ k. q ∷ filled (stretches (i + k + 1) (pieces space (drop (suc m) xs)))) (length-take-le m xs (omega (arith, f.0)))
      ∙ (ap (λ k. q ∷ tokens_from (i + m + 1) (drop k xs)) (sym (add-one m)) ∙ ap (λ ts. q ∷ ts) (sym z)))))

-- one token: after k spaces come n bytes
module _ (at : ℕ) (text rest bytes others : List ℕ) (k n : ℕ) (r : Option ℕ) (skipped : position (λ c. not (space c)) text ≡ Some k) (rest_is : rest ≡ drop k text) (stops : position space rest ≡ r)
    (n_is : n ≡ unwrap_or r (length rest)) (bytes_are : bytes ≡ take n rest) (others_are : others ≡ drop n rest) where
  pub next_token : tokens_from at text ≡ record { from = at + k; bytes = bytes } ∷ tokens_from (at + k + n) others
  next_token =
      let f = found (λ c. not (space c)) text k skipped in
      let e = ap length rest_is ∙ length-drop k text in
      let s : space (get_or rest 0 0) ≡ false =
      not-true (space (get_or rest 0 0))
      (ap (λ zs. not (space (get_or zs 0 0))) rest_is
      ∙ (ap (λ c. not (space c)) (get_or-drop k text 0 0 ∙ ap (λ j. get_or text j 0) (add-zero k)) ∙ f.1)) in
      skip at text k (omega (arith, f.0)) f.2
      ∙ (ap (tokens_from (at + k)) (sym rest_is)
      ∙ (token_by (at + k) rest (omega (arith, e, f.0)) s r n stops n_is
      ∙ rw (bytes_are, others_are) refl))

-- a text has at least as many bytes as tokens

longer : (q : Stretch) (p : List ℕ) (qs : List Stretch) → length qs ≤ length (unless_empty q p qs)
longer q [] qs = omega arith
longer q (c ∷ cs) qs = omega arith

few_by : (i c : ℕ) (cs : List ℕ) (ps : List (List ℕ)) → length (filled (stretches (i + 1) ps)) ≤ length cs → length (filled (stretches i (onto c ps))) ≤ length (c ∷ cs)
few_by i c cs [] h = omega arith
few_by i c cs (p ∷ ps) h =
    let e : i + 1 + length p + 1 ≡ i + length (c ∷ p) + 1 = omega arith in
    let l = longer (record { from = i + 1; bytes = p }) p (filled (stretches (i + 1 + length p + 1) ps)) in
    omega (arith, h, l, ap (λ j. length (filled (stretches j ps))) e)

few_either : (i c : ℕ) (cs : List ℕ) (b : Bool) → space c ≡ b → length (tokens_from (i + 1) cs) ≤ length cs → length (tokens_from i (c ∷ cs)) ≤ length (c ∷ cs)
few_either i c cs true s h = omega (arith, h, ap length (tokens-space i c cs s))
few_either i c cs false s h =
    omega (arith, few_by i c cs (pieces space cs) h, ap (λ ps. length (filled (stretches i ps))) (cond-false (space c) ([] ∷ pieces space cs) (onto c (pieces space cs)) s))

pub few-tokens : (i : ℕ) (xs : List ℕ) → length (tokens_from i xs) ≤ length xs
few-tokens i [] = omega arith
few-tokens i (c ∷ cs) = few_either i c cs (space c) refl (few-tokens (i + 1) cs)
