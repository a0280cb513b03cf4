-- Steps of the loops over cells.
use Rattle.std.proofs.Common.{◌≡◌, ℕ, ◌+◌, ◌-◌, ◌<◌, ◌≤◌, List, [], ◌∷◌, ◌++◌, length, drop, set, replicate, sym, ap, ◌∙◌, arith}
use Rattle.elements.specs.Cells.{room_of, blanked}
use Rattle.std.proofs.Math.ListN.{drop_of_length-le}
use Rattle.std.proofs.lemmas.List.{append_assoc, append-nil, length-append, length-drop, length-replicate, set-append_right, drop_more, replicate_more}

module _ {X : Type 0} (xs : List X) (z : X) where
  pub blank-more : (i : ℕ) → i < length xs → set (replicate i z ++ drop i xs) i z ≡ replicate (i + 1) z ++ drop (i + 1) xs
  blank-more i l =
      let d = drop_more xs i z l in
      let s = set-append_right (replicate i z) (drop i xs) i i z (length-replicate i z) (omega arith) in
      let e : i - i ≡ 0 = omega arith in
      s ∙ (ap (λ n. replicate i z ++ set (drop i xs) n z) e
      ∙ (ap (λ ys. replicate i z ++ set ys 0 z) d
      ∙ (sym (append_assoc (replicate i z) (z ∷ []) (drop (i + 1) xs))
      ∙ ap (λ ys. ys ++ drop (i + 1) xs) (replicate_more i z))))

  -- every cell is written
  pub blank-all : (i n : ℕ) → length xs ≤ i → i ≡ n → replicate i z ++ drop i xs ≡ replicate n z
  blank-all i n h e = ap (λ ys. replicate i z ++ ys) (drop_of_length-le xs h) ∙ (append-nil (replicate i z) ∙ ap (λ k. replicate k z) e)

  pub length-blanked : length (blanked xs z) ≡ length xs
  length-blanked =
      let n = room_of (length xs) in
      let a = length-append (replicate n z) (drop n xs) in
      let b = length-replicate n z in
      let d = length-drop n xs in
      omega arith
