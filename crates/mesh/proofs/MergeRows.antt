-- Rows that merging changes, and the zeros past their lists.
use Rattle.std.proofs.Common.{◌≡◌, ℕ, zero, suc, ◌+◌, ◌<◌, Bool, true, false, ◌&&◌, T, List, [], ◌∷◌, ◌++◌, length, get_or, drop, replicate, sym, ap, ◌∙◌, subst, arith}
use Rattle.std.specs.List.{list_all}
use Rattle.std.proofs.lemmas.List.{drop_more, drop-set-lt}
use Rattle.elements.specs.declared.row.Row.{Row}
use Rattle.elements.specs.Rows.{held, room, Pushed}
use Rattle.mesh.specs.Lists.{Spare}
use Rattle.mesh.specs.Merges.{Steady}

-- ---- what every cell passes

T_second : (a b : Bool) → T (a && b) → T b
T_second true b p = p
T_second false b p = absurd p

module _ {X : Type 0} (zero? : X → Bool) where
  pub pass_append : (xs ys : List X) → T (list_all zero? xs) → T (list_all zero? ys) → T (list_all zero? (xs ++ ys))
  pass_append [] ys p q = q
  pass_append (x ∷ xs) ys p q =
      elim (zero? x) as (λ b. T (b && list_all zero? xs) → T (b && list_all zero? (xs ++ ys))) [ true ↦ λ h. pass_append xs ys h q | false ↦ λ h. h ] p

  pub pass_replicate : (n : ℕ) (z : X) → zero? z ≡ true → T (list_all zero? (replicate n z))
  pass_replicate zero z e = tt
  pass_replicate (suc n) z e =
      let P : Bool → Type 0 = λ b. T (b && list_all zero? (replicate n z)) in
      subst P (sym e) (pass_replicate n z e)

  -- past one cell more
  pub pass_more : (n : ℕ) (xs : List X) (d : X) → n < length xs → T (list_all zero? (drop n xs)) → T (list_all zero? (drop (n + 1) xs))
  pass_more n xs d l p =
      let P : List X → Type 0 = λ ys. T (list_all zero? ys) in
      T_second (zero? (get_or xs n d)) (list_all zero? (drop (n + 1) xs)) (subst P (drop_more xs n d l) p)

-- ---- rows

module _ {X : Type 0} where
  -- an element more keeps the zeros past it
  pub steady-pushed : (r s : Row X) (x b : X) → Pushed r s x → r.count < room r → Steady b r s
  steady-pushed r s x b p l =
      let n = r.count in
      record {
        room = p.room;
        spare = λ zero? z h.
            let P : List X → Type 0 = λ ys. T (list_all zero? ys) in
            let Q : ℕ → Type 0 = λ k. T (list_all zero? (drop k (held s))) in
            subst Q (sym p.count) (subst P (sym (ap (drop (n + 1)) p.cells ∙ drop-set-lt (n + 1) (held r) n x (omega arith))) (pass_more zero? n (held r) x (omega arith) h));
      }

  pub steady_then : {b : X} {r s t : Row X} → Steady b r s → Steady b s t → Steady b r t
  steady_then p q = record { room = q.room ∙ p.room; spare = λ zero? z h. q.spare zero? z (p.spare zero? z h) }

  -- cells that were filled, and then those past a list
  pub spare-filled : (zero? : X → Bool) (xs : List X) (n : ℕ) (z : X) (r : Row X) → zero? z ≡ true → Spare zero? r → xs ≡ replicate n z ++ drop r.count (held r) → T (list_all zero? xs)
  spare-filled zero? xs n z r e h is =
      let P : List X → Type 0 = λ ys. T (list_all zero? ys) in
      subst P (sym is) (pass_append zero? (replicate n z) (drop r.count (held r)) (pass_replicate zero? n z e) h)
