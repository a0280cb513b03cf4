-- Laws of the cells past a list, and of rows that are cleared.
use Rattle.std.proofs.Common.{◌≡◌, ℕ, zero, suc, ◌+◌, ◌-◌, Bool, true, false, ◌&&◌, T, List, [], ◌∷◌, length, take, drop, set, replicate, sym, ap, ◌∙◌, subst, add-one, arith}
use Rattle.std.specs.List.{list_all}
use Rattle.std.proofs.lemmas.List.{drop-drop}
use Rattle.elements.specs.declared.row.Row.{Row}
use Rattle.elements.specs.Cells.{room_of, blanked}
use Rattle.elements.specs.Rows.{held, items, room, Pushed}
use Rattle.mesh.proofs.MergeRows.{pass_append, pass_replicate}
use Rattle.mesh.specs.Lists.{Spare}

T_right : (a b : Bool) → T (a && b) → T b
T_right true b h = h
T_right false b h = absurd h

module _ {X : Type 0} (zero? : X → Bool) where
  all_drop : (n : ℕ) (xs : List X) → T (list_all zero? xs) → T (list_all zero? (drop n xs))
  all_drop zero xs h = h
  all_drop (suc n) [] h = tt
  all_drop (suc n) (x ∷ xs) h = all_drop n xs (T_right (zero? x) (list_all zero? xs) h)

  all_set : (xs : List X) (n : ℕ) (x : X) → T (list_all zero? (drop n xs)) → T (list_all zero? (drop (suc n) (set xs n x)))
  all_set [] n x h = tt
  all_set (y ∷ ys) zero x h = T_right (zero? y) (list_all zero? ys) h
  all_set (y ∷ ys) (suc n) x h = all_set ys n x h

  -- the cells past a list stay zero when it grows
  pub spare-pushed : (r s : Row X) (x : X) → Pushed r s x → Spare zero? r → Spare zero? s
  spare-pushed r s x p h =
      let P : ℕ → List X → Type 0 = λ n xs. T (list_all zero? (drop n xs)) in
      subst (λ xs. P s.count xs) (sym p.cells)
      (subst (λ n. P n (set (held r) r.count x)) (sym (p.count ∙ add-one r.count)) (all_set (held r) r.count x h))

  all-blanked : (xs : List X) (z : X) → zero? z ≡ true → T (list_all zero? (drop (room_of (length xs)) xs)) → T (list_all zero? (blanked xs z))
  all-blanked xs z e h = pass_append zero? (replicate (room_of (length xs)) z) (drop (room_of (length xs)) xs) (pass_replicate zero? (room_of (length xs)) z e) h

  module _ (r s : Row X) (z : X) (none : s.count ≡ 0) (cells : held s ≡ blanked (held r) z) (e : zero? z ≡ true) where
    past_all : T (list_all zero? (drop (room r) (held r))) → T (list_all zero? (held s))
    past_all h = let P : List X → Type 0 = λ xs. T (list_all zero? xs) in subst P (sym cells) (all-blanked (held r) z e h)

    past-none : T (list_all zero? (held s)) → Spare zero? s
    past-none h = let P : ℕ → Type 0 = λ n. T (list_all zero? (drop n (held s))) in subst P (sym none) h

    zeros-past : Spare zero? r → T (list_all zero? (drop (room r) (held r)))
    zeros-past h =
        let f = r.fits in
        let n : r.count + (room r - r.count) ≡ room r = omega arith in
        let P : List X → Type 0 = λ xs. T (list_all zero? xs) in
        subst P (drop-drop (room r - r.count) r.count (held r) ∙ ap (λ k. drop k (held r)) n)
        (all_drop (room r - r.count) (drop r.count (held r)) h)

    -- every cell of a list is zero once it was cleared
    pub zeros-cleared : Spare zero? r → T (list_all zero? (held s))
    zeros-cleared h = past_all (zeros-past h)

    pub spare-cleared : Spare zero? r → Spare zero? s
    spare-cleared h = past-none (zeros-cleared h)

-- a row without elements
pub items-none : {X : Type 0} (r : Row X) → r.count ≡ 0 → items r ≡ []
items-none r e = ap (λ n. take n (held r)) e
