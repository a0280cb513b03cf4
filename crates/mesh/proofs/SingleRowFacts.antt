-- Rows that grow: what a push leaves, and one after the other.
use Rattle.std.proofs.Common.{◌≡◌, ℕ, zero, suc, ◌+◌, ◌-◌, ◌≤◌, Bool, true, false, not, ◌&&◌, T, eqb, ltb, List, [], ◌∷◌, ◌++◌, length, drop, set, replicate, sym, refl, ap, ◌∙◌, subst, ⊎_elim, add-one, arith}
use Rattle.std.specs.List.{list_all}
use Rattle.std.proofs.lemmas.Bool.{cases_lt, lt-ltb, le-ltb, ne_eqb, cases_Bool, cond-false}
use Rattle.std.proofs.lemmas.List.{append_assoc, append-nil, length_push, replicate_more}
use Rattle.elements.specs.declared.row.Row.{Row}
use Rattle.elements.specs.Rows.{held, items, room, roomy, Pushed}
use Rattle.elements.proofs.RowFacts.{length-items}
use Rattle.mesh.specs.Surface.{over}
use Rattle.mesh.specs.Single.{Kept, Becomes, padded, filled, placed}

T_right : (a b : Bool) → T (a && b) → T b
T_right true b h = h
T_right false b h = absurd h

module _ {X : Type 0} where
  spare-set : (zero? : X → Bool) (cells : List X) (n : ℕ) (x : X) → T (list_all zero? (drop n cells)) → T (list_all zero? (drop (suc n) (set cells n x)))
  spare-set zero? [] zero x h = tt
  spare-set zero? [] (suc n) x h = tt
  spare-set zero? (y ∷ ys) zero x h = T_right (zero? y) (list_all zero? ys) h
  spare-set zero? (y ∷ ys) (suc n) x h = spare-set zero? ys n x h

  pub kept_same : (r : Row X) → Kept r r
  kept_same r = record { room = refl; spare = λ zero? h. h }

  pub kept_then : (r s t : Row X) → Kept r s → Kept s t → Kept r t
  kept_then r s t a b = record { room = b.room ∙ a.room; spare = λ zero? h. b.spare zero? (a.spare zero? h) }

  pub kept-pushed : (r s : Row X) (x : X) → Pushed r s x → Kept r s
  kept-pushed r s x p =
      record {
        room = p.room;
        spare = λ zero? h.
            let P : List X → Type 0 = λ cells. T (list_all zero? (drop s.count cells)) in
            let Q : ℕ → Type 0 = λ n. T (list_all zero? (drop n (set (held r) r.count x))) in
            subst P (sym p.cells) (subst Q (sym (p.count ∙ add-one r.count)) (spare-set zero? (held r) r.count x h));
      }

  -- a push leaves the room, and the cells past the list as they were
  pub kept-push : (r s : Row X) (x : X) (b : Bool) → (b ≡ true → Pushed r s x) → (b ≡ false → s ≡ r) → Kept r s
  kept-push r s x b grants refuses = ⊎_elim (λ e. kept-pushed r s x (grants e)) (λ e. subst (Kept r) (sym (refuses e)) (kept_same r)) (cases_Bool b)

  -- what a row holds fits its room
  pub row_fits : (r : Row X) → over (room r) (items r) ≡ false
  row_fits r = let n = length-items r in let f = r.fits in le-ltb (room r) (length (items r)) (omega arith)

  -- one element more is too many exactly where no cell is left
  push_tells : (r : Row X) (x : X) → roomy r ≡ not (over (room r) (items r ++ x ∷ []))
  push_tells r x =
      let n = length-items r in
      let m = length_push (items r) x in
      ⊎_elim
      (λ l. lt-ltb r.count (room r) l ∙ sym (ap not (le-ltb (room r) (length (items r ++ x ∷ [])) (omega arith))))
      (λ l. le-ltb r.count (room r) l ∙ sym (ap not (lt-ltb (room r) (length (items r ++ x ∷ [])) (omega arith))))
      (cases_lt r.count (room r))

  pub becomes_push : (r s : Row X) (x : X) (b : Bool) → b ≡ roomy r → (b ≡ true → Pushed r s x) → (b ≡ false → s ≡ r) → Becomes r s (items r ++ x ∷ []) b
  becomes_push r s x b t grants refuses =
      record {
        kept = kept-push r s x b grants refuses;
        tells = t ∙ push_tells r x;
        granted = λ e. (grants e).items;
      }

  pub becomes_then : (r s t : Row X) (ys zs : List X) (b : Bool) → Becomes r s ys true → Becomes s t zs b → Becomes r t zs b
  becomes_then r s t ys zs b a h =
      record {
        kept = kept_then r s t a.kept h.kept;
        tells = h.tells ∙ ap (λ (n : ℕ). not (over n zs)) a.kept.room;
        granted = h.granted;
      }

  -- a row that was to hold ys, and after them x
  pub becomes_more : (r s t : Row X) (ys : List X) (x : X) (b : Bool) → Becomes r s ys true → b ≡ roomy s → (b ≡ true → Pushed s t x) → (b ≡ false → t ≡ s) → Becomes r t (ys ++ x ∷ []) b
  becomes_more r s t ys x b a e grants refuses =
      let P : List X → Type 0 = λ zs. Becomes r t (zs ++ x ∷ []) b in
      subst P (a.granted refl) (becomes_then r s t ys (items s ++ x ∷ []) b a (becomes_push s t x b e grants refuses))

  -- ---- fillers

  pub padded-none : (n : ℕ) (z : X) (xs : List X) → n ≤ length xs → padded n z xs ≡ xs
  padded-none n z xs l =
      let e : n - length xs ≡ 0 = omega arith in
      ap (λ (k : ℕ). xs ++ replicate k z) e ∙ append-nil xs

  pub padded-more : (n : ℕ) (z : X) (xs : List X) → length xs ≤ n → padded n z xs ++ z ∷ [] ≡ padded (n + 1) z xs
  padded-more n z xs l =
      let e : n - length xs + 1 ≡ n + 1 - length xs = omega arith in
      append_assoc xs (replicate (n - length xs) z) (z ∷ [])
      ∙ (ap (λ ys. xs ++ ys) (replicate_more (n - length xs) z) ∙ ap (λ (k : ℕ). xs ++ replicate k z) e)

  -- ---- an element that may be missing

  pub filled_more : (z : X) (xs : List X) → (length xs ≡ 0 → ⊥) → filled z xs ≡ xs ++ z ∷ []
  filled_more z xs e = cond-false (eqb (length xs) 0) xs (xs ++ z ∷ []) (ne_eqb (length xs) 0 e)

  pub placed_past : (xs : List X) (n : ℕ) (x : X) → length xs ≤ n → placed xs n x ≡ xs ++ x ∷ []
  placed_past xs n x l = cond-false (ltb n (length xs)) xs (xs ++ x ∷ []) (le-ltb n (length xs) l)
