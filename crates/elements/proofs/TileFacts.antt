-- Laws of faces that stand one after the other over a list of corners.
use Rattle.std.proofs.Common.{◌≡◌, ℕ, zero, suc, ◌+◌, ◌<◌, ◌≤◌, Bool, true, false, ◌&&◌, T, eqb, List, [], ◌∷◌, ◌++◌, map, length, get_or, take, drop, sym, refl, ap, ◌∙◌, subst, arith}
use Rattle.std.specs.List.{flat_map}
use Rattle.std.proofs.lemmas.Bool.{eqb-true, eq-eqb}
use Rattle.std.proofs.lemmas.List.{length-append, length-take-le, length-drop, length-map, take-append-le, drop-append-le, take_all, drop_at, map_push, get_or-take, get_or-drop}
use Rattle.elements.specs.declared.corner.Face.{Face}
use Rattle.elements.specs.declared.corner.VertexIndices.{VertexIndices}
use Rattle.elements.specs.declared.waiting.Waiting.{Waiting}
use Rattle.elements.specs.Contents.{faces_of}
use Rattle.elements.specs.Rows.{items}
use Rattle.elements.specs.Tiles.{part, tiles}
use Rattle.elements.proofs.RowFacts.{length-items}

true_from : (b : Bool) → T b → b ≡ true
true_from true t = refl
true_from false t = absurd t

from_true : (b : Bool) → b ≡ true → T b
from_true b e = let P : Bool → Type 0 = λ x. T x in subst P (sym e) tt

left_of : (a b : Bool) → T (a && b) → T a
left_of true b h = tt
left_of false b h = absurd h

right_of : (a b : Bool) → T (a && b) → T b
right_of true b h = h
right_of false b h = absurd h

both_of : (a b : Bool) → T a → T b → T (a && b)
both_of true b x y = y
both_of false b x y = absurd x

from_eqb : (a b : ℕ) → T (eqb a b) → a ≡ b
from_eqb a b t = eqb-true a b (true_from (eqb a b) t)

to_eqb : (a b : ℕ) → a ≡ b → T (eqb a b)
to_eqb a b e = from_true (eqb a b) (eq-eqb a b e)

-- the first face begins at n, and the others tile the rest
module _ (f : Face) (fs : List Face) (n m : ℕ) (t : T (tiles n (f ∷ fs) m)) where
  starts : f.start ≡ n
  starts = from_eqb f.start n (left_of (eqb f.start n) _ t)

  goes_on : T (tiles (n + f.count) fs m)
  goes_on = right_of (eqb f.start n) _ t

tiles_upto : (fs : List Face) (n m : ℕ) → T (tiles n fs m) → n ≤ m
tiles_upto [] n m t = let e = from_eqb n m t in omega arith
tiles_upto (f ∷ fs) n m t = let h = tiles_upto fs (n + f.count) m (goes_on f fs n m t) in omega arith

-- one face more, over the corners after all others
pub tiles_push : (fs : List Face) (n m k : ℕ) → T (tiles n fs m) → T (tiles n (fs ++ (record { start = m; count = k }) ∷ []) (m + k))
tiles_push [] n m k t =
    let e = from_eqb n m t in
    both_of (eqb m n) (eqb (n + k) (m + k)) (to_eqb m n (sym e)) (to_eqb (n + k) (m + k) (ap (λ x. x + k) e))
tiles_push (f ∷ fs) n m k t =
    both_of (eqb f.start n) _ (left_of (eqb f.start n) _ t) (tiles_push fs (n + f.count) m k (goes_on f fs n m t))

-- each face lies within the corners
pub tiles-at : (fs : List Face) (n m : ℕ) → T (tiles n fs m) → (i : ℕ) (d : Face) → i < length fs → (get_or fs i d).start + (get_or fs i d).count ≤ m
tiles-at [] n m t i d l = absurd (omega arith)
tiles-at (f ∷ fs) n m t zero d l =
    let e = starts f fs n m t in
    let up = tiles_upto fs (n + f.count) m (goes_on f fs n m t) in
    omega arith
tiles-at (f ∷ fs) n m t (suc i) d l = tiles-at fs (n + f.count) m (goes_on f fs n m t) i d (omega arith)

module _ {X : Type 0} (cs : List X) (m : ℕ) (here : m ≤ length cs) where
  pub length_part : (f : Face) → f.start + f.count ≤ m → length (part cs f) ≡ f.count
  length_part f l = let d = length-drop f.start cs in length-take-le f.count (drop f.start cs) (omega arith)

  -- as many corners as the faces have
  length-parts : (fs : List Face) (n : ℕ) → T (tiles n fs m) → length (flat_map (λ f. f) (map (part cs) fs)) + n ≡ m
  length-parts [] n t = let e = from_eqb n m t in omega arith
  length-parts (f ∷ fs) n t =
      let e = starts f fs n m t in
      let up = tiles_upto fs (n + f.count) m (goes_on f fs n m t) in
      let one = length_part f (omega arith) in
      let again = length-parts fs (n + f.count) (goes_on f fs n m t) in
      let sum = length-append (part cs f) (flat_map (λ g. g) (map (part cs) fs)) in
      omega arith

  part-append : (ds : List X) (f : Face) → f.start + f.count ≤ m → part (cs ++ ds) f ≡ part cs f
  part-append ds f l =
      let d = length-drop f.start cs in
      ap (take f.count) (drop-append-le f.start cs ds (omega arith)) ∙ take-append-le f.count (drop f.start cs) ds (omega arith)

  -- more corners change no face
  parts-append : (ds : List X) (fs : List Face) (n : ℕ) → T (tiles n fs m) → map (part (cs ++ ds)) fs ≡ map (part cs) fs
  parts-append ds [] n t = refl
  parts-append ds (f ∷ fs) n t =
      let e = starts f fs n m t in
      let up = tiles_upto fs (n + f.count) m (goes_on f fs n m t) in
      let one = part-append ds f (omega arith) in
      let again = parts-append ds fs (n + f.count) (goes_on f fs n m t) in
      cc

part-last : {X : Type 0} (cs ds : List X) (n : ℕ) → length cs ≡ n → part (cs ++ ds) (record { start = n; count = length ds }) ≡ ds
part-last cs ds n e = ap (take (length ds)) (drop_at cs ds n e) ∙ take_all (length ds) ds (omega arith)

pub part_read : {X : Type 0} (cs : List X) (f : Face) (k : ℕ) (d : X) → k < f.count → get_or (part cs f) k d ≡ get_or cs (f.start + k) d
part_read cs f k d l = get_or-take f.count (drop f.start cs) k d l ∙ get_or-drop f.start cs k d

module _ (w : Waiting) where
  -- the waiting faces have all waiting corners
  pub corners-waiting : length (flat_map (λ f. f) (faces_of w)) ≡ w.corners.count
  corners-waiting =
      let l = length-items w.corners in
      let h = length-parts (items w.corners) w.corners.count (omega arith) (items w.faces) 0 w.tiled in
      omega arith

  pub faces-waiting : length (faces_of w) ≡ w.faces.count
  faces-waiting = length-map (items w.faces) (part (items w.corners)) ∙ length-items w.faces

  -- a face more, with the corners xs after all others
  pub faces-more : (cs : List VertexIndices) (fs : List Face) (xs : List VertexIndices)
      → cs ≡ items w.corners ++ xs → fs ≡ items w.faces ++ (record { start = w.corners.count; count = length xs }) ∷ []
      → map (part cs) fs ≡ faces_of w ++ xs ∷ []
  faces-more cs fs xs ec ef =
      let l = length-items w.corners in
      let new : Face = record { start = w.corners.count; count = length xs } in
      let cells_are : map (part cs) fs ≡ map (part (items w.corners ++ xs)) (items w.faces ++ new ∷ []) = cc (ec, ef) in
      let pushed-is = map_push (part (items w.corners ++ xs)) (items w.faces) new in
      let others-are = parts-append (items w.corners) w.corners.count (omega arith) xs (items w.faces) 0 w.tiled in
      let last-is = part-last (items w.corners) xs w.corners.count l in
      cc
