-- The arities among the events of an export, and how they add up to its corners.
use Rattle.std.proofs.Common.{◌≡◌, ℕ, ◌+◌, ◌*◌, true, false, cond, eqb, List, [], ◌∷◌, ◌++◌, map, length, filter, sym, refl, ap, ◌∙◌, arith}
use Rattle.std.specs.List.{flat_map}
use Rattle.std.proofs.lemmas.Bool.{eqb-true, and_parts, cond-true, cond-false}
use Rattle.std.proofs.lemmas.List.{append-nil, append_assoc, length-append}
use Rattle.elements.specs.declared.corner.VertexIndices.{VertexIndices}
use Rattle.elements.specs.declared.options.LoadOptions.{LoadOptions}
use Rattle.mesh.specs.Unfold.{wanted, triangles, corner, arity, fanned, face_events, events, corner_in, arity_in, corners_of, arities_of}
use Rattle.mesh.specs.Surface.{Surface}
use Rattle.mesh.specs.Rules.{all_three}
use Rattle.mesh.specs.Promises.{written_arities, total, ArityPromise}

pub joined-append : {X Y : Type 0} (f : X → List Y) (xs ys : List X) → flat_map f (xs ++ ys) ≡ flat_map f xs ++ flat_map f ys
joined-append f [] ys = refl
joined-append f (x ∷ xs) ys = ap (λ zs. f x ++ zs) (joined-append f xs ys) ∙ sym (append_assoc (f x) (flat_map f xs) (flat_map f ys))

pub corners_among : (cs : List VertexIndices) → corners_of (map corner cs) ≡ cs
corners_among [] = refl
corners_among (c ∷ cs) = ap (λ ds. c ∷ ds) (corners_among cs)

pub arities_among : (cs : List VertexIndices) → arities_of (map corner cs) ≡ []
arities_among [] = refl
arities_among (c ∷ cs) = arities_among cs

fanned-arities : (f : List VertexIndices) → arities_of (fanned f) ≡ []
fanned-arities [] = refl
fanned-arities (c ∷ cs) = arities_among (triangles (c ∷ cs))

module _ (o : LoadOptions) where
  -- triangles have no arities
  all-fanned : o.triangulate ≡ true → (fs : List (List VertexIndices)) → arities_of (flat_map (face_events o) fs) ≡ []
  all-fanned t [] = refl
  all-fanned t (f ∷ fs) =
      joined-append arity_in (face_events o f) (flat_map (face_events o) fs)
      ∙ ap (λ ns. ns ++ arities_of (flat_map (face_events o) fs)) (ap arities_of (cond-true o.triangulate (fanned f) (map corner f ++ arity (length f) ∷ []) t) ∙ fanned-arities f)
      ∙ all-fanned t fs

  module _ (u : o.triangulate ≡ false) where
    as_they_are : (f : List VertexIndices) → face_events o f ≡ map corner f ++ arity (length f) ∷ []
    as_they_are f = cond-false o.triangulate (fanned f) (map corner f ++ arity (length f) ∷ []) u

    all-counted : (fs : List (List VertexIndices)) → arities_of (flat_map (face_events o) fs) ≡ map length fs
    all-counted [] = refl
    all-counted (f ∷ fs) =
        joined-append arity_in (face_events o f) (flat_map (face_events o) fs)
        ∙ ap (λ ns. ns ++ arities_of (flat_map (face_events o) fs))
        (ap arities_of (as_they_are f) ∙ joined-append arity_in (map corner f) (arity (length f) ∷ []) ∙ ap (λ ns. ns ++ length f ∷ []) (arities_among f))
        ∙ ap (λ ns. length f ∷ ns) (all-counted fs)

    face-corners : (f : List VertexIndices) → corners_of (face_events o f) ≡ f
    face-corners f = ap corners_of (as_they_are f) ∙ joined-append corner_in (map corner f) (arity (length f) ∷ []) ∙ append-nil (corners_of (map corner f)) ∙ corners_among f

    all_summed : (fs : List (List VertexIndices)) → length (corners_of (flat_map (face_events o) fs)) ≡ total (map length fs)
    all_summed [] = refl
    all_summed (f ∷ fs) =
        ap length (joined-append corner_in (face_events o f) (flat_map (face_events o) fs))
        ∙ length-append (corners_of (face_events o f)) (corners_of (flat_map (face_events o) fs))
        ∙ ap (λ cs. length cs + length (corners_of (flat_map (face_events o) fs))) (face-corners f)
        ∙ ap (λ (n : ℕ). length f + n) (all_summed fs)

total-threes : (ns : List ℕ) → all_three ns ≡ true → total ns ≡ 3 * length ns
total-threes [] t = refl
total-threes (n ∷ ns) t =
    let p = and_parts (eqb n 3) (all_three ns) t in
    let three = eqb-true n 3 p.0 in
    let rest = total-threes ns p.1 in
    omega arith

-- a mesh with the trimmed arities of the events, and an index for each corner
pub arity_promise : (o : LoadOptions) (fs : List (List VertexIndices)) (m : Surface) →
    m.arities ≡ cond (all_three (arities_of (events o fs))) [] (arities_of (events o fs)) → length m.indices ≡ length (corners_of (events o fs)) → ArityPromise o fs m
arity_promise o fs m trims counts =
    let trim : List ℕ → List ℕ = λ ns. cond (all_three ns) [] ns in
    record {
      triangles = λ t. trims ∙ ap trim (all-fanned o t (filter (wanted o) fs));
      threes = λ u t. (
        trims ∙ ap trim (all-counted o u (filter (wanted o) fs)) ∙ cond-true (all_three (written_arities o fs)) [] (written_arities o fs) t,
        counts ∙ all_summed o u (filter (wanted o) fs) ∙ total-threes (written_arities o fs) t,
      );
      others = λ u t.
          let same : m.arities ≡ written_arities o fs = trims ∙ ap trim (all-counted o u (filter (wanted o) fs)) ∙ cond-false (all_three (written_arities o fs)) [] (written_arities o fs) t in
          (same, counts ∙ all_summed o u (filter (wanted o) fs) ∙ ap total (sym same));
    }
