-- Waiting faces, one after the other.
use Rattle.std.proofs.Common.{◌≡◌, ℕ, ◌+◌, ◌<◌, ◌≤◌, Bool, true, false, cond, not, List, [], ◌∷◌, ◌++◌, length, get_or, take, drop, filter, sym, refl, ap, ◌∙◌, subst, arith}
use Rattle.std.specs.List.{flat_map}
use Rattle.std.proofs.lemmas.List.{get_or-map, drop_more, length-map}
use Rattle.std.proofs.lemmas.List.Elements.{filter-append}
use Rattle.std.proofs.lemmas.List.Filters.{length-filter_more, length-filter_both}
use Rattle.elements.specs.declared.corner.VertexIndices.{VertexIndices}
use Rattle.elements.specs.declared.corner.Face.{Face}
use Rattle.elements.specs.declared.options.LoadOptions.{LoadOptions}
use Rattle.elements.specs.declared.waiting.Waiting.{Waiting}
use Rattle.elements.specs.Contents.{faces_of}
use Rattle.elements.specs.Rows.{items}
use Rattle.elements.specs.Tiles.{part}
use Rattle.elements.proofs.TileFacts.{tiles-at}
use Rattle.mesh.specs.Unfold.{skips, wanted, face_events, events}
use Rattle.mesh.proofs.UnfoldFacts.{joined-append}

-- written and skipped faces are all faces
pub count_both : (o : LoadOptions) (fs : List (List VertexIndices)) → length (filter (wanted o) fs) + length (filter (skips o) fs) ≡ length fs
count_both o fs = length-filter_both (wanted o) (skips o) (λ f. not-not (skips o f)) fs
  where
    not-not : (b : Bool) → b ≡ not (not b)
    not-not true = refl
    not-not false = refl

-- the face at a place
module _ (w : Waiting) (fs : List Face) (e : fs ≡ items w.faces) (i : ℕ) (d : Face) (l : i < length fs) where
  here : i < length (items w.faces)
  here = subst (λ xs. i < length xs) e l

  pub face-inside : (get_or fs i d).start + (get_or fs i d).count ≤ w.corners.count
  face-inside = subst (λ xs. (get_or xs i d).start + (get_or xs i d).count ≤ w.corners.count) (sym e) (tiles-at (items w.faces) 0 w.corners.count w.tiled i d here)

  module _ (o p : LoadOptions) (same : p ≡ o) (f : List VertexIndices) (is : f ≡ part (items w.corners) (get_or fs i d)) where
    face_is : get_or (faces_of w) i [] ≡ f
    face_is = get_or-map (part (items w.corners)) (items w.faces) i d [] here ∙ sym (is ∙ ap (λ xs. part (items w.corners) (get_or xs i d)) e)

    inside : i < length (faces_of w)
    inside = let n = length-map (items w.faces) (part (items w.corners)) in let h = here in omega arith

    -- its events, and those of the faces after it
    events_next : events o (drop i (faces_of w)) ≡ events p (f ∷ []) ++ events o (drop (i + 1) (faces_of w))
    events_next =
        ap (events o) (drop_more (faces_of w) i [] inside)
        ∙ (ap (λ x. events o (x ∷ drop (i + 1) (faces_of w))) face_is
        ∙ (ap (flat_map (face_events o)) (filter-append (wanted o) (f ∷ []) (drop (i + 1) (faces_of w)))
        ∙ (joined-append (face_events o) (filter (wanted o) (f ∷ [])) (filter (wanted o) (drop (i + 1) (faces_of w)))
        ∙ ap (λ x. events x (f ∷ []) ++ events o (drop (i + 1) (faces_of w))) (sym same))))

    count_next : (b : Bool) → skips p f ≡ b → length (filter (wanted o) (take (i + 1) (faces_of w))) ≡ length (filter (wanted o) (take i (faces_of w))) + cond (not b) 1 0
    count_next b s =
        length-filter_more (wanted o) (faces_of w) i [] inside
        ∙ ap (λ c. length (filter (wanted o) (take i (faces_of w))) + cond {A = ℕ} (not c) 1 0) (ap (skips o) face_is ∙ (ap (λ x. skips x f) (sym same) ∙ s))

    -- where it is skipped, and where it is not
    pub skipped_next : skips p f ≡ true
        → (events o (drop i (faces_of w)) ≡ events o (drop (i + 1) (faces_of w)))
        × (length (filter (wanted o) (take (i + 1) (faces_of w))) ≡ length (filter (wanted o) (take i (faces_of w))) + 0)
    skipped_next s = (events_next ∙ ap (λ b. flat_map (face_events p) (cond (not b) (f ∷ []) []) ++ events o (drop (i + 1) (faces_of w))) s, count_next true s)

    pub wanted_next : skips p f ≡ false
        → (events o (drop i (faces_of w)) ≡ events p (f ∷ []) ++ events o (drop (i + 1) (faces_of w)))
        × (length (filter (wanted o) (take (i + 1) (faces_of w))) ≡ length (filter (wanted o) (take i (faces_of w))) + 1)
    wanted_next s = (events_next, count_next false s)
