-- What a granted export passed: every one of its checks, and so each of its corners refers to elements that are there.
use Rattle.std.proofs.Common.{◌≡◌, ℕ, zero, suc, ◌<◌, Bool, true, false, cond, ◌&&◌, leb, List, [], ◌∷◌, ◌++◌, length, Some, None, refl, ◌∙◌, ⊎_elim, arith}
use Rattle.std.proofs.lemmas.Bool.{both_ways, leb-false, and_cases, cond-false}
use Rattle.elements.specs.declared.corner.VertexIndices.{VertexIndices}
use Rattle.elements.specs.declared.options.LoadOptions.{LoadOptions}
use Rattle.elements.specs.Checks.{first}
use Rattle.elements.specs.Contents.{Sources, Contents}
use Rattle.elements.specs.Corners.{refs}
use Rattle.mesh.specs.Unfold.{Event, corner, arity, no_corner, events, corners_of, arities_of}
use Rattle.mesh.specs.Surface.{Rooms, Capacities}
use Rattle.mesh.specs.Numbering.{some, names, v_of, vt_of, vn_of}
use Rattle.mesh.specs.Rules.{single_checks, multi_checks, corner_checks, checks, checks_after, all_checks, unmerged, export_checks, verdict}
use Rattle.mesh.specs.Merging.{merge_checks}
use Rattle.mesh.specs.Promises.{refs_at}

-- ---- no refusal: no condition holds

module _ {E : Type 0} where
  -- the condition of no check holds
  abbrev pub Passed : List (Bool × E) → Type 0
  Passed [] = Unit {0}
  Passed (c ∷ cs) = (c.0 ≡ false) × Passed cs

  pub none_passed : (cs : List (Bool × E)) → first cs ≡ None → Passed cs
  none_passed [] h = tt
  none_passed ((true, e) ∷ cs) h = let z : ◌≡◌ {A = ℕ} 0 1 = cc in absurd (omega arith)
  none_passed ((false, e) ∷ cs) h = (refl, none_passed cs h)

  pub passed_none : (cs : List (Bool × E)) → Passed cs → first cs ≡ None
  passed_none [] p = refl
  passed_none ((b, e) ∷ cs) p = cond-false b (Some e) (first cs) p.0 ∙ passed_none cs p.1

  pub passed_append : (cs ds : List (Bool × E)) → Passed (cs ++ ds) → Passed cs × Passed ds
  passed_append [] ds p = (tt, p)
  passed_append (c ∷ cs) ds p = let q = passed_append cs ds p.1 in ((p.0, q.0), q.1)

-- ---- a corner that passed its checks

-- the references of the key k lead to elements of s
pub record Within (s : Sources) (k : List ℕ) : Type 0 where
  pub position : v_of k < length s.positions
  pub texture : names s.textures (vt_of k) ≡ true → vt_of k < length s.textures
  pub normal : names s.normals (vn_of k) ≡ true → vn_of k < length s.normals
  pub colour : some s.colours ≡ true → v_of k < length s.colours

-- where a test holds and the bounds check behind it does not, the reference is below the count
below_checked : (b : Bool) (n r : ℕ) → (b && leb n r) ≡ false → b ≡ true → r < n
below_checked b n r h t = ⊎_elim (λ f. absurd (both_ways b f t)) (λ f. leb-false n r f) (and_cases b (leb n r) h)

module _ (s : Sources) (rs : Rooms) (n : Capacities) (ns : List ℕ) (cs : List VertexIndices) (c : VertexIndices) where
  single-within : Passed (single_checks s rs n ns cs c) → Within s (refs c)
  single-within p =
      record {
        position = leb-false _ _ p.0;
        texture = below_checked _ _ _ p.1.0;
        normal = below_checked _ _ _ p.1.1.0;
        colour = below_checked _ _ _ p.1.1.1.0;
      }

  multi-within : Passed (multi_checks s rs n ns cs c) → Within s (refs c)
  multi-within p =
      record {
        position = leb-false _ _ p.0;
        colour = below_checked _ _ _ p.1.0;
        texture = below_checked _ _ _ p.1.1.0;
        normal = below_checked _ _ _ p.1.1.1.0;
      }

module _ (o : LoadOptions) (s : Sources) (rs : Rooms) (n : Capacities) where
  corner-within : (ns : List ℕ) (cs : List VertexIndices) (c : VertexIndices) → Passed (corner_checks o s rs n ns cs c) → Within s (refs c)
  corner-within ns cs c =
      elim o.single_index as (λ b. Passed (cond b (single_checks s rs n ns cs c) (multi_checks s rs n ns cs c)) → Within s (refs c)) [
        | true ↦ single-within s rs n ns cs c
        | false ↦ multi-within s rs n ns cs c
      ]

  next_within : (es : List Event) (f : Event) (fs : List Event) → Passed (checks o s rs n es f) → ((i : ℕ) → i < length (corners_of fs) → Within s (refs_at (corners_of fs) i)) → (i : ℕ) → i < length (corners_of (f ∷ fs)) → Within s (refs_at (corners_of (f ∷ fs)) i)
  next_within es (corner c) fs p rest zero l = corner-within (arities_of es) (corners_of es) c p
  next_within es (corner c) fs p rest (suc i) l = rest i (omega arith)
  next_within es (arity k) fs p rest i l = rest i l
  next_within es no_corner fs p rest i l = rest i l

  -- each corner among events that passed, after any others
  after_within : (es fs : List Event) → Passed (checks_after o s rs n es fs) → (i : ℕ) → i < length (corners_of fs) → Within s (refs_at (corners_of fs) i)
  after_within es [] p i l = absurd (omega arith)
  after_within es (f ∷ fs) p i l =
      let q = passed_append (checks o s rs n es f) (checks_after o s rs n (es ++ f ∷ []) fs) p in
      next_within es f fs q.0 (after_within (es ++ f ∷ []) fs q.1) i l

-- ---- a granted export

pub record Granted (o : LoadOptions) (s : Sources) (cs : List VertexIndices) : Type 0 where
  -- merging needs separate indices
  pub apart : (o.single_index && o.merge_identical_points) ≡ false
  pub within : (i : ℕ) → i < length cs → Within s (refs_at cs i)

pub granted : (o : LoadOptions) (c : Contents) (rs : Rooms) (n : Capacities) → verdict o c rs n ≡ None → Granted o c.sources (corners_of (events o c.waiting))
granted o c rs n h =
    let p = none_passed (export_checks o c rs n) h in
    let q = passed_append (all_checks o c.sources rs n (events o c.waiting)) (cond o.merge_identical_points (merge_checks rs n (unmerged o c)) []) p.1 in
    record { apart = p.0; within = after_within o c.sources rs n [] (events o c.waiting) q.0 }
