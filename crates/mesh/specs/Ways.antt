-- The ways in which a face unfolds.
--   GivesBy o f w    what the way w means for the events of the face f, under the options o
--   Unfolds o f w    under the options o the face f unfolds in the way w, or is skipped where there is none
use Rattle.std.specs.Prelude.{◌≡◌, ◌≤◌, true, false, List, [], ◌∷◌, ◌++◌, map, length, Option, Some, None}
use Rattle.elements.specs.declared.corner.VertexIndices.{VertexIndices}
use Rattle.elements.specs.declared.options.LoadOptions.{LoadOptions}
use Rattle.mesh.specs.declared.unfold.Unfolding.{Unfolding}
use Rattle.mesh.specs.declared.unfold.Unfolding.TheVariants.{Empty, Point, Line, Fan, Plain}
use Rattle.mesh.specs.Unfold.{skips, triangles, corner, arity, no_corner, face_events}

abbrev pub GivesBy : LoadOptions → List VertexIndices → Unfolding → Type 0
GivesBy o f Empty = face_events o f ≡ no_corner ∷ []
GivesBy o f Point = (face_events o f ≡ map corner (triangles f)) × (length f ≡ 1)
GivesBy o f Line = (face_events o f ≡ map corner (triangles f)) × (length f ≡ 2)
GivesBy o f Fan = (face_events o f ≡ map corner (triangles f)) × (3 ≤ length f)
GivesBy o f Plain = face_events o f ≡ map corner f ++ arity (length f) ∷ []

abbrev pub Unfolds : LoadOptions → List VertexIndices → Option Unfolding → Type 0
Unfolds o f None = skips o f ≡ true
Unfolds o f (Some w) = (skips o f ≡ false) × GivesBy o f w
