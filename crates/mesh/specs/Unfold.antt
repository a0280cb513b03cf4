-- How faces unfold into corners.
--   skips o f        f is a point or a line that the options ignore
--   wanted o f       any other face
--   triangles cs     the corners of the triangles that a face of the corners cs is cut into
--   Event            what an export meets, one after the other: a corner to write, the arity of a face that is not
--                    triangulated (after its corners), or a face without corners where triangles are asked for
--   events o fs      those of the faces fs, in order
--   corners_of es    the corners among events
--   arities_of es    the arities among events
use Rattle.std.specs.Prelude.{ℕ, Bool, if◌then◌else◌, not, ◌&&◌, ◌||◌, List, [], ◌∷◌, ◌++◌, map, length, filter, ◌==◌}
use Rattle.std.specs.List.{flat_map}
use Rattle.elements.specs.declared.corner.VertexIndices.{VertexIndices}
use Rattle.elements.specs.declared.options.LoadOptions.{LoadOptions}

abbrev pub skips : LoadOptions → List VertexIndices → Bool
skips o f = o.ignore_points && length f == 1 || o.ignore_lines && length f == 2

abbrev pub wanted : LoadOptions → List VertexIndices → Bool
wanted o f = not (skips o f)

module _ {X : Type 0} where
  -- the triangles of a fan around a, the first of which has the side from a to b
  abbrev pub fan : X → X → List X → List X
  fan a b [] = []
  fan a b (c ∷ cs) = a ∷ b ∷ c ∷ fan a c cs

  -- a point and a line become one triangle each, with a corner repeated
  abbrev pub triangles : List X → List X
  triangles [] = []
  triangles (a ∷ []) = a ∷ a ∷ a ∷ []
  triangles (a ∷ b ∷ []) = a ∷ b ∷ b ∷ []
  triangles (a ∷ b ∷ c ∷ cs) = fan a b (c ∷ cs)

pub data Event : Type 0 where
  corner : VertexIndices → Event
  arity : ℕ → Event
  no_corner : Event

abbrev pub fanned : List VertexIndices → List Event
fanned [] = no_corner ∷ []
fanned (c ∷ cs) = map corner (triangles (c ∷ cs))

abbrev pub face_events : LoadOptions → List VertexIndices → List Event
face_events o f = if o.triangulate then fanned f else map corner f ++ arity (length f) ∷ []

abbrev pub events : LoadOptions → List (List VertexIndices) → List Event
events o fs = flat_map (face_events o) (filter (wanted o) fs)

abbrev pub corner_in : Event → List VertexIndices
corner_in (corner c) = c ∷ []
corner_in (arity n) = []
corner_in no_corner = []

abbrev pub arity_in : Event → List ℕ
arity_in (corner c) = []
arity_in (arity n) = n ∷ []
arity_in no_corner = []

abbrev pub corners_of : List Event → List VertexIndices
corners_of es = flat_map corner_in es

abbrev pub arities_of : List Event → List ℕ
arities_of es = flat_map arity_in es
