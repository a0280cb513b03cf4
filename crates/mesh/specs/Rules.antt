-- When an export is refused, and what a granted one makes.
--   outside xs r            r asks for an element of xs that is not there
--   single_checks           the checks of a corner c after the corners cs, in their order, where one number stands for a corner
--   multi_checks            the same where positions, textures and normals are numbered apart
--   checks o s rs n es e    those of the event e after the events es
--   all_checks o s rs n es  those of the events es, one after the other
--   verdict                 why an export is refused, or none
--   finished                the mesh of a granted one
use Rattle.std.specs.Prelude.{ℕ, Bool, true, if◌then◌else◌, ◌&&◌, List, [], ◌∷◌, ◌++◌, length, Option, ◌==◌, nat_le}
use Rattle.std.specs.List.{list_all}
use Rattle.elements.specs.declared.corner.VertexIndices.{VertexIndices}
use Rattle.elements.specs.declared.options.LoadOptions.{LoadOptions}
use Rattle.elements.specs.declared.error.LoadError.{LoadError}
use Rattle.elements.specs.declared.error.LoadError.TheVariants.{InvalidLoadOptionConfig, InvalidPolygon, FaceVertexOutOfBounds, FaceTexCoordOutOfBounds, FaceNormalOutOfBounds, FaceColorOutOfBounds, TableFull, MeshFull}
use Rattle.elements.specs.Checks.{first}
use Rattle.elements.specs.Contents.{Sources, Contents}
use Rattle.elements.specs.First.{distinct}
use Rattle.mesh.specs.Unfold.{Event, corner, arity, no_corner, events, corners_of, arities_of}
use Rattle.mesh.specs.Surface.{Surface, Rooms, Capacities, over, lacks}
use Rattle.mesh.specs.Numbering.{some, names, corner_keys, single, multi, multi_keys, numbered, drawn, crowded, with_arities}
use Rattle.mesh.specs.Merging.{merged, merge_checks}

abbrev pub outside : List (List ℕ) → ℕ → Bool
outside xs r = names xs r && nat_le (length xs) r

-- a corner has a colour beside its position, if there are colours
abbrev pub uncoloured : List (List ℕ) → ℕ → Bool
uncoloured xs v = some xs && nat_le (length xs) v

module _ (s : Sources) (rs : Rooms) (n : Capacities) (ns : List ℕ) (cs : List VertexIndices) (c : VertexIndices) where
  abbrev pub single_checks : List (Bool × LoadError)
  single_checks =
      (nat_le (length s.positions) c.v, FaceVertexOutOfBounds)
      ∷ (outside s.textures c.vt, FaceTexCoordOutOfBounds)
      ∷ (outside s.normals c.vn, FaceNormalOutOfBounds)
      ∷ (uncoloured s.colours c.v, FaceColorOutOfBounds)
      ∷ (over n.corners (distinct (corner_keys (cs ++ c ∷ []))), TableFull)
      ∷ (lacks rs (with_arities ns (single s (cs ++ c ∷ []))), MeshFull)
      ∷ []

  abbrev pub multi_checks : List (Bool × LoadError)
  multi_checks =
      (nat_le (length s.positions) c.v, FaceVertexOutOfBounds)
      ∷ (uncoloured s.colours c.v, FaceColorOutOfBounds)
      ∷ (outside s.textures c.vt, FaceTexCoordOutOfBounds)
      ∷ (outside s.normals c.vn, FaceNormalOutOfBounds)
      ∷ (crowded n (multi_keys s (cs ++ c ∷ [])), TableFull)
      ∷ (lacks rs (with_arities ns (multi s (cs ++ c ∷ []))), MeshFull)
      ∷ []

module _ (o : LoadOptions) (s : Sources) (rs : Rooms) (n : Capacities) where
  abbrev pub corner_checks : List ℕ → List VertexIndices → VertexIndices → List (Bool × LoadError)
  corner_checks ns cs c = if o.single_index then single_checks s rs n ns cs c else multi_checks s rs n ns cs c

  abbrev pub arity_checks : List ℕ → List VertexIndices → ℕ → List (Bool × LoadError)
  arity_checks ns cs k = (lacks rs (with_arities (ns ++ k ∷ []) (numbered o s cs)), MeshFull) ∷ []

  abbrev pub checks : List Event → Event → List (Bool × LoadError)
  checks es (corner c) = corner_checks (arities_of es) (corners_of es) c
  checks es (arity k) = arity_checks (arities_of es) (corners_of es) k
  checks es no_corner = (true, InvalidPolygon) ∷ []

  -- those of the events fs after the events es
  abbrev pub checks_after : List Event → List Event → List (Bool × LoadError)
  checks_after es [] = []
  checks_after es (f ∷ fs) = checks es f ++ checks_after (es ++ f ∷ []) fs

  abbrev pub all_checks : List Event → List (Bool × LoadError)
  all_checks es = checks_after [] es

-- every face has three corners
abbrev pub all_three : List ℕ → Bool
all_three ns = list_all (λ n. n == 3) ns

-- arities that say no more than that are left out
abbrev pub trimmed : Surface → Surface
trimmed m = with_arities (if all_three m.arities then [] else m.arities) m

-- the mesh of the waiting faces before anything is merged
abbrev pub unmerged : LoadOptions → Contents → Surface
unmerged o c = drawn o c.sources (events o c.waiting)

abbrev pub export_checks : LoadOptions → Contents → Rooms → Capacities → List (Bool × LoadError)
export_checks o c rs n =
    (o.single_index && o.merge_identical_points, InvalidLoadOptionConfig)
    ∷ (all_checks o c.sources rs n (events o c.waiting)
    ++ (if o.merge_identical_points then merge_checks rs n (unmerged o c) else []))

abbrev pub verdict : LoadOptions → Contents → Rooms → Capacities → Option LoadError
verdict o c rs n = first (export_checks o c rs n)

abbrev pub finished : LoadOptions → Contents → Surface
finished o c = if o.merge_identical_points then merged (trimmed (unmerged o c)) else trimmed (unmerged o c)
