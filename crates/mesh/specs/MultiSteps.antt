-- The stages by which one corner comes into a mesh that numbers positions, textures and normals apart.
--   reference_checks s c   what is checked of the references of the corner c before anything is entered, in order
--   looking_checks a c     the same checks against the lists of elements
--   Coloured               the colour beside a position, if there are colours
--   Looks                  what the references of a corner name
--   Brings                 what the corner c, after the corners cs, brings to the lists of a mesh
--   Numbers                the three tables took what it brings
--   FullTable              one of them did not
--   Numbered               what the three tables answered
--   Ready                  the three tables have the capacities n and are sound, and hold no more than they have room for
--   keys_of, keys_in       the keys of the three tables, beside those of corners
--   Tinted                 whether the list of colours took the colour of a new position
--   Tints                  the same, from any keys that the list was made of
--   Drew                   whether the lists took it
use Rattle.std.specs.Prelude.{◌≡◌, ℕ, ◌<◌, ◌≤◌, Bool, true, false, not, ◌⊎◌, List, [], ◌∷◌, ◌++◌, map, length, Some, None, Option, Result, MatchResult, nat_le}
use Rattle.elements.specs.declared.corner.VertexIndices.{VertexIndices}
use Rattle.elements.specs.declared.error.LoadError.{LoadError}
use Rattle.elements.specs.declared.error.LoadError.TheVariants.{FaceVertexOutOfBounds, FaceTexCoordOutOfBounds, FaceNormalOutOfBounds, FaceColorOutOfBounds, TableFull}
use Rattle.elements.specs.declared.attributes.Attributes.{Attributes}
use Rattle.elements.specs.declared.row.Row.{Row}
use Rattle.elements.specs.declared.point.Point.{Point}
use Rattle.elements.specs.declared.point.Pair.{Pair}
use Rattle.elements.specs.Bits.{point_bits, pair_bits}
use Rattle.elements.specs.Contents.{Sources}
use Rattle.elements.specs.First.{place, entered}
use Rattle.elements.specs.Rows.{items, room}
use Rattle.tables.specs.declared.key.Reference.{Reference}
use Rattle.tables.specs.declared.table.CornerTable.{Ghosts}
use Rattle.mesh.specs.declared.lists.Lists.{Lists}
use Rattle.mesh.specs.declared.multi.Corner.{Corner}
use Rattle.mesh.specs.declared.stream.Named.{Named}
use Rattle.mesh.specs.Surface.{Surface, Rooms, Capacities, over, lacks}
use Rattle.mesh.specs.Numbering.{Keys, some, element, v_of, coloured, position_refs, texture_refs, normal_refs, multi, with_arities}
use Rattle.mesh.specs.Rules.{outside, uncoloured}
use Rattle.mesh.specs.Single.{At}
use Rattle.mesh.specs.Streams.{meant, Names, lost, LookedUp}

abbrev pub reference_checks : Sources → VertexIndices → List (Bool × LoadError)
reference_checks s c =
    (nat_le (length s.positions) c.v, FaceVertexOutOfBounds)
    ∷ (uncoloured s.colours c.v, FaceColorOutOfBounds)
    ∷ (outside s.textures c.vt, FaceTexCoordOutOfBounds)
    ∷ (outside s.normals c.vn, FaceNormalOutOfBounds)
    ∷ []

abbrev pub Coloured : List (List ℕ) → ℕ → Option Point → Type 0
Coloured xs v None = some xs ≡ false
Coloured xs v (Some p) = (some xs ≡ true) × (point_bits p ≡ element xs v)

abbrev pub looking_checks : Attributes → VertexIndices → List (Bool × LoadError)
looking_checks a c =
    (nat_le a.positions.count c.v, FaceVertexOutOfBounds)
    ∷ (lost a.colours c.v, FaceColorOutOfBounds)
    ∷ (lost a.textures c.vt, FaceTexCoordOutOfBounds)
    ∷ (lost a.normals c.vn, FaceNormalOutOfBounds)
    ∷ []

pub record Looks (a : Attributes) (c : VertexIndices) (l : Lists) (k : Corner Reference) : Type 0 where
  pub position : k.position.at ≡ c.v
  pub point : At a.positions c.v (Some k.point)
  pub colour : (lost a.colours c.v ≡ false) × At a.colours c.v k.colour
  pub texture : LookedUp a.textures l.texcoord_indices c.vt (Some k.texture)
  pub normal : LookedUp a.normals l.normal_indices c.vn (Some k.normal)

-- the corner k, with numbers in place of its references, is j
pub record Numbers (P : Option ℕ → Type 0) (T : Option (Named ℕ Pair) → Type 0) (N : Option (Named ℕ Point) → Type 0) (k : Corner Reference) (j : Corner ℕ) : Type 0 where
  pub position : P (Some j.position)
  pub texture : T (Some j.texture)
  pub normal : N (Some j.normal)
  pub point : j.point ≡ k.point
  pub colour : j.colour ≡ k.colour

-- one of three tables is full
abbrev pub FullTable : (P : Option ℕ → Type 0) (T : Option (Named ℕ Pair) → Type 0) (N : Option (Named ℕ Point) → Type 0) → LoadError → Type 0
FullTable P T N e = (e ≡ TableFull) × (P None ⊎ (T None ⊎ N None))

-- the three tables answered r for the corner k
abbrev pub Numbered : (P : Option ℕ → Type 0) (T : Option (Named ℕ Pair) → Type 0) (N : Option (Named ℕ Point) → Type 0) → Corner Reference → Result (Corner ℕ) LoadError → Type 0
Numbered P T N k r = MatchResult r (Numbers P T N k) (FullTable P T N)

abbrev pub keys_of : List (List ℕ) → List (List ℕ) → List (List ℕ) → List (List ℕ) → Keys
keys_of ks ps ts ns = record { corners = ks; positions = ps; textures = ts; normals = ns }

-- three tables, each with its own words
module _ {X Y Z : Type 0} (P : Ghosts X Reference) (T : Ghosts Y Reference) (N : Ghosts Z Reference) where
  pub record Ready (n : Capacities) (p : X) (t : Y) (o : Z) : Type 0 where
    pub capacities : (n.positions ≡ P.capacity p) × (n.textures ≡ T.capacity t) × (n.normals ≡ N.capacity o)
    pub sound : P.sound p × T.sound t × N.sound o
    pub within : (length (T.keys t) ≤ T.capacity t) × (length (N.keys o) ≤ N.capacity o)

  abbrev pub keys_in : List (List ℕ) → X → Y → Z → Keys
  keys_in ks p t o = keys_of ks (P.keys p) (T.keys t) (N.keys o)

-- a list with room for a, which became es for the keys ks, answered t
pub record Tinted (xs ks : List (List ℕ)) (a : ℕ) (es : List (List ℕ)) (t : Bool) : Type 0 where
  pub tells : t ≡ not (over a (coloured xs ks))
  pub colours : t ≡ true → es ≡ coloured xs ks

-- the colours r, which were to have the colour o of a key that has the number n, became r', and t was answered
abbrev pub Tints : Row Point → ℕ → Option Point → Row Point → Bool → Type 0
Tints r n o r' t =
    (xs ks : List (List ℕ)) (k : List ℕ) → map point_bits (items r) ≡ coloured xs ks → Coloured xs (v_of k) o → n ≡ place ks k →
    Tinted xs (entered ks k) (room r) (map point_bits (items r')) t

module _ (s : Sources) (cs : List VertexIndices) (c : VertexIndices) where
  pub record Brings {R : Type 0} (known : List ℕ → ℕ → R → Type 0) (k : Corner R) : Type 0 where
    pub inside : c.v < length s.positions
    pub position : known (position_refs cs) c.v k.position
    pub point : point_bits k.point ≡ element s.positions c.v
    pub colour : Coloured s.colours c.v k.colour
    pub texture : Names pair_bits s.textures (texture_refs cs) (meant (texture_refs cs) c.vt) known k.texture
    pub normal : Names point_bits s.normals (normal_refs cs) (meant (normal_refs cs) c.vn) known k.normal

  -- lists with the rooms rs, which became m, answered t
  pub record Drew (ns : List ℕ) (rs : Rooms) (m : Surface) (t : Bool) : Type 0 where
    pub tells : t ≡ not (lacks rs (with_arities ns (multi s (cs ++ c ∷ []))))
    pub surface : t ≡ true → m ≡ with_arities ns (multi s (cs ++ c ∷ []))
