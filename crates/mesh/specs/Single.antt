-- How one corner joins a mesh in which one number stands for a corner.
--   Kept r s           the row s has the room of r, and zeros past its list wherever r had them
--   Becomes r s ys b   r was to hold the list ys: b tells whether that fits, and if so s holds it
--   Same p q           the lists that such a corner does not write are the same in p and q
--   Undisturbed p q    q has the rooms and the remap of p, and zeros past its lists if p had
--   Changed p q        only the lists that such a corner writes changed, and each of them is kept
--   Settles p q m b    the lists p were to hold the surface m: b tells whether that fits, and if so q holds it
--   padded n z xs      xs, and then z until there are n elements
--   filled z xs        xs, and after them z unless they are none
--   placed xs n x      xs, and after them x unless they reach the number n
--   attached n z xs o  xs with what the number n brings: its element behind n places, or z in its place
--   bits_of f o        an optional element by its bits
--   followed xs o      xs, and after them the element, if there is one
--   reading_checks     the checks of a corner against the elements that there are
--   At r i o           o is the element at the place i of a row, or none where that is past the last
--   Reads a c v        v has what stands where the corner c refers to
--   numbered_again m i the surface m with the number i after its indices
--   widened m v        the surface m with what v brings for the next number
use Rattle.std.specs.Prelude.{◌≡◌, ℕ, ◌-◌, ◌<◌, ◌≤◌, Bool, true, if◌then◌else◌, not, List, [], ◌∷◌, ◌++◌, length, replicate, Some, None, Option, MatchOption, ◌==◌, nat_le, nat_lt, slice_index_or}
use Rattle.elements.specs.declared.row.Row.{Row}
use Rattle.elements.specs.declared.attributes.Attributes.{Attributes}
use Rattle.elements.specs.declared.corner.VertexIndices.{VertexIndices}
use Rattle.elements.specs.declared.error.LoadError.{LoadError}
use Rattle.elements.specs.declared.error.LoadError.TheVariants.{FaceVertexOutOfBounds, FaceTexCoordOutOfBounds, FaceNormalOutOfBounds, FaceColorOutOfBounds}
use Rattle.elements.specs.Bits.{point_bits, pair_bits}
use Rattle.elements.specs.Rows.{items, room}
use Rattle.mesh.specs.declared.lists.Lists.{Lists}
use Rattle.mesh.specs.declared.single.Vertex.{Vertex}
use Rattle.mesh.specs.Surface.{Surface, over, lacks}
use Rattle.mesh.specs.Lists.{surface, rooms, Spare, Blank}
use Rattle.mesh.specs.Streams.{lost}

-- ---- rows

module _ {X : Type 0} where
  pub record Kept (r s : Row X) : Type 0 where
    pub room : room s ≡ room r
    pub spare : (zero? : X → Bool) → Spare zero? r → Spare zero? s

  pub record Becomes (r s : Row X) (ys : List X) (b : Bool) : Type 0 where
    pub kept : Kept r s
    pub tells : b ≡ not (over (room r) ys)
    pub granted : b ≡ true → items s ≡ ys

  abbrev pub padded : ℕ → X → List X → List X
  padded n z xs = xs ++ replicate (n - length xs) z

  abbrev pub filled : X → List X → List X
  filled z xs = if length xs == 0 then xs else xs ++ z ∷ []

  abbrev pub placed : List X → ℕ → X → List X
  placed xs n x = if nat_lt n (length xs) then xs else xs ++ x ∷ []

  abbrev pub attached : ℕ → X → List X → Option X → List X
  attached n z xs None = filled z xs
  attached n z xs (Some x) = padded n z xs ++ x ∷ []

  abbrev pub followed : List X → Option X → List X
  followed xs None = xs
  followed xs (Some x) = xs ++ x ∷ []

abbrev pub bits_of : {X : Type 0} → (X → List ℕ) → Option X → Option (List ℕ)
bits_of bits None = None
bits_of bits (Some x) = Some (bits x)

-- ---- what a corner asks for

abbrev pub reading_checks : Attributes → VertexIndices → List (Bool × LoadError)
reading_checks a c =
    (nat_le a.positions.count c.v, FaceVertexOutOfBounds)
    ∷ (lost a.textures c.vt, FaceTexCoordOutOfBounds)
    ∷ (lost a.normals c.vn, FaceNormalOutOfBounds)
    ∷ (lost a.colours c.v, FaceColorOutOfBounds)
    ∷ []

abbrev pub At : {X : Type 0} → Row X → ℕ → Option X → Type 0
At r i o = MatchOption o (r.count ≤ i) (λ x. (i < r.count) × (x ≡ slice_index_or (items r) i x))

pub record Reads (a : Attributes) (c : VertexIndices) (v : Vertex) : Type 0 where
  pub position : At a.positions c.v (Some v.position)
  pub texture : At a.textures c.vt v.texture
  pub normal : At a.normals c.vn v.normal
  pub colour : At a.colours c.v v.colour

-- ---- lists

pub record Same (p q : Lists) : Type 0 where
  pub arities : q.face_arities ≡ p.face_arities
  pub colour_indices : q.vertex_color_indices ≡ p.vertex_color_indices
  pub texture_indices : q.texcoord_indices ≡ p.texcoord_indices
  pub normal_indices : q.normal_indices ≡ p.normal_indices

pub record Undisturbed (p q : Lists) : Type 0 where
  pub rooms : rooms q ≡ rooms p
  pub blank : Blank p → Blank q
  pub remap : q.remap ≡ p.remap

pub record Changed (p q : Lists) : Type 0 where
  pub positions : Kept p.positions q.positions
  pub colours : Kept p.vertex_color q.vertex_color
  pub textures : Kept p.texcoords q.texcoords
  pub normals : Kept p.normals q.normals
  pub indices : Kept p.indices q.indices
  pub same : Same p q
  pub remap : q.remap ≡ p.remap

pub record Settles (p q : Lists) (m : Surface) (b : Bool) : Type 0 where
  pub changed : Changed p q
  pub tells : b ≡ not (lacks (rooms p) m)
  pub granted : b ≡ true → surface q ≡ m

abbrev pub numbered_again : Surface → ℕ → Surface
numbered_again m i = record m { indices = m.indices ++ i ∷ [] }

abbrev pub widened : Surface → Vertex → Surface
widened m v =
    record m {
      positions = m.positions ++ point_bits v.position ∷ [];
      colours = followed m.colours (bits_of point_bits v.colour);
      textures = attached (length m.positions) (0 ∷ 0 ∷ []) m.textures (bits_of pair_bits v.texture);
      normals = attached (length m.positions) (0 ∷ 0 ∷ 0 ∷ []) m.normals (bits_of point_bits v.normal);
    }
