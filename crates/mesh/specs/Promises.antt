-- What a granted export promises, said of the sources s, the written corners cs, the options o and the mesh m that it left.
--   refs_at cs i         the three references of the corner i of cs
--   meant s cs           the position that each corner refers to
--   Reads ys r xs ns i   the number at i of ns reads out of xs the element that r names in ys
--   Shares ks ns         two places have one number in ns exactly when their keys in ks agree
--   Fewest xs zs         no list out of which each of xs can be read is shorter than zs
--   Used n ns            every number below n is one of ns
--   MeshPromise          one number for each corner, no point unused, read-back, sharing and fewest points
--   ArityPromise         the arities tell how many corners each written one of the faces fs has
--   Promises             both hold of every granted export
use Rattle.std.specs.Prelude.{◌≡◌, ℕ, ◌+◌, ◌*◌, ◌<◌, ◌≤◌, true, false, if◌then◌else◌, List, [], ◌∷◌, map, length, None, filter, slice_index, slice_index_or}
use Rattle.elements.specs.declared.corner.VertexIndices.{VertexIndices}
use Rattle.elements.specs.declared.options.LoadOptions.{LoadOptions}
use Rattle.elements.specs.Contents.{Sources, Contents}
use Rattle.elements.specs.First.{PlaceOf}
use Rattle.mesh.specs.Unfold.{wanted, events, corners_of}
use Rattle.mesh.specs.Surface.{Surface, Rooms, Capacities}
use Rattle.mesh.specs.Numbering.{some, names, element, v_of, vt_of, vn_of, corner_keys, one, position_refs}
use Rattle.mesh.specs.Rules.{all_three, verdict, finished}

-- ---- the words

abbrev pub refs_at : List VertexIndices → ℕ → List ℕ
refs_at cs i = slice_index_or (corner_keys cs) i []

abbrev pub meant : Sources → List VertexIndices → List (List ℕ)
meant s cs = map (λ c. element s.positions c.v) cs

-- the numbers by which corners read textures, normals and colours
abbrev pub texture_numbers : LoadOptions → Surface → List ℕ
texture_numbers o m = if o.single_index then m.indices else m.texture_indices

abbrev pub normal_numbers : LoadOptions → Surface → List ℕ
normal_numbers o m = if o.single_index then m.indices else m.normal_indices

abbrev pub colour_numbers : LoadOptions → Surface → List ℕ
colour_numbers o m = if o.merge_identical_points then m.colour_indices else m.indices

pub record Reads (ys : List (List ℕ)) (r : ℕ) (xs : List (List ℕ)) (ns : List ℕ) (i : ℕ) : Type 0 where
  -- r names an element of ys
  pub there : r < length ys
  -- there is a number at i, and it is the place of an element of xs
  pub numbered : i < length ns
  pub within : slice_index ns i < length xs
  -- which has the same bits
  pub same : element xs (slice_index ns i) ≡ element ys r

abbrev pub Shares : List (List ℕ) → List ℕ → Type 0
Shares ks ns =
    (i j : ℕ) → i < length ks → j < length ks →
    (slice_index ns i ≡ slice_index ns j → slice_index_or ks i [] ≡ slice_index_or ks j []) × (slice_index_or ks i [] ≡ slice_index_or ks j [] → slice_index ns i ≡ slice_index ns j)

abbrev pub Fewest : List (List ℕ) → List (List ℕ) → Type 0
Fewest xs zs =
    (ps : List (List ℕ)) (at : List ℕ) → ((i : ℕ) → i < length xs → PlaceOf (slice_index_or xs i []) ps (slice_index at i)) → length zs ≤ length ps

-- every number below n is one of ns
abbrev pub Used : ℕ → List ℕ → Type 0
Used n ns = (j : ℕ) → j < n → (i : ℕ) × (i < length ns) × (slice_index ns i ≡ j)

-- the sources of which a log knows: colours are not kept in it
abbrev pub colourless : Sources → Sources
colourless s = record s { colours = [] }

-- ---- the promise

pub record MeshPromise (o : LoadOptions) (s : Sources) (cs : List VertexIndices) (m : Surface) : Type 0 where
  -- an index for each corner
  pub counted : length m.indices ≡ length cs
  -- no point that no corner has
  pub used : Used (length m.positions) m.indices
  -- each corner reads its position, and each texture and normal that it names, if there are any
  pub positions : (i : ℕ) → i < length cs → Reads s.positions (v_of (refs_at cs i)) m.positions m.indices i
  pub textures : (i : ℕ) → i < length cs → names s.textures (vt_of (refs_at cs i)) ≡ true → Reads s.textures (vt_of (refs_at cs i)) m.textures (texture_numbers o m) i
  pub normals : (i : ℕ) → i < length cs → names s.normals (vn_of (refs_at cs i)) ≡ true → Reads s.normals (vn_of (refs_at cs i)) m.normals (normal_numbers o m) i
  -- and the colour beside its position, if there are colours
  pub colours : (i : ℕ) → i < length cs → some s.colours ≡ true → Reads s.colours (v_of (refs_at cs i)) m.colours (colour_numbers o m) i
  -- a corner's number stands for its three references
  pub single_shared : o.single_index ≡ true → Shares (corner_keys cs) m.indices
  -- or for its reference to a position
  pub multi_shared : o.single_index ≡ false → o.merge_identical_points ≡ false → Shares (map one (position_refs cs)) m.indices
  -- or for the bits of that position
  pub merged_shared : o.merge_identical_points ≡ true → Shares (meant s cs) m.indices
  -- no point list can do with fewer
  pub fewest : o.merge_identical_points ≡ true → Fewest (meant s cs) m.positions

-- the arities of the faces fs, of which those that are skipped are not written
abbrev pub written_arities : LoadOptions → List (List VertexIndices) → List ℕ
written_arities o fs = map length (filter (wanted o) fs)

abbrev pub total : List ℕ → ℕ
total [] = 0
total (n ∷ ns) = n + total ns

pub record ArityPromise (o : LoadOptions) (fs : List (List VertexIndices)) (m : Surface) : Type 0 where
  -- triangles need no arities, and neither do faces of three corners
  pub triangles : o.triangulate ≡ true → m.arities ≡ []
  pub threes : o.triangulate ≡ false → all_three (written_arities o fs) ≡ true → (m.arities ≡ []) × (length m.indices ≡ 3 * length (written_arities o fs))
  -- else there is one for each written face, and they add up to the indices
  pub others : o.triangulate ≡ false → all_three (written_arities o fs) ≡ false → (m.arities ≡ written_arities o fs) × (length m.indices ≡ total m.arities)

-- ---- of every granted export

pub record Promised (o : LoadOptions) (c : Contents) (m : Surface) : Type 0 where
  pub mesh : MeshPromise o c.sources (corners_of (events o c.waiting)) m
  pub arities : ArityPromise o c.waiting m

abbrev pub Promises : Type 0
Promises = (o : LoadOptions) (c : Contents) (rs : Rooms) (n : Capacities) → verdict o c rs n ≡ None → Promised o c (finished o c)
