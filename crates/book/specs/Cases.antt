-- Worked cases: what the rules of all calls together make of a few texts.
--   three            a book of three positions, three textures and three normals, without colours
--   with_texts c ts  the book c once faces with the texts ts wait in it
--   face_answer      the number that Face answers to a text, 0 where it is granted
--   export_answer    the number that Export answers, 0 where it is granted; every list and table has 256 places
--   Worked           the cases, all together
use Rattle.std.specs.Prelude.{◌≡◌, ℕ, ◌-◌, ◌^◌, true, false, List, [], ◌∷◌, Some, None, codes, Option}
use Rattle.elements.specs.declared.options.LoadOptions.{LoadOptions}
use Rattle.elements.specs.declared.error.LoadError.{LoadError}
use Rattle.elements.specs.Checks.{first}
use Rattle.elements.specs.Contents.{Contents}
use Rattle.elements.specs.Corners.{missing}
use Rattle.elements.specs.Errors.{number_of}
use Rattle.mesh.specs.Surface.{Rooms, Capacities}
use Rattle.mesh.specs.Rules.{finished}
use Rattle.book.specs.Requests.{add_face, write_mesh, BookRooms}
use Rattle.book.specs.Rules.{checks, granted}

-- ---- options

abbrev pub plain : LoadOptions
plain = record { single_index = false; triangulate = false; ignore_points = false; ignore_lines = false; merge_identical_points = false }

abbrev pub triangulated : LoadOptions
triangulated = record plain { triangulate = true }

abbrev pub single_index : LoadOptions
single_index = record plain { single_index = true }

abbrev pub merging : LoadOptions
merging = record plain { merge_identical_points = true }

-- ---- books

-- elements that are told apart by their first number
abbrev pub point : ℕ → List ℕ
point x = x ∷ 0 ∷ 0 ∷ []

abbrev pub pair : ℕ → List ℕ
pair u = u ∷ 0 ∷ []

abbrev pub points : List (List ℕ)
points = point 1 ∷ point 2 ∷ point 3 ∷ []

abbrev pub pairs : List (List ℕ)
pairs = pair 1 ∷ pair 2 ∷ pair 3 ∷ []

abbrev pub holding : List (List ℕ) → List (List ℕ) → List (List ℕ) → List (List ℕ) → Contents
holding ps cs ts ns = record { sources = record { positions = ps; colours = cs; textures = ts; normals = ns }; waiting = [] }

abbrev pub three : Contents
three = holding points [] pairs points

abbrev pub with_texts : Contents → List (List ℕ) → Contents
with_texts c [] = c
with_texts c (t ∷ ts) = with_texts (granted c (add_face t)) ts

-- ---- answers

abbrev pub book_places : BookRooms
book_places = record { positions = 256; colours = 256; textures = 256; normals = 256; corners = 256; faces = 256 }

abbrev pub mesh_places : Rooms
mesh_places =
    record { positions = 256; colours = 256; textures = 256; normals = 256; indices = 256; arities = 256; colour_indices = 256; texture_indices = 256; normal_indices = 256; remap = 256 }

-- tables of 256 places, save that of the corners
abbrev pub table_places : ℕ → Capacities
table_places n = record { corners = n; positions = 256; textures = 256; normals = 256; points = 256; pairs = 256 }

abbrev pub number_told : Option LoadError → ℕ
number_told None = 0
number_told (Some e) = number_of e

abbrev pub face_answer : List ℕ → ℕ
face_answer text = number_told (first (checks book_places three (add_face text)))

abbrev pub export_answer : ℕ → LoadOptions → Contents → List (List ℕ) → ℕ
export_answer n o c ts = number_told (first (checks book_places (with_texts c ts) (write_mesh o None mesh_places (table_places n))))

-- a text that is granted, and waits as one corner
abbrev pub Corner : List ℕ → ℕ → ℕ → ℕ → Type 0
Corner text v vt vn = (face_answer text ≡ 0) × ((with_texts three (text ∷ [])).waiting ≡ (record { v = v; vt = vt; vn = vn } ∷ []) ∷ [])

-- an export that is granted, with these indices
abbrev pub Indexed : LoadOptions → Contents → List (List ℕ) → List ℕ → Type 0
Indexed o c ts ns = (export_answer 256 o c ts ≡ 0) × ((finished o (with_texts c ts)).indices ≡ ns)

-- ---- the cases

pub record Worked : Type 0 where
  -- references from the front and from the end
  pub all_three : Corner (codes "1/2/3") 0 1 2
  pub no_texture : Corner (codes "1//3") 0 missing 2
  pub last : Corner (codes "-1") 2 missing missing
  pub before_first : Corner (codes "-4") missing missing missing
  pub far_before_first : Corner (codes "-5") (2 ^ 64 - 2) missing missing
  -- 0 is read, and refused when it is exported
  pub zero : Corner (codes "0") missing missing missing
  pub zero_exported : export_answer 256 plain three (codes "0" ∷ []) ≡ 8
  -- parts after the third
  pub empty_parts : face_answer (codes "1/2/3//") ≡ 0
  pub fourth_part : face_answer (codes "1/2/3/4") ≡ 3
  -- signs and sizes
  pub plus : Corner (codes "+2") 1 missing missing
  pub plus_alone : face_answer (codes "+") ≡ 3
  pub largest : Corner (codes "9223372036854775807") 9223372036854775806 missing missing
  pub too_large : face_answer (codes "9223372036854775808") ≡ 3
  -- four positions, one face of four corners
  pub quad : Indexed triangulated (holding (point 1 ∷ point 2 ∷ point 3 ∷ point 4 ∷ []) [] pairs points) (codes "1 2 3 4" ∷ []) (0 ∷ 1 ∷ 2 ∷ 0 ∷ 2 ∷ 3 ∷ [])
  -- a point and a line as triangles, each alone
  pub point_alone : Indexed triangulated three (codes "2" ∷ []) (0 ∷ 0 ∷ 0 ∷ [])
  pub line_alone : Indexed triangulated three (codes "1 2" ∷ []) (0 ∷ 1 ∷ 1 ∷ [])
  -- a face without corners
  pub empty_triangulated : export_answer 256 triangulated three (codes "" ∷ []) ≡ 7
  pub empty_as_it_is : Indexed plain three (codes "" ∷ []) [] × ((finished plain (with_texts three (codes "" ∷ []))).arities ≡ 0 ∷ [])
  -- one position with two normals has two numbers
  pub normals_apart : Indexed single_index three (codes "1//1 2//1 3//1" ∷ codes "1//2 3//2 2//2" ∷ []) (0 ∷ 1 ∷ 2 ∷ 3 ∷ 4 ∷ 5 ∷ [])
  -- numbers without a texture hold their places with fillers
  pub fillers :
      let ts = codes "1 2 3" ∷ codes "1/1 2/2 3/3" ∷ [] in
      Indexed single_index three ts (0 ∷ 1 ∷ 2 ∷ 3 ∷ 4 ∷ 5 ∷ []) × ((finished single_index (with_texts three ts)).textures ≡ pair 0 ∷ pair 0 ∷ pair 0 ∷ pairs)
  -- a missing texture is the one before it again, and the first counts as 0
  pub carried_over :
      let c = holding points [] (pair 1 ∷ pair 2 ∷ []) points in
      let ts = codes "1 2/2 3" ∷ [] in
      Indexed plain c ts (0 ∷ 1 ∷ 2 ∷ []) × ((finished plain (with_texts c ts)).texture_indices ≡ 0 ∷ 1 ∷ 1 ∷ [])
  -- 0 and -0 are not merged
  pub signs_apart :
      let c = holding (point 0 ∷ point 2147483648 ∷ point 0 ∷ []) [] pairs points in
      let ts = codes "1 2 3" ∷ [] in
      Indexed merging c ts (0 ∷ 1 ∷ 0 ∷ []) × ((finished merging (with_texts c ts)).positions ≡ point 0 ∷ point 2147483648 ∷ [])
  -- a table of two corners
  pub third_corner : export_answer 2 single_index three (codes "1 2 3" ∷ []) ≡ 12
  pub first_again : export_answer 2 single_index three (codes "1 2 1" ∷ []) ≡ 0
  -- a normal far beyond the two that there are
  pub far_normal : export_answer 256 plain (holding points [] pairs (point 1 ∷ point 2 ∷ [])) (codes "1//6148914691236517207" ∷ []) ≡ 10
  -- one colour for three positions
  pub few_colours : export_answer 256 plain (holding points (point 1 ∷ []) pairs points) (codes "1 2 3" ∷ []) ≡ 11
