-- What an export leaves.
--   Zero z r        every cell of the row passes the test z for zero
--   Zeros l         every cell of the lists is zero
--   Cleared m       no element in any list of the mesh, no material, and zero in every cell
--   rooms_of c      the rooms of a mesh over the cells c
--   Trimmed         arities that say no more than that every face has three corners were left out
--   Made            the mesh and the keys of a granted export, and how many faces it wrote and skipped
--   Finishing       the arities were trimmed, and the mesh merged where that is asked for
--   Filling         the waiting faces were written into lists and tables that were empty, and the mesh was finished
--   Exported        all that an export does: when it is refused, and what it leaves
use Rattle.std.specs.Prelude.{◌≡◌, ℕ, Bool, if◌then◌else◌, T, [], length, IfOk, IfErr, None, vec_items, filter, Option, Result, MatchResult, OnOk}
use Rattle.std.specs.List.{list_all}
use Rattle.elements.specs.declared.row.Row.{Row}
use Rattle.elements.specs.declared.options.LoadOptions.{LoadOptions}
use Rattle.elements.specs.declared.error.LoadError.{LoadError}
use Rattle.elements.specs.Cells.{room_of}
use Rattle.elements.specs.Checks.{first, refusal}
use Rattle.elements.specs.Contents.{Contents}
use Rattle.elements.specs.Rows.{held}
use Rattle.mesh.specs.declared.cells.Cells.{Cells}
use Rattle.mesh.specs.declared.lists.Lists.{Lists}
use Rattle.mesh.specs.declared.mesh.Mesh.{Mesh}
use Rattle.mesh.specs.Unfold.{skips, wanted, events, corners_of}
use Rattle.mesh.specs.Surface.{Surface, empty_surface, Rooms, Capacities}
use Rattle.mesh.specs.Lists.{surface, rooms, Blank, zero_number, zero_point, zero_pair}
use Rattle.mesh.specs.Numbering.{Keys, keyed}
use Rattle.mesh.specs.Merging.{merged, merge_checks}
use Rattle.mesh.specs.Rules.{trimmed, verdict, finished}
use Rattle.mesh.specs.Merges.{Mergeable}
use Rattle.mesh.specs.Writing.{Stock, no_keys, empty_stock}

abbrev pub Zero : {X : Type 0} → (X → Bool) → Row X → Type 0
Zero zero? r = T (list_all zero? (held r))

abbrev pub Zeros : Lists → Type 0
Zeros l =
    (Zero zero_point l.positions × Zero zero_point l.vertex_color × Zero zero_pair l.texcoords × Zero zero_point l.normals × Zero zero_number l.indices)
    × (Zero zero_number l.face_arities × Zero zero_number l.vertex_color_indices × Zero zero_number l.texcoord_indices × Zero zero_number l.normal_indices × Zero zero_number l.remap)

pub record Cleared (m : Mesh) : Type 0 where
  pub none : surface m.lists ≡ empty_surface
  pub remap : m.lists.remap.count ≡ 0
  pub zeros : Zeros m.lists
  pub material : m.material_id ≡ None

abbrev pub rooms_of : Cells → Rooms
rooms_of c =
    record {
      positions = room_of (length (vec_items c.positions));
      colours = room_of (length (vec_items c.vertex_color));
      textures = room_of (length (vec_items c.texcoords));
      normals = room_of (length (vec_items c.normals));
      indices = room_of (length (vec_items c.indices));
      arities = room_of (length (vec_items c.face_arities));
      colour_indices = room_of (length (vec_items c.vertex_color_indices));
      texture_indices = room_of (length (vec_items c.texcoord_indices));
      normal_indices = room_of (length (vec_items c.normal_indices));
      remap = room_of (length (vec_items c.remap));
    }

pub record Trimmed (l l' : Lists) : Type 0 where
  pub surface : surface l' ≡ trimmed (surface l)
  pub rooms : rooms l' ≡ rooms l
  pub remap : l'.remap ≡ l.remap
  pub blank : Blank l → Blank l'

-- what a granted export answers and makes; a refused one answers no counts
abbrev pub Made : LoadOptions → Contents → Surface → Keys → Result (ℕ × ℕ) LoadError → Type 0
Made o c m ks r =
    MatchResult r
    (λ n. (m ≡ finished o c) × (ks ≡ keyed o c.sources (corners_of (events o c.waiting)))
    × ((n.0 ≡ length (filter (wanted o) c.waiting)) × (n.1 ≡ length (filter (skips o) c.waiting))))
    (λ _. Unit {0})

pub record Finishing {X : Type 0} (o : LoadOptions) (l l' : Lists) (t t' : Stock) (S S' : Type 0) (r : Result X LoadError) : Type 0 where
  pub refused : refusal r ≡ first (if o.merge_identical_points then merge_checks (rooms l) t.capacities (surface l) else [])
  pub granted : Mergeable (surface l) → OnOk r (surface l' ≡ (if o.merge_identical_points then merged (trimmed (surface l)) else trimmed (surface l)))
  pub rooms : rooms l' ≡ rooms l
  pub remap : l.remap.count ≡ 0 → l'.remap.count ≡ 0
  pub blank : Blank l → Blank l'
  pub keys : t'.keys ≡ t.keys
  pub none : t.points ≡ [] → t.pairs ≡ [] → (t'.points ≡ []) × (t'.pairs ≡ [])
  pub capacities : t'.capacities ≡ t.capacities
  pub sound : S → S'

pub record Filling (o : LoadOptions) (c : Contents) (l l' : Lists) (t t' : Stock) (S S' : Type 0) (r : Result (ℕ × ℕ) LoadError) : Type 0 where
  pub refused : S → surface l ≡ empty_surface → t.keys ≡ no_keys → refusal r ≡ verdict o c (rooms l) t.capacities
  pub made : S → surface l ≡ empty_surface → t.keys ≡ no_keys → Made o c (surface l') t'.keys r
  pub rooms : rooms l' ≡ rooms l
  pub remap : l.remap.count ≡ 0 → l'.remap.count ≡ 0
  pub blank : Blank l → Blank l'
  pub none : t.points ≡ [] → t.pairs ≡ [] → (t'.points ≡ []) × (t'.pairs ≡ [])
  pub capacities : t'.capacities ≡ t.capacities
  pub sound : S → S'

-- the export of the contents c, with the material id, into a mesh with the rooms rs, with tables of the capacities n: the mesh m and the tables' stock t that
-- it left, and S, which says that these tables are sound
pub record Exported (o : LoadOptions) (c : Contents) (id : Option ℕ) (rs : Rooms) (n : Capacities) (m : Mesh) (t : Stock) (S : Type 0) (r : Result (ℕ × ℕ) LoadError) : Type 0 where
  pub refused : refusal r ≡ verdict o c rs n
  pub made : Made o c (surface m.lists) t.keys r
  pub material : IfOk r (λ _. m.material_id ≡ id)
  pub cleared : IfErr r (λ _. Cleared m × (t ≡ empty_stock n))
  pub rooms : rooms m.lists ≡ rs
  pub remap : m.lists.remap.count ≡ 0
  pub none : (t.points ≡ []) × (t.pairs ≡ [])
  pub capacities : t.capacities ≡ n
  pub sound : S
