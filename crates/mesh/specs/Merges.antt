-- What merging does to the lists in memory.
--   Within n ns      each of the numbers ns is below n
--   through ms n     what stands at n in ms; n itself where ms ends before
--   looked_up ms ns  each of ns becomes that
--   too_many k xs    the refusal of a table with room for k keys, if xs has more different elements
--   most l           how many elements the longest of the lists l has that are merged
--   Steady b r s     s has the room of r, and if the cells past the list of r are zero by some test that b passes, so are those past that of s
--   Cut r s n b      s is the first n elements of r; b fills the cells of the others
--   FirstsKept       the first occurrences close up at the front of the cells, and each element has its number
--   RowsMerged       a list of elements without repeats, and its numbers with it
--   Mergeable m      what holds of a mesh whose attributes are numbered apart: every number names an element of its list, colours stand
--                    beside positions, and have no numbers of their own yet
--   AllSteady p q    the rows of a mesh are steady, where p and q are blanks, and the arities are the same
--   TablesFor n p q  the capacities n say how many points and how many pairs fit their tables: p and q
--   Fresh            a table that is sound and holds no key, and an empty list of numbers with room for n
--   Emptied          a table that is sound, holds no key, and has room for as many as before
use Rattle.std.specs.Prelude.{◌≡◌, ℕ, ◌<◌, ◌≤◌, max, Bool, true, List, [], ◌∷◌, map, length, take, Option, slice_index, slice_index_or}
use Rattle.elements.specs.declared.point.Point.{Point}
use Rattle.elements.specs.declared.point.Pair.{Pair}
use Rattle.elements.specs.declared.row.Row.{Row}
use Rattle.elements.specs.declared.error.LoadError.{LoadError}
use Rattle.elements.specs.declared.error.LoadError.TheVariants.{TableFull}
use Rattle.elements.specs.Checks.{first}
use Rattle.elements.specs.First.{distinct, numbers}
use Rattle.elements.specs.Rows.{items, room}
use Rattle.tables.specs.declared.table.CornerTable.{Ghosts}
use Rattle.mesh.specs.declared.lists.Lists.{Lists}
use Rattle.mesh.specs.Surface.{Surface, Capacities, over}
use Rattle.mesh.specs.Lists.{Spare}
use Rattle.mesh.specs.Numbering.{some}

abbrev pub Within : ℕ → List ℕ → Type 0
Within n ns = (i : ℕ) → i < length ns → slice_index ns i < n

abbrev pub through : List ℕ → ℕ → ℕ
through ms n = slice_index_or ms n n

abbrev pub looked_up : List ℕ → List ℕ → List ℕ
looked_up ms ns = map (through ms) ns

abbrev pub too_many : ℕ → List (List ℕ) → Option LoadError
too_many k xs = first ((over k (distinct xs), TableFull) ∷ [])

abbrev pub most : Lists → ℕ
most l = max l.positions.count (max l.vertex_color.count (max l.normals.count l.texcoords.count))

module _ {X : Type 0} where
  pub record Steady (b : X) (r s : Row X) : Type 0 where
    pub room : room s ≡ room r
    pub spare : (zero? : X → Bool) → zero? b ≡ true → Spare zero? r → Spare zero? s

  pub record Cut (r s : Row X) (n : ℕ) (b : X) : Type 0 where
    pub count : s.count ≡ n
    pub items : items s ≡ take n (items r)
    pub steady : Steady b r s

module _ {E : Type 0} (meaning : E → List ℕ) where
  -- of the elements xs: their first occurrences are the first `kept` of the cells ys, and ns are the numbers of all of xs
  pub record FirstsKept (xs ys : List E) (kept : ℕ) (ns : List ℕ) : Type 0 where
    pub firsts : map meaning (take kept ys) ≡ distinct (map meaning xs)
    pub numbers : ns ≡ numbers (map meaning xs)
    pub few : kept ≤ length xs

  -- r became s, and its numbers ms became ns
  pub record RowsMerged (r s : Row E) (ms ns : Row ℕ) : Type 0 where
    pub points : map meaning (items s) ≡ distinct (map meaning (items r))
    pub indices : items ns ≡ looked_up (numbers (map meaning (items r))) (items ms)

pub record Mergeable (m : Surface) : Type 0 where
  pub indices : Within (length m.positions) m.indices
  pub textures : Within (length m.textures) m.texture_indices
  pub normals : Within (length m.normals) m.normal_indices
  pub beside : some m.colours ≡ true → length m.colours ≡ length m.positions
  pub none : m.colour_indices ≡ []

pub record AllSteady (p : Point) (q : Pair) (a b : Lists) : Type 0 where
  pub positions : Steady p a.positions b.positions
  pub colours : Steady p a.vertex_color b.vertex_color
  pub textures : Steady q a.texcoords b.texcoords
  pub normals : Steady p a.normals b.normals
  pub indices : Steady 0 a.indices b.indices
  pub arities : b.face_arities ≡ a.face_arities
  pub colour_indices : Steady 0 a.vertex_color_indices b.vertex_color_indices
  pub texture_indices : Steady 0 a.texcoord_indices b.texcoord_indices
  pub normal_indices : Steady 0 a.normal_indices b.normal_indices
  pub remap : Steady 0 a.remap b.remap

pub record TablesFor (n : Capacities) (p q : ℕ) : Type 0 where
  pub points : n.points ≡ p
  pub pairs : n.pairs ≡ q

-- a table with the words T
module _ {X K : Type 0} (T : Ghosts X K) where
  pub record Fresh (t : X) (r : Row ℕ) (n : ℕ) : Type 0 where
    pub sound : T.sound t
    pub none : T.keys t ≡ []
    pub start : r.count ≡ 0
    pub room : n ≤ room r

  pub record Emptied (t t' : X) : Type 0 where
    pub sound : T.sound t'
    pub none : T.keys t' ≡ []
    pub capacity : T.capacity t' ≡ T.capacity t
