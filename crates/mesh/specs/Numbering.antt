-- The mesh of a list of corners: each different key once, in order of first appearance; a number is a key's place.
--   names xs r       the reference r asks for an element of xs, if there are any at all
--   single s cs      the mesh in which one number stands for a corner's three references together
--   multi s cs       the mesh in which positions, textures and normals are numbered apart
--   Keys             the keys that the tables hold
--   numbered o s cs  the one of these two that the options ask for
--   keyed o s cs     the keys that the tables hold then
--   drawn o s es     the mesh of the events es
use Rattle.std.specs.Prelude.{ℕ, Bool, false, if◌then◌else◌, not, ◌&&◌, ◌||◌, List, [], ◌∷◌, map, length, ◌==◌, nat_lt, slice_index, slice_index_or}
use Rattle.elements.specs.declared.corner.VertexIndices.{VertexIndices}
use Rattle.elements.specs.declared.options.LoadOptions.{LoadOptions}
use Rattle.elements.specs.Contents.{Sources}
use Rattle.elements.specs.Corners.{missing, refs}
use Rattle.elements.specs.First.{distinct, place, numbers}
use Rattle.mesh.specs.Unfold.{Event, corners_of, arities_of}
use Rattle.mesh.specs.Surface.{Surface, Capacities, over}

-- ---- what a key names

-- there are elements of this kind
abbrev pub some : List (List ℕ) → Bool
some xs = nat_lt 0 (length xs)

abbrev pub names : List (List ℕ) → ℕ → Bool
names xs r = some xs && not (r == missing)

abbrev pub element : List (List ℕ) → ℕ → List ℕ
element xs r = slice_index_or xs r []

abbrev pub v_of : List ℕ → ℕ
v_of k = slice_index k 0

abbrev pub vt_of : List ℕ → ℕ
vt_of k = slice_index k 1

abbrev pub vn_of : List ℕ → ℕ
vn_of k = slice_index k 2

-- ---- one number for a corner's three references

abbrev pub corner_keys : List VertexIndices → List (List ℕ)
corner_keys cs = map refs cs

-- some key asks for an element of xs, where a key's reference is given by ref
abbrev pub any_named : List (List ℕ) → (List ℕ → ℕ) → List (List ℕ) → Bool
any_named xs ref [] = false
any_named xs ref (k ∷ ks) = names xs (ref k) || any_named xs ref ks

-- the key's element, or the filler that holds its place
abbrev pub named_or : List ℕ → List (List ℕ) → (List ℕ → ℕ) → List ℕ → List ℕ
named_or filler xs ref k = if names xs (ref k) then element xs (ref k) else filler

-- nothing where no key asks for an element, else one for each key
abbrev pub with_fillers : List ℕ → List (List ℕ) → (List ℕ → ℕ) → List (List ℕ) → List (List ℕ)
with_fillers filler xs ref ks = if any_named xs ref ks then map (named_or filler xs ref) ks else []

-- the colours of the keys, if there are colours
abbrev pub coloured : List (List ℕ) → List (List ℕ) → List (List ℕ)
coloured xs ks = if some xs then map (λ k. element xs (v_of k)) ks else []

abbrev pub single_of : Sources → List (List ℕ) → List (List ℕ) → Surface
single_of s ks ms =
    record {
      positions = map (λ k. element s.positions (v_of k)) ks;
      colours = coloured s.colours ks;
      textures = with_fillers (0 ∷ 0 ∷ []) s.textures vt_of ks;
      normals = with_fillers (0 ∷ 0 ∷ 0 ∷ []) s.normals vn_of ks;
      indices = map (place ks) ms;
      arities = [];
      colour_indices = [];
      texture_indices = [];
      normal_indices = [];
    }

abbrev pub single : Sources → List VertexIndices → Surface
single s cs = single_of s (distinct (corner_keys cs)) (corner_keys cs)

-- ---- positions, textures and normals numbered apart

-- a reference as a key
abbrev pub one : ℕ → List ℕ
one r = r ∷ []

abbrev pub position_refs : List VertexIndices → List ℕ
position_refs cs = map (λ c. c.v) cs

-- a missing reference is the one before it again, which is r at the start
abbrev pub carried : ℕ → List ℕ → List ℕ
carried r [] = []
carried r (x ∷ xs) = if x == missing then r ∷ carried r xs else x ∷ carried x xs

abbrev pub texture_refs : List VertexIndices → List ℕ
texture_refs cs = carried 0 (map (λ c. c.vt) cs)

abbrev pub normal_refs : List VertexIndices → List ℕ
normal_refs cs = carried 0 (map (λ c. c.vn) cs)

-- the keys of the references rs to elements of xs, the elements that they name, and the numbers of the references: nothing where there are no elements
abbrev pub ref_keys : List (List ℕ) → List ℕ → List (List ℕ)
ref_keys xs rs = if some xs then distinct (map one rs) else []

abbrev pub picked : List (List ℕ) → List ℕ → List (List ℕ)
picked xs rs = map (λ k. element xs (v_of k)) (ref_keys xs rs)

abbrev pub ref_numbers : List (List ℕ) → List ℕ → List ℕ
ref_numbers xs rs = if some xs then numbers (map one rs) else []

abbrev pub multi : Sources → List VertexIndices → Surface
multi s cs =
    record {
      positions = map (λ k. element s.positions (v_of k)) (distinct (map one (position_refs cs)));
      colours = coloured s.colours (distinct (map one (position_refs cs)));
      textures = picked s.textures (texture_refs cs);
      normals = picked s.normals (normal_refs cs);
      indices = numbers (map one (position_refs cs));
      arities = [];
      colour_indices = [];
      texture_indices = ref_numbers s.textures (texture_refs cs);
      normal_indices = ref_numbers s.normals (normal_refs cs);
    }

-- ---- by the options

pub record Keys : Type 0 where
  pub corners : List (List ℕ)
  pub positions : List (List ℕ)
  pub textures : List (List ℕ)
  pub normals : List (List ℕ)

abbrev pub single_keys : List VertexIndices → Keys
single_keys cs = record { corners = distinct (corner_keys cs); positions = []; textures = []; normals = [] }

abbrev pub multi_keys : Sources → List VertexIndices → Keys
multi_keys s cs =
    record {
      corners = [];
      positions = distinct (map one (position_refs cs));
      textures = ref_keys s.textures (texture_refs cs);
      normals = ref_keys s.normals (normal_refs cs);
    }

abbrev pub keyed : LoadOptions → Sources → List VertexIndices → Keys
keyed o s cs = if o.single_index then single_keys cs else multi_keys s cs

abbrev pub numbered : LoadOptions → Sources → List VertexIndices → Surface
numbered o s cs = if o.single_index then single s cs else multi s cs

abbrev pub with_arities : List ℕ → Surface → Surface
with_arities ns m = record m { arities = ns }

abbrev pub drawn : LoadOptions → Sources → List Event → Surface
drawn o s es = with_arities (arities_of es) (numbered o s (corners_of es))

-- a table by reference has fewer places than keys
abbrev pub crowded : Capacities → Keys → Bool
crowded n ks = over n.positions ks.positions || (over n.textures ks.textures || over n.normals ks.normals)
