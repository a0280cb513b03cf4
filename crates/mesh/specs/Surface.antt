-- What a mesh contains, and what it and the tables have room for.
--   Surface         the lists of a mesh; elements by their bits
--   Rooms           how many elements each list of a mesh has room for
--   Capacities      how many keys each table has room for
--   lacks rs s      some list of s is longer than its room
use Rattle.std.specs.Prelude.{ℕ, Bool, ◌||◌, List, [], length, nat_lt}

pub record Surface : Type 0 where
  pub positions : List (List ℕ)
  pub colours : List (List ℕ)
  pub textures : List (List ℕ)
  pub normals : List (List ℕ)
  pub indices : List ℕ
  pub arities : List ℕ
  pub colour_indices : List ℕ
  pub texture_indices : List ℕ
  pub normal_indices : List ℕ

abbrev pub empty_surface : Surface
empty_surface = record { positions = []; colours = []; textures = []; normals = []; indices = []; arities = []; colour_indices = []; texture_indices = []; normal_indices = [] }

pub record Rooms : Type 0 where
  pub positions : ℕ
  pub colours : ℕ
  pub textures : ℕ
  pub normals : ℕ
  pub indices : ℕ
  pub arities : ℕ
  pub colour_indices : ℕ
  pub texture_indices : ℕ
  pub normal_indices : ℕ
  pub remap : ℕ

pub record Capacities : Type 0 where
  pub corners : ℕ
  pub positions : ℕ
  pub textures : ℕ
  pub normals : ℕ
  pub points : ℕ
  pub pairs : ℕ

-- a list is longer than its room
abbrev pub over : {X : Type 0} → ℕ → List X → Bool
over n xs = nat_lt n (length xs)

abbrev pub lacks : Rooms → Surface → Bool
lacks rs s =
    over rs.positions s.positions || (over rs.colours s.colours || (over rs.textures s.textures || (over rs.normals s.normals
    || (over rs.indices s.indices || (over rs.arities s.arities || (over rs.texture_indices s.texture_indices || over rs.normal_indices s.normal_indices))))))
