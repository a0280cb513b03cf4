-- A list kept in cells: the first so many of them.
--   most           the most elements that a list has
--   room_of n      how many elements n cells have room for
--   added          one element more was written, or nothing changed
--   blanked        one element in every cell that a list may use
use Rattle.std.specs.Prelude.{ℕ, min, Bool, if◌then◌else◌, List, ◌++◌, length, drop, replicate, slice_set}

abbrev pub most : ℕ
most = 16777216

-- cells past the first so many are never touched
abbrev pub room_of : ℕ → ℕ
room_of n = min n most

module _ {X : Type 0} where
  -- the cells xs, of which the first n are in use, with the element x after these
  abbrev pub added : Bool → List X → ℕ → X → List X
  added b xs n x = if b then slice_set xs n x else xs

  -- z in every cell that a list may use
  abbrev pub blanked : List X → X → List X
  blanked xs z = replicate (room_of (length xs)) z ++ drop (room_of (length xs)) xs
