-- Faces as stretches of a list of corners.
--   part cs f        the corners of the face f
--   tiles n fs m     the faces stand one after the other, from the corner n up to the corner m
use Rattle.std.specs.Prelude.{ℕ, ◌+◌, Bool, ◌&&◌, List, [], ◌∷◌, take, drop, ◌==◌}
use Rattle.elements.specs.declared.corner.Face.{Face}

abbrev pub part : {X : Type 0} → List X → Face → List X
part cs f = take f.count (drop f.start cs)

abbrev pub tiles : ℕ → List Face → ℕ → Bool
tiles n [] m = n == m
tiles n (f ∷ fs) m = f.start == n && tiles (n + f.count) fs m
