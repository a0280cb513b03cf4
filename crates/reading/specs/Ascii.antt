-- Whether a text is ASCII: it has no byte above 127.
use Rattle.std.specs.Prelude.{ℕ, Bool, true, ◌&&◌, List, [], ◌∷◌, nat_le}

abbrev pub plain : ℕ → Bool
plain c = nat_le c 127

abbrev pub ascii : List ℕ → Bool
ascii [] = true
ascii (c ∷ cs) = plain c && ascii cs
