-- What a reference means as a key, and what the hash of a key is; `refs`, `point_bits` and `pair_bits` of the elements say what the other keys mean.
--   reference_refs r  the one reference
--   mixed h x         the hash h with the number x mixed in
--   digest ns         the hash of a key that means ns
use Rattle.std.specs.Prelude.{ℕ, ◌*◌, ◌/◌, ◌%◌, ◌^◌, List, [], ◌∷◌, length, fold, bit_xor}
use Rattle.tables.specs.declared.key.Reference.{Reference}

abbrev pub reference_refs : Reference → List ℕ
reference_refs r = r.at ∷ []

-- a number of 64 bits, its upper half folded onto the lower
abbrev pub folded_over : ℕ → ℕ
folded_over y = bit_xor y (y / 2 ^ 32)

unfoldable pub mixed : ℕ → ℕ → ℕ
mixed h x = folded_over ((bit_xor h x * 11400714819323198485) % 2 ^ 64)

-- all its numbers, and last how many they are
abbrev pub digest : List ℕ → ℕ
digest ns = mixed (fold mixed 0 ns) (length ns)
