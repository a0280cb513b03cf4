-- How records stand on a tape of bytes.
--   word_at bs i     the 32-bit word at the byte i, its lowest byte first
--   float_at bs i    the number whose bits that word is
--   kind_of bs       the kind of the record that begins bs: the top four bits of its head word, 0 where no whole word is left
--   Names n r        the result r is the kind that the number n names, or an error that holds n where it names none
--   options_of n     the options whose flags are the bits of n
--   size r           how many bytes the record r takes up
--   Stands bs r      the record r begins bs
use Rattle.std.specs.Prelude.{◌≡◌, ℕ, ◌+◌, ◌*◌, ◌/◌, ◌%◌, ◌<◌, ◌≤◌, ◌⊎◌, Bool, if◌then◌else◌, List, length, ◌==◌, from_bits, nat_lt, slice_index, Float, Result, MatchResult}
use Rattle.std.specs.Float.{binary32}
use Rattle.records.specs.declared.kind.Kind.{Kind}
use Rattle.records.specs.declared.kind.Kind.TheVariants as Kinds
use Rattle.records.specs.declared.kind.UnknownKind.{UnknownKind}
use Rattle.elements.specs.declared.options.LoadOptions.{LoadOptions}
use Rattle.records.specs.declared.record.Record.{Record}
use Rattle.records.specs.declared.record.Record.TheVariants.{Position, Colour, Texture, Normal, Face, Export}

abbrev pub word_at : List ℕ → ℕ → ℕ
word_at bs i = slice_index bs i + slice_index bs (i + 1) * 256 + slice_index bs (i + 2) * 65536 + slice_index bs (i + 3) * 16777216

abbrev pub float_at : List ℕ → ℕ → Float
float_at bs i = from_bits binary32 (word_at bs i)

-- the head word of a record: its kind in the top four bits, and a number in the others
abbrev pub head : ℕ → ℕ → ℕ
head kind low = kind * 268435456 + low

abbrev pub kind_of : List ℕ → ℕ
kind_of bs = if nat_lt (length bs) 4 then 0 else word_at bs 0 / 268435456

-- the number of a kind
abbrev pub number_of : Kind → ℕ
number_of Kinds.Position = 1
number_of Kinds.Colour = 2
number_of Kinds.Texture = 3
number_of Kinds.Normal = 4
number_of Kinds.Face = 5
number_of Kinds.Export = 6

abbrev pub Names : ℕ → Result Kind UnknownKind → Type 0
Names n r = MatchResult r (λ kind. number_of kind ≡ n) (λ e. (e.0 ≡ n) × ((n < 1) ⊎ (6 < n)))

-- the bit of n that is worth k
abbrev pub bit : ℕ → ℕ → Bool
bit n k = n / k % 2 == 1

-- the options of an export, a bit for each
abbrev pub options_of : ℕ → LoadOptions
options_of n = record { single_index = bit n 1; triangulate = bit n 2; ignore_points = bit n 4; ignore_lines = bit n 8; merge_identical_points = bit n 16 }

-- a text of n bytes is filled up with zeros to whole words
abbrev pub padded : ℕ → ℕ
padded n = (n + 3) / 4 * 4

abbrev pub size : Record → ℕ
size (Position x y z) = 16
size (Colour x y z) = 16
size (Texture u v) = 12
size (Normal x y z) = 16
size (Face n) = 4 + padded n
size (Export n) = 4

-- three numbers after the head word
abbrev pub Triple : List ℕ → Float → Float → Float → Type 0
Triple bs x y z = (x ≡ float_at bs 4) × (y ≡ float_at bs 8) × (z ≡ float_at bs 12)

abbrev pub Laid : List ℕ → Record → Type 0
Laid bs (Position x y z) = (word_at bs 0 ≡ head 1 0) × Triple bs x y z
Laid bs (Colour x y z) = (word_at bs 0 ≡ head 2 0) × Triple bs x y z
Laid bs (Texture u v) = (word_at bs 0 ≡ head 3 0) × (u ≡ float_at bs 4) × (v ≡ float_at bs 8)
Laid bs (Normal x y z) = (word_at bs 0 ≡ head 4 0) × Triple bs x y z
Laid bs (Face n) = (word_at bs 0 ≡ head 5 n) × (n ≤ 4096) × ((i : ℕ) → 4 + n ≤ i → i < 4 + padded n → slice_index bs i ≡ 0)
Laid bs (Export n) = (word_at bs 0 ≡ head 6 n) × (n < 32)

abbrev pub Stands : List ℕ → Record → Type 0
Stands bs r = (size r ≤ length bs) × Laid bs r
