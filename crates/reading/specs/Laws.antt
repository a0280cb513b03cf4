-- Laws of reading, in the words of the format: tokens put back are the text (Rejoined), parts put back are the token
-- (Reslashed), a written number reads back (ReadsBack), a reference names the element that it counts to (Named), and a
-- text that reads has no byte above 127 (OnlyAscii).
use Rattle.std.specs.Prelude.{◌≡◌, ℕ, ◌+◌, ◌-◌, ◌^◌, ◌<◌, ◌≤◌, Bool, true, false, not, ◌&&◌, List, [], ◌∷◌, ◌++◌, reverse, length, ℤ, pos, neg_ℤ, ◌≤ℤ◌, Some, None, slice_index}
use Rattle.std.specs.Fmt.{signed_decimal as decimal}
use Rattle.reading.specs.declared.counts.Counts.{Counts}
use Rattle.reading.specs.Ascii.{ascii}
use Rattle.reading.specs.Pieces.{Stretch, space, slash, tokens, parts_from}
use Rattle.reading.specs.Value.{value, reference}
use Rattle.reading.specs.Face.{face}

-- only separators
abbrev pub blank : List ℕ → Bool
blank [] = true
blank (c ∷ cs) = space c && blank cs

-- no byte at which there is a cut
abbrev pub uncut : (ℕ → Bool) → List ℕ → Bool
uncut cut [] = true
uncut cut (c ∷ cs) = not (cut c) && uncut cut cs

-- empty, or a separator comes first
abbrev pub ended : List ℕ → Bool
ended [] = true
ended (c ∷ cs) = space c

-- in a text that begins at i, the token t comes first: separators or nothing, the token's bytes at its place, of which
-- there are some and none is a separator, and then a rest that cannot belong to it and that is as Others says
pub record First (i : ℕ) (text : List ℕ) (t : Stretch) (Others : List ℕ → Type 0) : Type 0 where
  pub gap : List ℕ
  pub rest : List ℕ
  pub joined : text ≡ gap ++ (t.bytes ++ rest)
  pub apart : blank gap ≡ true
  pub place : t.from ≡ i + length gap
  pub some : 0 < length t.bytes
  pub solid : uncut space t.bytes ≡ true
  pub longest : ended rest ≡ true
  pub others : Others rest

-- a text that begins at i is these tokens in turn, at their places, and separators
abbrev pub Laid : ℕ → List ℕ → List Stretch → Type 0
Laid i text [] = blank text ≡ true
Laid i text (t ∷ ts) = First i text t (λ rest. Laid (t.from + length t.bytes) rest ts)

-- a text is its tokens and separators, and no other tokens
abbrev pub Rejoined : Type 0
Rejoined = ((text : List ℕ) → Laid 0 text (tokens text)) × ((text : List ℕ) (ts : List Stretch) → Laid 0 text ts → ts ≡ tokens text)

-- a token that begins at i is these parts in turn, at their places, none with a slash, and a slash between any two
abbrev pub Slashed : ℕ → List ℕ → List Stretch → Type 0
Slashed i token [] = ⊥
Slashed i token (p ∷ []) = (token ≡ p.bytes) × (p.from ≡ i) × (uncut slash p.bytes ≡ true)
Slashed i token (p ∷ q ∷ qs) =
    (rest : List ℕ)
    × ((token ≡ p.bytes ++ 47 ∷ rest) × (p.from ≡ i) × (uncut slash p.bytes ≡ true) × Slashed (i + length p.bytes + 1) rest (q ∷ qs))

-- a token is its parts and slashes
abbrev pub Reslashed : Type 0
Reslashed = (i : ℕ) (token : List ℕ) → Slashed i token (parts_from i token)

-- the decimal text of a number, with a minus if it is below 0, reads as that number
abbrev pub ReadsBack : Type 0
ReadsBack = (z : ℤ) → neg_ℤ (pos (2 ^ 63)) ≤ℤ z → z ≤ℤ pos (2 ^ 63 - 1) → value (decimal z) ≡ Some z

-- a reference reaches an element of the list, namely x (of the elements a reference sees only how many there are)
abbrev pub Names : List ℕ → ℤ → ℕ → Type 0
Names xs w x = (reference (length xs) w < length xs) × (slice_index xs (reference (length xs) w) ≡ x)

-- k names the element that is k-th from the front, and -k the one that is k-th from the end
abbrev pub Named : Type 0
Named =
    (xs : List ℕ) (k : ℕ) → 1 ≤ k → k ≤ length xs → length xs < 2 ^ 63
    → Names xs (pos k) (slice_index xs (k - 1)) × Names xs (neg_ℤ (pos k)) (slice_index (reverse xs) (k - 1))

-- a text with a byte above 127 does not read
abbrev pub OnlyAscii : Type 0
OnlyAscii = (n : Counts) (text : List ℕ) → ascii text ≡ false → face n text ≡ None

pub record Laws : Type 0 where
  pub rejoined : Rejoined
  pub reslashed : Reslashed
  pub reads_back : ReadsBack
  pub named : Named
  pub only_ascii : OnlyAscii
