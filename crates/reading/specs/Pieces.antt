-- How a text falls into tokens, and a token into parts. A stretch is some bytes of a text with where they begin there;
-- pieces are what lies before, between and after the bytes at which a text is cut; a token is a piece that is not empty.
use Rattle.std.specs.Prelude.{ℕ, ◌+◌, Bool, true, false, if◌then◌else◌, ◌&&◌, ◌||◌, List, [], ◌∷◌, length, ◌==◌, nat_le}

pub record Stretch : Type 0 where
  pub from : ℕ
  pub bytes : List ℕ

-- a text that stands alone
abbrev pub whole : List ℕ → Stretch
whole text = record { from = 0; bytes = text }

-- a byte put before the first piece
abbrev pub onto : ℕ → List (List ℕ) → List (List ℕ)
onto c [] = (c ∷ []) ∷ []
onto c (p ∷ ps) = (c ∷ p) ∷ ps

abbrev pub pieces : (ℕ → Bool) → List ℕ → List (List ℕ)
pieces cut [] = [] ∷ []
pieces cut (c ∷ cs) = if cut c then [] ∷ pieces cut cs else onto c (pieces cut cs)

-- the pieces with where they begin, the first at i: one byte lies between two
abbrev pub stretches : ℕ → List (List ℕ) → List Stretch
stretches i [] = []
stretches i (p ∷ ps) = record { from = i; bytes = p } ∷ stretches (i + length p + 1) ps

-- bytes 9 to 13 and 32 separate tokens
abbrev pub space : ℕ → Bool
space c = nat_le 9 c && nat_le c 13 || c == 32

-- byte 47 separates parts
abbrev pub slash : ℕ → Bool
slash c = c == 47

abbrev pub unless_empty : Stretch → List ℕ → List Stretch → List Stretch
unless_empty q [] qs = qs
unless_empty q (c ∷ cs) qs = q ∷ qs

-- those that are not empty
abbrev pub filled : List Stretch → List Stretch
filled [] = []
filled (q ∷ qs) = unless_empty q q.bytes (filled qs)

-- the tokens of a text that begins at i
abbrev pub tokens_from : ℕ → List ℕ → List Stretch
tokens_from i text = filled (stretches i (pieces space text))

abbrev pub tokens : List ℕ → List Stretch
tokens text = tokens_from 0 text

-- the parts of a token that begins at i
abbrev pub parts_from : ℕ → List ℕ → List Stretch
parts_from i token = stretches i (pieces slash token)

abbrev pub parts : Stretch → List Stretch
parts token = parts_from token.from token.bytes

abbrev pub none : List Stretch → Bool
none [] = true
none (q ∷ qs) = false

-- whether all are empty
abbrev pub vacant : List Stretch → Bool
vacant qs = none (filled qs)
