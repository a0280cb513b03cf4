-- What the readers of tokens and parts hold: which stretch an answer is, and which are left.
use Rattle.std.specs.Prelude.{ℕ, ◌<◌, List, [], length, Some, None, Option, IfSome}
use Rattle.std.specs.Iterator.{YieldsFirstBy}
use Rattle.std.specs.Option.{option_map}
use Rattle.elements.specs.Corners.{missing}
use Rattle.reading.specs.declared.reader.Part.{Part}
use Rattle.reading.specs.declared.reader.Part.TheVariants.{Empty, Filled}
use Rattle.reading.specs.declared.reader.Parts.{Parts}
use Rattle.reading.specs.declared.reader.Token.{Token}
use Rattle.reading.specs.declared.reader.Tokens.{Tokens}
use Rattle.reading.specs.Value.{value, reference}
use Rattle.reading.specs.Pieces.{Stretch, parts, tokens_from}

abbrev pub token_stretch : Token → Stretch
token_stretch t = record { from = t.at; bytes = t.bytes.now }

abbrev pub tokens_left : Tokens → List Stretch
tokens_left s = tokens_from s.at s.rest.now

abbrev pub stretch_of : Part → Stretch
stretch_of (Empty at) = record { from = at; bytes = [] }
stretch_of (Filled bytes at) = record { from = at; bytes = bytes.now }

-- a part that is said to be filled is
abbrev pub Proper : Part → Type 0
Proper (Empty at) = Unit {0}
Proper (Filled bytes at) = 0 < length bytes.now

-- the parts of what is left of a token, if any of it is
abbrev pub parts_of : Option Token → List Stretch
parts_of None = []
parts_of (Some t) = parts (token_stretch t)

abbrev pub left : Parts → List Stretch
left s = parts_of s.rest

-- the answer is the first of what was left, or none where nothing was
abbrev pub Gives : Parts → Option Part → Parts → Type 0
Gives s r t = YieldsFirstBy stretch_of left s r t × IfSome r Proper

-- what an answer refers to in a list of n
abbrev pub part_place : ℕ → Option Part → Option ℕ
part_place n None = Some missing
part_place n (Some (Empty at)) = Some missing
part_place n (Some (Filled bytes at)) = option_map (reference n) (value bytes.now)
