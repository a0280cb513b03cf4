use Rattle.std.proofs.Common.{◌≡◌, take}
use Rattle.reading.specs.Face.{face, corners}
use Rattle.reading.specs.Readers.{tokens_left}
use Rattle.reading.proofs.FaceFacts.{after}
use Rattle.reading.proofs.face.write_corners.Given as goal

-- the corners in the cells so far, and those of the tokens that are left
abbrev pub invariant-loop-cell : goal.invariant-loop-cell
invariant-loop-cell l = face l.counts l.text ≡ after (take l.cell-index l.cells) (corners l.counts (tokens_left l.tokens))
