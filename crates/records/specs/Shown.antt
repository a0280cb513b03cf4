-- What is printed of a line: its kind, then 0 or the number of the refusal, then the counts of a mesh, with spaces between.
--   shown_as k a s    this of a record of the kind k that was answered a, where s is the size of its mesh
--   shown l           this of a line
use Rattle.std.specs.Prelude.{ℕ, List, ◌++◌, Ok, Err, Some, None, Option, codes, decimal}
use Rattle.elements.specs.Errors.{number_of}
use Rattle.book.specs.Rules.{CallAnswer}
use Rattle.records.specs.declared.line.Line.{Line}
use Rattle.records.specs.declared.line.Size.{Size}

abbrev pub shown_as : ℕ → CallAnswer → Option Size → List ℕ
shown_as k (Ok r) None = decimal k ++ codes " 0"
shown_as k (Ok r) (Some s) = decimal k ++ (codes " 0 " ++ (decimal s.indices ++ (codes " " ++ decimal s.positions)))
shown_as k (Err e) s = decimal k ++ (codes " " ++ decimal (number_of e))

abbrev pub shown : Line → List ℕ
shown l = shown_as l.kind l.answer l.size
