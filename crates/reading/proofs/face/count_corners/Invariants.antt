use Rattle.std.proofs.Common.{◌≡◌, ◌+◌, ◌≤◌, length}
use Rattle.std.specs.Option.{option_map}
use Rattle.reading.specs.declared.counts.Counts.{Counts}
use Rattle.reading.specs.Face.{face, corners}
use Rattle.reading.specs.Readers.{tokens_left}
use Rattle.reading.proofs.FaceFacts.{more}
use Rattle.reading.proofs.face.count_corners.Given as goal

abbrev pub invariant-loop-token : goal.invariant-loop-token
invariant-loop-token l =
    record {
      counted : (n : Counts) → more l.count (corners n (tokens_left l.token-iterator)) ≡ option_map length (face n l.text);
      fits : l.count + length (tokens_left l.token-iterator) ≤ length l.text;
    }
