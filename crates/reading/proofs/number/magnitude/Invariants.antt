use Rattle.std.proofs.Common.{◌≡◌, ◌^◌, ◌<◌, true, drop}
use Rattle.reading.specs.Value.{digits, number, number_after}
use Rattle.reading.proofs.number.magnitude.Given as goal

abbrev pub invariant-loop-digit : goal.invariant-loop-digit
invariant-loop-digit l =
    (digits (drop l.digit-index l.digits) ≡ true)
    × (number_after l.sum (drop l.digit-index l.digits) ≡ number l.digits)
    × (l.sum < 2 ^ 64)
