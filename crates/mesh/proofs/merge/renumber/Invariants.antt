use Rattle.std.proofs.Common.{◌≡◌, ◌++◌, map, take, drop}
use Rattle.mesh.specs.Merges.{through}
use Rattle.mesh.proofs.merge.renumber.Given as goal

abbrev pub invariant-loop-number : goal.invariant-loop-number
invariant-loop-number l = l.number-items ≡ map (through l.remap) (take l.number-index l.initial.number-items) ++ drop l.number-index l.initial.number-items
