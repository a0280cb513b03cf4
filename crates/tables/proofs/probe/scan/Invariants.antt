use Rattle.std.proofs.Common.{◌+◌, map}
use Rattle.tables.specs.Probes.{Passed}
use Rattle.tables.proofs.probe.scan.Given as goal

abbrev pub invariant-loop-i : goal.invariant-loop-i
invariant-loop-i g l = Passed (g.K.Key.meaning l.key) (map g.K.Key.meaning l.keys) l.slots l.from (l.from + l.i)
