use Rattle.std.proofs.Common.{◌≡◌, ℕ, ◌+◌, ◌-◌, ◌<◌, ◌∙◌, rules, map, length, get_or, take, drop, arith}
use Rattle.std.proofs.lemmas.List.{get_or-take, get_or-drop}
use Rattle.tables.proofs.Probing.{passed_more, other_place}
use Rattle.tables.proofs.probe.scan.Goals as goal

pub loop-i-preserved : goal.loop-i-preserved
loop-i-preserved g c =
    let f = g.K.Key.meaning in
    let ss = c.args.slots.now in
    let a = c.args.from in
    let i = c.loop-i.i in
    let read = get_or-take (c.args.to - a) (drop a ss) i 0 (omega arith) ∙ get_or-drop a ss i 0 in
    let slot : ℕ = get_or (take (c.args.to - c.args.from) (drop c.args.from c.args.slots.now)) c.loop-i.i 0 in
    let place : get_or c.args.slots.now (c.args.from + c.loop-i.i) 0 ≡ slot - 1 + 1 = omega (arith, read, c.if-slot-eq0.false) in
    let differs : (d : _) → slot - 1 < length c.args.keys.now → g.K.Key.meaning (get_or c.args.keys.now (slot - 1) d) ≡ g.K.Key.meaning c.args.key.now → ⊥ = search rules in
    passed_more (f c.args.key.now) (map f c.args.keys.now) ss a (a + i) _ c.loop-i.invariant (omega arith) (other_place f (f c.args.key.now) c.args.keys.now (get_or ss (a + i) 0) (slot - 1) place differs)
