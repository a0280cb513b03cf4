use Rattle.std.proofs.Common.{◌≡◌, ◌<◌, Err, None, Some, map, length, rules, ap, ◌∙◌, arith}
use Rattle.std.proofs.lemmas.List.{length-map}
use Rattle.std.specs.Result.{result_ok}
use Rattle.tables.specs.declared.numbering.Unnumbered.TheVariants.{Full}
use Rattle.tables.proofs.TableFacts.{entering_at, step_keys, step_cells, step_stopped}
use Rattle.tables.proofs.numbering.number_each.Goals as goal

pub returns-in_err-out-clause-each : goal.returns-in_err-out-clause-each
returns-in_err-out-clause-each g c =
    let f = g.K.Key.meaning in
    let vs = c.args.keys.now in
    let cap = g.T.CornerTable.capacity c.args.table.now in
    let ks = g.T.CornerTable.keys c.loop-i.table in
    let ls = g.T.CornerTable.keys c.enter.new.self in
    let i = c.loop-i.i in
    let none : c.enter.result ≡ None = c.ok_or.ensures.ok_part ∙ ap result_ok c.in_err-out.was in
    let full : c.from_residual.result ≡ Err (Full c.loop-i.i) = search rules in
    let inside : c.loop-i.i < length (map g.K.Key.meaning c.args.keys.now) = omega (arith, length-map vs f) in
    let refused = entering_at cap f vs ks ls i c.index-keys-i.result None (omega arith) c.index-keys-i.is (rw (none, c.loop-i.invariant.capacity) at (c.enter.ensures.entering c.loop-i.invariant.sound)) in
    rw full (step_stopped cap (map f vs) ks ls i inside c.loop-i.invariant.keys c.args.out.now c.loop-i.out (omega (arith, length-map vs f)) c.loop-i.invariant.written refused)

pub loop-i-preserved : goal.loop-i-preserved
loop-i-preserved g c =
    let f = g.K.Key.meaning in
    let vs = c.args.keys.now in
    let cap = g.T.CornerTable.capacity c.loop-i.table in
    let ks = g.T.CornerTable.keys c.loop-i.table in
    let ls = g.T.CornerTable.keys c.enter.new.self in
    let i = c.loop-i.i in
    let p = c.in_ok-out.field-0 in
    let s = c.loop-i.invariant.sound in
    let some : c.enter.result ≡ Some c.in_ok-out.field-0 = c.ok_or.ensures.ok_part ∙ ap result_ok c.in_ok-out.was in
    let inside : c.loop-i.i < length (map g.K.Key.meaning c.args.keys.now) = omega (arith, length-map vs f) in
    let placed = entering_at cap f vs ks ls i c.index-keys-i.result (Some p) (omega arith) c.index-keys-i.is (rw some at (c.enter.ensures.entering s)) in
    let now-keys = step_keys cap (map f vs) ks ls i inside c.loop-i.invariant.keys p placed in
    record {
      sound = c.enter.ensures.sound s;
      capacity = c.enter.ensures.capacity ∙ c.loop-i.invariant.capacity;
      cells = c.loop-i.invariant.cells;
      keys = now-keys;
      written = step_cells cap (map f vs) ks ls i inside c.loop-i.invariant.keys c.args.out.now c.loop-i.out p (omega arith) c.loop-i.invariant.written placed;
      within = rw now-keys at (c.enter.ensures.fit s).within;
    }
