use Rattle.std.proofs.Common.{◌+◌, ◌*◌, arith, rules}
use Rattle.records.specs.Layout.{float_at}
use Rattle.records.proofs.LayoutFacts.{made_at}
use Rattle.records.proofs.layout.floats.Goals as goal

pub returns : goal.returns
returns g c = (omega arith, made_at _ _ (λ k. float_at c.args.tape.now (4 + 4 * k)) (λ i y q k. search rules) _ _ c.from_fn.ensures.items.each)
