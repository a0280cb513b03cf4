use Rattle.std.proofs.Common.{◌≡◌, refl, arith}
use Rattle.records.specs.Layout.{padded}
use Rattle.records.proofs.LayoutFacts.{zeros_within}
use Rattle.records.proofs.layout.face.Goals as goal

pub returns-then-zeros : goal.returns-then-zeros
returns-then-zeros c =
    let part = c.in_ok-filler.ensures.lookup.0 in
    let whole : c.whole_words.result ≡ padded c.args.bytes = c.whole_words.ensures.value in
    (refl, omega arith, omega (arith, part.1), λ i low high. zeros_within c.args.tape.now c.in_ok-filler.filler.now _ _ part.2 part.3 (c.if-zeros.ensures.0 refl) i low (omega arith))
