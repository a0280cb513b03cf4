use Rattle.std.proofs.Common.{arith}
use Rattle.reading.proofs.ValueFacts.{digit_at, number_go, number-ge, number_end}
use Rattle.reading.proofs.number.magnitude.Goals as goal

pub returns-in_err-checked_mul : goal.returns-in_err-checked_mul
returns-in_err-checked_mul c =
    let l = number-ge c.args.digits.now c.loop-digit.digit-index c.loop-digit.sum c.loop-digit-test.true c.loop-digit.invariant.1 in
    rw c.from_residual.ensures (λ h. c.in_err-checked_mul.ensures (omega arith))

pub returns-in_err-sum : goal.returns-in_err-sum
returns-in_err-sum c =
    let l = number-ge c.args.digits.now c.loop-digit.digit-index c.loop-digit.sum c.loop-digit-test.true c.loop-digit.invariant.1 in
    rw c.from_residual-in_err-sum.ensures (λ h. c.in_err-sum.ensures (omega (arith, c.in_ok-checked_mul.ensures, c.from.ensures)))

pub loop-digit-preserved : goal.loop-digit-preserved
loop-digit-preserved c =
    let e = c.in_ok-checked_mul.ensures in
    let f = c.in_ok-sum.ensures in
    let g = number_go c.args.digits.now c.loop-digit.digit-index c.loop-digit.sum c.loop-digit-test.true c.loop-digit.invariant.1 in
    ((digit_at c.args.digits.now c.loop-digit.digit-index c.loop-digit-test.true c.loop-digit.invariant.0).2, rw (f.1, e.1, c.from.ensures) g, omega (arith, e, f))

pub returns : goal.returns
returns c =
    let e = number_end c.args.digits.now c.loop-digit.digit-index c.loop-digit.sum c.loop-digit-test.false c.loop-digit.invariant.1 in
    (omega arith, e)
