use Rattle.std.proofs.Common.{rules}
use Rattle.fields.proofs.Hexing.{digits_none, digits_one_more, digits_fit, digits_stop}
use Rattle.fields.proofs.reading.read_digits.Goals as goal

pub loop-init : goal.loop-init
loop-init c = digits_none _

pub overflow_mul-value : goal.overflow_mul-value
overflow_mul-value c =
    let fit = digits_fit _ _ _ _ _ c.loop.invariant c.loop-test.true c.requires in
    search rules

pub overflow_add-value : goal.overflow_add-value
overflow_add-value c =
    let fit = digits_fit _ _ _ _ _ c.loop.invariant c.loop-test.true c.requires in
    search rules

pub returns-in_err-digit : goal.returns-in_err-digit
returns-in_err-digit c =
    rw c.from_residual.ensures (digits_stop _ _ _ _ _ c.loop.invariant c.loop-test.true c.in_err-digit.ensures)

pub loop-preserved : goal.loop-preserved
loop-preserved c =
    rw c.from.ensures (digits_one_more _ _ _ _ _ _ c.loop.invariant c.in_ok-digit.ensures.0 c.in_ok-digit.ensures.1)
