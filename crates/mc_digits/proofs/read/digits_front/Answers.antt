use Rattle.std.proofs.Common.{arith, ◌<◌, ◌^◌}
use Rattle.mc_digits.proofs.Powers.{twelve_digits}
use Rattle.mc_digits.proofs.read.digits_front.Goals as goal

pub returns-then-not-is_ascii_digit-clause-small : goal.returns-then-not-is_ascii_digit-clause-small
returns-then-not-is_ascii_digit-clause-small c =
    twelve_digits c.loop-i.i c.loop-i.value c.loop-i.invariant.few c.loop-i.invariant.small

pub overflow_mul-value : goal.overflow_mul-value
overflow_mul-value c =
    let small : c.loop-i.value < 10 ^ 12 = twelve_digits c.loop-i.i c.loop-i.value c.loop-i.invariant.few c.loop-i.invariant.small in
    omega arith

pub overflow_add-value : goal.overflow_add-value
overflow_add-value c =
    let small : c.loop-i.value < 10 ^ 12 = twelve_digits c.loop-i.i c.loop-i.value c.loop-i.invariant.few c.loop-i.invariant.small in
    omega (arith, c.from.ensures)

pub returns-clause-small : goal.returns-clause-small
returns-clause-small c =
    twelve_digits c.loop-i.i c.loop-i.value c.loop-i.invariant.few c.loop-i.invariant.small
