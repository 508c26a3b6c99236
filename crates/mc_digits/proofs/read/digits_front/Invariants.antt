use Rattle.std.proofs.Common.{◌≡◌, ◌<◌, ◌≤◌, ◌^◌, drop}
use Rattle.mc_digits.specs.Fronts.{digits_front}
use Rattle.mc_digits.proofs.read.digits_front.Given as goal

abbrev pub invariant-loop-i : goal.invariant-loop-i
invariant-loop-i l = record {
  left : digits_front l.i l.value (drop l.i l.text) ≡ digits_front 0 0 l.text;
  few : l.i ≤ 12;
  small : l.value < 10 ^ l.i;
}
