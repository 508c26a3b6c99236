use Rattle.std.proofs.Common.{◌≡◌, ◌≤◌, ◌+◌, ◌*◌, ◌<◌, drop}
use Rattle.mc_digits.specs.Fronts.{weighted}
use Rattle.mc_digits.proofs.read.weighted.Given as goal

abbrev pub invariant-loop-i : goal.invariant-loop-i
invariant-loop-i l = record {
  left : weighted l.weight l.value l.i (drop l.i l.text) ≡ weighted 1000 0 0 l.text;
  small : l.value + 10 * l.weight ≤ 10000;
  below : l.value < 10000;
}
