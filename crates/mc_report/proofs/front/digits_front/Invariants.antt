use Rattle.std.proofs.Common.{◌≡◌, ◌≤◌, drop}
use Rattle.mc_report.specs.Fronts.{digits_front}
use Rattle.mc_report.proofs.front.digits_front.Given as goal

abbrev pub invariant-loop-i : goal.invariant-loop-i
invariant-loop-i l = record {
  within : l.value ≤ l.most;
  same : digits_front l.most l.value (drop l.i l.text) ≡ digits_front l.most 0 l.text;
}
