use Rattle.std.proofs.Common.{◌≡◌, ◌≤◌, length, drop}
use Rattle.mc_report.specs.Fronts.{word_front}
use Rattle.mc_report.proofs.front.word_front.Given as goal

abbrev pub invariant-loop-i : goal.invariant-loop-i
invariant-loop-i l = record {
  within : l.i ≤ length l.text;
  same : word_front (drop l.i l.word) (drop l.i l.text) ≡ word_front l.word l.text;
}
