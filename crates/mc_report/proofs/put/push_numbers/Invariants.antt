use Rattle.std.proofs.Common.{◌≡◌, ◌++◌, drop}
use Rattle.mc_report.specs.Report.{later_numbers}
use Rattle.mc_report.proofs.put.push_numbers.Given as goal

abbrev pub invariant-loop-atom : goal.invariant-loop-atom
invariant-loop-atom l = l.text ++ later_numbers (drop l.atom-index l.others) ≡ l.initial.text ++ later_numbers l.others
