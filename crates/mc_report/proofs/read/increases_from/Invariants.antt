use Rattle.std.proofs.Common.{◌≡◌, drop}
use Rattle.mc_report.specs.Grammar.{increases_from}
use Rattle.mc_report.proofs.read.increases_from.Given as goal

abbrev pub invariant-loop-atom : goal.invariant-loop-atom
invariant-loop-atom l = increases_from l.last (drop l.atom-index l.others) ≡ increases_from l.initial.last l.others
