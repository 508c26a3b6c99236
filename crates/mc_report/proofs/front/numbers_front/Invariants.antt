use Rattle.std.proofs.Common.{length}
use Rattle.mc_report.proofs.Lists.{Reading}
use Rattle.mc_report.proofs.front.numbers_front.Given as goal

abbrev pub invariant-loop-atom : goal.invariant-loop-atom
invariant-loop-atom l = Reading l.text l.atoms l.rest

abbrev pub decreases-loop-atom : goal.decreases-loop-atom
decreases-loop-atom l = length l.rest
