use Rattle.mc_same.specs.Differences.{CentreAgrees, Holds}
use Rattle.mc_same.proofs.centres.first_other_centre.Given as goal

abbrev pub invariant-loop-k : goal.invariant-loop-k
invariant-loop-k l = Holds l.k (CentreAgrees l.input l.output l.map)
