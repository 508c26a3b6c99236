use Rattle.mc_same.specs.Differences.{Holds}
use Rattle.mc_same.specs.Stands.{BondFits}
use Rattle.mc_same.proofs.stands.first_unfit_bond.Given as goal

abbrev pub invariant-loop-k : goal.invariant-loop-k
invariant-loop-k l = Holds l.k (BondFits l.input l.lying l.output l.map)
