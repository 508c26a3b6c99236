use Rattle.mc_same.specs.Differences.{Holds}
use Rattle.mc_same.specs.Stands.{AtomFits}
use Rattle.mc_same.proofs.stands.first_unfit_atom.Given as goal

abbrev pub invariant-loop-k : goal.invariant-loop-k
invariant-loop-k l = Holds l.k (AtomFits l.input l.needs l.output l.map)
