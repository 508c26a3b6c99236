use Rattle.mc_same.specs.Differences.{Holds, SameBond}
use Rattle.mc_same.proofs.bonds.first_other_bond.Given as goal

abbrev pub invariant-loop-k : goal.invariant-loop-k
invariant-loop-k l = Holds l.k (SameBond l.input l.output l.map)
