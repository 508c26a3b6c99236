use Rattle.mc_same.specs.Differences.{Holds, InRange}
use Rattle.mc_same.proofs.atoms.first_out_of_range.Given as goal

abbrev pub invariant-loop-k : goal.invariant-loop-k
invariant-loop-k l = Holds l.k (InRange l.input l.map)
