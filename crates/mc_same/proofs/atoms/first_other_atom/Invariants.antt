use Rattle.mc_same.specs.Differences.{Holds, SameAtom}
use Rattle.mc_same.proofs.atoms.first_other_atom.Given as goal

abbrev pub invariant-loop-k : goal.invariant-loop-k
invariant-loop-k l = Holds l.k (SameAtom l.input l.output l.map)
