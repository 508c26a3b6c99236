use Rattle.std.proofs.Common.{◌≡◌, ◌++◌, drop}
use Rattle.smi_mean.specs.Barriers.{marked_from}
use Rattle.smi_mean.proofs.need_graph.candidate_bonds.Given as goal

abbrev pub invariant-loop-k : goal.invariant-loop-k
invariant-loop-k l = l.found.items ++ marked_from l.skeleton.candidates l.k (drop l.k l.bonds) ≡ marked_from l.skeleton.candidates 0 l.bonds
