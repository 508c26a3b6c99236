use Rattle.std.proofs.Common.{slice_get}
use Rattle.mc_mol.specs.Limits.{is_hydrogen_with_more}
use Rattle.smi_graph.specs.Firsts.{NoneBelow}
use Rattle.smi_mean.proofs.faults.first_hydrogen_on_hydrogen.Given as goal

abbrev pub invariant-loop-k : goal.invariant-loop-k
invariant-loop-k l = NoneBelow (λ k. is_hydrogen_with_more (slice_get l.atoms k)) l.k
