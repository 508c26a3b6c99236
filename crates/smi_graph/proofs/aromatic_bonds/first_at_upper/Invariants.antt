use Rattle.std.proofs.Common.{slice_get}
use Rattle.smi_graph.specs.Candidates.{bond_fails}
use Rattle.smi_graph.specs.Firsts.{NoneBelow}
use Rattle.smi_graph.proofs.aromatic_bonds.first_at_upper.Given as goal

abbrev pub invariant-loop-k : goal.invariant-loop-k
invariant-loop-k l = NoneBelow (λ k. bond_fails l.atoms (slice_get l.bonds k)) l.k
