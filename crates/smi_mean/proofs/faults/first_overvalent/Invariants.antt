use Rattle.smi_graph.specs.Firsts.{NoneBelow}
use Rattle.mc_mol.specs.Limits.{overvalent_at}
use Rattle.smi_mean.specs.Meaning.{without_stereo}
use Rattle.smi_mean.proofs.faults.first_overvalent.Given as goal

abbrev pub invariant-loop-k : goal.invariant-loop-k
invariant-loop-k l = NoneBelow (overvalent_at (without_stereo l.atoms l.bonds)) l.k
