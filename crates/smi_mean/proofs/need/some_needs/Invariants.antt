use Rattle.smi_graph.specs.Firsts.{NoneBelow}
use Rattle.smi_mean.specs.Needs.{needs}
use Rattle.smi_mean.proofs.need.some_needs.Given as goal

abbrev pub invariant-loop-k : goal.invariant-loop-k
invariant-loop-k l = NoneBelow (λ k. needs l.atoms l.bonds k) l.k
