use Rattle.std.proofs.Common.{slice_get}
use Rattle.smi_graph.specs.Firsts.{NoneBelow}
use Rattle.smi_mean.specs.MeantCentres.{is_marked}
use Rattle.smi_mean.proofs.centres.some_marked.Given as goal

abbrev pub invariant-loop-atom : goal.invariant-loop-atom
invariant-loop-atom l = NoneBelow (λ k. is_marked (slice_get l.atoms k)) l.atom-index
