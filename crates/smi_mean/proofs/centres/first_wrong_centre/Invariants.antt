use Rattle.std.proofs.Common.{slice_get}
use Rattle.mc_rings.specs.Centres.{may_be_centre}
use Rattle.smi_graph.specs.Firsts.{NoneBelow}
use Rattle.smi_mean.specs.MeantCentres.{is_wrong_centre}
use Rattle.smi_mean.proofs.centres.first_wrong_centre.Given as goal

abbrev pub invariant-loop-k : goal.invariant-loop-k
invariant-loop-k l = NoneBelow (λ k. is_wrong_centre (slice_get l.skeleton.atoms k) (may_be_centre l.mol l.rings.sizes k)) l.k
