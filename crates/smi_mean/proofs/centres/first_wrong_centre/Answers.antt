use Rattle.std.proofs.Common.{slice_get}
use Rattle.mc_rings.specs.Centres.{may_be_centre}
use Rattle.smi_mean.specs.MeantCentres.{is_wrong_centre}
use Rattle.smi_mean.proofs.CentreFits.{none_more}
use Rattle.smi_mean.proofs.centres.first_wrong_centre.Goals as goal

pub loop-k-preserved : goal.loop-k-preserved
loop-k-preserved c =
    none_more (λ k. is_wrong_centre (slice_get c.args.skeleton.now.atoms k) (may_be_centre c.args.mol.now c.args.rings.now.sizes k)) c.loop-k.k c.loop-k.invariant
    (let told = c.is_wrong_centre.ensures in let fails = c.if-is_wrong_centre.false in let here = c.if-is_wrong_centre.ensures in cc)
