use Rattle.std.proofs.Common.{rules, ℕ}
use Rattle.lay_wedge.specs.Fitting.{CentreFits}
use Rattle.ct_geometry.proofs.Loops.{each_more}
use Rattle.lay_wedge.proofs.tests.planned.centres_fit.Goals as goal

pub loop-a-preserved : goal.loop-a-preserved
loop-a-preserved c = each_more (λ (j : ℕ). CentreFits c.args.mol.now c.args.rings.now.sizes j) c.loop-a.a c.loop-a.invariant (c.centre_fits.ensures (search rules))
