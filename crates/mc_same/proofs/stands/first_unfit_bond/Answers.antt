use Rattle.std.proofs.Common.{arith, below_more, length}
use Rattle.mc_same.specs.Stands.{BondFits}
use Rattle.mc_same.proofs.Fitting.{first_failure}
use Rattle.mc_same.proofs.stands.first_unfit_bond.Goals as goal

pub returns-then-not-bond_fits : goal.returns-then-not-bond_fits
returns-then-not-bond_fits c =
    let below = c.loop-k-test.true in
    let count = c.bond_count-k-end.ensures.count in
    first_failure (length c.args.output.now.bonds) c.loop-k.k
    (BondFits c.args.input.now c.args.lying.now c.args.output.now c.args.map.now)
    c.bond_fits.result (omega arith) c.loop-k.invariant c.bond_fits.ensures c.if-not-bond_fits.true

pub loop-k-preserved : goal.loop-k-preserved
loop-k-preserved c = below_more _ _ c.loop-k.invariant (c.bond_fits.ensures.0 c.if-not-bond_fits.false)

pub returns : goal.returns
returns c = λ k less. c.loop-k.invariant k (omega (arith, less, c.loop-k-test.false, c.bond_count-k-end.ensures.count))
