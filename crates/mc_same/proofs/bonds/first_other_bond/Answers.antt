use Rattle.std.proofs.Common.{below_more, refl}
use Rattle.mc_same.proofs.Between.{same_bond}
use Rattle.mc_same.proofs.bonds.first_other_bond.Goals as goal

pub loop-k-preserved : goal.loop-k-preserved
loop-k-preserved c =
    below_more _ _ c.loop-k.invariant
    (same_bond c.args.input.now c.args.output.now c.args.map.now c.loop-k.k c.bond.result c.bond.ensures.value (c.in-Some.ensures.found.0 refl))
