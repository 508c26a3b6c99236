use Rattle.mc_same.proofs.SidesDecided.{sides_exact}
use Rattle.mc_same.proofs.sides.sides_agree.Goals as goal

pub returns : goal.returns
returns c =
    sides_exact c.args.input.now c.args.output.now c.args.map.now c.args.k.0 c.in-Some.found.0 c.bond-bond.result c.bond.result c.sides.result c.sides-in-Some.result c.same_sides.result
    c.requires.input c.in-Some.ensures c.bond-bond.ensures.value c.bond.ensures.value c.sides.ensures c.sides-in-Some.ensures c.same_sides.ensures
