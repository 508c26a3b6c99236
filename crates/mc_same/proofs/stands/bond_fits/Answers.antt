use Rattle.mc_same.proofs.Fitting.{bond_decides}
use Rattle.mc_same.proofs.stands.bond_fits.Goals as goal

pub returns : goal.returns
returns c = bond_decides c.args.input.now c.args.lying.now c.args.output.now c.args.map.now c.args.b.0 c.bond-bond.result c.are_all.result
    c.has_counterpart-found.result c.is_marked_at-first.result c.is_marked_at-second.result c.bond-bond.ensures.value c.are_all.ensures c.has_counterpart-found.ensures c.is_marked_at-first.ensures c.is_marked_at-second.ensures
