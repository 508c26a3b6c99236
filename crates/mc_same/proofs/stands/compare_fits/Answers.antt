use Rattle.std.proofs.Common.{◌≡◌, arith, length}
use Rattle.mc_same.proofs.Fitting.{fits_same}
use Rattle.mc_same.proofs.stands.compare_fits.Goals as goal

pub compare_stereo-requires-clause-graph : goal.compare_stereo-requires-clause-graph
compare_stereo-requires-clause-graph c =
    let same : length c.args.output.now.bonds ≡ length c.args.input.now.bonds = omega (arith, c.if-bond_count.false, c.bond_count.ensures.count, c.bond_count-in-None.ensures.count) in
    fits_same c.args.input.now c.args.needs.now c.args.lying.now c.args.output.now c.args.map.now (c.requires.map, c.in-None.ensures, same, c.in-None-first_unfit_bond.ensures)
