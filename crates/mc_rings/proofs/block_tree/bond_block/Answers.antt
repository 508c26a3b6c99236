use Rattle.mc_mol.proofs.Neighbours.{joined_back, bond_joined}
use Rattle.mc_rings.proofs.BlockEnds.{later_there, later_else}
use Rattle.mc_rings.proofs.block_tree.bond_block.Goals as goal

pub lower_block-requires-clause-joined : goal.lower_block-requires-clause-joined
lower_block-requires-clause-joined c = bond_joined c.args.graph.now.bonds c.args.b.0 c.bond-bond.result c.bond-bond.ensures.value

pub lower_block-requires-clause-later : goal.lower_block-requires-clause-later
lower_block-requires-clause-later c =
    let is = c.bond-bond.ensures.well_formed in
    later_there c.args.graph.now.bonds _ _ c.args.forest.now.places.items c.args.forest.now.parents.items _ c.requires.forest c.bond-bond.result.first.0 c.bond-bond.result.second.0
    c.place.result c.place-2.result is.first is.second c.place.ensures c.place-2.ensures c.if-place.true

pub lower_block-requires-else-place-clause-joined : goal.lower_block-requires-else-place-clause-joined
lower_block-requires-else-place-clause-joined c = joined_back c.args.graph.now.bonds _ _ (bond_joined c.args.graph.now.bonds c.args.b.0 c.bond-bond.result c.bond-bond.ensures.value)

pub lower_block-requires-else-place-clause-later : goal.lower_block-requires-else-place-clause-later
lower_block-requires-else-place-clause-later c =
    let is = c.bond-bond.ensures.well_formed in
    later_else c.args.graph.now.bonds _ _ c.args.forest.now.places.items c.args.forest.now.parents.items _ c.requires.forest c.bond-bond.result.first.0 c.bond-bond.result.second.0
    c.place.result c.place-2.result is.first is.second is.different c.place.ensures c.place-2.ensures c.if-place.false
