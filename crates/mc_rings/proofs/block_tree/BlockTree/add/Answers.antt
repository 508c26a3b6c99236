use Rattle.std.proofs.Common.{length, ap, arith}
use Rattle.std.proofs.lemmas.Option.{slice_get_within}
use Rattle.mc_mol.proofs.LeastPlaces.{parent_placed}
use Rattle.mc_rings.proofs.BlockSteps.{blocked_root, blocked_child}
use Rattle.mc_mol.proofs.Roots.{order_full}
use Rattle.mc_rings.proofs.block_tree.BlockTree.add.Goals as goal

pub block_below-requires-clause-parent : goal.block_below-requires-clause-parent
block_below-requires-clause-parent c =
    let p = parent_placed c.args.graph.now.bonds _ _ c.args.forest.now.places.items c.args.forest.now.parents.items _ c.requires.forest c.args.atom.0 c.in-Some.parent.0 c.in-Some.ensures in
    let within = p.2 in
    let count = c.requires.place.2.count in
    let places = c.requires.forest.found.place_count in
    omega arith

pub block_below-requires-clause-few : goal.block_below-requires-clause-few
block_below-requires-clause-few c =
    let i = c.requires.place in
    let few = i.2.few in
    let within = slice_get_within c.args.forest.now.order.items i.0 _ (c.requires.forest.found.placed c.args.atom.0 i.0 i.1) in
    let full = order_full c.args.graph.now.bonds _ c.args.forest.now.order.items c.args.forest.now.places.items c.args.forest.now.parents.items c.args.forest.now.roots.items c.requires.forest in
    let most = c.requires.few in
    omega arith

pub index_mut-requires : goal.index_mut-requires
index_mut-requires c =
    let i = c.requires.place in
    let within = slice_get_within c.args.forest.now.places.items c.args.atom.0 _ i.1 in
    let count = i.2.count in
    let places = c.requires.forest.found.place_count in
    let same = ap length c.block_below.ensures.above in
    omega arith

pub returns-in-None : goal.returns-in-None
returns-in-None c i at are = blocked_root c.args.graph.now.bonds c.args.graph.now.atoms _ c.args.forest.now.places.items c.args.forest.now.parents.items _ c.args.self.now.heads.items
    c.args.self.now.firsts.items c.args.self.now.above.items c.args.atom.0 i c.requires.forest at c.in-None.ensures are

pub returns-in_ok-block-in-Some : goal.returns-in_ok-block-in-Some
returns-in_ok-block-in-Some c i at are = blocked_child c.args.graph.now.bonds c.args.graph.now.atoms _ c.args.forest.now.places.items c.args.forest.now.parents.items _
    c.args.self.now.heads.items c.args.self.now.firsts.items c.block_below.new.self.heads.items c.block_below.new.self.firsts.items c.args.self.now.above.items c.block_below.new.self.above.items
    c.args.atom c.in-Some.parent i c.in_ok-block-in-Some.block c.rises-rises.result c.requires.forest at c.in-Some.ensures are c.rises-rises.ensures c.in_ok-block-in-Some.ensures.block
    c.block_below.ensures.above
