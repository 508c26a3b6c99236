use Rattle.std.proofs.Common.{◌≡◌, length, arith}
use Rattle.mc_rings.proofs.Trees.{tree_of}
use Rattle.mc_rings.proofs.BlocksShared.{are_blocks}
use Rattle.mc_rings.proofs.BlockOrders.{are_below}
use Rattle.mc_rings.proofs.block_tree.bond_blocks.Goals as goal

pub returns-clause-are : goal.returns-clause-are
returns-clause-are c =
    let count : length c.loop-k.blocks.items ≡ length c.args.graph.now.bonds =
    let most = c.loop-k.auto.k-end in let past = c.loop-k-test.false in omega (arith, c.loop-k.invariant.count, c.bond_count-k-end.ensures.count) in
    are_blocks (tree_of c.args.graph.now c.args.forest.now c.args.tree.now) (record { forest = c.requires.forest; blocked = c.requires.tree })
    c.loop-k.blocks.items count c.loop-k.invariant.each

pub returns-clause-below : goal.returns-clause-below
returns-clause-below c =
    let count : length c.loop-k.blocks.items ≡ length c.args.graph.now.bonds =
    let most = c.loop-k.auto.k-end in let past = c.loop-k-test.false in omega (arith, c.loop-k.invariant.count, c.bond_count-k-end.ensures.count) in
    are_below (tree_of c.args.graph.now c.args.forest.now c.args.tree.now) (record { forest = c.requires.forest; blocked = c.requires.tree })
    c.loop-k.blocks.items count c.loop-k.invariant.each
