use Rattle.mc_rings.proofs.BlockEnds.{lower_has, lower_end}
use Rattle.mc_rings.proofs.block_tree.lower_block.Goals as goal

pub unreachable-requires : goal.unreachable-requires
unreachable-requires c = lower_has c.args.graph.now.bonds _ _ c.args.forest.now.places.items c.args.forest.now.parents.items _ _ _ c.args.tree.now.above.items c.requires.forest c.requires.tree
    c.args.upper.0 c.args.lower.0 c.requires.joined c.requires.later c.in-None.ensures

pub returns : goal.returns
returns c = lower_end c.args.forest.now.places.items c.args.tree.now.above.items c.args.upper.0 c.args.lower.0 _ c.requires.later c.in-Some.ensures
