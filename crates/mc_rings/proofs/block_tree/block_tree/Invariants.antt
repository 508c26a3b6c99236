use Rattle.std.proofs.Common.{length}
use Rattle.mc_rings.specs.Blocks.{Blocked}
use Rattle.mc_rings.proofs.block_tree.block_tree.Given as goal

abbrev pub invariant-loop-done : goal.invariant-loop-done
invariant-loop-done l = record {
  tree : Blocked l.graph.bonds l.graph.atoms l.forest.places.items l.forest.parents.items l.tree.heads.items l.tree.firsts.items l.tree.above.items l.done;
}
