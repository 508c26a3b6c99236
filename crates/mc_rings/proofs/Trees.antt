-- The tree of blocks of a graph, as a search and the blocks hold it.
use Rattle.mc_mol.specs.declared.forest.Forest.{Forest}
use Rattle.mc_mol.specs.Graphs.{BondGraph}
use Rattle.mc_rings.specs.declared.block_tree.BlockTree.{BlockTree}
use Rattle.mc_rings.specs.Blocks.{Tree}

abbrev pub tree_of : BondGraph → Forest → BlockTree → Tree
tree_of graph forest tree = record {
  bonds = graph.bonds;
  atoms = graph.atoms;
  order = forest.order.items;
  places = forest.places.items;
  parents = forest.parents.items;
  roots = forest.roots.items;
  heads = tree.heads.items;
  firsts = tree.firsts.items;
  above = tree.above.items;
}
