use Rattle.std.proofs.Common.{◌≡◌}
use Rattle.mc_mol.specs.HalfEdges.{half_edges_in, LeadToNeighbours}
use Rattle.mc_mol.specs.Lows.{LowSoFar}
use Rattle.mc_mol.proofs.lows.low_of.Given as goal

abbrev pub invariant-loop-half : goal.invariant-loop-half
invariant-loop-half l = record {
  halves : l.half-items ≡ half_edges_in l.graph.bonds l.atom.0;
  lead : LeadToNeighbours l.graph.atoms l.graph.bonds l.atom.0 l.half-items;
  so_far : LowSoFar l.graph.bonds l.forest.places.items l.forest.parents.items l.atom.0 l.half-items l.low l.half-index;
}
