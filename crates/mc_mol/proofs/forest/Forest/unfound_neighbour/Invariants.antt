use Rattle.std.proofs.Common.{◌≡◌, ◌<◌, ℕ, Some, None, slice_get}
use Rattle.mc_mol.specs.declared.parts.HalfEdge.{HalfEdge}
use Rattle.mc_mol.specs.HalfEdges.{half_edges_in, LeadToNeighbours}
use Rattle.mc_mol.proofs.forest.Forest.unfound_neighbour.Given as goal

abbrev pub invariant-loop-half : goal.invariant-loop-half
invariant-loop-half l = record {
  halves : l.half-items ≡ half_edges_in l.graph.bonds l.fn.atom.0;
  lead : LeadToNeighbours l.graph.atoms l.graph.bonds l.fn.atom.0 l.half-items;
  found : (k : ℕ) (half : HalfEdge) → k < l.half-index → slice_get l.half-items k ≡ Some half → slice_get l.self.places.items half.to.0 ≡ Some None → ⊥;
}
