use Rattle.std.proofs.Common.{ℕ, length}
use Rattle.mc_mol.specs.Numbered.{Mark, Keeps}
use Rattle.mc_mol.specs.Forests.{Searched, still_to_go}
use Rattle.mc_mol.proofs.forest.Forest.search.Given as goal

abbrev pub invariant-atoms : goal.invariant-atoms
invariant-atoms l = record {
  state : Searched l.graph.bonds l.graph.atoms l.self.order.items l.self.places.items l.self.parents.items l.self.roots.items l.current;
  root : (place : ℕ) × (Mark l.self.places.items l.fn.root.0 place);
  kept : Keeps l.fn.self.places.items l.self.places.items;
}

abbrev pub decreases-atoms : goal.decreases-atoms
decreases-atoms l = still_to_go l.graph.atoms l.self.places.items l.current
