use Rattle.std.proofs.Common.{◌<◌, ℕ, None, length}
use Rattle.mc_mol.specs.Numbered.{Mark}
use Rattle.mc_mol.specs.Forests.{Searched}
use Rattle.mc_mol.proofs.forest.forest_of.Given as goal

abbrev pub invariant-loop-a : goal.invariant-loop-a
invariant-loop-a l = record {
  state : Searched l.graph.bonds l.graph.atoms l.forest.order.items l.forest.places.items l.forest.parents.items l.forest.roots.items None;
  found : (x : ℕ) → x < l.a → (place : ℕ) × (Mark l.forest.places.items x place);
}
