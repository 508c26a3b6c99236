use Rattle.std.proofs.Common.{◌≡◌, ◌≤◌, ◌++◌, map, drop, length, vec_capacity}
use Rattle.smi_graph.specs.Links.{bond_of}
use Rattle.smi_graph.proofs.text_bond.bonds_with_orders.Given as goal

abbrev pub invariant-loop-bond : goal.invariant-loop-bond
invariant-loop-bond l = record {
  bonds : l.found.items ++ map bond_of (drop l.bond-index l.bonds) ≡ map bond_of l.bonds;
  count : length l.found.items ≡ l.bond-index;
  room : length l.bonds ≤ vec_capacity l.found;
}
