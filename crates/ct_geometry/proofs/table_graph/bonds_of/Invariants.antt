use Rattle.std.proofs.Common.{◌≡◌, ◌≤◌, ◌++◌, drop, length, vec_capacity}
use Rattle.ct_geometry.specs.Tables.{bonds_of}
use Rattle.ct_geometry.proofs.table_graph.bonds_of.Given as goal

abbrev pub invariant-loop-bond : goal.invariant-loop-bond
invariant-loop-bond l = record {
  bonds : l.found.items ++ bonds_of (drop l.bond-index l.bonds) ≡ bonds_of l.bonds;
  count : length l.found.items ≡ l.bond-index;
  room : length l.bonds ≤ vec_capacity l.found;
}
