use Rattle.std.proofs.Common.{◌≡◌, ◌≤◌, ◌++◌, drop, length, map, vec_capacity}
use Rattle.ct_geometry.specs.Tables.{mark_of}
use Rattle.ct_geometry.proofs.table_graph.marks_of.Given as goal

abbrev pub invariant-loop-bond : goal.invariant-loop-bond
invariant-loop-bond l = record {
  marks : l.found.items ++ map mark_of (drop l.bond-index l.bonds) ≡ map mark_of l.bonds;
  count : length l.found.items ≡ l.bond-index;
  room : length l.bonds ≤ vec_capacity l.found;
}
