use Rattle.std.proofs.Common.{◌≡◌, ◌≤◌, ◌++◌, drop, length, map, vec_capacity}
use Rattle.ct_geometry.specs.Tables.{point_of}
use Rattle.ct_geometry.proofs.table_graph.drawing_of.Given as goal

abbrev pub invariant-loop-atom : goal.invariant-loop-atom
invariant-loop-atom l = record {
  points : l.found.items ++ map point_of (drop l.atom-index l.atoms) ≡ map point_of l.atoms;
  count : length l.found.items ≡ l.atom-index;
  room : length l.atoms ≤ vec_capacity l.found;
}
