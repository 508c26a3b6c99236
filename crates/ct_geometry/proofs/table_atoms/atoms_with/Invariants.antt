use Rattle.std.proofs.Common.{◌≡◌, ◌≤◌, ◌++◌, drop, length, vec_capacity}
use Rattle.ct_geometry.specs.Tables.{atoms_with}
use Rattle.ct_geometry.proofs.table_atoms.atoms_with.Given as goal

abbrev pub invariant-loop-k : goal.invariant-loop-k
invariant-loop-k l = record {
  atoms : l.found.items ++ atoms_with l.bonds l.k (drop l.k l.atoms) ≡ atoms_with l.bonds 0 l.atoms;
  count : length l.found.items ≡ l.k;
  room : length l.atoms ≤ vec_capacity l.found;
}
