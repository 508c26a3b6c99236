use Rattle.std.proofs.Common.{◌≡◌, ◌≤◌, ◌++◌, drop, length, vec_capacity}
use Rattle.ct_geometry.specs.Stands.{kept_wedges}
use Rattle.ct_geometry.proofs.ct_read.kept_wedges.Given as goal

abbrev pub invariant-loop-bond : goal.invariant-loop-bond
invariant-loop-bond l = record {
  wedges : l.found.items ++ kept_wedges l.centres (drop l.bond-index l.bonds) ≡ kept_wedges l.centres l.bonds;
  count : length l.found.items ≡ l.bond-index;
  room : length l.bonds ≤ vec_capacity l.found;
}
