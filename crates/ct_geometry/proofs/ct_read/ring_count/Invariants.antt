use Rattle.std.proofs.Common.{◌≡◌, ◌≤◌}
use Rattle.mc_mol.specs.Parts.{count_below}
use Rattle.ct_geometry.specs.Stands.{is_ring_side}
use Rattle.ct_geometry.proofs.ct_read.ring_count.Given as goal

abbrev pub invariant-loop-k : goal.invariant-loop-k
invariant-loop-k l = record {
  count : l.count ≡ count_below (is_ring_side l.mol l.rings.sizes l.marks) l.k;
  few : l.count ≤ l.k;
}
