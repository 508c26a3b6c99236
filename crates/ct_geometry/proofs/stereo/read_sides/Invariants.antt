use Rattle.std.proofs.Common.{◌≡◌, ◌≤◌, ℕ, length, vec_capacity}
use Rattle.ct_geometry.specs.CentresRead.{up_to}
use Rattle.ct_geometry.specs.TableSides.{drawn_sides}
use Rattle.ct_geometry.proofs.stereo.read_sides.Given as goal

abbrev pub invariant-loop-k : goal.invariant-loop-k
invariant-loop-k l = record {
  found : l.found.items ≡ up_to (λ (k : ℕ). drawn_sides l.mol l.rings.sizes l.drawing l.marks k) l.k;
  count : length l.found.items ≡ l.k;
  room : length l.mol.bonds ≤ vec_capacity l.found;
}
