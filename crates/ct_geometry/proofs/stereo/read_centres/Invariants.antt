use Rattle.std.proofs.Common.{◌≡◌, ◌≤◌, ◌<◌, ℕ, length, false, vec_capacity}
use Rattle.ct_geometry.specs.CentresRead.{centre_given, is_ambiguous, up_to}
use Rattle.ct_geometry.specs.Wedges.{begins, read_wedges}
use Rattle.ct_geometry.proofs.stereo.read_centres.Given as goal

abbrev pub invariant-loop-a : goal.invariant-loop-a
invariant-loop-a l = record {
  found : l.found.items ≡ up_to (λ (a : ℕ). centre_given (read_wedges l.mol l.rings.sizes l.drawing (begins l.mol.bonds l.marks a) a)) l.a;
  count : length l.found.items ≡ l.a;
  clear : (a : ℕ) → a < l.a → is_ambiguous (read_wedges l.mol l.rings.sizes l.drawing (begins l.mol.bonds l.marks a) a) ≡ false;
  room : length l.mol.atoms ≤ vec_capacity l.found;
}
