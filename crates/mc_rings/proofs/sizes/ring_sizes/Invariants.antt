use Rattle.std.proofs.Common.{◌≡◌, ℕ, Option, Some, length, slice_get}
use Rattle.mc_rings.specs.RingSizes.{RingSizeAt}
use Rattle.mc_rings.proofs.sizes.ring_sizes.Given as goal

abbrev pub invariant-loop-k : goal.invariant-loop-k
invariant-loop-k l = record {
  count : length l.sizes.items ≡ l.k;
  each : (k : ℕ) (size : Option ℕ) → slice_get l.sizes.items k ≡ Some size → RingSizeAt l.mol.bonds k size;
}
