use Rattle.std.specs.Prelude.{◌≡◌, None, Some, slice_get}
use Rattle.mc_same.specs.Differences.{Holds}
use Rattle.mc_same.proofs.sides.has_sides.Given as goal

abbrev pub invariant-loop-k : goal.invariant-loop-k
invariant-loop-k l = Holds l.k (λ k. slice_get l.mol.sides k ≡ Some None)
