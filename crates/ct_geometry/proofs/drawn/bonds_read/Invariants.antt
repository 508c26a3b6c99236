use Rattle.std.proofs.Common.{◌≡◌, ◌<◌, ℕ, true}
use Rattle.ct_geometry.specs.DrawnTests.{bond_reads}
use Rattle.ct_geometry.proofs.drawn.bonds_read.Given as goal

abbrev pub invariant-loop-k : goal.invariant-loop-k
invariant-loop-k l = (j : ℕ) → j < l.k → bond_reads l.mol l.points j ≡ true
