use Rattle.std.proofs.Common.{◌≡◌, ◌<◌, ℕ, true}
use Rattle.ct_geometry.specs.DrawnTests.{atom_reads}
use Rattle.ct_geometry.proofs.drawn.atoms_read.Given as goal

abbrev pub invariant-loop-a : goal.invariant-loop-a
invariant-loop-a l = (j : ℕ) → j < l.a → atom_reads l.mol l.points j ≡ true
