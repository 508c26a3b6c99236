use Rattle.std.proofs.Common.{◌≡◌, length}
use Rattle.lay_wedge.proofs.tests.tables.atoms_of.Given as goal

abbrev pub invariant-loop-a : goal.invariant-loop-a
invariant-loop-a l = length l.atoms.items ≡ l.a
