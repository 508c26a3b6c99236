use Rattle.std.proofs.Common.{◌≡◌, length}
use Rattle.mc_mol.proofs.ClosedBonds.{AreMarked}
use Rattle.mc_mol.proofs.closed_paths.bonds_on_closed_paths.Given as goal

abbrev pub invariant-loop-k : goal.invariant-loop-k
invariant-loop-k l = record {
  count : length l.marks.items ≡ l.k;
  each : AreMarked l.graph.bonds l.marks.items;
}
