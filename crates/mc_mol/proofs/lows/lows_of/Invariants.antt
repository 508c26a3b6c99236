use Rattle.std.proofs.Common.{length}
use Rattle.mc_mol.specs.Lows.{AreLows}
use Rattle.mc_mol.proofs.lows.lows_of.Given as goal

abbrev pub invariant-loop-done : goal.invariant-loop-done
invariant-loop-done l = record {
  lows : AreLows l.graph.bonds l.graph.atoms l.forest.places.items l.forest.parents.items l.lows.items l.done;
}
