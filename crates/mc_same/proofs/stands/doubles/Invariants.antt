use Rattle.std.proofs.Common.{◌≡◌, ◌≤◌, ◌++◌, drop, length, vec_capacity}
use Rattle.mc_same.specs.Stands.{doubles_from}
use Rattle.mc_same.proofs.stands.doubles.Given as goal

abbrev pub invariant-loop-k : goal.invariant-loop-k
invariant-loop-k l = record {
  doubles : l.found.items ++ doubles_from l.input.candidates l.output.bonds l.map l.k (drop l.k l.bonds) ≡ doubles_from l.input.candidates l.output.bonds l.map 0 l.bonds;
  count : length l.found.items ≡ l.k;
  room : length l.bonds ≤ vec_capacity l.found;
}
