use Rattle.std.proofs.Common.{◌≡◌, ◌≤◌, ◌++◌, drop, length, vec_capacity}
use Rattle.smi_mean.specs.Placements.{raised}
use Rattle.smi_mean.proofs.placed.raised.Given as goal

abbrev pub invariant-loop-k : goal.invariant-loop-k
invariant-loop-k l = record {
  bonds : l.found.items ++ raised (drop l.k l.placed) (drop l.k l.bonds) ≡ raised l.placed l.bonds;
  count : length l.found.items ≡ l.k;
  room : length l.bonds ≤ vec_capacity l.found;
}
