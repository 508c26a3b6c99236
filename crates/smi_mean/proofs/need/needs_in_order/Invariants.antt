use Rattle.std.proofs.Common.{◌≡◌, ◌≤◌, ◌++◌, drop, length, vec_capacity}
use Rattle.smi_mean.specs.Barriers.{needs_from}
use Rattle.smi_mean.proofs.need.needs_in_order.Given as goal

abbrev pub invariant-loop-k : goal.invariant-loop-k
invariant-loop-k l = record {
  needs : l.found.items ++ needs_from l.bonds l.k (drop l.k l.atoms) ≡ needs_from l.bonds 0 l.atoms;
  count : length l.found.items ≡ l.k;
  room : length l.atoms ≤ vec_capacity l.found;
}
