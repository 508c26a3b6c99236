use Rattle.std.proofs.Common.{◌≡◌, ◌≤◌, ◌++◌, drop, length, vec_capacity}
use Rattle.smi_mean.specs.NeedGraphs.{numbers_from}
use Rattle.smi_mean.proofs.need_graph.node_numbers.Given as goal

abbrev pub invariant-loop-needing : goal.invariant-loop-needing
invariant-loop-needing l = record {
  numbers : l.numbers.items ++ numbers_from l.next (drop l.needing-index l.needs) ≡ numbers_from 0 l.needs;
  count : length l.numbers.items ≡ l.needing-index;
  few : l.next ≤ l.needing-index;
  room : length l.needs ≤ vec_capacity l.numbers;
}
