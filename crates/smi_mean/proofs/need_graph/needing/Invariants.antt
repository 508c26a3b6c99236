use Rattle.std.proofs.Common.{◌≡◌, ◌≤◌}
use Rattle.match_barrier.specs.Barrier.{count}
use Rattle.smi_graph.specs.Candidates.{marked}
use Rattle.smi_mean.proofs.need_graph.needing.Given as goal

abbrev pub invariant-loop-k : goal.invariant-loop-k
invariant-loop-k l = record {
  count : l.count ≡ count l.k (marked l.needs);
  few : l.count ≤ l.k;
}
