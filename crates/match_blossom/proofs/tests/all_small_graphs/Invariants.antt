use Rattle.std.proofs.Common.{◌≡◌}
use Rattle.match_blossom.proofs.tests.all_small_graphs.Given as goal

abbrev pub invariant-loop-nodes : goal.invariant-loop-nodes
invariant-loop-nodes g l = record {
  room : l.matcher ≡ 6;
  scratch : l.scratch ≡ 6;
}
