use Rattle.std.proofs.Common.{◌≡◌}
use Rattle.match_blossom.proofs.tests.random_graphs.Given as goal

abbrev pub invariant-loop : goal.invariant-loop
invariant-loop g l = record {
  room : l.matcher ≡ 40;
  scratch : l.scratch ≡ 40;
}
