use Rattle.std.proofs.Common.{◌≡◌}
use Rattle.match_blossom.proofs.tests.solve_all.Given as goal

abbrev pub invariant-loop-edges : goal.invariant-loop-edges
invariant-loop-edges g l = record {
  room : l.matcher ≡ 6;
  scratch : l.scratch ≡ 6;
}
