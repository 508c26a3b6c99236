use Rattle.std.proofs.Common.{◌≡◌}
use Rattle.match_blossom.proofs.tests.thousand_calls.Given as goal

abbrev pub invariant-loop : goal.invariant-loop
invariant-loop g l = record {
  room : l.matcher ≡ 202;
  scratch : l.scratch ≡ 202;
}
