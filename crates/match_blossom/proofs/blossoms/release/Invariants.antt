use Rattle.std.proofs.Common.{◌≡◌, ℕ, length, get_or, take}
use Rattle.std.specs.Prelude.{cond}
use Rattle.match_barrier.specs.Graph.{has}
use Rattle.match_blossom.proofs.blossoms.release.Given as goal

abbrev pub invariant-loop-v : goal.invariant-loop-v
invariant-loop-v l = record {
  length : length l.pointers ≡ length l.initial.pointers;
  pointers : (u : ℕ) → get_or l.pointers u 0 ≡ cond (has (take l.v-index l.nodes) u) u (get_or l.initial.pointers u 0);
}
