use Rattle.std.proofs.Common.{◌≡◌, ℕ, ◌<◌, length, get_or}
use Rattle.match_blossom.proofs.tree.own_bases.Given as goal

abbrev pub invariant-loop-v : goal.invariant-loop-v
invariant-loop-v l = record {
  count : length l.base.items ≡ l.v;
  own : (k : ℕ) → k < l.v → get_or l.base.items k 0 ≡ k;
}
