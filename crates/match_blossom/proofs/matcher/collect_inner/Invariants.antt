use Rattle.std.proofs.Common.{◌≡◌, ◌≤◌, length, take}
use Rattle.match_blossom.specs.Inner.{ListsInner}
use Rattle.match_blossom.proofs.matcher.collect_inner.Given as goal

abbrev pub invariant-loop-v : goal.invariant-loop-v
invariant-loop-v l = record {
  lists : ListsInner l.labels l.v (take l.size l.set);
  size : l.size ≤ l.v;
  length : length l.set ≡ length l.initial.set;
}
