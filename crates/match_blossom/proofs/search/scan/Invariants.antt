use Rattle.std.proofs.Common.{◌≡◌, ◌<◌, ℕ, get_or, ◌+◌, length}
use Rattle.match_blossom.specs.Forest.{IsForest, IsScanned, GoesOn, IsSettled}
use Rattle.match_blossom.specs.Ends.{AreOwn}
use Rattle.match_blossom.proofs.search.scan.Given as goal

abbrev pub invariant-loop-v : goal.invariant-loop-v
invariant-loop-v l = record {
  mates : l.mates ≡ l.initial.mates;
  forest : IsForest l.graph l.mates l.tree;
  scanned : IsScanned l.graph l.tree l.head;
  goes_on : GoesOn l.graph l.initial.tree l.tree;
  own : AreOwn (length l.tree.blossoms.cycle_base.items) l.known.ends.node.items l.known.ends.below.items;
  seen : (k : ℕ) → k < l.v-index → IsSettled l.tree (l.head + 1) l.u (get_or l.v-items k 0);
}
