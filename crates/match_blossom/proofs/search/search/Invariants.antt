use Rattle.std.proofs.Common.{◌≡◌, ◌≤◌, ◌-◌, ◌+◌, length}
use Rattle.match_blossom.specs.Forest.{IsForest, IsScanned, KeepsLengths}
use Rattle.match_blossom.specs.Ends.{AreOwn}
use Rattle.match_blossom.proofs.search.search.Given as goal

abbrev pub invariant-loop-head : goal.invariant-loop-head
invariant-loop-head l = record {
  head : l.head ≤ l.tree.queued;
  mates : l.mates ≡ l.initial.mates;
  forest : IsForest l.graph l.mates l.tree;
  scanned : IsScanned l.graph l.tree l.head;
  root : l.tree.root ≡ l.initial.tree.root;
  own : AreOwn (length l.tree.blossoms.cycle_base.items) l.known.ends.node.items l.known.ends.below.items;
  lengths : KeepsLengths l.initial.tree l.tree;
}

abbrev pub decreases-loop-head : goal.decreases-loop-head
decreases-loop-head l = length l.graph + length l.graph - l.head
