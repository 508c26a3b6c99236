use Rattle.std.proofs.Common.{◌-◌, ◌≤◌, length}
use Rattle.match_blossom.specs.Ends.{AreNoted}
use Rattle.match_blossom.proofs.lifting.note_pairs.Given as goal

abbrev pub invariant-loop-k : goal.invariant-loop-k
invariant-loop-k l = record {
  noted : AreNoted l.blossoms.cycle_base.items l.known.ends.node.items l.known.ends.below.items;
  within : l.k ≤ length l.list;
}

abbrev pub decreases-loop-k : goal.decreases-loop-k
decreases-loop-k l = length l.list - l.k
