use Rattle.std.proofs.Common.{◌+◌, List, ℕ, get_or}
use Rattle.match_blossom.specs.Forest.{TreeClimbs}
use Rattle.match_blossom.specs.Shortened.{IsShortened}
use Rattle.match_blossom.proofs.contracting.meeting_base.Given as goal

abbrev pub invariant-loop-x : goal.invariant-loop-x
invariant-loop-x l = record {
  climbing : (first : List ℕ) × (second : List ℕ) × TreeClimbs l.mates l.initial.tree l.a l.b l.x l.y first second;
  shortened : IsShortened l.initial.tree l.tree;
}

abbrev pub decreases-loop-x : goal.decreases-loop-x
decreases-loop-x l = get_or l.initial.tree.blossoms.order.items l.x 0 + get_or l.initial.tree.blossoms.order.items l.y 0
