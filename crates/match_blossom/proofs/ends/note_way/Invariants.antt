use Rattle.match_blossom.specs.Labels.{at}
use Rattle.match_blossom.specs.Ends.{AreNotedTo}
use Rattle.match_blossom.proofs.ends.note_way.Given as goal

abbrev pub invariant-loop-x : goal.invariant-loop-x
invariant-loop-x l = AreNotedTo l.pointers l.node l.below l.u l.x

abbrev pub decreases-loop-x : goal.decreases-loop-x
decreases-loop-x l = at l.order l.x
