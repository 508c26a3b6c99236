use Rattle.match_blossom.specs.Labels.{is_outer, is_inner, at}
use Rattle.match_blossom.specs.Search.{Turning}
use Rattle.match_blossom.specs.Forest.{base_in}
use Rattle.match_blossom.specs.Ends.{AreNoted}
use Rattle.match_blossom.proofs.augmenting.augment_path.Given as goal

abbrev pub invariant-loop-y : goal.invariant-loop-y
invariant-loop-y l = Turning l.graph l.initial.mates l.mates (base_in l.tree) (is_outer l.tree.labels.items) (is_inner l.tree.labels.items) (at l.tree.blossoms.order.items) l.v l.x l.y × AreNoted l.tree.blossoms.cycle_base.items l.ends.node.items l.ends.below.items

abbrev pub decreases-loop-y : goal.decreases-loop-y
decreases-loop-y l = at l.tree.blossoms.order.items l.y
