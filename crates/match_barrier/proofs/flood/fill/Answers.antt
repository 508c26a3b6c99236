use Rattle.std.proofs.Common.{arith, refl, ◌-◌}
use Rattle.match_barrier.proofs.Flooding.{filling_first, filling_more}
use Rattle.match_barrier.proofs.flood.fill.Goals as goal

pub loop-height-init : goal.loop-height-init
loop-height-init c = filling_first c.args.graph.now c.args.root c.args.labels.now c.args.stack.now c.requires.below c.requires.stack_length c.requires.flooded c.requires.own

pub loop-height-preserved : goal.loop-height-preserved
loop-height-preserved c = filling_more c.args.graph.now c.args.root c.args.labels.now c.loop-height.labels c.lower_neighbours-height.new.labels c.loop-height.stack c.lower_neighbours-height.new.stack
    c.loop-height.height (c.loop-height.height - 1) c.lower_neighbours-height.result _ (let more = c.loop-height-test.true in omega arith) c.loop-height.invariant refl c.lower_neighbours-height.ensures.lowers c.lower_neighbours-height.ensures.settled
