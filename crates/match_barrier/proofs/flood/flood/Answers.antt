use Rattle.std.proofs.Common.{arith}
use Rattle.match_barrier.proofs.Flooding.{flooded_skip}
use Rattle.match_barrier.proofs.flood.flood.Goals as goal
use Rattle.match_barrier.proofs.flood.flood.Goals.{then-labels-root, else-labels-root}

pub loop-root-preserved : goal.loop-root-preserved
loop-root-preserved c = elim c.if-labels-root.branch [
  | then-labels-root b ↦ rw (b.labels-is, b.stack-is) (record {
    stack_length = b.fill.ensures.stack_length;
    labels = λ s h. b.fill.ensures.labels s (c.loop-root.invariant.labels s h);
    flooded = b.fill.ensures.flooded;
  })
  | else-labels-root b ↦ rw (b.labels-is, b.stack-is) (record {
    stack_length = c.loop-root.invariant.stack_length;
    labels = c.loop-root.invariant.labels;
    flooded = flooded_skip c.args.graph.now c.loop-root.root c.loop-root.labels (let less = c.loop-root-test.true in let count = c.node_count-root-end.ensures.count in omega arith) c.loop-root.invariant.flooded b.if-labels-root.false;
  })
]
