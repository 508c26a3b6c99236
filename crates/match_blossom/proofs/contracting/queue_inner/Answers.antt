use Rattle.std.proofs.Common.{sym, ◌∙◌, refl, get_or}
use Rattle.match_blossom.proofs.Queued.{queueing_more, queueing_skip}
use Rattle.match_blossom.proofs.contracting.queue_inner.Goals as goal
use Rattle.match_blossom.proofs.contracting.queue_inner.Goals.{then-is_inner, else-is_inner}

pub loop-v-preserved : goal.loop-v-preserved
loop-v-preserved c = elim c.if-is_inner.branch [
  | then-is_inner w ↦ rw (w.queue-is, w.end-is) (queueing_more c.args.labels.now c.args.nodes.now c.args.queue.now c.loop-v.queue c.args.queued c.loop-v.v-index c.loop-v.end (get_or c.args.nodes.now c.loop-v.v-index 0) c.loop-v.invariant c.loop-v-test.true refl (sym c.is_inner.ensures ∙ w.if-is_inner.true) c.requires.room)
  | else-is_inner w ↦ rw (w.queue-is, w.end-is) (queueing_skip c.args.labels.now c.args.nodes.now c.args.queue.now c.loop-v.queue c.args.queued c.loop-v.v-index c.loop-v.end (get_or c.args.nodes.now c.loop-v.v-index 0) c.loop-v.invariant c.loop-v-test.true refl (sym c.is_inner.ensures ∙ w.if-is_inner.false))
]
