use Rattle.match_blossom.proofs.Queued.{IsQueueing}
use Rattle.match_blossom.proofs.contracting.queue_inner.Given as goal

abbrev pub invariant-loop-v : goal.invariant-loop-v
invariant-loop-v l = IsQueueing l.labels l.nodes l.initial.queue l.queue l.queued l.v-index l.end
