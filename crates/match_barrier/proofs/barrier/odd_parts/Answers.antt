use Rattle.match_barrier.proofs.Naming.{odd_parts_of}
use Rattle.match_barrier.proofs.barrier.odd_parts.Goals as goal

pub returns-clause-odd : goal.returns-clause-odd
returns-clause-odd c = odd_parts_of c.args.graph.now c.args.set.now c.flood.new.labels c.count_odd.result c.node_count-nodes.ensures.graph
    (c.flood.ensures.labels c.args.set.now c.begin.ensures.labels) (λ v less low. c.flood.ensures.flooded.settled v less low) c.count_odd.ensures.count
