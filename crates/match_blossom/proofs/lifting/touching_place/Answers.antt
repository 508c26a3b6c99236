use Rattle.std.proofs.Common.{arith, subst, ℕ}
use Rattle.match_blossom.specs.Foldings.{Touch}
use Rattle.match_blossom.proofs.Noted.{ends_touch}
use Rattle.match_blossom.proofs.lifting.touching_place.Goals as goal

pub returns-then-are_adjacent-clause-touch : goal.returns-then-are_adjacent-clause-touch
returns-then-are_adjacent-clause-touch c = λ part points.
    let below = c.requires.below in
    let long = c.requires.base_length in
    let k : ℕ = c.in-Some.k in
    subst (λ (a : ℕ). Touch c.args.graph.now part a c.args.x) c.in-Some.ensures.some.1
    (ends_touch c.args.graph.now c.args.blossoms.now.cycle_base.items c.args.blossoms.now.order.items c.args.ends.now.node.items c.args.ends.now.below.items part c.args.entry c.args.x c.node_count-nodes.ensures.graph c.requires.falls points c.requires.noted c.requires.entry (omega arith) c.requires.entry_own c.requires.own (c.are_adjacent.ensures.adjacent c.if-are_adjacent.true))
