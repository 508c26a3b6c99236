use Rattle.std.proofs.Common.{◌∙◌, ◌-◌, length, take, drop}
use Rattle.smi_graph.proofs.RisingBonds.{joined_as_text, pairs_latest}
use Rattle.smi_graph.proofs.joined.pairs_again.Goals as goal

pub returns-else-bond : goal.returns-else-bond
returns-else-bond c = λ atom to rises.
    rw c.in-Some.is (c.are_joined.ensures ∙ joined_as_text (take (length c.args.bonds.now - c.latest_from-from.result) (drop c.latest_from-from.result c.args.bonds.now)) c.in-Some.bond.first.0 c.in-Some.bond.second.0 ∙ pairs_latest c.args.bonds.now c.in-Some.bond atom c.latest_from-from.result c.if-bond.false (rw c.in-Some.is at to) rises c.latest_from-from.ensures.bound c.latest_from-from.ensures.other)
