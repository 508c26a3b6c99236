use Rattle.std.proofs.Common.{take}
use Rattle.match_blossom.proofs.Scanning.{barrier_none}
use Rattle.match_blossom.proofs.matcher.solve_in.Goals as goal

pub returns-in-Some-clause-some : goal.returns-in-Some-clause-some
returns-in-Some-clause-some c =
    let found = c.in-Some.ensures.some in
    (found.0, found.1, λ mates perfect. barrier_none c.args.graph.now (take c.in-Some.size c.mate_root.new.set) mates c.node_count-nodes.ensures.graph found.1 perfect)
