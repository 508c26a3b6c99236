use Rattle.std.proofs.Common.{sym, ◌∙◌}
use Rattle.match_blossom.proofs.lifting.sought_place.Goals as goal

pub returns-clause-touch : goal.returns-clause-touch
returns-clause-touch c = λ part points.
    let graph = c.node_count-nodes.ensures.graph in
    let from = c.edge_among_all-edge.result.from in
    let to = c.edge_among_all-edge.result.to in
    let edge = c.edge_among_all-edge.ensures.edge in
    let joins = c.edge_among_all-edge.ensures.joins part points in
    record {
      from = from;
      to = to;
      below = graph.in_range to from (graph.symmetric to from ∙ edge);
      edge = edge;
      from_class = sym (c.base_by_cycles.ensures.base part points) ∙ c.in-Some.ensures.some.1;
      to_class = joins.outside;
    }
