use Rattle.std.proofs.Common.{arith, map}
use Rattle.match_barrier.proofs.Edges.{still_graph, edges_after}
use Rattle.match_barrier.proofs.graph.Graph.add_edge.Goals as goal

pub invariant_of-self : goal.invariant_of-self
invariant_of-self c = (
  still_graph c.push_both.result (map (λ row. row.items) c.self.inside.rows.items) c.args.self.now (map (λ row. row.items) c.push_both.new.rows.items) c.args.u c.args.v
      c.self.view_is c.self.invariant.0 c.requires.first c.requires.second c.requires.different c.requires.no_edge c.push_both.ensures.ok c.push_both.ensures.err,
  let few = c.self.invariant.1 in let same = c.push_both.ensures.length in omega arith,
)

pub returns-clause-edges : goal.returns-clause-edges
returns-clause-edges c = edges_after c.push_both.result (map (λ row. row.items) c.self.inside.rows.items) c.args.self.now (map (λ row. row.items) c.push_both.new.rows.items) c.args.u c.args.v
    c.self.view_is c.requires.first c.requires.second c.requires.different c.push_both.ensures.ok
