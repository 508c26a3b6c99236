use Rattle.std.proofs.Common.{sym, ◌∙◌, arith}
use Rattle.smi_mean.proofs.NodeGraphs.{fresh_nodes, edge_step, edge_skip, built_all, need_graph_of}
use Rattle.smi_mean.proofs.need_graph.need_graph.Goals as goal
use Rattle.smi_mean.proofs.need_graph.need_graph.Goals.{then-is_edge+in_ok-add_edge, else-is_edge}

pub add_edge-requires-clause-different : goal.add_edge-requires-clause-different
add_edge-requires-clause-different c = (fresh_nodes c.args.needs.now c.args.candidates.now c.loop-bond.graph c.loop-bond.bond-index _ c.node_at-first.result c.node_at-second.result c.requires.apart c.loop-bond-test.true c.loop-bond.invariant
    (sym c.is_edge.ensures.is ∙ c.if-is_edge.true) c.node_at-first.ensures.node c.node_at-second.ensures.node).0

pub add_edge-requires-clause-no_edge : goal.add_edge-requires-clause-no_edge
add_edge-requires-clause-no_edge c = (fresh_nodes c.args.needs.now c.args.candidates.now c.loop-bond.graph c.loop-bond.bond-index _ c.node_at-first.result c.node_at-second.result c.requires.apart c.loop-bond-test.true c.loop-bond.invariant
    (sym c.is_edge.ensures.is ∙ c.if-is_edge.true) c.node_at-first.ensures.node c.node_at-second.ensures.node).1

pub loop-bond-preserved : goal.loop-bond-preserved
loop-bond-preserved c = elim c.if-is_edge.branch [
  | then-is_edge+in_ok-add_edge w ↦ rw w.graph-is (edge_step c.args.needs.now c.args.candidates.now c.loop-bond.graph w.add_edge.new.self c.loop-bond.bond-index _ w.node_at-first.result w.node_at-second.result c.loop-bond-test.true c.loop-bond.invariant
      (sym c.is_edge.ensures.is ∙ w.if-is_edge.true) w.node_at-first.ensures.node w.node_at-second.ensures.node w.add_edge.ensures.nodes w.in_ok-add_edge.ensures.edges)
  | else-is_edge w ↦ rw w.graph-is (edge_skip c.args.needs.now c.args.candidates.now c.loop-bond.graph c.loop-bond.bond-index _ c.loop-bond-test.true c.loop-bond.invariant (sym c.is_edge.ensures.is ∙ w.if-is_edge.false))
]

pub returns : goal.returns
returns c = need_graph_of c.args.needs.now c.args.candidates.now c.loop-bond.graph c.requires.apart c.node_count-nodes.ensures.graph
    (built_all c.args.needs.now c.args.candidates.now c.loop-bond.graph c.loop-bond.bond-index (let end = c.loop-bond-test.false in omega arith) c.loop-bond.invariant)
