use Rattle.std.proofs.Common.{arith, refl, sym, ap, subst, ◌≡◌, ◌∙◌, ◌<◌, ℕ, get_or, set}
use Rattle.match_blossom.specs.Labels.{is_outer, is_inner, at}
use Rattle.match_blossom.specs.Search.{Turning}
use Rattle.match_blossom.specs.Forest.{base_in}
use Rattle.match_blossom.proofs.Paths.{up, turn_first, turn_more, turn_last}
use Rattle.match_blossom.proofs.augmenting.augment_path.Goals as goal

pub bounds-mates-w : goal.bounds-mates-w
bounds-mates-w c = let h = (up c.args.graph.now c.args.mates.now c.loop-y.mates c.args.tree.now.root (base_in c.args.tree.now) (is_outer c.args.tree.now.labels.items) (is_inner c.args.tree.now.labels.items) (at c.args.tree.now.parent.items) (at c.args.tree.now.blossoms.order.items) c.args.v c.loop-y.x c.loop-y.y c.node_count-nodes.ensures.graph c.requires.forest.search.tree c.loop-y.invariant.0 c.loop-y-test.true).mate_below in let long = c.loop-y.invariant.0.matching.each_node in omega arith

pub above-above-requires-clause-mate : goal.above-above-requires-clause-mate
above-above-requires-clause-mate c = let h = (up c.args.graph.now c.args.mates.now c.loop-y.mates c.args.tree.now.root (base_in c.args.tree.now) (is_outer c.args.tree.now.labels.items) (is_inner c.args.tree.now.labels.items) (at c.args.tree.now.parent.items) (at c.args.tree.now.blossoms.order.items) c.args.v c.loop-y.x c.loop-y.y c.node_count-nodes.ensures.graph c.requires.forest.search.tree c.loop-y.invariant.0 c.loop-y-test.true).mate_below in let long = c.requires.forest.search.parent_length in omega arith

pub index-requires : goal.index-requires
index-requires c = let h = (up c.args.graph.now c.args.mates.now c.loop-y.mates c.args.tree.now.root (base_in c.args.tree.now) (is_outer c.args.tree.now.labels.items) (is_inner c.args.tree.now.labels.items) (at c.args.tree.now.parent.items) (at c.args.tree.now.blossoms.order.items) c.args.v c.loop-y.x c.loop-y.y c.node_count-nodes.ensures.graph c.requires.forest.search.tree c.loop-y.invariant.0 c.loop-y-test.true).mate_below in let long = c.requires.forest.search.parent_length in omega arith

pub above-above-requires-clause-parent : goal.above-above-requires-clause-parent
above-above-requires-clause-parent c = let h = (up c.args.graph.now c.args.mates.now c.loop-y.mates c.args.tree.now.root (base_in c.args.tree.now) (is_outer c.args.tree.now.labels.items) (is_inner c.args.tree.now.labels.items) (at c.args.tree.now.parent.items) (at c.args.tree.now.blossoms.order.items) c.args.v c.loop-y.x c.loop-y.y c.node_count-nodes.ensures.graph c.requires.forest.search.tree c.loop-y.invariant.0 c.loop-y-test.true).parent_below in let long = c.requires.forest.base_length in omega arith

pub loop-y-init : goal.loop-y-init
loop-y-init c = (
  rw (c.base_of-y.ensures.base (base_in c.args.tree.now) c.requires.forest.points) (turn_first c.args.graph.now c.args.mates.now c.args.tree.now.root (base_in c.args.tree.now) (is_outer c.args.tree.now.labels.items) (is_inner c.args.tree.now.labels.items) (at c.args.tree.now.parent.items) (at c.args.tree.now.blossoms.order.items) c.args.u c.args.v c.requires.forest.search.tree
      (c.node_count-nodes.ensures.graph.symmetric c.args.v c.args.u ∙ c.requires.edge) (c.node_count-nodes.ensures.graph.in_range c.args.u c.args.v c.requires.edge) c.requires.from_outer c.requires.no_outer c.requires.no_inner c.requires.free),
  c.note.ensures,
)

pub loop-y-smaller : goal.loop-y-smaller
loop-y-smaller c =
    let h = (up c.args.graph.now c.args.mates.now c.loop-y.mates c.args.tree.now.root (base_in c.args.tree.now) (is_outer c.args.tree.now.labels.items) (is_inner c.args.tree.now.labels.items) (at c.args.tree.now.parent.items) (at c.args.tree.now.blossoms.order.items) c.args.v c.loop-y.x c.loop-y.y c.node_count-nodes.ensures.graph c.requires.forest.search.tree c.loop-y.invariant.0 c.loop-y-test.true).falls in
    let next : at c.args.tree.now.blossoms.order.items c.above-above.result ≡ at c.args.tree.now.blossoms.order.items (base_in c.args.tree.now (at c.args.tree.now.parent.items (get_or c.loop-y.mates c.loop-y.y 0))) = ap (at c.args.tree.now.blossoms.order.items) (c.above-above.ensures (base_in c.args.tree.now) c.requires.forest.points) in
    let less : at c.args.tree.now.blossoms.order.items c.above-above.result < at c.args.tree.now.blossoms.order.items c.loop-y.y = omega arith in less

pub loop-y-preserved : goal.loop-y-preserved
loop-y-preserved c = (
  rw (c.above-above.ensures (base_in c.args.tree.now) c.requires.forest.points) (
      subst (λ (n : ℕ). Turning c.args.graph.now c.args.mates.now (set (set (set c.loop-y.mates (get_or c.loop-y.mates c.loop-y.y 0) n) c.loop-y.x c.loop-y.y) c.loop-y.y c.loop-y.x) (base_in c.args.tree.now) (is_outer c.args.tree.now.labels.items) (is_inner c.args.tree.now.labels.items) (at c.args.tree.now.blossoms.order.items) c.args.v (get_or c.loop-y.mates c.loop-y.y 0) (base_in c.args.tree.now (at c.args.tree.now.parent.items (get_or c.loop-y.mates c.loop-y.y 0))))
      (sym c.node_count-nodes.ensures.count)
      (turn_more c.args.graph.now c.args.mates.now c.loop-y.mates c.args.tree.now.root (base_in c.args.tree.now) (is_outer c.args.tree.now.labels.items) (is_inner c.args.tree.now.labels.items) (at c.args.tree.now.parent.items) (at c.args.tree.now.blossoms.order.items) c.args.v c.loop-y.x c.loop-y.y (get_or c.loop-y.mates c.loop-y.y 0) c.node_count-nodes.ensures.graph c.requires.forest.search.tree c.loop-y.invariant.0 c.loop-y-test.true refl)),
  c.note-in-loop-y.ensures,
)

pub returns-clause-turned : goal.returns-clause-turned
returns-clause-turned c = turn_last c.args.graph.now c.args.mates.now c.loop-y.mates c.args.tree.now.root (base_in c.args.tree.now) (is_outer c.args.tree.now.labels.items) (is_inner c.args.tree.now.labels.items) (at c.args.tree.now.parent.items) (at c.args.tree.now.blossoms.order.items) c.args.v c.loop-y.x c.loop-y.y c.node_count-nodes.ensures.graph c.requires.forest.search.tree c.loop-y.invariant.0 c.loop-y-test.false
