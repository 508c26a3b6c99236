use Rattle.std.proofs.Common.{arith, refl, ap, ◌≡◌, ℕ, List, get_or, length, ◌∙◌, ◌<◌}
use Rattle.std.proofs.lemmas.List.{take_all, length-set}
use Rattle.match_barrier.proofs.Naming.{first_label, first_label_more, first_labels}
use Rattle.match_barrier.proofs.Flooding.{flooded_first}
use Rattle.match_barrier.proofs.flood.begin.Goals as goal

pub loop-v-2-init : goal.loop-v-2-init
loop-v-2-init c = record {
  each_node = c.loop-v.invariant.each_node;
  labels = λ k less. c.loop-v.invariant.own k (omega arith);
}

pub loop-v-2-preserved : goal.loop-v-2-preserved
loop-v-2-preserved c = record {
  each_node = length-set c.loop-v-2.labels (get_or c.args.set.now c.loop-v-2.v-index 0) c.node_count-nodes.result ∙ c.loop-v-2.invariant.each_node;
  labels = first_label_more (length c.args.graph.now) c.node_count-nodes.result c.args.set.now c.loop-v-2.v-index (get_or c.args.set.now c.loop-v-2.v-index 0) c.loop-v-2.labels
      c.node_count-nodes.ensures.count c.loop-v-2-test.true refl (c.requires.in_range c.loop-v-2.v-index 0 c.loop-v-2-test.true) c.loop-v-2.invariant.each_node c.loop-v-2.invariant.labels;
}

pub returns : goal.returns
returns c =
    let whole : (v : ℕ) → v < length c.args.graph.now → get_or c.loop-v-2.labels v 0 ≡ first_label (length c.args.graph.now) c.args.set.now v =
    λ v less. c.loop-v-2.invariant.labels v less ∙ ap (λ (xs : List ℕ). first_label (length c.args.graph.now) xs v) (take_all c.loop-v-2.v-index c.args.set.now (omega arith)) in
    record {
      labels = first_labels c.args.graph.now c.args.set.now c.loop-v-2.labels c.loop-v-2.invariant.each_node whole;
      flooded = flooded_first c.args.graph.now c.args.set.now c.loop-v-2.labels c.loop-v-2.invariant.each_node whole;
    }
