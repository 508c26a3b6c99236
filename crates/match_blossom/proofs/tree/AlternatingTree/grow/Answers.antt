use Rattle.std.proofs.Common.{arith, refl, ap, inl, inr, set, get_or, length, ℕ, List, ◌∙◌, ◌+◌}
use Rattle.std.proofs.lemmas.List.{length-set, get_or-set_other}
use Rattle.std.proofs.lemmas.Bool.{cases_eq}
use Rattle.match_blossom.specs.Labels.{at, is_inner}
use Rattle.match_blossom.specs.declared.tree.Label.{Label}
use Rattle.match_blossom.specs.declared.tree.Label.TheVariants.{Outer, Inner}
use Rattle.match_blossom.specs.Forest.{stacked, base_in}
use Rattle.match_blossom.proofs.Contracted.{leads_points}
use Rattle.match_blossom.proofs.Steps.{grown}
use Rattle.match_blossom.proofs.Growth.{queue_grows, touched_grow, falls_grow}
use Rattle.match_blossom.proofs.tree.AlternatingTree.grow.Goals as goal

pub overflow_add-self : goal.overflow_add-self
overflow_add-self c = let few = (grown c.args.graph.now c.args.mates.now c.args.self.now.root c.args.self.now.labels.items c.args.self.now.parent.items c.args.self.now.blossoms.order.items c.args.self.now.now (stacked c.args.self.now.cycles) c.args.u c.args.v (get_or c.args.mates.now c.args.v 0) c.node_count-nodes.ensures.graph c.requires.forest.search c.requires.edge c.requires.from_outer c.requires.no_outer c.requires.no_inner refl c.requires.matched).0.few in let count = c.node_count-nodes.ensures.count in let fits = c.node_count-nodes.type_inv in omega arith

pub index_mut-requires-6 : goal.index_mut-requires-6
index_mut-requires-6 c = let few = (grown c.args.graph.now c.args.mates.now c.args.self.now.root c.args.self.now.labels.items c.args.self.now.parent.items c.args.self.now.blossoms.order.items c.args.self.now.now (stacked c.args.self.now.cycles) c.args.u c.args.v (get_or c.args.mates.now c.args.v 0) c.node_count-nodes.ensures.graph c.requires.forest.search c.requires.edge c.requires.from_outer c.requires.no_outer c.requires.no_inner refl c.requires.matched).0.few in let room = c.requires.forest.room.touched in omega arith

pub index_mut-requires-7 : goal.index_mut-requires-7
index_mut-requires-7 c = let few = (grown c.args.graph.now c.args.mates.now c.args.self.now.root c.args.self.now.labels.items c.args.self.now.parent.items c.args.self.now.blossoms.order.items c.args.self.now.now (stacked c.args.self.now.cycles) c.args.u c.args.v (get_or c.args.mates.now c.args.v 0) c.node_count-nodes.ensures.graph c.requires.forest.search c.requires.edge c.requires.from_outer c.requires.no_outer c.requires.no_inner refl c.requires.matched).0.few in let room = c.requires.forest.room.touched in let same = length-set c.args.self.now.touched.items c.args.self.now.now c.args.v in omega arith

pub overflow_add-self-3 : goal.overflow_add-self-3
overflow_add-self-3 c = let few = (grown c.args.graph.now c.args.mates.now c.args.self.now.root c.args.self.now.labels.items c.args.self.now.parent.items c.args.self.now.blossoms.order.items c.args.self.now.now (stacked c.args.self.now.cycles) c.args.u c.args.v (get_or c.args.mates.now c.args.v 0) c.node_count-nodes.ensures.graph c.requires.forest.search c.requires.edge c.requires.from_outer c.requires.no_outer c.requires.no_inner refl c.requires.matched).0.few in let count = c.node_count-nodes.ensures.count in let fits = c.node_count-nodes.type_inv in omega arith

pub index_mut-requires-8 : goal.index_mut-requires-8
index_mut-requires-8 c = let few = (grown c.args.graph.now c.args.mates.now c.args.self.now.root c.args.self.now.labels.items c.args.self.now.parent.items c.args.self.now.blossoms.order.items c.args.self.now.now (stacked c.args.self.now.cycles) c.args.u c.args.v (get_or c.args.mates.now c.args.v 0) c.node_count-nodes.ensures.graph c.requires.forest.search c.requires.edge c.requires.from_outer c.requires.no_outer c.requires.no_inner refl c.requires.matched).0.few in let room = c.requires.forest.room in let r1 = room.queued in let r2 = room.queue in omega arith

pub returns : goal.returns
returns c =
    let g : List (List ℕ) = c.args.graph.now in
    let s = c.requires.forest in
    let step = grown c.args.graph.now c.args.mates.now c.args.self.now.root c.args.self.now.labels.items c.args.self.now.parent.items c.args.self.now.blossoms.order.items c.args.self.now.now (stacked c.args.self.now.cycles) c.args.u c.args.v (get_or c.args.mates.now c.args.v 0) c.node_count-nodes.ensures.graph c.requires.forest.search c.requires.edge c.requires.from_outer c.requires.no_outer c.requires.no_inner refl c.requires.matched in
    let labels : List Label = c.args.self.now.labels.items in
    let v : ℕ = c.args.v in
    let w : ℕ = get_or c.args.mates.now c.args.v 0 in
    let grows = step.1 in
    let few = step.0.few in
    let labels_long = s.search.labels_length in
    let base_long = s.base_length in
    let cycle_long = s.cycle_length in
    let room = s.room in
    let r1 = room.touched in
    let r2 = room.queue in
    let r3 = room.queued in
    let vb = grows.v_below in
    let wb = grows.w_below in
    let l1 = length-set labels v Inner in
    let l2 = length-set (set labels v Inner) w Outer in
    let o1 = length-set c.args.self.now.blossoms.order.items v c.args.self.now.now in
    let o2 = length-set (set c.args.self.now.blossoms.order.items v c.args.self.now.now) w (c.args.self.now.now + 1) in
    let t1 = length-set c.args.self.now.touched.items c.args.self.now.now v in
    let t2 = length-set (set c.args.self.now.touched.items c.args.self.now.now v) (c.args.self.now.now + 1) w in
    let q1 = length-set c.args.self.now.queue.items c.args.self.now.queued w in
    record {
      forest = record {
        search = step.0;
        falls = falls_grow g c.args.mates.now c.args.self.now.root labels (set (set labels v Inner) w Outer) (stacked c.args.self.now.cycles) (at c.args.self.now.parent.items) (at c.args.self.now.blossoms.order.items) c.args.self.now.blossoms.base.items c.args.self.now.blossoms.order.items v w c.args.self.now.now (c.args.self.now.now + 1)
            s.search.tree s.search.folded grows s.points s.falls s.base_length;
        points = s.points;
        cycle_falls = falls_grow g c.args.mates.now c.args.self.now.root labels (set (set labels v Inner) w Outer) (stacked c.args.self.now.cycles) (at c.args.self.now.parent.items) (at c.args.self.now.blossoms.order.items) c.args.self.now.blossoms.cycle_base.items c.args.self.now.blossoms.order.items v w c.args.self.now.now (c.args.self.now.now + 1)
            s.search.tree s.search.folded grows (leads_points g (length c.args.self.now.blossoms.cycle_base.items) (at c.args.self.now.blossoms.cycle_base.items) (stacked c.args.self.now.cycles) s.search.folded s.leads) s.cycle_falls s.cycle_length;
        leads = s.leads;
        base_length = s.base_length;
        cycle_length = s.cycle_length;
        fits = s.fits;
        queue = queue_grows g c.args.mates.now c.args.self.now.root labels (set (set labels v Inner) w Outer) (base_in c.args.self.now) (at c.args.self.now.parent.items) (at c.args.self.now.blossoms.order.items) c.args.self.now.queue.items c.args.self.now.queued v w s.search.tree grows s.queue (omega arith);
        touched = touched_grow g (base_in c.args.self.now) labels c.args.self.now.blossoms.base.items c.args.self.now.touched.items c.args.self.now.now v w s.touched (omega arith) (omega arith) (omega arith) (omega arith) (omega arith);
        cycle_touched = touched_grow g (base_in c.args.self.now) labels c.args.self.now.blossoms.cycle_base.items c.args.self.now.touched.items c.args.self.now.now v w s.cycle_touched (omega arith) (omega arith) (omega arith) (omega arith) (omega arith);
        room = record { touched = omega arith; queue = omega arith; queued = omega arith; top = room.top; top_below = room.top_below; height = room.height; height_below = room.height_below };
      };
      goes_on = record {
        root = refl;
        lengths = record { labels = l2 ∙ l1; parent = length-set c.args.self.now.parent.items v c.args.u; base = refl; cycle_base = refl; order = o2 ∙ o1; touched = t2 ∙ t1; queue = q1; nodes = refl; sizes = refl };
        queue = λ k less. get_or-set_other c.args.self.now.queue.items c.args.self.now.queued k w 0 (λ e. absurd (omega arith));
        queued = omega arith;
        one = λ x y bx by e. e;
        inner = λ x bx i. inl (elim (cases_eq (base_in c.args.self.now x) v) [
          | inl e ↦ ap (is_inner (set (set labels v Inner) w Outer)) e ∙ grows.inner_new
          | inr ne ↦ grows.inner_old (base_in c.args.self.now x) ne ∙ i
        ]);
      };
      closed = inr (ap (is_inner (set (set labels v Inner) w Outer)) grows.v_class ∙ grows.inner_new);
    }
