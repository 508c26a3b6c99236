use Rattle.std.proofs.Common.{arith, refl, ap, sym, subst, ◌≡◌, ◌<◌, ◌∙◌, ◌+◌, ◌∷◌, ◌++◌, [], get_or, length, ℕ}
use Rattle.std.proofs.lemmas.Bool.{false≢true}
use Rattle.match_blossom.specs.declared.blossoms.Blossoms.{Blossoms}
use Rattle.match_blossom.specs.declared.tree.AlternatingTree.{AlternatingTree}
use Rattle.match_blossom.specs.Labels.{at, is_outer, is_inner}
use Rattle.match_blossom.specs.Forest.{base_in, TreeClimbs}
use Rattle.match_blossom.proofs.Climbing.{steps_up, later_one, climbing_more, climbing_turned}
use Rattle.match_blossom.proofs.Shortening.{shortened_refl, shortened_trans, climbs_shortened, forest_shortened}
use Rattle.match_blossom.proofs.contracting.meeting_base.Goals as goal

pub loop-x-init : goal.loop-x-init
loop-x-init c = record {
  climbing = ([], [], record { first_way = refl; second_way = refl; first_outer = c.requires.first_outer; second_outer = c.requires.second_outer; first_behind = λ z h. absurd (false≢true h); second_behind = λ z h. absurd (false≢true h); apart = λ z h. absurd (false≢true h) });
  shortened = shortened_refl c.args.tree.now c.requires.forest.falls;
}

pub climb-x-requires-clause-mate : goal.climb-x-requires-clause-mate
climb-x-requires-clause-mate c = let h = (steps_up c.args.graph.now c.args.mates.now c.args.tree.now.root (base_in c.args.tree.now) (is_outer c.args.tree.now.labels.items) (is_inner c.args.tree.now.labels.items) (at c.args.tree.now.parent.items) (at c.args.tree.now.blossoms.order.items) c.node_count-nodes.ensures.graph c.requires.forest.search.tree c.loop-x.x c.loop-x.y c.loop-x.invariant.climbing.2.first_outer c.loop-x.invariant.climbing.2.second_outer (let less = c.if-order_of.true in let ox = ap (λ (bs : Blossoms). at bs.order.items c.loop-x.x) c.loop-x.invariant.shortened.halved.rest in let oy = ap (λ (bs : Blossoms). at bs.order.items c.loop-x.y) c.loop-x.invariant.shortened.halved.rest in let a = c.order_of.ensures in let b = c.order_of-in-loop-x.ensures in omega arith)).mate_below in let long = c.requires.forest.search.parent_length in let e = ap (λ (f : AlternatingTree). length f.parent.items) c.loop-x.invariant.shortened.rest in omega arith

pub climb-x-requires-clause-parent : goal.climb-x-requires-clause-parent
climb-x-requires-clause-parent c = let h = (steps_up c.args.graph.now c.args.mates.now c.args.tree.now.root (base_in c.args.tree.now) (is_outer c.args.tree.now.labels.items) (is_inner c.args.tree.now.labels.items) (at c.args.tree.now.parent.items) (at c.args.tree.now.blossoms.order.items) c.node_count-nodes.ensures.graph c.requires.forest.search.tree c.loop-x.x c.loop-x.y c.loop-x.invariant.climbing.2.first_outer c.loop-x.invariant.climbing.2.second_outer (let less = c.if-order_of.true in let ox = ap (λ (bs : Blossoms). at bs.order.items c.loop-x.x) c.loop-x.invariant.shortened.halved.rest in let oy = ap (λ (bs : Blossoms). at bs.order.items c.loop-x.y) c.loop-x.invariant.shortened.halved.rest in let a = c.order_of.ensures in let b = c.order_of-in-loop-x.ensures in omega arith)).parent_below in let long = c.requires.forest.base_length in let e = c.loop-x.invariant.shortened.halved.long in let q = ap (λ (f : AlternatingTree). at f.parent.items (get_or c.args.mates.now c.loop-x.x 0)) c.loop-x.invariant.shortened.rest in omega arith

pub loop-x-smaller-then-order_of : goal.loop-x-smaller-then-order_of
loop-x-smaller-then-order_of c = let h = (steps_up c.args.graph.now c.args.mates.now c.args.tree.now.root (base_in c.args.tree.now) (is_outer c.args.tree.now.labels.items) (is_inner c.args.tree.now.labels.items) (at c.args.tree.now.parent.items) (at c.args.tree.now.blossoms.order.items) c.node_count-nodes.ensures.graph c.requires.forest.search.tree c.loop-x.x c.loop-x.y c.loop-x.invariant.climbing.2.first_outer c.loop-x.invariant.climbing.2.second_outer (let less = c.if-order_of.true in let ox = ap (λ (bs : Blossoms). at bs.order.items c.loop-x.x) c.loop-x.invariant.shortened.halved.rest in let oy = ap (λ (bs : Blossoms). at bs.order.items c.loop-x.y) c.loop-x.invariant.shortened.halved.rest in let a = c.order_of.ensures in let b = c.order_of-in-loop-x.ensures in omega arith)).falls in let e : at c.args.tree.now.blossoms.order.items c.climb-x.result ≡ at c.args.tree.now.blossoms.order.items (base_in c.args.tree.now (at c.args.tree.now.parent.items (get_or c.args.mates.now c.loop-x.x 0))) = ap (at c.args.tree.now.blossoms.order.items) (c.climb-x.ensures.above (base_in c.args.tree.now) (c.loop-x.invariant.shortened.halved.points (base_in c.args.tree.now) c.requires.forest.points) ∙ ap (λ (f : AlternatingTree). base_in c.args.tree.now (at f.parent.items (get_or c.args.mates.now c.loop-x.x 0))) c.loop-x.invariant.shortened.rest) in
    let goal' : at c.args.tree.now.blossoms.order.items c.climb-x.result + at c.args.tree.now.blossoms.order.items c.loop-x.y < at c.args.tree.now.blossoms.order.items c.loop-x.x + at c.args.tree.now.blossoms.order.items c.loop-x.y = omega arith in goal'

pub loop-x-preserved-then-order_of : goal.loop-x-preserved-then-order_of
loop-x-preserved-then-order_of c = record {
  climbing = (
    c.loop-x.invariant.climbing.0 ++ c.loop-x.x ∷ get_or c.args.mates.now c.loop-x.x 0 ∷ [],
    c.loop-x.invariant.climbing.1,
    subst (λ (z : ℕ). TreeClimbs c.args.mates.now c.args.tree.now c.args.a c.args.b z c.loop-x.y (c.loop-x.invariant.climbing.0 ++ c.loop-x.x ∷ get_or c.args.mates.now c.loop-x.x 0 ∷ []) c.loop-x.invariant.climbing.1) (sym (c.climb-x.ensures.above (base_in c.args.tree.now) (c.loop-x.invariant.shortened.halved.points (base_in c.args.tree.now) c.requires.forest.points) ∙ ap (λ (f : AlternatingTree). base_in c.args.tree.now (at f.parent.items (get_or c.args.mates.now c.loop-x.x 0))) c.loop-x.invariant.shortened.rest))
        (climbing_more c.args.graph.now c.args.mates.now c.args.tree.now.root (base_in c.args.tree.now) (is_outer c.args.tree.now.labels.items) (is_inner c.args.tree.now.labels.items) (at c.args.tree.now.parent.items) (at c.args.tree.now.blossoms.order.items) c.node_count-nodes.ensures.graph c.requires.forest.search.tree c.args.a c.args.b c.loop-x.x c.loop-x.y c.loop-x.invariant.climbing.0 c.loop-x.invariant.climbing.1 c.loop-x.invariant.climbing.2 (let less = c.if-order_of.true in let ox = ap (λ (bs : Blossoms). at bs.order.items c.loop-x.x) c.loop-x.invariant.shortened.halved.rest in let oy = ap (λ (bs : Blossoms). at bs.order.items c.loop-x.y) c.loop-x.invariant.shortened.halved.rest in let a = c.order_of.ensures in let b = c.order_of-in-loop-x.ensures in omega arith)),
  );
  shortened = shortened_trans c.args.tree.now c.loop-x.tree c.climb-x.new.self c.loop-x.invariant.shortened c.climb-x.ensures.shortened;
}

pub climb-y-requires-clause-mate : goal.climb-y-requires-clause-mate
climb-y-requires-clause-mate c = let h = (steps_up c.args.graph.now c.args.mates.now c.args.tree.now.root (base_in c.args.tree.now) (is_outer c.args.tree.now.labels.items) (is_inner c.args.tree.now.labels.items) (at c.args.tree.now.parent.items) (at c.args.tree.now.blossoms.order.items) c.node_count-nodes.ensures.graph c.requires.forest.search.tree c.loop-x.y c.loop-x.x c.loop-x.invariant.climbing.2.second_outer c.loop-x.invariant.climbing.2.first_outer (later_one c.args.graph.now c.args.mates.now c.args.tree.now.root (base_in c.args.tree.now) (is_outer c.args.tree.now.labels.items) (is_inner c.args.tree.now.labels.items) (at c.args.tree.now.parent.items) (at c.args.tree.now.blossoms.order.items) c.requires.forest.search.tree c.loop-x.x c.loop-x.y c.loop-x.invariant.climbing.2.first_outer c.loop-x.invariant.climbing.2.second_outer c.loop-x-test.true (let less = c.if-order_of.false in let ox = ap (λ (bs : Blossoms). at bs.order.items c.loop-x.x) c.loop-x.invariant.shortened.halved.rest in let oy = ap (λ (bs : Blossoms). at bs.order.items c.loop-x.y) c.loop-x.invariant.shortened.halved.rest in let a = c.order_of.ensures in let b = c.order_of-in-loop-x.ensures in omega arith))).mate_below in let long = c.requires.forest.search.parent_length in let e = ap (λ (f : AlternatingTree). length f.parent.items) c.loop-x.invariant.shortened.rest in omega arith

pub climb-y-requires-clause-parent : goal.climb-y-requires-clause-parent
climb-y-requires-clause-parent c = let h = (steps_up c.args.graph.now c.args.mates.now c.args.tree.now.root (base_in c.args.tree.now) (is_outer c.args.tree.now.labels.items) (is_inner c.args.tree.now.labels.items) (at c.args.tree.now.parent.items) (at c.args.tree.now.blossoms.order.items) c.node_count-nodes.ensures.graph c.requires.forest.search.tree c.loop-x.y c.loop-x.x c.loop-x.invariant.climbing.2.second_outer c.loop-x.invariant.climbing.2.first_outer (later_one c.args.graph.now c.args.mates.now c.args.tree.now.root (base_in c.args.tree.now) (is_outer c.args.tree.now.labels.items) (is_inner c.args.tree.now.labels.items) (at c.args.tree.now.parent.items) (at c.args.tree.now.blossoms.order.items) c.requires.forest.search.tree c.loop-x.x c.loop-x.y c.loop-x.invariant.climbing.2.first_outer c.loop-x.invariant.climbing.2.second_outer c.loop-x-test.true (let less = c.if-order_of.false in let ox = ap (λ (bs : Blossoms). at bs.order.items c.loop-x.x) c.loop-x.invariant.shortened.halved.rest in let oy = ap (λ (bs : Blossoms). at bs.order.items c.loop-x.y) c.loop-x.invariant.shortened.halved.rest in let a = c.order_of.ensures in let b = c.order_of-in-loop-x.ensures in omega arith))).parent_below in let long = c.requires.forest.base_length in let e = c.loop-x.invariant.shortened.halved.long in let q = ap (λ (f : AlternatingTree). at f.parent.items (get_or c.args.mates.now c.loop-x.y 0)) c.loop-x.invariant.shortened.rest in omega arith

pub loop-x-smaller : goal.loop-x-smaller
loop-x-smaller c = let h = (steps_up c.args.graph.now c.args.mates.now c.args.tree.now.root (base_in c.args.tree.now) (is_outer c.args.tree.now.labels.items) (is_inner c.args.tree.now.labels.items) (at c.args.tree.now.parent.items) (at c.args.tree.now.blossoms.order.items) c.node_count-nodes.ensures.graph c.requires.forest.search.tree c.loop-x.y c.loop-x.x c.loop-x.invariant.climbing.2.second_outer c.loop-x.invariant.climbing.2.first_outer (later_one c.args.graph.now c.args.mates.now c.args.tree.now.root (base_in c.args.tree.now) (is_outer c.args.tree.now.labels.items) (is_inner c.args.tree.now.labels.items) (at c.args.tree.now.parent.items) (at c.args.tree.now.blossoms.order.items) c.requires.forest.search.tree c.loop-x.x c.loop-x.y c.loop-x.invariant.climbing.2.first_outer c.loop-x.invariant.climbing.2.second_outer c.loop-x-test.true (let less = c.if-order_of.false in let ox = ap (λ (bs : Blossoms). at bs.order.items c.loop-x.x) c.loop-x.invariant.shortened.halved.rest in let oy = ap (λ (bs : Blossoms). at bs.order.items c.loop-x.y) c.loop-x.invariant.shortened.halved.rest in let a = c.order_of.ensures in let b = c.order_of-in-loop-x.ensures in omega arith))).falls in let e : at c.args.tree.now.blossoms.order.items c.climb-y.result ≡ at c.args.tree.now.blossoms.order.items (base_in c.args.tree.now (at c.args.tree.now.parent.items (get_or c.args.mates.now c.loop-x.y 0))) = ap (at c.args.tree.now.blossoms.order.items) (c.climb-y.ensures.above (base_in c.args.tree.now) (c.loop-x.invariant.shortened.halved.points (base_in c.args.tree.now) c.requires.forest.points) ∙ ap (λ (f : AlternatingTree). base_in c.args.tree.now (at f.parent.items (get_or c.args.mates.now c.loop-x.y 0))) c.loop-x.invariant.shortened.rest) in
    let goal' : at c.args.tree.now.blossoms.order.items c.loop-x.x + at c.args.tree.now.blossoms.order.items c.climb-y.result < at c.args.tree.now.blossoms.order.items c.loop-x.x + at c.args.tree.now.blossoms.order.items c.loop-x.y = omega arith in goal'

pub loop-x-preserved : goal.loop-x-preserved
loop-x-preserved c = record {
  climbing = (
    c.loop-x.invariant.climbing.0,
    c.loop-x.invariant.climbing.1 ++ c.loop-x.y ∷ get_or c.args.mates.now c.loop-x.y 0 ∷ [],
    subst (λ (z : ℕ). TreeClimbs c.args.mates.now c.args.tree.now c.args.a c.args.b c.loop-x.x z c.loop-x.invariant.climbing.0 (c.loop-x.invariant.climbing.1 ++ c.loop-x.y ∷ get_or c.args.mates.now c.loop-x.y 0 ∷ [])) (sym (c.climb-y.ensures.above (base_in c.args.tree.now) (c.loop-x.invariant.shortened.halved.points (base_in c.args.tree.now) c.requires.forest.points) ∙ ap (λ (f : AlternatingTree). base_in c.args.tree.now (at f.parent.items (get_or c.args.mates.now c.loop-x.y 0))) c.loop-x.invariant.shortened.rest))
        (climbing_turned c.args.mates.now (base_in c.args.tree.now) (at c.args.tree.now.parent.items) (is_outer c.args.tree.now.labels.items) (is_inner c.args.tree.now.labels.items) (at c.args.tree.now.blossoms.order.items) c.args.b c.args.a _ c.loop-x.x _ c.loop-x.invariant.climbing.0
        (climbing_more c.args.graph.now c.args.mates.now c.args.tree.now.root (base_in c.args.tree.now) (is_outer c.args.tree.now.labels.items) (is_inner c.args.tree.now.labels.items) (at c.args.tree.now.parent.items) (at c.args.tree.now.blossoms.order.items) c.node_count-nodes.ensures.graph c.requires.forest.search.tree c.args.b c.args.a c.loop-x.y c.loop-x.x c.loop-x.invariant.climbing.1 c.loop-x.invariant.climbing.0 (climbing_turned c.args.mates.now (base_in c.args.tree.now) (at c.args.tree.now.parent.items) (is_outer c.args.tree.now.labels.items) (is_inner c.args.tree.now.labels.items) (at c.args.tree.now.blossoms.order.items) c.args.a c.args.b c.loop-x.x c.loop-x.y c.loop-x.invariant.climbing.0 c.loop-x.invariant.climbing.1 c.loop-x.invariant.climbing.2) (later_one c.args.graph.now c.args.mates.now c.args.tree.now.root (base_in c.args.tree.now) (is_outer c.args.tree.now.labels.items) (is_inner c.args.tree.now.labels.items) (at c.args.tree.now.parent.items) (at c.args.tree.now.blossoms.order.items) c.requires.forest.search.tree c.loop-x.x c.loop-x.y c.loop-x.invariant.climbing.2.first_outer c.loop-x.invariant.climbing.2.second_outer c.loop-x-test.true (let less = c.if-order_of.false in let ox = ap (λ (bs : Blossoms). at bs.order.items c.loop-x.x) c.loop-x.invariant.shortened.halved.rest in let oy = ap (λ (bs : Blossoms). at bs.order.items c.loop-x.y) c.loop-x.invariant.shortened.halved.rest in let a = c.order_of.ensures in let b = c.order_of-in-loop-x.ensures in omega arith)))),
  );
  shortened = shortened_trans c.args.tree.now c.loop-x.tree c.climb-y.new.self c.loop-x.invariant.shortened c.climb-y.ensures.shortened;
}

pub returns-clause-ways : goal.returns-clause-ways
returns-clause-ways c =
    let was = c.loop-x.invariant in (
      was.climbing.0,
      was.climbing.1,
      climbs_shortened c.args.mates.now c.args.tree.now c.loop-x.tree c.args.a c.args.b c.loop-x.x c.loop-x.x was.climbing.0 was.climbing.1 was.shortened
          (subst (λ (z : ℕ). TreeClimbs c.args.mates.now c.args.tree.now c.args.a c.args.b c.loop-x.x z was.climbing.0 was.climbing.1) (sym c.loop-x-test.false) was.climbing.2),
    )

pub returns-clause-forest : goal.returns-clause-forest
returns-clause-forest c = forest_shortened c.args.graph.now c.args.mates.now c.args.tree.now c.loop-x.tree c.requires.forest c.loop-x.invariant.shortened
