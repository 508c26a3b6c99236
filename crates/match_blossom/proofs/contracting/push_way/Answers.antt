use Rattle.std.proofs.Common.{arith, refl, ap, sym, subst, ◌≡◌, ◌∙◌, ◌-◌, ◌++◌, [], append-nil, get_or, set, length, ℕ, List}
use Rattle.std.proofs.lemmas.List.{length-set}
use Rattle.match_blossom.specs.declared.tree.AlternatingTree.{AlternatingTree}
use Rattle.match_blossom.specs.Labels.{at, is_outer, is_inner}
use Rattle.match_blossom.specs.Pointers.{Points}
use Rattle.match_blossom.specs.Forest.{base_in, IsPushing, TreeClimb}
use Rattle.match_blossom.proofs.Ways.{may_push, pushing_more, ended, written_twice}
use Rattle.match_blossom.proofs.contracting.push_way.Goals as goal

pub loop-x-init : goal.loop-x-init
loop-x-init c = record {
  same = refl;
  nodes = refl;
  below = omega arith;
  pushing = record { done = []; left = c.requires.way.0; whole = c.requires.way.1; way = c.requires.way.1; pushed = refl; top_is = omega arith; room = c.requires.way.2 };
}

pub bounds-mates-x : goal.bounds-mates-x
bounds-mates-x c = let m = may_push c.args.graph.now c.args.mates.now c.args.tree.now c.args.bottom c.loop-x.top c.args.tree.now.cycles.nodes.items c.loop-x.tree.cycles.nodes.items c.args.from c.loop-x.x c.args.base c.node_count-nodes.ensures.graph c.requires.forest c.loop-x.invariant.pushing c.loop-x-test.true in let b = m.below in let long = c.requires.forest.search.tree.matching.each_node in omega arith

pub above-x-requires-clause-node : goal.above-x-requires-clause-node
above-x-requires-clause-node c = let m = may_push c.args.graph.now c.args.mates.now c.args.tree.now c.args.bottom c.loop-x.top c.args.tree.now.cycles.nodes.items c.loop-x.tree.cycles.nodes.items c.args.from c.loop-x.x c.args.base c.node_count-nodes.ensures.graph c.requires.forest c.loop-x.invariant.pushing c.loop-x-test.true in let b = m.below in let long = c.requires.forest.search.tree.matching.each_node in omega arith

pub above-x-requires-clause-mate : goal.above-x-requires-clause-mate
above-x-requires-clause-mate c = let m = may_push c.args.graph.now c.args.mates.now c.args.tree.now c.args.bottom c.loop-x.top c.args.tree.now.cycles.nodes.items c.loop-x.tree.cycles.nodes.items c.args.from c.loop-x.x c.args.base c.node_count-nodes.ensures.graph c.requires.forest c.loop-x.invariant.pushing c.loop-x-test.true in let b = m.mate_below in let long = c.requires.forest.search.parent_length in let pp : c.loop-x.tree.parent.items ≡ c.args.tree.now.parent.items = ap (λ (f : AlternatingTree). f.parent.items) c.loop-x.invariant.same in let pb : c.loop-x.tree.blossoms.base.items ≡ c.args.tree.now.blossoms.base.items = ap (λ (f : AlternatingTree). f.blossoms.base.items) c.loop-x.invariant.same in let el = ap (λ (xs : List ℕ). length xs) pp in let eb = ap (λ (xs : List ℕ). length xs) pb in omega arith

pub above-x-requires-clause-parent : goal.above-x-requires-clause-parent
above-x-requires-clause-parent c = let m = may_push c.args.graph.now c.args.mates.now c.args.tree.now c.args.bottom c.loop-x.top c.args.tree.now.cycles.nodes.items c.loop-x.tree.cycles.nodes.items c.args.from c.loop-x.x c.args.base c.node_count-nodes.ensures.graph c.requires.forest c.loop-x.invariant.pushing c.loop-x-test.true in let b = m.parent_below in let long = c.requires.forest.base_length in let pp : c.loop-x.tree.parent.items ≡ c.args.tree.now.parent.items = ap (λ (f : AlternatingTree). f.parent.items) c.loop-x.invariant.same in let pb : c.loop-x.tree.blossoms.base.items ≡ c.args.tree.now.blossoms.base.items = ap (λ (f : AlternatingTree). f.blossoms.base.items) c.loop-x.invariant.same in let el = ap (λ (xs : List ℕ). length xs) pp in let eb = ap (λ (xs : List ℕ). length xs) pb in let e : at c.loop-x.tree.parent.items (get_or c.args.mates.now c.loop-x.x 0) ≡ at c.args.tree.now.parent.items (get_or c.args.mates.now c.loop-x.x 0) = ap (λ (xs : List ℕ). at xs (get_or c.args.mates.now c.loop-x.x 0)) pp in omega arith

pub loop-x-preserved : goal.loop-x-preserved
loop-x-preserved c =
    let pp : c.loop-x.tree.parent.items ≡ c.args.tree.now.parent.items = ap (λ (f : AlternatingTree). f.parent.items) c.loop-x.invariant.same in let pb : c.loop-x.tree.blossoms.base.items ≡ c.args.tree.now.blossoms.base.items = ap (λ (f : AlternatingTree). f.blossoms.base.items) c.loop-x.invariant.same in let el = ap (λ (xs : List ℕ). length xs) pp in let eb = ap (λ (xs : List ℕ). length xs) pb in
    let m = may_push c.args.graph.now c.args.mates.now c.args.tree.now c.args.bottom c.loop-x.top c.args.tree.now.cycles.nodes.items c.loop-x.tree.cycles.nodes.items c.args.from c.loop-x.x c.args.base c.node_count-nodes.ensures.graph c.requires.forest c.loop-x.invariant.pushing c.loop-x-test.true in
    let room = m.room in
    let low = c.loop-x.invariant.below in
    let long = c.loop-x.invariant.nodes in
    let top = c.requires.bottom in
    let top' = c.requires.forest.room.top_below in
    let nodes : List ℕ = c.loop-x.tree.cycles.nodes.items in
    let x : ℕ = c.loop-x.x in
    let w : ℕ = get_or c.args.mates.now x 0 in
    let result : c.above-x.result ≡ base_in c.args.tree.now (at c.args.tree.now.parent.items w) =
    c.above-x.ensures (base_in c.args.tree.now) (subst (λ (xs : List ℕ). Points xs (base_in c.args.tree.now)) (sym pb) c.requires.forest.points) ∙ ap (λ (xs : List ℕ). base_in c.args.tree.now (at xs w)) pp in
    let l1 = length-set nodes (c.loop-x.top - 1) x in
    let l2 = length-set (set nodes (c.loop-x.top - 1) x) (c.loop-x.top - 2) w in
    record {
      same = written_twice c.args.tree.now c.loop-x.tree _ c.loop-x.invariant.same refl;
      nodes = l2 ∙ l1 ∙ c.loop-x.invariant.nodes;
      below = omega arith;
      pushing = subst (λ (z : ℕ). IsPushing c.args.mates.now c.args.tree.now c.args.bottom (c.loop-x.top - 2) c.args.tree.now.cycles.nodes.items (set (set nodes (c.loop-x.top - 1) x) (c.loop-x.top - 2) w) c.args.from z c.args.base) (sym result)
          (pushing_more c.args.mates.now c.args.tree.now c.args.bottom c.loop-x.top c.args.tree.now.cycles.nodes.items nodes c.args.from x c.args.base c.loop-x.invariant.pushing c.loop-x-test.true (omega arith));
    }

pub returns-clause-way : goal.returns-clause-way
returns-clause-way c =
    let p = c.loop-x.invariant.pushing in
    let e : p.left ≡ [] = ended c.args.graph.now c.args.mates.now c.args.tree.now.root (base_in c.args.tree.now) (is_outer c.args.tree.now.labels.items) (is_inner c.args.tree.now.labels.items) (at c.args.tree.now.parent.items) (at c.args.tree.now.blossoms.order.items) c.requires.forest.search.tree c.loop-x.x p.left c.args.base p.way c.loop-x-test.false in
    (p.done, subst (λ (xs : List ℕ). TreeClimb c.args.mates.now c.args.tree.now c.args.from xs c.args.base) (ap (λ (xs : List ℕ). p.done ++ xs) e ∙ append-nil p.done) p.whole, p.pushed, p.top_is)
