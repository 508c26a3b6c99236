use Rattle.std.proofs.Common.{arith, ap, sym, subst, ◌≡◌, ◌<◌, ◌∙◌, ◌+◌, inl, inr, ℕ, List, length, get_or, true}
use Rattle.std.proofs.lemmas.Bool.{cases_eq}
use Rattle.match_barrier.specs.Graph.{adjacent, has}
use Rattle.match_barrier.proofs.Edges.{has_at}
use Rattle.match_blossom.specs.declared.tree.AlternatingTree.{AlternatingTree}
use Rattle.match_blossom.specs.Labels.{at, is_outer}
use Rattle.match_blossom.specs.Foldings.{Augmented}
use Rattle.match_blossom.specs.Forest.{base_in, IsSettled}
use Rattle.match_blossom.proofs.Scanning.{at_default, lengths_trans, goes_on_trans, scanned_on, settled_on, scanned_more, step_settles, row_settled}
use Rattle.match_blossom.proofs.search.scan.Goals as goal

pub step-requires-clause-edge : goal.step-requires-clause-edge
step-requires-clause-edge c =
    let row : List ℕ = c.neighbours-v-items.result.now in
    ap (λ (xs : List ℕ). has xs (get_or row c.loop-v.v-index 0)) (sym c.neighbours-v-items.ensures.list) ∙ has_at row c.loop-v.v-index 0 c.loop-v-test.true

pub step-requires-clause-outer : goal.step-requires-clause-outer
step-requires-clause-outer c =
    let was = c.loop-v.invariant in
    let old = c.args.tree.now in
    let now = c.loop-v.tree in
    let head = c.requires.head in
    let more = was.goes_on.queued in
    let queue_length = c.requires.forest.room.queue in
    let u_is : c.index-u.result.now ≡ at old.queue.items c.args.head = c.index-u.ensures ∙ at_default old.queue.items c.args.head c.index-u.result.now 0 (omega arith) in
    let same : at now.queue.items c.args.head ≡ c.index-u.result.now = was.goes_on.queue c.args.head head ∙ sym u_is in
    ap (λ (x : ℕ). is_outer now.labels.items (base_in now x)) (sym same) ∙ was.forest.queue.outer c.args.head (omega arith)

pub returns-then-step-clause-step : goal.returns-then-step-clause-step
returns-then-step-clause-step c =
    let was = c.loop-v.invariant in
    let g = c.args.graph.now in
    let after = c.step.new.mates in
    let h = c.if-step.ensures.step in
    record {
      augmented = subst (λ (r : ℕ). Augmented g c.args.mates.now after r) was.goes_on.root (subst (λ (m : List ℕ). Augmented g m after c.loop-v.tree.root) was.mates h.augmented);
      touched = h.touched;
      cycle_touched = h.cycle_touched;
      now = h.now;
      lengths = lengths_trans c.args.tree.now c.loop-v.tree c.step.new.tree was.goes_on.lengths h.lengths;
    }

pub loop-v-preserved : goal.loop-v-preserved
loop-v-preserved c =
    let was = c.loop-v.invariant in
    let g = c.args.graph.now in
    let old : AlternatingTree = c.loop-v.tree in
    let new : AlternatingTree = c.step.new.tree in
    let row : List ℕ = c.neighbours-v-items.result.now in
    let u : ℕ = c.index-u.result.now in
    let step = c.if-step.ensures.step.1 in
    let head = c.requires.head in
    let more = was.goes_on.queued in
    let is = c.node_count-nodes.ensures.graph in
    let neighbour : (k : ℕ) → k < length row → adjacent g u (get_or row k 0) ≡ true = λ k less. ap (λ (xs : List ℕ). has xs (get_or row k 0)) (sym c.neighbours-v-items.ensures.list) ∙ has_at row k 0 less in
    let index = c.loop-v-test.true in
    record {
      mates = c.if-step.ensures.step.0 ∙ was.mates;
      forest = step.forest;
      scanned = scanned_on g c.loop-v.mates old new c.args.head is was.forest step.goes_on (omega arith) was.scanned;
      goes_on = goes_on_trans g c.args.tree.now old new was.goes_on step.goes_on;
      own = c.step.ensures.own;
      seen = λ k less. elim (cases_eq k c.loop-v.v-index) [
        | inl e ↦ subst (λ (j : ℕ). IsSettled new (c.args.head + 1) u (get_or row j 0)) (sym e) (step_settles g c.step.new.mates old new (c.args.head + 1) u (get_or row c.loop-v.v-index 0) step)
        | inr ne ↦
            let before : k < c.loop-v.v-index = omega arith in
            let edge = neighbour k (omega arith) in
            settled_on g old new (c.args.head + 1) u (get_or row k 0) step.goes_on (omega arith) (is.in_range (get_or row k 0) u (is.symmetric (get_or row k 0) u ∙ edge)) (is.in_range u (get_or row k 0) edge) (was.seen k before)
      ];
    }

pub returns-clause-step : goal.returns-clause-step
returns-clause-step c =
    let was = c.loop-v.invariant in
    let g = c.args.graph.now in
    let first = c.args.tree.now in
    let now : AlternatingTree = c.loop-v.tree in
    let row : List ℕ = c.neighbours-v-items.result.now in
    let u : ℕ = c.index-u.result.now in
    let head = c.requires.head in
    let more = was.goes_on.queued in
    let queue_length = c.requires.forest.room.queue in
    let u_is : u ≡ at first.queue.items c.args.head = c.index-u.ensures ∙ at_default first.queue.items c.args.head u 0 (omega arith) in
    let here : u ≡ at now.queue.items c.args.head = u_is ∙ sym (was.goes_on.queue c.args.head head) in
    let end = c.loop-v-test.false in
    let seen : (v : ℕ) → adjacent g u v ≡ true → IsSettled now (c.args.head + 1) u v = λ v edge.
    row_settled now row (c.args.head + 1) u (λ k less. was.seen k (omega arith)) v (ap (λ (xs : List ℕ). has xs v) c.neighbours-v-items.ensures.list ∙ edge) in
    (was.mates, was.forest, scanned_more g c.loop-v.mates now c.args.head u c.node_count-nodes.ensures.graph was.forest (omega arith) here was.scanned seen, was.goes_on)
