use Rattle.std.proofs.Common.{arith, refl, ap, subst, ◌≡◌, ℕ, List, get_or, length, set, true, inl, ◌∙◌, ◌<◌}
use Rattle.match_barrier.specs.Graph.{has, adjacent}
use Rattle.match_barrier.proofs.Edges.{has_at}
use Rattle.std.proofs.lemmas.List.{get_or-set_same, get_or-set_other}
use Rattle.match_barrier.proofs.Flooding.{room_left, lowers_more, seen_more, fell_at, settled_of_row}
use Rattle.match_barrier.proofs.flood.lower_neighbours.Goals as goal
use Rattle.match_barrier.proofs.flood.lower_neighbours.Goals.{then-root-label+then-label-nodes, else-root-label, else-root-label-via-then-root-label+else-label-nodes, else-root-label-via-else-root-label}

pub bounds-stack-top : goal.bounds-stack-top
bounds-stack-top c =
    let lowers = c.loop-w.invariant.lowers in
    let w : ℕ = get_or c.neighbours-w-items.result.now c.loop-w.w-index 0 in
    let fits = room_left c.args.graph.now c.args.root c.args.labels.now c.loop-w.labels c.args.stack.now c.loop-w.stack c.args.height c.loop-w.top w lowers c.requires.room
    (c.neighbours-w-items.ensures.in_range c.loop-w.w-index 0 c.loop-w-test.true) c.if-root-label.true in
    let long = lowers.stack_length in omega arith

pub loop-w-preserved : goal.loop-w-preserved
loop-w-preserved c =
    let g : List (List ℕ) = c.args.graph.now in
    let row : List ℕ = c.neighbours-w-items.result.now in
    let i : ℕ = c.loop-w.w-index in
    let w : ℕ = get_or row i 0 in
    let labels : List ℕ = c.loop-w.labels in
    let was = c.loop-w.invariant in
    let count = c.node_count-nodes.ensures.count in
    let below : w < length g = c.neighbours-w-items.ensures.in_range i 0 c.loop-w-test.true in
    let within : w < length labels = let long = was.lowers.each_node in omega arith in
    let edge : adjacent g c.args.v w ≡ true = subst (λ (r : List ℕ). has r w ≡ true) c.neighbours-w-items.ensures.list (has_at row i 0 c.loop-w-test.true) in
    elim c.if-root-label.branch [
      | then-root-label+then-label-nodes b ↦ rw (b.labels-is, b.stack-is, b.top-is) (
          let lower = b.if-root-label.true in
          let low = b.if-label-nodes.true in
          record {
            lowers = lowers_more g c.args.root c.args.labels.now labels c.args.stack.now c.loop-w.stack c.args.height c.loop-w.top c.args.v w c.node_count-nodes.ensures.graph was.lowers c.requires.room edge was.own lower (omega arith);
            own = get_or-set_other labels w c.args.v c.args.root 0 (λ e. let h : get_or labels c.args.v 0 ≡ get_or labels w 0 = ap (λ (x : ℕ). get_or labels x 0) e in let own = was.own in absurd (omega arith)) ∙ was.own;
            seen = seen_more g c.args.root w i row labels (set labels w c.args.root) c.loop-w-test.true refl was.seen (fell_at labels w c.args.root within) (λ k. let h = get_or-set_same labels w c.args.root 0 within in omega arith);
          })
      | else-root-label b ↦ rw (b.labels-is, b.stack-is, b.top-is) (record {
        lowers = was.lowers;
        own = was.own;
        seen = seen_more g c.args.root w i row labels labels c.loop-w-test.true refl was.seen (λ u. inl refl) (λ k. elim b.else-root-label.branch [
          | else-root-label-via-then-root-label+else-label-nodes b' ↦ let h = b'.if-label-nodes.false in absurd (omega arith)
          | else-root-label-via-else-root-label b' ↦ let h = b'.if-root-label.false in omega arith
        ]);
      })
    ]

pub returns-clause-settled : goal.returns-clause-settled
returns-clause-settled c = settled_of_row c.args.graph.now c.loop-w.labels c.neighbours-w-items.result.now c.args.v c.args.root c.neighbours-w-items.ensures.list c.loop-w.invariant.own
    (λ k less low. c.loop-w.invariant.seen k (omega arith) low)
