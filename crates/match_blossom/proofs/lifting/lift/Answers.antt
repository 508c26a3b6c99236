use Rattle.std.proofs.Common.{arith, sym, subst, ap, ◌≡◌, ◌≢◌, ◌∙◌, get_or, drop, length, ℕ, List, true}
use Rattle.std.proofs.lemmas.List.{length-set, take_rest}
use Rattle.match_barrier.specs.Graph.{has}
use Rattle.match_barrier.proofs.Edges.{has_rest}
use Rattle.match_blossom.specs.Foldings.{Unfolds, pair_off}
use Rattle.match_blossom.proofs.Unfolding.{unfold_turned, turned_below, touches_cycle, unfold_free, mate_below, mate_own}
use Rattle.match_blossom.proofs.lifting.lift.Goals as goal
use Rattle.match_blossom.proofs.lifting.lift.Goals.{then-x-node_count, else-x-node_count}

pub touching_place-k-requires-clause-touches : goal.touching_place-k-requires-clause-touches
touching_place-k-requires-clause-touches c = (c.requires.cycle.part, c.requires.cycle.points, touches_cycle c.args.graph.now c.requires.cycle.part c.args.cycle.now c.args.mates.now c.requires.some c.requires.cycle.is c.requires.cycle.matching (λ e. c.if-x-node_count.true (e ∙ sym c.node_count.ensures.count)))

pub touching_place-k-requires-clause-below : goal.touching_place-k-requires-clause-below
touching_place-k-requires-clause-below c = mate_below c.args.graph.now c.requires.cycle.part (get_or c.args.cycle.now 0 0) (drop 1 c.args.cycle.now) c.args.mates.now c.requires.cycle.is c.requires.cycle.matching (λ e. c.if-x-node_count.true (e ∙ sym c.node_count.ensures.count))

pub touching_place-k-requires-clause-own : goal.touching_place-k-requires-clause-own
touching_place-k-requires-clause-own c =
    let x : ℕ = get_or c.args.mates.now (get_or c.args.cycle.now 0 0) 0 in
    let matched : x ≢ length c.args.graph.now = λ e. c.if-x-node_count.true (e ∙ sym c.node_count.ensures.count) in
    let below = mate_below c.args.graph.now c.requires.cycle.part (get_or c.args.cycle.now 0 0) (drop 1 c.args.cycle.now) c.args.mates.now c.requires.cycle.is c.requires.cycle.matching matched in
    let long = c.requires.base_length in
    c.requires.cycle.points.living x (omega arith) (mate_own c.args.graph.now c.requires.cycle.part (get_or c.args.cycle.now 0 0) (drop 1 c.args.cycle.now) c.args.mates.now c.requires.cycle.is c.requires.cycle.matching matched)

pub bounds-mates-x : goal.bounds-mates-x
bounds-mates-x c =
    let h = mate_below c.args.graph.now c.requires.cycle.part (get_or c.args.cycle.now 0 0) (drop 1 c.args.cycle.now) c.args.mates.now c.requires.cycle.is c.requires.cycle.matching (λ e. c.if-x-node_count.true (e ∙ sym c.node_count.ensures.count)) in
    let long = c.requires.cycle.matching.each_node in omega arith

pub bounds-mates-cycle : goal.bounds-mates-cycle
bounds-mates-cycle c =
    let h = (turned_below c.args.graph.now c.requires.cycle.part c.args.cycle.now c.rotate_left.new.self c.touching_place-k.result c.requires.some c.requires.cycle.is c.touching_place-k.ensures.below c.rotate_left.ensures.after).0 in
    let long = c.requires.cycle.matching.each_node in
    let same = length-set c.args.mates.now (get_or c.args.mates.now (get_or c.args.cycle.now 0 0) 0) (get_or c.rotate_left.new.self 0 0) in omega arith

pub pair_off-requires : goal.pair_off-requires
pair_off-requires c = λ z inside.
    let member : has (drop 1 c.if-x-node_count.cycle) z ≡ true = subst (λ (xs : List ℕ). has xs z ≡ true) (take_rest c.if-x-node_count.cycle 1) inside in
    let long = c.requires.cycle.matching.each_node in
    let same = c.if-x-node_count.auto.mates in
    elim c.if-x-node_count.branch [
      | then-x-node_count w ↦
          let h = (turned_below c.args.graph.now c.requires.cycle.part c.args.cycle.now w.rotate_left.new.self w.touching_place-k.result c.requires.some c.requires.cycle.is w.touching_place-k.ensures.below w.rotate_left.ensures.after).1 z
          (subst (λ (xs : List ℕ). has (drop 1 xs) z ≡ true) w.cycle-is member) in omega arith
      | else-x-node_count w ↦
          let h = (c.requires.cycle.is.living z (has_rest (get_or c.args.cycle.now 0 0) (drop 1 c.args.cycle.now) z (subst (λ (xs : List ℕ). has (drop 1 xs) z ≡ true) w.cycle-is member))).0 in omega arith
    ]

pub returns-clause-lifted : goal.returns-clause-lifted
returns-clause-lifted c = λ part points is even matching.
    let g : List (List ℕ) = c.args.graph.now in
    let base : ℕ = get_or c.args.cycle.now 0 0 in
    let others : List ℕ = drop 1 c.args.cycle.now in
    let mates : List ℕ = c.args.mates.now in
    let done : c.pair_off.new.mates ≡ pair_off (drop 1 c.if-x-node_count.cycle) c.if-x-node_count.mates = c.pair_off.ensures ∙ ap (λ (xs : List ℕ). pair_off xs c.if-x-node_count.mates) (take_rest c.if-x-node_count.cycle 1) in
    subst (λ (m : List ℕ). Unfolds g part base others mates m) (sym done) (elim c.if-x-node_count.branch [
      | then-x-node_count w ↦ rw (w.cycle-is, w.mates-is) (unfold_turned g part c.args.cycle.now mates w.rotate_left.new.self w.touching_place-k.result c.node_count.ensures.graph c.requires.some is even matching
          (λ e. w.if-x-node_count.true (e ∙ sym c.node_count.ensures.count)) w.touching_place-k.ensures.below (w.touching_place-k.ensures.touch part points) w.rotate_left.ensures.after)
      | else-x-node_count w ↦ rw (w.cycle-is, w.mates-is) (unfold_free g part base others mates c.node_count.ensures.graph is even matching (w.if-x-node_count.false ∙ c.node_count.ensures.count))
    ])
