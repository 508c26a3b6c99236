-- The stack when the two ways to the base of a new blossom have been written on it.
use Rattle.std.proofs.Common.{◌≡◌, ◌≢◌, ℕ, ◌+◌, ◌-◌, ◌≤◌, ◌<◌, List, ◌∷◌, ◌++◌, length, get_or, drop, take, reverse, true, refl, ap, sym, ◌∙◌, inl, inr, arith, subst}
use Rattle.std.specs.Prelude.{◌⊎◌}
use Rattle.std.specs.List.{All}
use Rattle.std.proofs.lemmas.List.{take_at, append_assoc, length-append, length-reverse}
use Rattle.match_barrier.specs.Graph.{has, adjacent, IsGraph}
use Rattle.match_barrier.specs.Barrier.{count}
use Rattle.match_barrier.proofs.Edges.{has_front, has_rest, has_at}
use Rattle.match_barrier.proofs.Naming.{count_le}
use Rattle.match_blossom.specs.declared.tree.AlternatingTree.{AlternatingTree}
use Rattle.match_blossom.specs.declared.cycles.Cycles.{Cycles}
use Rattle.match_blossom.specs.Labels.{at, is_outer, is_inner}
use Rattle.match_blossom.specs.Search.{IsFoldable}
use Rattle.match_blossom.specs.Forest.{IsForest, IsAbsorbed, IsStep, TreeClimb, TreeClimbs, base_in, lives, stacked}
use Rattle.match_blossom.proofs.Ways.{forest_same, top_kept, one_way, written_twice, turned_way, climb_same, way_begins}
use Rattle.match_blossom.proofs.Meeting.{round, round_length, round_reverse, has_first, has_second}
use Rattle.match_blossom.proofs.Contracts.{cycle_of_ways, cycle_fits, contracts}

-- The second way stands on the stack, from its beginning on, and nothing else has changed.
pub record SecondWritten (g : List (List ℕ)) (mates : List ℕ) (f t : AlternatingTree) (middle : ℕ) (second : List ℕ) : Type 0 where
  pub same : t ≡ record f { cycles = record f.cycles { nodes = t.cycles.nodes } }
  pub forest : IsForest g mates t
  pub stack : stacked t.cycles ≡ stacked f.cycles
  pub wrote : drop middle t.cycles.nodes.items ≡ second ++ drop f.cycles.top f.cycles.nodes.items
  pub place : middle + length second ≡ f.cycles.top
  pub long : length t.cycles.nodes.items ≡ length f.cycles.nodes.items

-- a way that has been written, the last of it first
abbrev pub WroteWay : List ℕ → AlternatingTree → ℕ → ℕ → List ℕ → ℕ → ℕ → Type 0
WroteWay mates t from base new top bottom = (way : List ℕ) × TreeClimb mates t from way base × (drop top new ≡ reverse way ++ drop bottom t.cycles.nodes.items) × (top + length way ≡ bottom)

pub second_written : (g : List (List ℕ)) (mates : List ℕ) (f t : AlternatingTree) (c : Cycles) (middle from base : ℕ) (second : List ℕ) → IsForest g mates f → TreeClimb mates f from second base
    → WroteWay mates f from base t.cycles.nodes.items middle f.cycles.top → t ≡ record f { cycles = record f.cycles { nodes = t.cycles.nodes } } → length t.cycles.nodes.items ≡ length f.cycles.nodes.items
    → c ≡ record t.cycles { nodes = c.nodes } → drop middle c.nodes.items ≡ reverse (take (f.cycles.top - middle) (drop middle t.cycles.nodes.items)) ++ drop f.cycles.top t.cycles.nodes.items → length c.nodes.items ≡ length t.cycles.nodes.items
    → SecondWritten g mates f (record t { cycles = c }) middle second
second_written g mates f t c middle from base second s climb w rest long turned_rest turned_is turned_long =
    let second_is : w.0 ≡ second = one_way g mates f.root (base_in f) (is_outer f.labels.items) (is_inner f.labels.items) (at f.parent.items) (at f.blossoms.order.items) s.search.tree from w.0 second base w.1 climb in
    let up : drop middle t.cycles.nodes.items ≡ reverse second ++ drop f.cycles.top f.cycles.nodes.items = w.2 ∙ ap (λ (xs : List ℕ). reverse xs ++ drop f.cycles.top f.cycles.nodes.items) second_is in
    let place : middle + length second ≡ f.cycles.top = ap (λ (xs : List ℕ). middle + length xs) (sym second_is) ∙ w.3 in
    let same = written_twice f t c rest turned_rest in
    let wrote : drop middle c.nodes.items ≡ second ++ drop f.cycles.top f.cycles.nodes.items = turned_way f.cycles.nodes.items t.cycles.nodes.items c.nodes.items second f.cycles.top middle up place turned_is in
    let kept : drop f.cycles.top c.nodes.items ≡ drop f.cycles.top f.cycles.nodes.items = top_kept f.cycles.nodes.items c.nodes.items second f.cycles.top middle f.cycles.top wrote place (omega arith) in
    let both = forest_same g mates f (record t { cycles = c }) s same kept (turned_long ∙ long) in
    record { same = same; forest = both.0; stack = both.1; wrote = wrote; place = place; long = turned_long ∙ long }

-- A way of the tree is one of the tree with the second way on its stack.
pub first_way : (g : List (List ℕ)) (mates : List ℕ) (f t : AlternatingTree) (middle from base : ℕ) (first second : List ℕ) → SecondWritten g mates f t middle second → TreeClimb mates f from first base → TreeClimb mates t from first base
first_way g mates f t middle from base first second s climb =
    climb_same mates f t from first base (s.same ∙ sym (ap (λ (c : Cycles). record f { cycles = c }) (ap (λ (x : AlternatingTree). x.cycles) s.same))) s.stack climb

-- Both ways stand on the stack: the cycle may be contracted.
pub record BothWritten (g : List (List ℕ)) (mates : List ℕ) (f t : AlternatingTree) (base top : ℕ) (others : List ℕ) : Type 0 where
  pub same : t ≡ record f { cycles = record f.cycles { nodes = t.cycles.nodes } }
  pub wrote : drop top t.cycles.nodes.items ≡ others ++ drop f.cycles.top f.cycles.nodes.items
  pub place : top + length others ≡ f.cycles.top
  pub long : length t.cycles.nodes.items ≡ length f.cycles.nodes.items
  pub taken : take (t.cycles.top - top) (drop top t.cycles.nodes.items) ≡ others
  pub foldable : IsFoldable g mates f.root (base_in f) (is_outer f.labels.items) (is_inner f.labels.items) (at f.blossoms.order.items) base others
  pub some : 0 < top
  pub few : t.cycles.top + 1 ≤ length g + top
  pub height : 0 < t.cycles.height
  pub queue : t.queued + (t.cycles.top - top) ≤ length t.queue.items
  pub nodes : All (λ v. (v < length t.labels.items) × (v < length t.blossoms.base.items) × (v < length t.blossoms.cycle_base.items)) (take (t.cycles.top - top) (drop top t.cycles.nodes.items))

pub both_written : (g : List (List ℕ)) (mates : List ℕ) (f t t' : AlternatingTree) (a b base middle top u v : ℕ) (first second : List ℕ) → IsGraph g → IsForest g mates f → adjacent g u v ≡ true → a ≡ base_in f u → b ≡ base_in f v
    → TreeClimbs mates f a b base base first second → SecondWritten g mates f t middle second → WroteWay mates t a base t'.cycles.nodes.items top middle
    → t' ≡ record t { cycles = record t.cycles { nodes = t'.cycles.nodes } } → length t'.cycles.nodes.items ≡ length t.cycles.nodes.items
    → BothWritten g mates f t' base top (reverse first ++ second)
both_written g mates f t t' a b base middle top u v first second is s edge a_is b_is met one w rest long = record {
  same = same;
  wrote = wrote;
  place = place;
  long = long ∙ one.long;
  taken = taken;
  foldable = foldable;
  some = let p = place in let h = fits in let r = s.room.top in omega arith;
  few = let p = place in let e = end in let h = fits in let n = count_le (length g) (lives (base_in f)) in omega arith;
  height =
      let e : t'.cycles.height ≡ f.cycles.height = ap (λ (x : AlternatingTree). x.cycles.height) same in
      let h = fits in let r = s.room.height in omega arith;
  queue =
      let e : t'.queued ≡ f.queued = ap (λ (x : AlternatingTree). x.queued) same in
      let l : length t'.queue.items ≡ length f.queue.items = ap (λ (x : AlternatingTree). length x.queue.items) same in
      let p = place in let top_is = end in let h = fits in let q = s.room.queued in let r = s.room.queue in let n = s.search.few in omega arith;
  nodes = subst (λ (xs : List ℕ). All (λ x. (x < length t'.labels.items) × (x < length t'.blossoms.base.items) × (x < length t'.blossoms.cycle_base.items)) xs) (sym taken) (λ k d less.
      let low = (foldable.cycle.living (get_or others k d) (has_rest base others (get_or others k d) (has_at others k d less))).0 in
      let l : length t'.labels.items ≡ length f.labels.items = ap (λ (x : AlternatingTree). length x.labels.items) same in
      let p : length t'.blossoms.base.items ≡ length f.blossoms.base.items = ap (λ (x : AlternatingTree). length x.blossoms.base.items) same in
      let labels_long = s.search.labels_length in
      let q : length t'.blossoms.cycle_base.items ≡ length f.blossoms.cycle_base.items = ap (λ (x : AlternatingTree). length x.blossoms.cycle_base.items) same in
      let base_long = s.base_length in
      let cycle_long = s.cycle_length in
      (omega arith, omega arith, omega arith));
}
  where
    others : List ℕ
    others = reverse first ++ second

    first_is : w.0 ≡ first
    first_is = one_way g mates t.root (base_in t) (is_outer t.labels.items) (is_inner t.labels.items) (at t.parent.items) (at t.blossoms.order.items) one.forest.search.tree a w.0 first base w.1
        (first_way g mates f t middle a base first second one met.first_way)

    wrote : drop top t'.cycles.nodes.items ≡ others ++ drop f.cycles.top f.cycles.nodes.items
    wrote = w.2 ∙ ap (λ (xs : List ℕ). reverse xs ++ drop middle t.cycles.nodes.items) first_is ∙ ap (λ (ys : List ℕ). reverse first ++ ys) one.wrote ∙ sym (append_assoc (reverse first) second (drop f.cycles.top f.cycles.nodes.items))

    place : top + length others ≡ f.cycles.top
    place =
        let part : top + length first ≡ middle = ap (λ (xs : List ℕ). top + length xs) (sym first_is) ∙ w.3 in
        let whole = length-append (reverse first) second in
        let turned = length-reverse first in
        let p = one.place in omega arith

    cycles : t'.cycles ≡ record t.cycles { nodes = t'.cycles.nodes }
    cycles = ap (λ (x : AlternatingTree). x.cycles) rest

    same : t' ≡ record f { cycles = record f.cycles { nodes = t'.cycles.nodes } }
    same = rest ∙ sym (ap (λ (c : Cycles). record t { cycles = c }) cycles) ∙ written_twice f t t'.cycles one.same cycles

    end : t'.cycles.top ≡ f.cycles.top
    end = ap (λ (x : AlternatingTree). x.cycles.top) same

    taken : take (t'.cycles.top - top) (drop top t'.cycles.nodes.items) ≡ others
    taken =
        let p = place in
        let e = end in
        let size : t'.cycles.top - top ≡ length others = omega arith in
        ap (λ (k : ℕ). take k (drop top t'.cycles.nodes.items)) size ∙ ap (λ (xs : List ℕ). take (length others) xs) wrote ∙ take_at others (drop f.cycles.top f.cycles.nodes.items) (length others) refl

    foldable : IsFoldable g mates f.root (base_in f) (is_outer f.labels.items) (is_inner f.labels.items) (at f.blossoms.order.items) base others
    foldable = subst (λ (xs : List ℕ). IsFoldable g mates f.root (base_in f) (is_outer f.labels.items) (is_inner f.labels.items) (at f.blossoms.order.items) base xs) (round_reverse first second)
        (cycle_of_ways g mates f a b base u v first second is s edge a_is b_is met)

    fits : length others + 1 ≤ count (length g) (lives (base_in f))
    fits = cycle_fits g mates f base others s foldable

-- There is room for the first way before the second.
pub first_fits : (g : List (List ℕ)) (mates : List ℕ) (f t : AlternatingTree) (a b base middle u v : ℕ) (first second : List ℕ) → IsGraph g → IsForest g mates f → adjacent g u v ≡ true → a ≡ base_in f u → b ≡ base_in f v
    → TreeClimbs mates f a b base base first second → SecondWritten g mates f t middle second → length first ≤ middle
first_fits g mates f t a b base middle u v first second is s edge a_is b_is met one =
    let h = cycle_fits g mates f base (round first second) s (cycle_of_ways g mates f a b base u v first second is s edge a_is b_is met) in
    let sum = round_length first second in
    let place = one.place in
    let top = s.room.top in omega arith

-- Contracting the cycle of two ways that stand on the stack is a step.
pub contracts_ways : (g : List (List ℕ)) (mates : List ℕ) (f t f' : AlternatingTree) (a b base top u v : ℕ) (first second : List ℕ) → IsGraph g → IsForest g mates f → adjacent g u v ≡ true → a ≡ base_in f u → b ≡ base_in f v
    → base_in f u ≢ base_in f v → TreeClimbs mates f a b base base first second → BothWritten g mates f t base top (reverse first ++ second)
    → IsAbsorbed t f' base top (take (t.cycles.top - top) (drop top t.cycles.nodes.items)) → IsStep g mates f f' u v
contracts_ways g mates f t f' a b base top u v first second is s edge a_is b_is differ met both absorbed =
    contracts g mates f f' (record f.cycles { nodes = t.cycles.nodes }) base top u v others is s edge both.foldable differ
    (ap (has (base ∷ others)) (sym a_is) ∙ on_cycle a (inl (begins a first met.first_way)))
    (ap (has (base ∷ others)) (sym b_is) ∙ on_cycle b (inr (begins b second met.second_way)))
    both.wrote both.place both.long refl refl
    (subst (λ (x : AlternatingTree). IsAbsorbed x f' base top others) both.same (subst (λ (xs : List ℕ). IsAbsorbed t f' base top xs) both.taken absorbed))
  where
    others : List ℕ
    others = reverse first ++ second

    begins : (x : ℕ) (way : List ℕ) → TreeClimb mates f x way base → (x ≡ base) ⊎ (has way x ≡ true)
    begins x way climb = way_begins mates (base_in f) (at f.parent.items) (is_outer f.labels.items) (is_inner f.labels.items) (at f.blossoms.order.items) x way base climb

    on_round : (x : ℕ) → ((x ≡ base) ⊎ (has first x ≡ true)) ⊎ ((x ≡ base) ⊎ (has second x ≡ true)) → has (base ∷ round first second) x ≡ true
    on_round x h = elim h [
      | inl (inl e) ↦ has_front base (round first second) x (sym e)
      | inl (inr k) ↦ has_rest base (round first second) x (has_first first second x k)
      | inr (inl e) ↦ has_front base (round first second) x (sym e)
      | inr (inr k) ↦ has_rest base (round first second) x (has_second first second x k)
    ]

    on_cycle : (x : ℕ) → ((x ≡ base) ⊎ (has first x ≡ true)) ⊎ ((x ≡ base) ⊎ (has second x ≡ true)) → has (base ∷ others) x ≡ true
    on_cycle x h = subst (λ (xs : List ℕ). has (base ∷ xs) x ≡ true) (round_reverse first second) (on_round x h)
