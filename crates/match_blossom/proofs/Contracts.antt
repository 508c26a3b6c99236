-- Contracting a cycle is a step.
use Rattle.std.proofs.Common.{◌≡◌, ◌≢◌, ℕ, ◌+◌, ◌≤◌, ◌<◌, List, [], ◌∷◌, ◌++◌, length, drop, true, false, ap, sym, ◌∙◌, inl, inr, arith, subst}
use Rattle.std.specs.Prelude.{cond}
use Rattle.std.proofs.lemmas.Bool.{false≢true, cases_Bool, false_from_ne_true}
use Rattle.std.proofs.lemmas.List.{length-set}
use Rattle.match_barrier.specs.Graph.{has, adjacent, IsGraph}
use Rattle.match_barrier.specs.Barrier.{count}
use Rattle.match_barrier.proofs.Counting.{has_cases, test_same}
use Rattle.match_blossom.specs.declared.tree.AlternatingTree.{AlternatingTree}
use Rattle.match_blossom.specs.declared.cycles.Cycles.{Cycles}
use Rattle.match_blossom.specs.Labels.{at, is_outer, is_inner}
use Rattle.match_blossom.specs.Foldings.{Folding, part_of, folded}
use Rattle.match_blossom.specs.Stack.{Fits, foldings_of}
use Rattle.match_blossom.specs.Pointers.{Falls, Points, PointsTo, Leads}
use Rattle.match_blossom.specs.Search.{IsFoldable}
use Rattle.match_blossom.specs.Forest.{IsForest, IsSearch, IsQueue, IsTouched, HasRoom, IsAbsorbed, IsStep, TreeClimbs, stacked, base_in, lives}
use Rattle.match_blossom.proofs.Steps.{folded_search, living_fall}
use Rattle.match_blossom.proofs.Contracted.{points_contract, leads_points, leads_more, falls_contract, queue_contracts, touched_contract, stack_grows, fits_more, inner_left}
use Rattle.match_blossom.proofs.Unfolding.{class_inside, class_outside}
use Rattle.match_blossom.proofs.Pairs.{not_in_cons}
use Rattle.match_blossom.proofs.Meeting.{foldable, round}

-- The cycle of two ways that have met.
pub cycle_of_ways : (g : List (List ℕ)) (mates : List ℕ) (f : AlternatingTree) (a b base u v : ℕ) (first second : List ℕ) → IsGraph g → IsForest g mates f → adjacent g u v ≡ true → a ≡ base_in f u → b ≡ base_in f v
    → TreeClimbs mates f a b base base first second
    → IsFoldable g mates f.root (base_in f) (is_outer f.labels.items) (is_inner f.labels.items) (at f.blossoms.order.items) base (round first second)
cycle_of_ways g mates f a b base u v first second is s edge ea eb c =
    foldable g mates f.root (base_in f) (is_outer f.labels.items) (is_inner f.labels.items) (at f.parent.items) (at f.blossoms.order.items) is s.search.tree a b first second base c.first_way c.second_way
    (record { from = u; to = v; below = is.in_range v u (is.symmetric v u ∙ edge); edge = edge; from_class = sym ea; to_class = sym eb }) c.first_outer c.apart

-- There are no more nodes on it than live.
pub cycle_fits : (g : List (List ℕ)) (mates : List ℕ) (f : AlternatingTree) (base : ℕ) (others : List ℕ) → IsForest g mates f → IsFoldable g mates f.root (base_in f) (is_outer f.labels.items) (is_inner f.labels.items) (at f.blossoms.order.items) base others
    → length others + 1 ≤ count (length g) (lives (base_in f))
cycle_fits g mates f base others s fold =
    let h = living_fall (length g) (base ∷ others) (lives (base_in f)) (λ u. false) fold.cycle.different (λ x k. let l = fold.cycle.living x k in (l.0, test_same (base_in f x) x l.1)) (λ i less k. absurd (false≢true k)) in
    omega arith

pub contracts : (g : List (List ℕ)) (mates : List ℕ) (f f' : AlternatingTree) (cy : Cycles) (base from u v : ℕ) (others : List ℕ) → IsGraph g → IsForest g mates f → adjacent g u v ≡ true
    → IsFoldable g mates f.root (base_in f) (is_outer f.labels.items) (is_inner f.labels.items) (at f.blossoms.order.items) base others
    → base_in f u ≢ base_in f v → has (base ∷ others) (base_in f u) ≡ true → has (base ∷ others) (base_in f v) ≡ true
    → drop from cy.nodes.items ≡ others ++ drop f.cycles.top f.cycles.nodes.items → from + length others ≡ f.cycles.top → length cy.nodes.items ≡ length f.cycles.nodes.items → cy.sizes ≡ f.cycles.sizes → cy.height ≡ f.cycles.height
    → IsAbsorbed (record f { cycles = cy }) f' base from others → IsStep g mates f f' u v
contracts g mates f f' cy base from u v others is s edge fold differ u_in v_in nodes top nodes_length sizes height b = record {
  forest = record {
    search = subst (λ (fs : List Folding). IsSearch g mates f'.root f'.labels.items f'.parent.items f'.blossoms.order.items f'.now fs) (sym stack)
        (subst (λ (r : ℕ). IsSearch g mates r f'.labels.items f'.parent.items f'.blossoms.order.items f'.now foldings) (sym b.root)
        (subst (λ (k : ℕ). IsSearch g mates f.root f'.labels.items f'.parent.items f'.blossoms.order.items k foldings) (sym b.now)
        (ap2 step.0)));
    falls = subst (λ p. Falls f'.blossoms.base.items p.items) (sym b.order) (falls_contract g part base others f.blossoms.base.items f'.blossoms.base.items f.blossoms.order.items fold.cycle fold.first s.falls s.base_length b.pointers b.base_length);
    points = on_stack (λ (p : ℕ → ℕ). Points f'.blossoms.base.items p) (subst (λ (n : ℕ). PointsTo n (at f'.blossoms.base.items) (folded part base others)) (sym b.base_length)
        (points_contract g part base others (length f.blossoms.base.items) (at f.blossoms.base.items) (at f'.blossoms.base.items) fold.cycle s.points (λ x less. b.pointers x)));
    cycle_falls = subst (λ p. Falls f'.blossoms.cycle_base.items p.items) (sym b.order) (falls_contract g part base others f.blossoms.cycle_base.items f'.blossoms.cycle_base.items f.blossoms.order.items fold.cycle fold.first s.cycle_falls s.cycle_length b.cycle_pointers b.cycle_length);
    leads = subst (λ (fs : List Folding). Leads (length f'.blossoms.cycle_base.items) (at f'.blossoms.cycle_base.items) fs) (sym stack) (subst (λ (n : ℕ). Leads n (at f'.blossoms.cycle_base.items) foldings) (sym b.cycle_length)
        (leads_more g (length f.blossoms.cycle_base.items) base others (at f.blossoms.cycle_base.items) (at f'.blossoms.cycle_base.items) (stacked f.cycles) fold.cycle
        (leads_points g (length f.blossoms.cycle_base.items) (at f.blossoms.cycle_base.items) (stacked f.cycles) s.search.folded s.leads) s.leads (λ x less. b.cycle_pointers x)));
    base_length = let k = s.base_length in let e = b.base_length in omega arith;
    cycle_length = let k = s.cycle_length in let e = b.cycle_length in omega arith;
    fits = fits';
    queue = on_stack (λ (p : ℕ → ℕ). IsQueue g f'.labels.items p f'.queue.items f'.queued)
        (queue_contracts g mates f.root part f.labels.items f'.labels.items (at f.parent.items) (at f.blossoms.order.items) base others f.queue.items f'.queue.items f.queued f'.queued s.search.tree fold b.cleared s.queue b.queue b.low b.queued b.each);
    touched = subst (λ (k : ℕ). IsTouched f'.labels.items f'.blossoms.base.items f'.touched.items k) (sym b.now) (subst (λ p. IsTouched f'.labels.items f'.blossoms.base.items p.items f.now) (sym b.touched) (touched_contract f.labels.items f'.labels.items (base ∷ []) others f.blossoms.base.items f'.blossoms.base.items f.touched.items base f.now fold.labelled b.cleared b.labels_length b.pointers b.base_length s.touched));
    cycle_touched = subst (λ (k : ℕ). IsTouched f'.labels.items f'.blossoms.cycle_base.items f'.touched.items k) (sym b.now) (subst (λ p. IsTouched f'.labels.items f'.blossoms.cycle_base.items p.items f.now) (sym b.touched) (touched_contract f.labels.items f'.labels.items (base ∷ []) others f.blossoms.cycle_base.items f'.blossoms.cycle_base.items f.touched.items base f.now fold.labelled b.cleared b.labels_length b.cycle_pointers b.cycle_length s.cycle_touched));
    room = on_stack (λ (p : ℕ → ℕ). HasRoom (length g) p f') room';
  };
  goes_on = record {
    root = b.root;
    lengths = record {
      labels = b.labels_length;
      parent = ap (λ p. length p.items) b.parent;
      base = b.base_length;
      cycle_base = b.cycle_length;
      order = ap (λ p. length p.items) b.order;
      touched = ap (λ p. length p.items) b.touched;
      queue = b.queue_length;
      nodes = let e = b.nodes_length in omega arith;
      sizes = ap (λ (xs : List ℕ). length xs) b.sizes ∙ length-set cy.sizes.items f'.cycles.height (length others + 1) ∙ ap (λ p. length p.items) sizes;
    };
    queue = b.queue;
    queued = b.low;
    one = λ x y bx by e. class' x ∙ ap (λ (p : ℕ). cond (has (base ∷ others) p) base p) e ∙ sym (class' y);
    inner = λ x bx i. elim (cases_Bool (has others (part x))) [
      | inr out ↦
          let not_base : base ≢ part x = λ e. false≢true (sym (s.search.tree.not_both base fold.base_outer) ∙ ap (is_inner f.labels.items) e ∙ i) in
          inl (ap (is_inner f'.labels.items) (class' x ∙ class_outside part base others x (not_in_cons base others (part x) not_base out)) ∙ inner_left f.labels.items f'.labels.items others b.cleared (part x) out ∙ i)
      | inl in' ↦
          let own : part x ≡ x = s.search.tree.alone x bx (false_from_ne_true (is_outer f.labels.items (part x)) (λ o. false≢true (sym (s.search.tree.not_both (part x) o) ∙ i))) in
          inr (b.each x (ap (has others) (sym own) ∙ in') (ap (is_inner f.labels.items) (sym own) ∙ i))
    ];
  };
  closed = inl (class' v ∙ class_inside part base others v v_in ∙ sym (class' u ∙ class_inside part base others u u_in));
}
  where
    part : ℕ → ℕ
    part = base_in f

    foldings : List Folding
    foldings = record { base = base; others = others } ∷ stacked f.cycles

    height_less : f'.cycles.height < length cy.sizes.items
    height_less = let a = b.height in let c = s.room.height_below in let e : length cy.sizes.items ≡ length f.cycles.sizes.items = ap (λ p. length p.items) sizes in omega arith

    all_nodes : drop f'.cycles.top f'.cycles.nodes.items ≡ base ∷ others ++ drop f.cycles.top f.cycles.nodes.items
    all_nodes = b.nodes ∙ ap (λ (xs : List ℕ). base ∷ xs) nodes

    sizes_left : drop (f'.cycles.height + 1) cy.sizes.items ≡ drop f.cycles.height f.cycles.sizes.items
    sizes_left = ap (λ (k : ℕ). drop k cy.sizes.items) (b.height ∙ height) ∙ ap (λ p. drop f.cycles.height p.items) sizes

    stack : stacked f'.cycles ≡ foldings
    stack = ap (λ (xs : List ℕ). foldings_of (drop f'.cycles.height xs) (drop f'.cycles.top f'.cycles.nodes.items)) b.sizes
        ∙ stack_grows cy.sizes.items (drop f'.cycles.top f'.cycles.nodes.items) others (drop f.cycles.top f.cycles.nodes.items) f'.cycles.height base height_less all_nodes
        ∙ ap (λ (xs : List ℕ). record { base = base; others = others } ∷ foldings_of xs (drop f.cycles.top f.cycles.nodes.items)) sizes_left

    fits' : Fits (drop f'.cycles.height f'.cycles.sizes.items) (drop f'.cycles.top f'.cycles.nodes.items)
    fits' = subst (λ (xs : List ℕ). Fits (drop f'.cycles.height xs) (drop f'.cycles.top f'.cycles.nodes.items)) (sym b.sizes)
        (fits_more cy.sizes.items (drop f'.cycles.top f'.cycles.nodes.items) others (drop f.cycles.top f.cycles.nodes.items) f'.cycles.height base height_less all_nodes
        (subst (λ (xs : List ℕ). Fits xs (drop f.cycles.top f.cycles.nodes.items)) (sym sizes_left) s.fits))

    on_stack : (P : (ℕ → ℕ) → Type 0) → P (folded part base others) → P (part_of (stacked f'.cycles))
    on_stack P h = subst (λ (fs : List Folding). P (part_of fs)) (sym stack) h

    class' : (x : ℕ) → base_in f' x ≡ folded part base others x
    class' x = ap (λ (fs : List Folding). part_of fs x) stack

    step : IsSearch g mates f.root f'.labels.items f.parent.items f.blossoms.order.items f.now (record { base = base; others = others } ∷ stacked f.cycles) × (count (length g) (lives (folded (base_in f) base others)) + length others ≤ count (length g) (lives (base_in f)))
    step = folded_search g mates f.root f.labels.items f'.labels.items f.parent.items f.blossoms.order.items f.now (stacked f.cycles) base others s.search fold b.cleared b.labels_length

    ap2 : IsSearch g mates f.root f'.labels.items f.parent.items f.blossoms.order.items f.now (record { base = base; others = others } ∷ stacked f.cycles)
        → IsSearch g mates f.root f'.labels.items f'.parent.items f'.blossoms.order.items f.now (record { base = base; others = others } ∷ stacked f.cycles)
    ap2 h = subst (λ p. IsSearch g mates f.root f'.labels.items p.items f'.blossoms.order.items f.now (record { base = base; others = others } ∷ stacked f.cycles)) (sym b.parent)
        (subst (λ p. IsSearch g mates f.root f'.labels.items f.parent.items p.items f.now (record { base = base; others = others } ∷ stacked f.cycles)) (sym b.order) h)

    only : (x : ℕ) → has (base ∷ []) x ≡ true → base ≡ x
    only x h = elim (has_cases base [] x h) [ inl e ↦ e | inr none ↦ absurd (false≢true none) ]

    some : (xs : List ℕ) → has (base ∷ xs) (base_in f u) ≡ true → has (base ∷ xs) (base_in f v) ≡ true → 0 < length xs
    some [] h k = absurd (differ (sym (only (base_in f u) h) ∙ only (base_in f v) k))
    some (x ∷ xs) h k = omega arith

    room' : HasRoom (length g) (folded (base_in f) base others) f'
    room' =
        let r = s.room in
        let less = step.1 in
        let now = b.now in
        let low = b.low in let high = b.high in
        let top' = b.top in
        let height' = b.height in
        let n1 : length f'.touched.items ≡ length f.touched.items = ap (λ p. length p.items) b.touched in
        let n2 = b.queue_length in
        let n3 = b.nodes_length in
        let n4 : length f'.cycles.sizes.items ≡ length f.cycles.sizes.items = ap (λ (xs : List ℕ). length xs) b.sizes ∙ length-set cy.sizes.items f'.cycles.height (length others + 1) ∙ ap (λ p. length p.items) sizes in
        let long = some others u_in v_in in
        let r1 = r.touched in let r2 = r.queue in let r3 = r.queued in let r4 = r.top in let r5 = r.top_below in let r6 = r.height in let r7 = r.height_below in
        record { touched = omega arith; queue = omega arith; queued = omega arith; top = omega arith; top_below = omega arith; height = omega arith; height_below = omega arith }
