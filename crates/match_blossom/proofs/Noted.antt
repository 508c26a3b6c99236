-- The end that is noted for a node lies in its class, and stays noted when a cycle is expanded.
use Rattle.std.proofs.Common.{◌≡◌, ℕ, zero, suc, ◌+◌, ◌≤◌, ◌<◌, List, [], ◌∷◌, length, get_or, drop, take, true, refl, ap, sym, ◌∙◌, inl, inr, arith, subst}
use Rattle.std.specs.Prelude.{cond}
use Rattle.std.proofs.lemmas.Bool.{cases_Bool}
use Rattle.std.proofs.lemmas.List.{get_or-take, get_or-drop}
use Rattle.match_barrier.specs.Graph.{IsGraph, adjacent, has}
use Rattle.match_barrier.proofs.Edges.{has_front}
use Rattle.match_blossom.specs.Labels.{at}
use Rattle.match_blossom.specs.Pointers.{Falls, Points, Leads}
use Rattle.match_blossom.specs.Stack.{folding_of}
use Rattle.match_blossom.specs.Foldings.{Folding, Touch}
use Rattle.match_blossom.specs.declared.cycles.Cycles.{Cycles}
use Rattle.match_blossom.specs.Forest.{stacked}
use Rattle.match_blossom.specs.Ends.{AreNoted, AreNotedBut}
use Rattle.match_blossom.proofs.Contracted.{by_member, by_other}
use Rattle.match_blossom.proofs.Releasing.{LatestReleased}

-- The others of a cycle have been released.
pub noted_released : (point point' ends below others : List ℕ) (base : ℕ) → base < length point → length point' ≡ length point → ((u : ℕ) → at point' u ≡ cond (has others u) u (at point u)) → ((u : ℕ) → u < length point → has others u ≡ true → at point u ≡ base) → at point' base ≡ base
    → AreNoted point ends below → AreNotedBut point' ends below base
noted_released point point' ends below others base less long new lead own n = record {
  within = omega arith;
  own = own;
  ends_length = n.ends_length ∙ sym long;
  below_length = n.below_length ∙ sym long;
  each = λ c low away. elim (n.each c (omega arith)) [
    | inl e ↦ inl e
    | inr b ↦ elim (cases_Bool (has others (at below c))) [
      | inl h ↦ absurd (away (sym b.1 ∙ lead (at below c) b.0 h))
      | inr h ↦ inr (subst (λ (k : ℕ). at below c < k) (sym long) b.0, new (at below c) ∙ by_other (has others (at below c)) (at below c) (at point (at below c)) h ∙ b.1, b.2, b.3)
    ]
  ];
  at_base = elim (n.each base less) [
    | inl e ↦ inl e
    | inr b ↦ elim (cases_Bool (has others (at below base))) [
      | inl h ↦ inr (subst (λ (k : ℕ). at below base < k) (sym long) b.0, inr (new (at below base) ∙ by_member (has others (at below base)) (at below base) (at point (at below base)) h), b.2, b.3)
      | inr h ↦ inr (subst (λ (k : ℕ). at below base < k) (sym long) b.0, inl (new (at below base) ∙ by_other (has others (at below base)) (at below base) (at point (at below base)) h ∙ b.1), b.2, b.3)
    ]
  ];
}

-- a number above all of a list
above : (xs : List ℕ) → (bound : ℕ) × ((u : ℕ) → at xs u < bound)
above [] = (1, λ u. nothing u)
  where
    nothing : (u : ℕ) → at [] u < 1
    nothing zero = omega arith
    nothing (suc u) = omega arith
above (x ∷ xs) = let more = above xs in (x + more.0 + 1, λ u. by x xs more.0 more.1 u)
  where
    by : (x : ℕ) (xs : List ℕ) (bound : ℕ) → ((u : ℕ) → at xs u < bound) → (u : ℕ) → at (x ∷ xs) u < x + bound + 1
    by x xs bound all zero = omega arith
    by x xs bound all (suc u) = let h = all u in omega arith

-- A node's end lies in the node's class.
pub end_class : (point order ends below : List ℕ) (part : ℕ → ℕ) → Falls point order → Points point part → AreNoted point ends below → (c : ℕ) → c < length point → (part (at ends c) ≡ part c) × (at ends c < length point)
end_class point order ends below part falls points n c less = let top = above order in by top.0 top.1 top.0 c less (omega arith)
  where
    by : (bound : ℕ) → ((u : ℕ) → at order u < bound) → (k c : ℕ) → c < length point → bound ≤ at order c + k → (part (at ends c) ≡ part c) × (at ends c < length point)
    by bound all zero c less far = absurd (let h = all c in omega arith)
    by bound all (suc k) c less far = elim (n.each c less) [
      | inl e ↦ (ap part e, subst (λ (x : ℕ). x < length point) (sym e) less)
      | inr b ↦
          let d : ℕ = at below c in
          let lower : at order (at point d) < at order d = falls.lower d b.0 (λ e. b.2 (sym e ∙ b.1)) in
          let same : at order (at point d) ≡ at order c = ap (at order) b.1 in
          let h = by bound all k d b.0 (omega arith) in
          (ap part (sym b.3) ∙ h.0 ∙ sym (points.same d b.0) ∙ ap part b.1, subst (λ (x : ℕ). x < length point) b.3 h.1)
    ]

-- The latest cycle has been released.
pub latest_noted : (g : List (List ℕ)) (before : List ℕ) (all : List Folding) (mates pointers pointers' order ends below : List ℕ) (c : Cycles) (size base : ℕ) → length g ≤ length pointers → length pointers' ≡ length pointers → base ≡ get_or c.nodes.items c.top 0
    → Leads (length pointers) (at pointers) (stacked c) → AreNoted pointers ends below → LatestReleased g before all mates pointers pointers' order c size → AreNotedBut pointers' ends below base
latest_noted g before all mates pointers pointers' order ends below c size base le long base_is leads n rel =
    let cycle : List ℕ = take size (drop c.top c.nodes.items) in
    let x : ℕ = get_or cycle 0 0 in
    let some = rel.some in
    let place : c.top + 0 ≡ c.top = omega arith in
    let first : x ≡ base = get_or-take size (drop c.top c.nodes.items) 0 0 some ∙ get_or-drop c.top c.nodes.items 0 0 ∙ ap (λ (k : ℕ). get_or c.nodes.items k 0) place ∙ sym base_is in
    let lead : Leads (length pointers) (at pointers) (folding_of cycle ∷ rel.earlier) = subst (λ (fs : List Folding). Leads (length pointers) (at pointers) fs) rel.is leads in
    let living = rel.released.is.living x (has_front x (drop 1 cycle) x refl) in
    let low : base < length g = subst (λ (k : ℕ). k < length g) first living.0 in
    let own : at pointers' x ≡ x = rel.released.points.living x (let h = living.0 in omega arith) living.1 in
    noted_released pointers pointers' ends below (drop 1 cycle) base (omega arith) long rel.new (λ u less h. lead.0 u less h ∙ first) (subst (λ (k : ℕ). at pointers' k ≡ k) first own) n

-- An edge between the ends of two bases is one between their classes.
pub ends_touch : (g : List (List ℕ)) (point order ends below : List ℕ) (part : ℕ → ℕ) (a x : ℕ) → IsGraph g → Falls point order → Points point part → AreNoted point ends below → a < length point → x < length point → at point a ≡ a → at point x ≡ x
    → adjacent g (at ends a) (at ends x) ≡ true → Touch g part a x
ends_touch g point order ends below part a x graph falls points n a_less x_less a_own x_own edge = record {
  from = at ends a;
  to = at ends x;
  below = graph.in_range (at ends x) (at ends a) (graph.symmetric (at ends x) (at ends a) ∙ edge);
  edge = edge;
  from_class = (end_class point order ends below part falls points n a a_less).0 ∙ points.own a a_less a_own;
  to_class = (end_class point order ends below part falls points n x x_less).0 ∙ points.own x x_less x_own;
}
