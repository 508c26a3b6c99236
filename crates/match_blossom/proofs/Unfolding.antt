-- A matching of the folded graph gives one of the graph before.
use Rattle.std.proofs.Common.{◌≡◌, ◌≢◌, ℕ, ◌<◌, List, [], ◌∷◌, ◌++◌, length, get_or, set, take, drop, Bool, true, false, refl, ap, sym, ◌∙◌, inl, inr, arith, subst}
use Rattle.std.specs.Prelude.{cond, not}
use Rattle.std.proofs.lemmas.Bool.{cases_eq, false≢true, cases_Bool, false_from_ne_true}
use Rattle.match_barrier.specs.Graph.{has, IsGraph, NoRepeats}
use Rattle.match_barrier.specs.Barrier.{is_odd}
use Rattle.match_barrier.proofs.Edges.{has_front, has_rest}
use Rattle.match_blossom.specs.Foldings.{IsLiving, Touch, IsMatchingBut, pair_off, folded, IsCycle, Touches, Unfolds}
use Rattle.match_blossom.proofs.Pairs.{touch_back, not_in_rest, not_in_cons, pairs_off, free_after}
use Rattle.match_blossom.proofs.Rotated.{IsTurned, turned, chain_of_cycle, chain_of_others}

-- classes but the base's are as before
pub class_before : (part : ℕ → ℕ) (base : ℕ) (others : List ℕ) (u v : ℕ) → folded part base others u ≡ v → v ≢ base → part u ≡ v
class_before part base others u v is ne = by (has (base ∷ others) (part u)) is
  where
    by : (b : Bool) → cond b base (part u) ≡ v → part u ≡ v
    by true h = absurd (ne (sym h))
    by false h = h

pub base_class : (part : ℕ → ℕ) (base : ℕ) (others : List ℕ) (u : ℕ) → folded part base others u ≡ base → has (base ∷ others) (part u) ≡ true
base_class part base others u is = by (has (base ∷ others) (part u)) refl is
  where
    by : (b : Bool) → has (base ∷ others) (part u) ≡ b → cond b base (part u) ≡ base → has (base ∷ others) (part u) ≡ true
    by true e h = e
    by false e h = absurd (false≢true (sym e ∙ has_front base others (part u) (sym h)))

pub class_outside : (part : ℕ → ℕ) (base : ℕ) (others : List ℕ) (u : ℕ) → has (base ∷ others) (part u) ≡ false → folded part base others u ≡ part u
class_outside part base others u out = ap (λ (b : Bool). cond b base (part u)) out

pub class_inside : (part : ℕ → ℕ) (base : ℕ) (others : List ℕ) (u : ℕ) → has (base ∷ others) (part u) ≡ true → folded part base others u ≡ base
class_inside part base others u in' = ap (λ (b : Bool). cond b base (part u)) in'

pub living_outside : (g : List (List ℕ)) (part : ℕ → ℕ) (base : ℕ) (others : List ℕ) (v : ℕ) → IsLiving g part v → has (base ∷ others) v ≡ false → IsLiving g (folded part base others) v
living_outside g part base others v living out = (living.0, class_outside part base others v (ap (has (base ∷ others)) living.1 ∙ out) ∙ living.1)

-- a node outside the cycle keeps its mate, if that is not the base
keeps : (g : List (List ℕ)) (part : ℕ → ℕ) (base : ℕ) (others : List ℕ) (mates : List ℕ) → IsCycle g part base others → IsMatchingBut g (folded part base others) mates []
    → (v : ℕ) → IsLiving g part v → has (base ∷ others) v ≡ false → get_or mates v 0 ≢ length g → get_or mates v 0 ≢ base
    → IsLiving g part (get_or mates v 0) × (has (base ∷ others) (get_or mates v 0) ≡ false) × (get_or mates v 0 ≢ v) × (get_or mates (get_or mates v 0) 0 ≡ v) × Touch g part v (get_or mates v 0)
keeps g part base others mates is m v living out not_free not_base =
    let r = m.mate v (living_outside g part base others v living out) refl not_free in
    let w : ℕ = get_or mates v 0 in
    let w_class : part w ≡ w = class_before part base others w w r.0.1 not_base in
    let w_out : has (base ∷ others) w ≡ false = false_from_ne_true (has (base ∷ others) w) (λ h. not_base (sym r.0.1 ∙ class_inside part base others w (ap (has (base ∷ others)) w_class ∙ h))) in
    let v_not_base : v ≢ base = λ e. false≢true (sym out ∙ has_front base others v (sym e)) in (
      (r.0.0, w_class),
      w_out,
      r.2,
      r.3,
      record {
        from = r.4.from;
        to = r.4.to;
        below = r.4.below;
        edge = r.4.edge;
        from_class = class_before part base others r.4.from v r.4.from_class v_not_base;
        to_class = class_before part base others r.4.to w r.4.to_class not_base;
      },
    )

-- The base is free: the others pair off.
pub unfold_free : (g : List (List ℕ)) (part : ℕ → ℕ) (base : ℕ) (others : List ℕ) (mates : List ℕ) → IsGraph g → IsCycle g part base others → is_odd (length others) ≡ false
    → IsMatchingBut g (folded part base others) mates [] → get_or mates base 0 ≡ length g → Unfolds g part base others mates (pair_off others mates)
unfold_free g part base others mates graph is even m free = record {
  matching = pairs_off g part others mates graph (λ x h. is.living x (has_rest base others x h)) is.different.1 (chain_of_others g part base others is) even (record {
    each_node = m.each_node;
    mate = λ v living out not_free.
        let v_out : has (base ∷ others) v ≡ false = not_in_cons base others v (λ e. not_free (ap (λ (x : ℕ). get_or mates x 0) (sym e) ∙ free)) out in
        let r = keeps g part base others mates is m v living v_out not_free (λ e. by v living v_out not_free e) in
        (r.0, (not_in_rest base others (get_or mates v 0) r.1).1, r.2, r.3, r.4);
  });
  free = λ v living free'.
      let a = free_after (length g) others mates (λ x h. (is.living x (has_rest base others x h)).0) m.each_node is.different.1 even v free' in (
        elim (cases_eq v base) [
          | inl e ↦ (living.0, class_inside part base others v (ap (has (base ∷ others)) living.1 ∙ has_front base others v (sym e)) ∙ sym e)
          | inr ne ↦ living_outside g part base others v living (not_in_cons base others v (λ e. ne (sym e)) a.0)
        ],
        a.1,
      );
}
  where
    by : (v : ℕ) → IsLiving g part v → has (base ∷ others) v ≡ false → get_or mates v 0 ≢ length g → get_or mates v 0 ≡ base → ⊥
    by v living out not_free e =
        let r = m.mate v (living_outside g part base others v living out) refl not_free in
        let low = living.0 in
        let back : length g ≡ v = sym free ∙ ap (λ (x : ℕ). get_or mates x 0) (sym e) ∙ r.3 in omega arith

base_in : (g : List (List ℕ)) (part : ℕ → ℕ) (base : ℕ) (others : List ℕ) → IsCycle g part base others → IsLiving g (folded part base others) base
base_in g part base others is =
    let living : IsLiving g part base = is.living base (has_front base others base refl) in
    (living.0, class_inside part base others base (ap (has (base ∷ others)) living.1 ∙ has_front base others base refl))

pub touches : (g : List (List ℕ)) (part : ℕ → ℕ) (base : ℕ) (others : List ℕ) (mates : List ℕ) → IsCycle g part base others
    → IsMatchingBut g (folded part base others) mates [] → get_or mates base 0 ≢ length g → Touches g part (base ∷ others) (get_or mates base 0)
touches g part base others mates is m not_free =
    let r = m.mate base (base_in g part base others is) refl not_free in
    record { from = r.4.from; to = r.4.to; edge = r.4.edge; inside = base_class part base others r.4.from r.4.from_class; outside = class_before part base others r.4.to (get_or mates base 0) r.4.to_class r.2 }

-- A node of the cycle takes the mate of the base, and the rest pairs off.
pub unfold_matched : (g : List (List ℕ)) (part : ℕ → ℕ) (base : ℕ) (others : List ℕ) (mates : List ℕ) (c : ℕ) (rest : List ℕ) → IsGraph g → IsCycle g part base others → is_odd (length others) ≡ false
    → IsMatchingBut g (folded part base others) mates [] → get_or mates base 0 ≢ length g → IsTurned g part base others c rest → Touch g part c (get_or mates base 0)
    → Unfolds g part base others mates (pair_off (get_or mates base 0 ∷ c ∷ rest) mates)
unfold_matched g part base others mates c rest graph is even m not_free t touched =
    let x : ℕ = get_or mates base 0 in
    let r = m.mate base (base_in g part base others is) refl not_free in
    let x_class : part x ≡ x = class_before part base others x x r.0.1 r.2 in
    let x_out : has (base ∷ others) x ≡ false = false_from_ne_true (has (base ∷ others) x) (λ h. r.2 (sym r.0.1 ∙ class_inside part base others x (ap (has (base ∷ others)) x_class ∙ h))) in
    let touch : Touch g part x c = touch_back g part c x graph touched in
    let all : (z : ℕ) → has (c ∷ rest) z ≡ has (base ∷ others) z = t.same in
    let list : List ℕ = x ∷ c ∷ rest in
    let even' : is_odd (length list) ≡ false = not_not (is_odd (length rest)) ∙ ap is_odd t.long ∙ even in
    let living' : (z : ℕ) → has list z ≡ true → IsLiving g part z = λ z h. member x (c ∷ rest) (r.0.0, x_class) (λ y k. t.cycle.living y k) z h in
    let different : NoRepeats list = (all x ∙ x_out, t.cycle.different) in
    record {
      matching = pairs_off g part list mates graph living' different (touch, chain_of_cycle g part c rest t.cycle) even' (record {
        each_node = m.each_node;
        mate = λ v living out not_free'.
            let o = not_in_rest x (c ∷ rest) v out in
            let v_out : has (base ∷ others) v ≡ false = sym (all v) ∙ o.1 in
            let q = m.mate v (living_outside g part base others v living v_out) refl not_free' in
            let k = keeps g part base others mates is m v living v_out not_free' (λ e. o.0 (ap (λ (y : ℕ). get_or mates y 0) (sym e) ∙ q.3)) in (
              k.0,
              not_in_cons x (c ∷ rest) (get_or mates v 0) (λ e. false≢true (sym v_out ∙ has_front base others v (sym r.3 ∙ ap (λ (y : ℕ). get_or mates y 0) e ∙ q.3))) (all (get_or mates v 0) ∙ k.1),
              k.2,
              k.3,
              k.4,
            );
      });
      free = λ v living free'.
          let a = free_after (length g) list mates (λ z h. (living' z h).0) m.each_node different even' v free' in
          (living_outside g part base others v living (sym (all v) ∙ (not_in_rest x (c ∷ rest) v a.0).1), a.1);
    }
  where
    not_not : (b : Bool) → not (not b) ≡ b
    not_not true = refl
    not_not false = refl

    member : (x : ℕ) (xs : List ℕ) → IsLiving g part x → ((y : ℕ) → has xs y ≡ true → IsLiving g part y) → (z : ℕ) → has (x ∷ xs) z ≡ true → IsLiving g part z
    member x xs first rest z h = elim (cases_Bool (has xs z)) [
      | inl in' ↦ rest z in'
      | inr out ↦ elim (cases_eq x z) [
        | inl e ↦ subst (IsLiving g part) e first
        | inr ne ↦ absurd (false≢true (sym (not_in_cons x xs z ne out) ∙ h))
      ]
    ]

pub whole_of : (cycle : List ℕ) → 0 < length cycle → cycle ≡ get_or cycle 0 0 ∷ drop 1 cycle
whole_of [] h = absurd (omega arith)
whole_of (x ∷ xs) h = refl

-- The same of a cycle as one list, turned so that the node which touches the mate of the base comes first.
pub unfold_turned : (g : List (List ℕ)) (part : ℕ → ℕ) (cycle mates list : List ℕ) (k : ℕ) → IsGraph g → 0 < length cycle → IsCycle g part (get_or cycle 0 0) (drop 1 cycle) → is_odd (length (drop 1 cycle)) ≡ false
    → IsMatchingBut g (folded part (get_or cycle 0 0) (drop 1 cycle)) mates [] → get_or mates (get_or cycle 0 0) 0 ≢ length g → k < length cycle → Touch g part (get_or cycle k 0) (get_or mates (get_or cycle 0 0) 0)
    → list ≡ drop k cycle ++ take k cycle
    → Unfolds g part (get_or cycle 0 0) (drop 1 cycle) mates (pair_off (drop 1 list) (set (set mates (get_or mates (get_or cycle 0 0) 0) (get_or list 0 0)) (get_or list 0 0) (get_or mates (get_or cycle 0 0) 0)))
unfold_turned g part cycle mates list k graph some is even m not_free less touch from =
    let base : ℕ = get_or cycle 0 0 in
    let others : List ℕ = drop 1 cycle in
    let e : cycle ≡ base ∷ others = whole_of cycle some in
    let t = turned g part base others k list is (subst (λ (xs : List ℕ). k < length xs) e less) (from ∙ ap (λ (xs : List ℕ). drop k xs ++ take k xs) e) in
    let here : get_or cycle k 0 ≡ get_or list 0 0 = ap (λ (xs : List ℕ). get_or xs k 0) e ∙ sym t.0 in
    unfold_matched g part base others mates (get_or list 0 0) (drop 1 list) graph is even m not_free t.2 (subst (λ (c : ℕ). Touch g part c (get_or mates base 0)) here touch)

-- The nodes of a cycle, and of it turned, are nodes.
pub turned_below : (g : List (List ℕ)) (part : ℕ → ℕ) (cycle list : List ℕ) (k : ℕ) → 0 < length cycle → IsCycle g part (get_or cycle 0 0) (drop 1 cycle) → k < length cycle → list ≡ drop k cycle ++ take k cycle
    → (get_or list 0 0 < length g) × ((z : ℕ) → has (drop 1 list) z ≡ true → z < length g)
turned_below g part cycle list k some is less from =
    let base : ℕ = get_or cycle 0 0 in
    let others : List ℕ = drop 1 cycle in
    let e : cycle ≡ base ∷ others = whole_of cycle some in
    let t = turned g part base others k list is (subst (λ (xs : List ℕ). k < length xs) e less) (from ∙ ap (λ (xs : List ℕ). drop k xs ++ take k xs) e) in
    let c = t.2.cycle in
    ((c.living (get_or list 0 0) (has_front (get_or list 0 0) (drop 1 list) (get_or list 0 0) refl)).0, λ z h. (c.living z (has_rest (get_or list 0 0) (drop 1 list) z h)).0)

pub touches_cycle : (g : List (List ℕ)) (part : ℕ → ℕ) (cycle mates : List ℕ) → 0 < length cycle → IsCycle g part (get_or cycle 0 0) (drop 1 cycle)
    → IsMatchingBut g (folded part (get_or cycle 0 0) (drop 1 cycle)) mates [] → get_or mates (get_or cycle 0 0) 0 ≢ length g → Touches g part cycle (get_or mates (get_or cycle 0 0) 0)
touches_cycle g part cycle mates some is m not_free =
    subst (λ (xs : List ℕ). Touches g part xs (get_or mates (get_or cycle 0 0) 0)) (sym (whole_of cycle some)) (touches g part (get_or cycle 0 0) (drop 1 cycle) mates is m not_free)

pub mate_below : (g : List (List ℕ)) (part : ℕ → ℕ) (base : ℕ) (others mates : List ℕ) → IsCycle g part base others → IsMatchingBut g (folded part base others) mates [] → get_or mates base 0 ≢ length g → get_or mates base 0 < length g
mate_below g part base others mates is m not_free = (m.mate base (base_in g part base others is) refl not_free).0.0

-- The mate of the base stands for a class of its own before the folding too.
pub mate_own : (g : List (List ℕ)) (part : ℕ → ℕ) (base : ℕ) (others mates : List ℕ) → IsCycle g part base others → IsMatchingBut g (folded part base others) mates [] → get_or mates base 0 ≢ length g → part (get_or mates base 0) ≡ get_or mates base 0
mate_own g part base others mates is m not_free = let r = m.mate base (base_in g part base others is) refl not_free in class_before part base others (get_or mates base 0) (get_or mates base 0) r.0.1 r.2
