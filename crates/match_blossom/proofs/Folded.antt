-- Folding a cycle of the tree keeps the tree.
use Rattle.std.proofs.Common.{◌≡◌, ℕ, zero, suc, ◌+◌, ◌≤◌, ◌<◌, List, [], ◌∷◌, length, get_or, Bool, true, false, refl, ap, sym, ◌∙◌, inl, inr, arith, subst}
use Rattle.std.specs.Prelude.{cond, ◌⊎◌, ◌==◌, ◌&&◌, ◌||◌, not}
use Rattle.std.proofs.lemmas.Bool.{cases_eq, false≢true, eqb-true, cases_Bool, and_parts, and_from, not_from_false, false_from_ne_true}
use Rattle.std.proofs.lemmas.Bool.Decides.{nat_tests}
use Rattle.match_barrier.specs.Graph.{has, NoRepeats}
use Rattle.match_barrier.specs.Barrier.{count, is_odd, one_if}
use Rattle.match_barrier.proofs.Counting.{not_true_is, but, but_is, count_but, count_none, count_same, test_same}
use Rattle.match_barrier.proofs.Edges.{has_front, has_rest, same_bools}
use Rattle.match_blossom.specs.Foldings.{IsLiving, folded}
use Rattle.match_blossom.specs.Search.{Tree, IsFoldable, class_size, without}
use Rattle.match_blossom.proofs.Parity.{count_add}
use Rattle.match_blossom.proofs.Pairs.{not_in_rest, not_in_cons}
use Rattle.match_blossom.proofs.Unfolding.{class_before, base_class, class_outside, class_inside, living_outside}

pub without_is : (others : List ℕ) (label : ℕ → Bool) (v : ℕ) → without others label v ≡ true → (label v ≡ true) × (has others v ≡ false)
without_is others label v h = let both = and_parts (label v) (not (has others v)) h in (both.0, not_true_is (has others v) both.1)

pub without_of : (others : List ℕ) (label : ℕ → Bool) (v : ℕ) → label v ≡ true → has others v ≡ false → without others label v ≡ true
without_of others label v h out = and_from (label v) (not (has others v)) h (not_from_false (has others v) out)

without_no : (others : List ℕ) (label : ℕ → Bool) (v : ℕ) → label v ≡ false → without others label v ≡ false
without_no others label v h = ap (λ (b : Bool). b && not (has others v)) h

odd_and : (a b : ℕ) → is_odd a ≡ true → is_odd (a + b) ≡ not (is_odd b)
odd_and zero b odd = absurd (false≢true odd)
odd_and (suc zero) b odd = ap is_odd (let e : 1 + b ≡ suc b = omega arith in e)
odd_and (suc (suc a)) b odd =
    let e : suc (suc a) + b ≡ suc (suc (a + b)) = omega arith in
    ap is_odd e ∙ not_not (is_odd (a + b)) ∙ odd_and a b (sym (not_not (is_odd a)) ∙ odd)
  where
    not_not : (b : Bool) → not (not b) ≡ b
    not_not true = refl
    not_not false = refl

-- disjoint odd classes
odd_union : (n : ℕ) (part : ℕ → ℕ) (cs : List ℕ) → NoRepeats cs → ((c : ℕ) → has cs c ≡ true → is_odd (class_size n part c) ≡ true) → is_odd (count n (λ u. has cs (part u))) ≡ is_odd (length cs)
odd_union n part [] different odd = ap is_odd (count_none n (λ u. has [] (part u)) (λ i less. refl))
odd_union n part (c ∷ cs) different odd =
    let rest : is_odd (count n (λ u. has cs (part u))) ≡ is_odd (length cs) = odd_union n part cs different.1 (λ d h. odd d (has_rest c cs d h)) in
    ap is_odd (count_add n (λ u. has (c ∷ cs) (part u)) (λ u. part u == c) (λ u. has cs (part u)) (λ u less. one (part u) (cases_Bool (part u == c))))
    ∙ odd_and (class_size n part c) (count n (λ u. has cs (part u))) (odd c (has_front c cs c refl)) ∙ ap not rest
  where
    one : (p : ℕ) → ((p == c) ≡ true) ⊎ ((p == c) ≡ false) → one_if (has (c ∷ cs) p) ≡ one_if (p == c) + one_if (has cs p)
    one p (inl yes') =
        let same : p ≡ c = eqb-true p c yes' in
        let none : has cs p ≡ false = ap (has cs) same ∙ different.0 in
        let here : has (c ∷ cs) p ≡ true = has_front c cs p (sym same) in rw (here, yes', none) refl
    one p (inr other) =
        let ne : (c == p) ≡ false = grind (arith, nat_tests) in
        let e : has (c ∷ cs) p ≡ has cs p = ap (λ (b : Bool). b || has cs p) ne in
        let z : one_if (p == c) ≡ 0 = ap one_if other in
        let k : one_if (has (c ∷ cs) p) ≡ one_if (has cs p) = ap one_if e in omega arith

pub count_one : (n x : ℕ) (p : ℕ → Bool) → x < n → p x ≡ true → ((u : ℕ) → u < n → p u ≡ true → u ≡ x) → count n p ≡ 1
count_one n x p less passes only =
    let a : count n p ≡ suc (count n (but p x)) = count_but n p x less passes in
    let b : count n (but p x) ≡ 0 = count_none n (but p x) (λ u below. false_from_ne_true (but p x u) (λ h. let both = but_is p x u h in both.1 (only u below both.0))) in omega arith

-- nothing has been folded into a node that is not outer
pub single_class : (g : List (List ℕ)) (mates : List ℕ) (root : ℕ) (part : ℕ → ℕ) (outer inner : ℕ → Bool) (parent order : ℕ → ℕ) → Tree g mates root part outer inner parent order
    → (x : ℕ) → IsLiving g part x → outer x ≡ false → is_odd (class_size (length g) part x) ≡ true
single_class g mates root part outer inner parent order t x living no_outer =
    ap is_odd (count_one (length g) x (λ u. part u == x) living.0 (test_same (part x) x living.1)
    (λ u less h. let same : part u ≡ x = eqb-true (part u) x h in sym (t.alone u less (ap outer same ∙ no_outer)) ∙ same))

pub fold_keeps : (g : List (List ℕ)) (mates : List ℕ) (root : ℕ) (part : ℕ → ℕ) (outer inner : ℕ → Bool) (parent order : ℕ → ℕ) (base : ℕ) (others : List ℕ)
    → Tree g mates root part outer inner parent order → IsFoldable g mates root part outer inner order base others
    → Tree g mates root (folded part base others) (without others outer) (without others inner) parent order
fold_keeps g mates root part outer inner parent order base others t f = record {
  matching = record {
    each_node = t.matching.each_node;
    mate = λ v living' none not_free.
        let living = living_before v living' in
        let out = not_other v living' in
        let r = t.matching.mate v living none not_free in
        let w : ℕ = get_or mates v 0 in
        let w_out : has others w ≡ false = mate_out v out r.3 in (
          living_after w r.0 w_out,
          refl,
          r.2,
          r.3,
          record {
            from = r.4.from;
            to = r.4.to;
            below = r.4.below;
            edge = r.4.edge;
            from_class = class_after r.4.from v living out r.4.from_class;
            to_class = class_after r.4.to w r.0 w_out r.4.to_class;
          },
        );
  };
  part_below = λ u less. by_class (λ x. x < length g) u base_living.0 (t.part_below u less);
  part_part = λ u less. part_twice u less (cases_Bool (has (base ∷ others) (part u)));
  outer_living = λ v h. let both = without_is others outer v h in living_after v (t.outer_living v both.0) both.1;
  inner_living = λ v h. let both = without_is others inner v h in living_after v (t.inner_living v both.0) both.1;
  not_both = λ v h. without_no others inner v (t.not_both v (without_is others outer v h).0);
  alone = λ v less h. alone' v less h (cases_Bool (has (base ∷ others) (part v)));
  root_outer = without_of others outer root t.root_outer f.not_root;
  root_free = t.root_free;
  outer_mate = λ v h ne. let both = without_is others outer v h in
      let i = t.outer_mate v both.0 ne in
      without_of others inner (get_or mates v 0) i (mate_out v both.1 (back v (t.outer_living v both.0) (t.inner_living (get_or mates v 0) i).0));
  inner_mate = λ v h. let both = without_is others inner v h in
      let o = t.inner_mate v both.0 in
      without_of others outer (get_or mates v 0) o (mate_out v both.1 (back v (t.inner_living v both.0) (t.outer_living (get_or mates v 0) o).0));
  parent_edge = λ v h. t.parent_edge v (without_is others inner v h).0;
  parent_outer = λ v h. let i = (without_is others inner v h).0 in outer_after (parent v) (t.parent_outer v i) (cases_Bool (has (base ∷ others) (part (parent v))));
  order_parent = λ v h. let i = (without_is others inner v h).0 in order_after (parent v) v (t.order_parent v i) (cases_Bool (has (base ∷ others) (part (parent v))));
  order_mate = λ v h. t.order_mate v (without_is others inner v h).0;
  root_first = λ x h. t.root_first x (without_is others outer x h).0;
  order_one = λ x y h k e. t.order_one x y (without_is others outer x h).0 (without_is others outer y k).0 e;
  odd_classes = λ o h. let both = without_is others outer o h in elim (cases_eq o base) [
    | inl e ↦ subst (λ (x : ℕ). is_odd (class_size (length g) (folded part base others) x) ≡ true) (sym e) odd_base
    | inr ne ↦ ap is_odd (count_same (length g) (λ u. folded part base others u == o) (λ u. part u == o) (λ u less. same_bools (folded part base others u == o) (part u == o)
        (λ k. test_same (part u) o (class_before part base others u o (eqb-true (folded part base others u) o k) ne))
        (λ k. let same = eqb-true (part u) o k in test_same (folded part base others u) o (class_outside part base others u (ap (has (base ∷ others)) same ∙ not_in_cons base others o (λ e. ne (sym e)) both.1) ∙ same))))
        ∙ t.odd_classes o both.0
  ];
}
  where
    base_living : IsLiving g part base
    base_living = f.cycle.living base (has_front base others base refl)

    base_class' : folded part base others base ≡ base
    base_class' = class_inside part base others base (ap (has (base ∷ others)) base_living.1 ∙ has_front base others base refl)

    living_after : (v : ℕ) → IsLiving g part v → has others v ≡ false → IsLiving g (folded part base others) v
    living_after v living out = elim (cases_eq v base) [
      | inl e ↦ (living.0, ap (folded part base others) e ∙ base_class' ∙ sym e)
      | inr ne ↦ living_outside g part base others v living (not_in_cons base others v (λ e. ne (sym e)) out)
    ]

    living_before : (v : ℕ) → IsLiving g (folded part base others) v → IsLiving g part v
    living_before v living' = elim (cases_eq v base) [
      | inl e ↦ subst (IsLiving g part) (sym e) base_living
      | inr ne ↦ (living'.0, class_before part base others v v living'.1 ne)
    ]

    not_other : (v : ℕ) → IsLiving g (folded part base others) v → has others v ≡ false
    not_other v living' = false_from_ne_true (has others v) (λ h.
        let living = f.cycle.living v (has_rest base others v h) in
        let e : base ≡ v = sym (class_inside part base others v (ap (has (base ∷ others)) living.1 ∙ has_rest base others v h)) ∙ living'.1 in
        false≢true (sym f.cycle.different.0 ∙ ap (has others) e ∙ h))

    mate_out : (v : ℕ) → has others v ≡ false → get_or mates (get_or mates v 0) 0 ≡ v → has others (get_or mates v 0) ≡ false
    mate_out v out back' = false_from_ne_true (has others (get_or mates v 0)) (λ h. false≢true (sym out ∙ ap (has others) (sym back') ∙ f.mated (get_or mates v 0) h))

    back : (v : ℕ) → IsLiving g part v → get_or mates v 0 < length g → get_or mates (get_or mates v 0) 0 ≡ v
    back v living low = (t.matching.mate v living refl (λ e. absurd (omega arith))).3

    class_after : (u v : ℕ) → IsLiving g part v → has others v ≡ false → part u ≡ v → folded part base others u ≡ v
    class_after u v living out is = elim (cases_eq v base) [
      | inl e ↦ class_inside part base others u (ap (has (base ∷ others)) is ∙ has_front base others v (sym e)) ∙ sym e
      | inr ne ↦ class_outside part base others u (ap (has (base ∷ others)) is ∙ not_in_cons base others v (λ e. ne (sym e)) out) ∙ is
    ]

    by_class : (P : ℕ → Type 0) (u : ℕ) → P base → P (part u) → P (folded part base others u)
    by_class P u at_base at_part = by (has (base ∷ others) (part u))
      where
        by : (b : Bool) → P (cond b base (part u))
        by true = at_base
        by false = at_part

    part_twice : (u : ℕ) → u < length g → (has (base ∷ others) (part u) ≡ true) ⊎ (has (base ∷ others) (part u) ≡ false) → folded part base others (folded part base others u) ≡ folded part base others u
    part_twice u less (inl h) = ap (folded part base others) (class_inside part base others u h) ∙ base_class' ∙ sym (class_inside part base others u h)
    part_twice u less (inr h) =
        let e : folded part base others u ≡ part u = class_outside part base others u h in
        ap (folded part base others) e ∙ class_outside part base others (part u) (ap (has (base ∷ others)) (t.part_part u less) ∙ h) ∙ t.part_part u less ∙ sym e

    alone' : (v : ℕ) → v < length g → without others outer (folded part base others v) ≡ false → (has (base ∷ others) (part v) ≡ true) ⊎ (has (base ∷ others) (part v) ≡ false) → folded part base others v ≡ v
    alone' v less h (inl in') = absurd (false≢true (sym h ∙ ap (without others outer) (class_inside part base others v in') ∙ without_of others outer base f.base_outer f.cycle.different.0))
    alone' v less h (inr out) =
        let e : folded part base others v ≡ part v = class_outside part base others v out in
        e ∙ t.alone v less (false_from_ne_true (outer (part v)) (λ k. false≢true (sym h ∙ ap (without others outer) e ∙ without_of others outer (part v) k (not_in_rest base others (part v) out).1)))

    outer_after : (u : ℕ) → outer (part u) ≡ true → (has (base ∷ others) (part u) ≡ true) ⊎ (has (base ∷ others) (part u) ≡ false) → without others outer (folded part base others u) ≡ true
    outer_after u o (inl in') = ap (without others outer) (class_inside part base others u in') ∙ without_of others outer base f.base_outer f.cycle.different.0
    outer_after u o (inr out) = ap (without others outer) (class_outside part base others u out) ∙ without_of others outer (part u) o (not_in_rest base others (part u) out).1

    base_first : (x : ℕ) → has (base ∷ others) x ≡ true → order base ≤ order x
    base_first x h = elim (cases_Bool (has others x)) [
      | inl in' ↦ let k = f.first x in' in omega arith
      | inr out ↦ elim (cases_eq base x) [
        | inl e ↦ let k : order base ≡ order x = ap order e in omega arith
        | inr ne ↦ absurd (false≢true (sym (not_in_cons base others x ne out) ∙ h))
      ]
    ]

    order_after : (u v : ℕ) → order (part u) < order v → (has (base ∷ others) (part u) ≡ true) ⊎ (has (base ∷ others) (part u) ≡ false) → order (folded part base others u) < order v
    order_after u v less (inl in') = let e : order (folded part base others u) ≡ order base = ap order (class_inside part base others u in') in let k = base_first (part u) in' in omega arith
    order_after u v less (inr out) = let e : order (folded part base others u) ≡ order (part u) = ap order (class_outside part base others u out) in omega arith

    odd_member : (x : ℕ) → has (base ∷ others) x ≡ true → is_odd (class_size (length g) part x) ≡ true
    odd_member x h = elim (cases_Bool (outer x)) [
      | inl o ↦ t.odd_classes x o
      | inr no_outer ↦ single_class g mates root part outer inner parent order t x (f.cycle.living x h) no_outer
    ]

    odd_base : is_odd (class_size (length g) (folded part base others) base) ≡ true
    odd_base =
        ap is_odd (count_same (length g) (λ u. folded part base others u == base) (λ u. has (base ∷ others) (part u)) (λ u less. same_bools (folded part base others u == base) (has (base ∷ others) (part u))
        (λ k. base_class part base others u (eqb-true (folded part base others u) base k))
        (λ k. test_same (folded part base others u) base (class_inside part base others u k))))
        ∙ odd_union (length g) part (base ∷ others) f.cycle.different odd_member ∙ ap not f.even
