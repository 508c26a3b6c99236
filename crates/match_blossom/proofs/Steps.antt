-- The steps of a search on its arrays.
use Rattle.std.proofs.Common.{◌≡◌, ◌≢◌, ℕ, zero, suc, ◌+◌, ◌≤◌, ◌<◌, List, [], ◌∷◌, length, get_or, set, Bool, true, false, refl, ap, sym, ◌∙◌, inl, inr, arith, subst}
use Rattle.std.specs.Prelude.{cond, ◌==◌, ◌&&◌, not}
use Rattle.std.proofs.lemmas.Bool.{cases_eq, false≢true, eqb-true, and_parts, and_from, not_from_false, false_from_ne_true}
use Rattle.std.proofs.lemmas.List.{get_or-set_same, get_or-set_other, length-set}
use Rattle.match_barrier.specs.Graph.{has, adjacent, IsGraph, NoRepeats}
use Rattle.match_barrier.specs.Barrier.{count, is_odd, one_if}
use Rattle.match_barrier.proofs.Counting.{not_true_is, but, but_other, count_but, test_same}
use Rattle.match_barrier.proofs.Edges.{has_front, has_rest}
use Rattle.match_barrier.proofs.Flooding.{count_less}
use Rattle.match_blossom.specs.declared.tree.Label.{Label}
use Rattle.match_blossom.specs.declared.tree.Label.TheVariants.{Outside, Outer, Inner}
use Rattle.match_blossom.specs.Labels.{at, is_outer, is_inner, says_outer, says_inner}
use Rattle.match_blossom.specs.Foldings.{IsLiving, IsMatchingBut, folded, Folding, part_of}
use Rattle.match_blossom.specs.Search.{Tree, IsFoldable, without}
use Rattle.match_blossom.specs.Forest.{IsSearch, lives, is_unlabelled}
use Rattle.match_blossom.proofs.Growing.{grow_keeps}
use Rattle.match_blossom.proofs.Folded.{fold_keeps, count_one, without_is, without_of}
use Rattle.match_blossom.proofs.Pairs.{not_in_rest}
use Rattle.match_blossom.proofs.Unfolding.{class_inside}

-- Where each number that passes q passes p, no more pass q.
pub count_sub : (n : ℕ) (q p : ℕ → Bool) → ((i : ℕ) → i < n → q i ≡ true → p i ≡ true) → count n q ≤ count n p
count_sub zero q p sub = omega arith
count_sub (suc n) q p sub =
    let h = count_sub n q p (λ i less. sub i (omega arith)) in
    let k : one_if (q n) ≤ one_if (p n) = by (q n) (p n) (sub n (omega arith)) in omega arith
  where
    by : (a b : Bool) → (a ≡ true → b ≡ true) → one_if a ≤ one_if b
    by true b f = let e : one_if b ≡ 1 = ap one_if (f refl) in omega arith
    by false b f = omega arith

outer_set : (labels : List Label) (v : ℕ) (l : Label) → v < length labels → is_outer (set labels v l) v ≡ says_outer l
outer_set labels v l less = ap says_outer (get_or-set_same labels v l Outside less)

outer_other : (labels : List Label) (v x : ℕ) (l : Label) → x ≢ v → is_outer (set labels v l) x ≡ is_outer labels x
outer_other labels v x l ne = ap says_outer (get_or-set_other labels v x l Outside ne)

inner_set : (labels : List Label) (v : ℕ) (l : Label) → v < length labels → is_inner (set labels v l) v ≡ says_inner l
inner_set labels v l less = ap says_inner (get_or-set_same labels v l Outside less)

inner_other : (labels : List Label) (v x : ℕ) (l : Label) → x ≢ v → is_inner (set labels v l) x ≡ is_inner labels x
inner_other labels v x l ne = ap says_inner (get_or-set_other labels v x l Outside ne)

unlabelled_is : (part : ℕ → ℕ) (outer inner : ℕ → Bool) (u : ℕ) → is_unlabelled part outer inner u ≡ true → (part u ≡ u) × (outer u ≡ false) × (inner u ≡ false)
unlabelled_is part outer inner u h =
    let a = and_parts (part u == u) (not (outer u) && not (inner u)) h in
    let b = and_parts (not (outer u)) (not (inner u)) a.1 in
    (eqb-true (part u) u a.0, not_true_is (outer u) b.0, not_true_is (inner u) b.1)

unlabelled_of : (part : ℕ → ℕ) (outer inner : ℕ → Bool) (u : ℕ) → part u ≡ u → outer u ≡ false → inner u ≡ false → is_unlabelled part outer inner u ≡ true
unlabelled_of part outer inner u living no_outer no_inner =
    and_from (part u == u) (not (outer u) && not (inner u)) (test_same (part u) u living) (and_from (not (outer u)) (not (inner u)) (not_from_false (outer u) no_outer) (not_from_false (inner u) no_inner))

-- what is known of a node without label that is to become inner, and of its mate
record Unlabelled (g : List (List ℕ)) (mates : List ℕ) (part : ℕ → ℕ) (outer inner : ℕ → Bool) (v w : ℕ) : Type 0 where
  v_below : v < length g
  v_class : part v ≡ v
  v_outer : outer v ≡ false
  v_inner : inner v ≡ false
  w_below : w < length g
  w_class : part w ≡ w
  w_outer : outer w ≡ false
  w_inner : inner w ≡ false
  different : w ≢ v

unlabelled_pair : (g : List (List ℕ)) (mates : List ℕ) (root : ℕ) (part : ℕ → ℕ) (outer inner : ℕ → Bool) (parent order : ℕ → ℕ) (v : ℕ) → Tree g mates root part outer inner parent order
    → v < length g → outer (part v) ≡ false → inner (part v) ≡ false → get_or mates v 0 < length g → Unlabelled g mates part outer inner v (get_or mates v 0)
unlabelled_pair g mates root part outer inner parent order v t below no_outer no_inner matched =
    let w : ℕ = get_or mates v 0 in
    let class : part v ≡ v = t.alone v below no_outer in
    let v_outer : outer v ≡ false = ap outer (sym class) ∙ no_outer in
    let v_inner : inner v ≡ false = ap inner (sym class) ∙ no_inner in
    let r = t.matching.mate v (below, class) refl (λ e. absurd (omega arith)) in
    let back : get_or mates w 0 ≡ v = r.3 in
    record {
      v_below = below;
      v_class = class;
      v_outer = v_outer;
      v_inner = v_inner;
      w_below = matched;
      w_class = r.0.1;
      w_outer = false_from_ne_true (outer w) (λ h. elim (cases_eq w root) [
        | inl e ↦ let a : get_or mates w 0 ≡ length g = ap (λ (x : ℕ). get_or mates x 0) e ∙ t.root_free in omega arith
        | inr ne ↦ false≢true (sym v_inner ∙ ap inner (sym back) ∙ t.outer_mate w h ne)
      ]);
      w_inner = false_from_ne_true (inner w) (λ h. false≢true (sym v_outer ∙ ap outer (sym back) ∙ t.inner_mate w h));
      different = r.2;
    }

-- what became of the labels
pub record GrownLabels (g : List (List ℕ)) (part : ℕ → ℕ) (labels labels' : List Label) (v w : ℕ) : Type 0 where
  pub v_below : v < length g
  pub w_below : w < length g
  pub v_class : part v ≡ v
  pub w_class : part w ≡ w
  pub outer_new : is_outer labels' w ≡ true
  pub outer_old : (x : ℕ) → x ≢ w → is_outer labels' x ≡ is_outer labels x
  pub inner_new : is_inner labels' v ≡ true
  pub inner_old : (x : ℕ) → x ≢ v → is_inner labels' x ≡ is_inner labels x
  pub v_outer : is_outer labels v ≡ false
  pub w_inner : is_inner labels w ≡ false
  pub w_outer : is_outer labels w ≡ false

-- A node without label becomes inner, its mate outer.
pub grown : (g : List (List ℕ)) (mates : List ℕ) (root : ℕ) (labels : List Label) (parent order : List ℕ) (now : ℕ) (foldings : List Folding) (u v w : ℕ) → IsGraph g
    → IsSearch g mates root labels parent order now foldings → adjacent g u v ≡ true → is_outer labels (part_of foldings u) ≡ true → is_outer labels (part_of foldings v) ≡ false → is_inner labels (part_of foldings v) ≡ false
    → w ≡ get_or mates v 0 → get_or mates v 0 < length g
    → IsSearch g mates root (set (set labels v Inner) w Outer) (set parent v u) (set (set order v now) w (now + 1)) (now + 2) foldings
    × GrownLabels g (part_of foldings) labels (set (set labels v Inner) w Outer) v w
grown g mates root labels parent order now foldings u v w is s edge from_outer no_outer no_inner w_is matched =
    let n : ℕ = length g in
    let part : ℕ → ℕ = part_of foldings in
    let outer : ℕ → Bool = is_outer labels in
    let inner : ℕ → Bool = is_inner labels in
    let labels' : List Label = set (set labels v Inner) w Outer in
    let outer' : ℕ → Bool = is_outer labels' in
    let inner' : ℕ → Bool = is_inner labels' in
    let order' : List ℕ = set (set order v now) w (now + 1) in
    let p : Unlabelled g mates part outer inner v w =
    subst (λ (x : ℕ). Unlabelled g mates part outer inner v x) (sym w_is) (unlabelled_pair g mates root part outer inner (at parent) (at order) v s.tree (is.in_range u v edge) no_outer no_inner matched) in
    let v_below = p.v_below in
    let w_below = p.w_below in
    let labels_long = s.labels_length in
    let labels_one = length-set labels v Inner in
    let parent_long = s.parent_length in
    let order_long = s.order_length in
    let order_one = length-set order v now in
    let outer_new : outer' w ≡ true = outer_set (set labels v Inner) w Outer (omega arith) in
    let inner_new : inner' v ≡ true = inner_other (set labels v Inner) w v Outer (λ e. p.different (sym e)) ∙ inner_set labels v Inner (omega arith) in
    let outer_old : (x : ℕ) → x ≢ w → outer' x ≡ outer x = λ x ne. outer_other (set labels v Inner) w x Outer ne ∙ elim (cases_eq x v) [
      | inl e ↦ ap (is_outer (set labels v Inner)) e ∙ outer_set labels v Inner (omega arith) ∙ sym (ap outer e ∙ p.v_outer)
      | inr nv ↦ outer_other labels v x Inner nv
    ] in
    let inner_old : (x : ℕ) → x ≢ v → inner' x ≡ inner x = λ x ne. elim (cases_eq x w) [
      | inl e ↦ ap inner' e ∙ inner_set (set labels v Inner) w Outer (omega arith) ∙ sym (ap inner e ∙ p.w_inner)
      | inr nw ↦ inner_other (set labels v Inner) w x Outer nw ∙ inner_other labels v x Inner ne
    ] in
    let order_inner : at order' v ≡ now = get_or-set_other (set order v now) w v (now + 1) 0 (λ e. p.different (sym e)) ∙ get_or-set_same order v now 0 (omega arith) in
    let order_outer : at order' w ≡ now + 1 = get_or-set_same (set order v now) w (now + 1) 0 (omega arith) in
    let order_old : (x : ℕ) → x ≢ v → x ≢ w → at order' x ≡ at order x = λ x nv nw. get_or-set_other (set order v now) w x (now + 1) 0 nw ∙ get_or-set_other order v x now 0 nv in
    let test : ℕ → Bool = is_unlabelled part outer inner in
    let test' : ℕ → Bool = is_unlabelled part outer' inner' in
    let one : count n test ≡ suc (count n (but test v)) = count_but n test v v_below (unlabelled_of part outer inner v p.v_class p.v_outer p.v_inner) in
    let two : count n (but test v) ≡ suc (count n (but (but test v) w)) =
    count_but n (but test v) w w_below (but_other test v w p.different ∙ unlabelled_of part outer inner w p.w_class p.w_outer p.w_inner) in
    let rest : count n test' ≤ count n (but (but test v) w) = count_sub n test' (but (but test v) w) (λ i less h.
    let a = unlabelled_is part outer' inner' i h in
    let nv : i ≢ v = λ e. false≢true (sym a.2 ∙ ap inner' e ∙ inner_new) in
    let nw : i ≢ w = λ e. false≢true (sym a.1 ∙ ap outer' e ∙ outer_new) in
    but_other (but test v) w i nw ∙ but_other test v i nv ∙ unlabelled_of part outer inner i a.0 (sym (outer_old i nw) ∙ a.1) (sym (inner_old i nv) ∙ a.2)) in
    let few = s.few in (
      record {
        tree = grow_keeps g mates root part outer inner outer' inner' (at parent) (at order) (at (set parent v u)) (at order') u v w now s.tree (record {
          edge = is.symmetric v u ∙ edge;
          from_outer = from_outer;
          below = v_below;
          no_outer = no_outer;
          no_inner = no_inner;
          mate = sym w_is;
          mate_below = w_below;
          latest = s.latest;
          outer_new = outer_new;
          outer_old = outer_old;
          inner_new = inner_new;
          inner_old = inner_old;
          parent_new = get_or-set_same parent v u 0 (omega arith);
          parent_old = λ x ne. get_or-set_other parent v x u 0 ne;
          order_inner = order_inner;
          order_outer = order_outer;
          order_old = order_old;
        });
        labels_length = let two' = length-set (set labels v Inner) w Outer in omega arith;
        parent_length = let one' = length-set parent v u in omega arith;
        order_length = let two' = length-set (set order v now) w (now + 1) in omega arith;
        latest = λ x label. elim (cases_eq x w) [
          | inl e ↦ let a : at order' x ≡ now + 1 = ap (at order') e ∙ order_outer in omega arith
          | inr nw ↦ elim (cases_eq x v) [
            | inl e ↦ let a : at order' x ≡ now = ap (at order') e ∙ order_inner in omega arith
            | inr nv ↦
                let a = order_old x nv nw in
                let b = s.latest x (elim label [ inl o ↦ inl (sym (outer_old x nw) ∙ o) | inr i ↦ inr (sym (inner_old x nv) ∙ i) ]) in omega arith
          ]
        ];
        few = omega arith;
        folded = s.folded;
      },
      record {
        v_below = v_below;
        w_below = w_below;
        v_class = p.v_class;
        w_class = p.w_class;
        outer_new = outer_new;
        outer_old = outer_old;
        inner_new = inner_new;
        inner_old = inner_old;
        v_outer = p.v_outer;
        w_inner = p.w_inner;
        w_outer = p.w_outer;
      },
    )

-- A tree looks at the labels one by one.
pub tree_same : (g : List (List ℕ)) (mates : List ℕ) (root : ℕ) (part : ℕ → ℕ) (outer inner outer' inner' : ℕ → Bool) (parent order : ℕ → ℕ) → Tree g mates root part outer inner parent order
    → ((v : ℕ) → outer v ≡ outer' v) → ((v : ℕ) → inner v ≡ inner' v) → Tree g mates root part outer' inner' parent order
tree_same g mates root part outer inner outer' inner' parent order t same_outer same_inner = record {
  matching = t.matching;
  part_below = t.part_below;
  part_part = t.part_part;
  outer_living = λ v h. t.outer_living v (same_outer v ∙ h);
  inner_living = λ v h. t.inner_living v (same_inner v ∙ h);
  not_both = λ v h. sym (same_inner v) ∙ t.not_both v (same_outer v ∙ h);
  alone = λ v less h. t.alone v less (same_outer (part v) ∙ h);
  root_outer = sym (same_outer root) ∙ t.root_outer;
  root_free = t.root_free;
  outer_mate = λ v h ne. sym (same_inner (get_or mates v 0)) ∙ t.outer_mate v (same_outer v ∙ h) ne;
  inner_mate = λ v h. sym (same_outer (get_or mates v 0)) ∙ t.inner_mate v (same_inner v ∙ h);
  parent_edge = λ v h. t.parent_edge v (same_inner v ∙ h);
  parent_outer = λ v h. sym (same_outer (part (parent v))) ∙ t.parent_outer v (same_inner v ∙ h);
  order_parent = λ v h. t.order_parent v (same_inner v ∙ h);
  order_mate = λ v h. t.order_mate v (same_inner v ∙ h);
  root_first = λ x h. t.root_first x (same_outer x ∙ h);
  order_one = λ x y h k e. t.order_one x y (same_outer x ∙ h) (same_outer y ∙ k) e;
  odd_classes = λ o h. t.odd_classes o (same_outer o ∙ h);
}

cleared_outer : (b : Bool) (l : Label) → says_outer l && not b ≡ says_outer (cond b Outside l)
cleared_outer true Outside = refl
cleared_outer true Outer = refl
cleared_outer true Inner = refl
cleared_outer false Outside = refl
cleared_outer false Outer = refl
cleared_outer false Inner = refl

cleared_inner : (b : Bool) (l : Label) → says_inner l && not b ≡ says_inner (cond b Outside l)
cleared_inner true Outside = refl
cleared_inner true Outer = refl
cleared_inner true Inner = refl
cleared_inner false Outside = refl
cleared_inner false Outer = refl
cleared_inner false Inner = refl

-- Fewer nodes live when some have been taken away.
pub living_fall : (n : ℕ) (others : List ℕ) (p q : ℕ → Bool) → NoRepeats others → ((x : ℕ) → has others x ≡ true → (x < n) × (p x ≡ true)) → ((i : ℕ) → i < n → q i ≡ true → (p i ≡ true) × (has others i ≡ false))
    → count n q + length others ≤ count n p
living_fall n [] p q different members sub = let h = count_sub n q p (λ i less k. (sub i less k).0) in omega arith
living_fall n (x ∷ others) p q different members sub =
    let first = members x (has_front x others x refl) in
    let one : count n p ≡ suc (count n (but p x)) = count_but n p x first.0 first.1 in
    let h = living_fall n others (but p x) q different.1
    (λ z k. let m = members z (has_rest x others z k) in (m.0, but_other p x z (λ e. false≢true (sym different.0 ∙ ap (has others) (sym e) ∙ k)) ∙ m.1))
    (λ i less k. let m = sub i less k in let out = not_in_rest x others i m.1 in (but_other p x i (λ e. out.0 (sym e)) ∙ m.0, out.1)) in omega arith

-- A cycle is folded into its base.
pub folded_search : (g : List (List ℕ)) (mates : List ℕ) (root : ℕ) (labels labels' : List Label) (parent order : List ℕ) (now : ℕ) (foldings : List Folding) (base : ℕ) (others : List ℕ)
    → IsSearch g mates root labels parent order now foldings → IsFoldable g mates root (part_of foldings) (is_outer labels) (is_inner labels) (at order) base others
    → ((v : ℕ) → get_or labels' v Outside ≡ cond (has others v) Outside (get_or labels v Outside)) → length labels' ≡ length labels
    → IsSearch g mates root labels' parent order now (record { base = base; others = others } ∷ foldings)
    × (count (length g) (lives (folded (part_of foldings) base others)) + length others ≤ count (length g) (lives (part_of foldings)))
folded_search g mates root labels labels' parent order now foldings base others s f cleared labels_same =
    let n : ℕ = length g in
    let part : ℕ → ℕ = part_of foldings in
    let part' : ℕ → ℕ = folded part base others in
    let outer : ℕ → Bool = is_outer labels in
    let inner : ℕ → Bool = is_inner labels in
    let same_outer : (v : ℕ) → without others outer v ≡ is_outer labels' v = λ v. cleared_outer (has others v) (get_or labels v Outside) ∙ ap says_outer (sym (cleared v)) in
    let same_inner : (v : ℕ) → without others inner v ≡ is_inner labels' v = λ v. cleared_inner (has others v) (get_or labels v Outside) ∙ ap says_inner (sym (cleared v)) in
    let base_living : IsLiving g part base = f.cycle.living base (has_front base others base refl) in
    let was_living : (u : ℕ) → part' u ≡ u → part u ≡ u = λ u living. lived u (has (base ∷ others) (part u)) refl base_living.1 living in
    let dead : (u : ℕ) → has others u ≡ true → part' u ≡ u → ⊥ = λ u member living.
    let here : part u ≡ u = (f.cycle.living u (has_rest base others u member)).1 in
    let e : base ≡ u = sym (class_inside part base others u (ap (has (base ∷ others)) here ∙ has_rest base others u member)) ∙ living in
    false≢true (sym f.cycle.different.0 ∙ ap (has others) e ∙ member) in
    let fewer : count n (lives part') + length others ≤ count n (lives part) = living_fall n others (lives part) (lives part') f.cycle.different.1
    (λ x h. let l = f.cycle.living x (has_rest base others x h) in (l.0, test_same (part x) x l.1))
    (λ i less h. let living : part' i ≡ i = eqb-true (part' i) i h in (test_same (part i) i (was_living i living), false_from_ne_true (has others i) (λ member. dead i member living))) in
    let no_more : count n (is_unlabelled part' (is_outer labels') (is_inner labels')) ≤ count n (is_unlabelled part outer inner) =
    count_sub n (is_unlabelled part' (is_outer labels') (is_inner labels')) (is_unlabelled part outer inner) (λ i less h.
    let a = unlabelled_is part' (is_outer labels') (is_inner labels') i h in
    let out : has others i ≡ false = false_from_ne_true (has others i) (λ member. dead i member a.0) in
    unlabelled_of part outer inner i (was_living i a.0) (still outer i out (same_outer i ∙ a.1)) (still inner i out (same_inner i ∙ a.2))) in
    let few = s.few in
    let labels_long = s.labels_length in (
      record {
        tree = tree_same g mates root part' (without others outer) (without others inner) (is_outer labels') (is_inner labels') (at parent) (at order)
            (fold_keeps g mates root part outer inner (at parent) (at order) base others s.tree f) same_outer same_inner;
        labels_length = omega arith;
        parent_length = s.parent_length;
        order_length = s.order_length;
        latest = λ x label. s.latest x (elim label [ inl o ↦ inl (without_is others outer x (same_outer x ∙ o)).0 | inr i ↦ inr (without_is others inner x (same_inner x ∙ i)).0 ]);
        few = omega arith;
        folded = (f.cycle, f.even, s.folded);
      },
      fewer,
    )
  where
    lived : (u : ℕ) (b : Bool) → has (base ∷ others) (part_of foldings u) ≡ b → part_of foldings base ≡ base → folded (part_of foldings) base others u ≡ u → part_of foldings u ≡ u
    lived u true is' living h =
        let e : base ≡ u = sym (ap (λ (b : Bool). cond b base (part_of foldings u)) is') ∙ h in
        ap (part_of foldings) (sym e) ∙ living ∙ e
    lived u false is' living h = sym (ap (λ (b : Bool). cond b base (part_of foldings u)) is') ∙ h

    still : (label : ℕ → Bool) (i : ℕ) → has others i ≡ false → without others label i ≡ false → label i ≡ false
    still label i out h = false_from_ne_true (label i) (λ l. false≢true (sym h ∙ without_of others label i l out))

-- The tree of a root alone.
pub search_begins : (g : List (List ℕ)) (mates : List ℕ) (root : ℕ) (labels : List Label) (parent order : List ℕ) → IsMatchingBut g (λ u. u) mates [] → root < length g → get_or mates root 0 ≡ length g
    → length g ≤ length labels → length g ≤ length parent → length g ≤ length order → ((u : ℕ) → get_or labels u Outside ≡ Outside)
    → IsSearch g mates root (set labels root Outer) parent (set order root 0) 1 []
search_begins g mates root labels parent order m below free labels_long parent_long order_long none_yet =
    let labels' : List Label = set labels root Outer in
    let order' : List ℕ = set order root 0 in
    let root_outer : is_outer labels' root ≡ true = outer_set labels root Outer (omega arith) in
    let root_order : at order' root ≡ 0 = get_or-set_same order root 0 0 (omega arith) in
    let only : (x : ℕ) → is_outer labels' x ≡ true → x ≡ root = λ x h. elim (cases_eq x root) [
      | inl e ↦ e
      | inr ne ↦ absurd (false≢true (sym (outer_other labels root x Outer ne ∙ ap says_outer (none_yet x)) ∙ h))
    ] in
    let none : (x : ℕ) → is_inner labels' x ≡ false = λ x. elim (cases_eq x root) [
      | inl e ↦ ap (is_inner labels') e ∙ inner_set labels root Outer (omega arith)
      | inr ne ↦ inner_other labels root x Outer ne ∙ ap says_inner (none_yet x)
    ] in
    let one = length-set labels root Outer in
    let two = length-set order root 0 in
    record {
      tree = record {
        matching = m;
        part_below = λ u less. less;
        part_part = λ u less. refl;
        outer_living = λ v h. let e = only v h in (subst (λ (x : ℕ). x < length g) (sym e) below, refl);
        inner_living = λ v h. absurd (false≢true (sym (none v) ∙ h));
        not_both = λ v h. none v;
        alone = λ v less h. refl;
        root_outer = root_outer;
        root_free = free;
        outer_mate = λ v h ne. absurd (ne (only v h));
        inner_mate = λ v h. absurd (false≢true (sym (none v) ∙ h));
        parent_edge = λ v h. absurd (false≢true (sym (none v) ∙ h));
        parent_outer = λ v h. absurd (false≢true (sym (none v) ∙ h));
        order_parent = λ v h. absurd (false≢true (sym (none v) ∙ h));
        order_mate = λ v h. absurd (false≢true (sym (none v) ∙ h));
        root_first = λ x h. omega arith;
        order_one = λ x y h k e. only x h ∙ sym (only y k);
        odd_classes = λ o h. ap is_odd (count_one (length g) o (λ u. u == o) (subst (λ (x : ℕ). x < length g) (sym (only o h)) below) (test_same o o refl) (λ u less t. eqb-true u o t));
      };
      labels_length = omega arith;
      parent_length = parent_long;
      order_length = omega arith;
      latest = λ x label. let e : x ≡ root = elim label [ inl o ↦ only x o | inr i ↦ absurd (false≢true (sym (none x) ∙ i)) ] in let k : at order' x ≡ 0 = ap (at order') e ∙ root_order in omega arith;
      few = let h = count_less (length g) (is_unlabelled (λ u. u) (is_outer labels') (is_inner labels')) root below (false_from_ne_true (is_unlabelled (λ u. u) (is_outer labels') (is_inner labels') root) (λ h. false≢true (sym (unlabelled_is (λ u. u) (is_outer labels') (is_inner labels') root h).1 ∙ root_outer))) in omega arith;
      folded = tt;
    }
