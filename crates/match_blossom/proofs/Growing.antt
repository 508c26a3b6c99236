-- One more inner node, and its mate, keep the tree.
use Rattle.std.proofs.Common.{◌≡◌, ◌≢◌, ℕ, ◌+◌, List, length, get_or, Bool, true, false, refl, ap, sym, ◌∙◌, inl, inr, arith, subst}
use Rattle.std.proofs.lemmas.Bool.{cases_eq, false≢true, false_from_ne_true}
use Rattle.match_barrier.specs.Graph.{adjacent}
use Rattle.match_barrier.specs.Barrier.{is_odd}
use Rattle.match_blossom.specs.Foldings.{IsLiving}
use Rattle.match_blossom.specs.Search.{Tree, Grown, class_size}
use Rattle.match_blossom.proofs.Folded.{single_class}

pub grow_keeps : (g : List (List ℕ)) (mates : List ℕ) (root : ℕ) (part : ℕ → ℕ) (outer inner outer' inner' : ℕ → Bool) (parent order parent' order' : ℕ → ℕ) (p v w now : ℕ)
    → Tree g mates root part outer inner parent order → Grown g mates part outer inner outer' inner' parent order parent' order' p v w now
    → Tree g mates root part outer' inner' parent' order'
grow_keeps g mates root part outer inner outer' inner' parent order parent' order' p v w now t s = record {
  matching = t.matching;
  part_below = t.part_below;
  part_part = t.part_part;
  outer_living = λ x h. elim (cases_eq x w) [
    | inl e ↦ subst (IsLiving g part) (sym e) w_living
    | inr ne ↦ t.outer_living x (sym (s.outer_old x ne) ∙ h)
  ];
  inner_living = λ x h. elim (cases_eq x v) [
    | inl e ↦ subst (IsLiving g part) (sym e) v_living
    | inr ne ↦ t.inner_living x (sym (s.inner_old x ne) ∙ h)
  ];
  not_both = λ x h. elim (cases_eq x w) [
    | inl e ↦ ap inner' e ∙ s.inner_old w w_not_v ∙ w_inner
    | inr ne ↦ let o : outer x ≡ true = sym (s.outer_old x ne) ∙ h in s.inner_old x (outer_not_v x o) ∙ t.not_both x o
  ];
  alone = λ x less h. t.alone x less (false_from_ne_true (outer (part x)) (λ o. false≢true (sym h ∙ more_outer (part x) o)));
  root_outer = more_outer root t.root_outer;
  root_free = t.root_free;
  outer_mate = λ x h ne. elim (cases_eq x w) [
    | inl e ↦ ap (λ (z : ℕ). inner' (get_or mates z 0)) e ∙ ap inner' back ∙ s.inner_new
    | inr nw ↦ more_inner (get_or mates x 0) (t.outer_mate x (sym (s.outer_old x nw) ∙ h) ne)
  ];
  inner_mate = λ x h. elim (cases_eq x v) [
    | inl e ↦ ap (λ (z : ℕ). outer' (get_or mates z 0)) e ∙ ap outer' s.mate ∙ s.outer_new
    | inr nv ↦ more_outer (get_or mates x 0) (t.inner_mate x (sym (s.inner_old x nv) ∙ h))
  ];
  parent_edge = λ x h. elim (cases_eq x v) [
    | inl e ↦ ap (λ (z : ℕ). adjacent g z (parent' z)) e ∙ ap (adjacent g v) s.parent_new ∙ s.edge
    | inr nv ↦ ap (adjacent g x) (s.parent_old x nv) ∙ t.parent_edge x (sym (s.inner_old x nv) ∙ h)
  ];
  parent_outer = λ x h. elim (cases_eq x v) [
    | inl e ↦ ap (λ (z : ℕ). outer' (part (parent' z))) e ∙ ap (λ (z : ℕ). outer' (part z)) s.parent_new ∙ more_outer (part p) s.from_outer
    | inr nv ↦ ap (λ (z : ℕ). outer' (part z)) (s.parent_old x nv) ∙ more_outer (part (parent x)) (t.parent_outer x (sym (s.inner_old x nv) ∙ h))
  ];
  order_parent = λ x h. elim (cases_eq x v) [
    | inl e ↦
        let a : order' (part (parent' x)) ≡ order (part p) = ap (λ (z : ℕ). order' (part (parent' z))) e ∙ ap (λ (z : ℕ). order' (part z)) s.parent_new ∙ same_order (part p) s.from_outer in
        let b : order' x ≡ now = ap order' e ∙ s.order_inner in
        let l = s.latest (part p) (inl s.from_outer) in omega arith
    | inr nv ↦
        let i : inner x ≡ true = sym (s.inner_old x nv) ∙ h in
        let a : order' (part (parent' x)) ≡ order (part (parent x)) = ap (λ (z : ℕ). order' (part z)) (s.parent_old x nv) ∙ same_order (part (parent x)) (t.parent_outer x i) in
        let b : order' x ≡ order x = s.order_old x nv (inner_not_w x i) in
        let l = t.order_parent x i in omega arith
  ];
  order_mate = λ x h. elim (cases_eq x v) [
    | inl e ↦
        let a : order' x ≡ now = ap order' e ∙ s.order_inner in
        let b : order' (get_or mates x 0) ≡ now + 1 = ap (λ (z : ℕ). order' (get_or mates z 0)) e ∙ ap order' s.mate ∙ s.order_outer in omega arith
    | inr nv ↦
        let i : inner x ≡ true = sym (s.inner_old x nv) ∙ h in
        let a : order' x ≡ order x = s.order_old x nv (inner_not_w x i) in
        let b : order' (get_or mates x 0) ≡ order (get_or mates x 0) = same_order (get_or mates x 0) (t.inner_mate x i) in
        let l = t.order_mate x i in omega arith
  ];
  root_first = λ x h.
      let r : order' root ≡ order root = same_order root t.root_outer in
      elim (cases_eq x w) [
        | inl e ↦
            let a : order' x ≡ now + 1 = ap order' e ∙ s.order_outer in
            let l = s.latest root (inl t.root_outer) in omega arith
        | inr ne ↦
            let o : outer x ≡ true = sym (s.outer_old x ne) ∙ h in
            let b : order' x ≡ order x = same_order x o in
            let l = t.root_first x o in omega arith
      ];
  order_one = λ x y h k e. elim (cases_eq x w) [
    | inl ex ↦ elim (cases_eq y w) [
      | inl ey ↦ ex ∙ sym ey
      | inr ny ↦
          let o : outer y ≡ true = sym (s.outer_old y ny) ∙ k in
          let a : order' x ≡ now + 1 = ap order' ex ∙ s.order_outer in
          let b : order' y ≡ order y = same_order y o in
          let l = s.latest y (inl o) in absurd (omega arith)
    ]
    | inr nx ↦
        let o : outer x ≡ true = sym (s.outer_old x nx) ∙ h in
        let b : order' x ≡ order x = same_order x o in
        elim (cases_eq y w) [
          | inl ey ↦
              let a : order' y ≡ now + 1 = ap order' ey ∙ s.order_outer in
              let l = s.latest x (inl o) in absurd (omega arith)
          | inr ny ↦
              let o' : outer y ≡ true = sym (s.outer_old y ny) ∙ k in
              t.order_one x y o o' (sym b ∙ e ∙ same_order y o')
        ]
  ];
  odd_classes = λ o h. elim (cases_eq o w) [
    | inl e ↦ subst (λ (x : ℕ). is_odd (class_size (length g) part x) ≡ true) (sym e) (single_class g mates root part outer inner parent order t w w_living w_outer)
    | inr nw ↦ t.odd_classes o (sym (s.outer_old o nw) ∙ h)
  ];
}
  where
    v_class : part v ≡ v
    v_class = t.alone v s.below s.no_outer

    v_living : IsLiving g part v
    v_living = (s.below, v_class)

    v_outer : outer v ≡ false
    v_outer = ap outer (sym v_class) ∙ s.no_outer

    v_inner : inner v ≡ false
    v_inner = ap inner (sym v_class) ∙ s.no_inner

    r : IsLiving g part (get_or mates v 0) × (false ≡ false) × (get_or mates v 0 ≢ v) × (get_or mates (get_or mates v 0) 0 ≡ v)
    r = let q = t.matching.mate v v_living refl (λ e. let a = s.mate in let b = s.mate_below in absurd (omega arith)) in (q.0, refl, q.2, q.3)

    w_living : IsLiving g part w
    w_living = subst (IsLiving g part) s.mate r.0

    w_not_v : w ≢ v
    w_not_v e = r.2 (s.mate ∙ e)

    back : get_or mates w 0 ≡ v
    back = ap (λ (x : ℕ). get_or mates x 0) (sym s.mate) ∙ r.3

    w_outer : outer w ≡ false
    w_outer = false_from_ne_true (outer w) (λ h. elim (cases_eq w root) [
      | inl e ↦ let k = s.below in let a : get_or mates w 0 ≡ length g = ap (λ (x : ℕ). get_or mates x 0) e ∙ t.root_free in let b = back in absurd (omega arith)
      | inr ne ↦ false≢true (sym v_inner ∙ ap inner (sym back) ∙ t.outer_mate w h ne)
    ])

    w_inner : inner w ≡ false
    w_inner = false_from_ne_true (inner w) (λ h. false≢true (sym v_outer ∙ ap outer (sym back) ∙ t.inner_mate w h))

    outer_not_v : (x : ℕ) → outer x ≡ true → x ≢ v
    outer_not_v x o e = false≢true (sym v_outer ∙ ap outer (sym e) ∙ o)

    outer_not_w : (x : ℕ) → outer x ≡ true → x ≢ w
    outer_not_w x o e = false≢true (sym w_outer ∙ ap outer (sym e) ∙ o)

    inner_not_w : (x : ℕ) → inner x ≡ true → x ≢ w
    inner_not_w x i e = false≢true (sym w_inner ∙ ap inner (sym e) ∙ i)

    inner_not_v : (x : ℕ) → inner x ≡ true → x ≢ v
    inner_not_v x i e = false≢true (sym v_inner ∙ ap inner (sym e) ∙ i)

    more_outer : (x : ℕ) → outer x ≡ true → outer' x ≡ true
    more_outer x o = s.outer_old x (outer_not_w x o) ∙ o

    more_inner : (x : ℕ) → inner x ≡ true → inner' x ≡ true
    more_inner x i = s.inner_old x (inner_not_v x i) ∙ i

    same_order : (x : ℕ) → outer x ≡ true → order' x ≡ order x
    same_order x o = s.order_old x (outer_not_v x o) (outer_not_w x o)
