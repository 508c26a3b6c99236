-- What contracting a cycle keeps of the queue, the touched nodes, the pointers and the stack.
use Rattle.std.proofs.Common.{◌≡◌, ℕ, zero, suc, ◌+◌, ◌≤◌, ◌<◌, List, [], ◌∷◌, ◌++◌, length, get_or, set, drop, take, Bool, true, false, refl, ap, sym, ◌∙◌, inl, inr, arith, subst}
use Rattle.std.specs.Prelude.{cond, ◌⊎◌}
use Rattle.std.proofs.lemmas.Bool.{cases_eq, cases_lt, false≢true, cases_Bool, false_from_ne_true}
use Rattle.std.proofs.lemmas.List.{take_at, drop_at}
use Rattle.match_barrier.specs.Graph.{has}
use Rattle.match_barrier.proofs.Edges.{has_front, has_rest}
use Rattle.match_blossom.specs.declared.tree.Label.{Label}
use Rattle.match_blossom.specs.declared.tree.Label.TheVariants.{Outside}
use Rattle.match_blossom.specs.Labels.{at, is_outer, is_inner, says_outer, says_inner}
use Rattle.match_blossom.specs.Pointers.{Falls, PointsTo, Leads, release}
use Rattle.match_blossom.specs.Stack.{foldings_of, folding_of, Fits}
use Rattle.match_blossom.specs.Foldings.{IsLiving, Folding, Foldings, part_of, folded, IsCycle}
use Rattle.match_blossom.specs.Search.{Tree, IsFoldable}
use Rattle.match_blossom.specs.Forest.{IsQueue, IsTouched, StandsIn}
use Rattle.match_blossom.proofs.Pairs.{not_in_rest, not_in_cons}
use Rattle.match_blossom.proofs.Unfolding.{class_outside, class_inside, class_before}

-- by the test of membership
pub by_member : {X : Type 0} (b : Bool) (x y : X) → b ≡ true → cond b x y ≡ x
by_member true x y h = refl
by_member false x y h = absurd (false≢true h)

pub by_other : {X : Type 0} (b : Bool) (x y : X) → b ≡ false → cond b x y ≡ y
by_other true x y h = absurd (false≢true (sym h))
by_other false x y h = refl

-- the class of a member of the cycle
pub member_class : (g : List (List ℕ)) (part : ℕ → ℕ) (base : ℕ) (others : List ℕ) → IsCycle g part base others → (u : ℕ) → has others u ≡ true → folded part base others u ≡ base
member_class g part base others c u h = class_inside part base others u (ap (has (base ∷ others)) (c.living u (has_rest base others u h)).1 ∙ has_rest base others u h)

pub points_contract : (g : List (List ℕ)) (part : ℕ → ℕ) (base : ℕ) (others : List ℕ) (n : ℕ) (point point' : ℕ → ℕ) → IsCycle g part base others → PointsTo n point part
    → ((u : ℕ) → u < n → point' u ≡ cond (has others u) base (point u)) → PointsTo n point' (folded part base others)
points_contract g part base others n point point' c p new = record {
  same = λ u within. elim (cases_Bool (has others u)) [
    | inl h ↦ ap part' (new u within ∙ by_member (has others u) base (point u) h) ∙ base_class ∙ sym (member_class g part base others c u h)
    | inr h ↦ ap part' (new u within ∙ by_other (has others u) base (point u) h) ∙ ap (λ (x : ℕ). cond (has (base ∷ others) x) base x) (p.same u within)
  ];
  own = λ u within e. elim (cases_Bool (has others u)) [
    | inl h ↦ absurd (false≢true (sym c.different.0 ∙ ap (has others) (sym (by_member (has others u) base (point u) h) ∙ sym (new u within) ∙ e) ∙ h))
    | inr h ↦ stays u h (p.own u within (sym (by_other (has others u) base (point u) h) ∙ sym (new u within) ∙ e))
  ];
  living = λ u within e. elim (cases_Bool (has others u)) [
    | inl h ↦ absurd (false≢true (sym c.different.0 ∙ ap (has others) (sym (member_class g part base others c u h) ∙ e) ∙ h))
    | inr h ↦ new u within ∙ by_other (has others u) base (point u) h ∙ p.living u within (was u h e)
  ];
}
  where
    part' : ℕ → ℕ
    part' u = folded part base others u

    base_living : IsLiving g part base
    base_living = c.living base (has_front base others base refl)

    base_class : folded part base others base ≡ base
    base_class = class_inside part base others base (ap (has (base ∷ others)) base_living.1 ∙ has_front base others base refl)

    stays : (u : ℕ) → has others u ≡ false → part u ≡ u → folded part base others u ≡ u
    stays u out e = elim (cases_eq base u) [
      | inl same ↦ ap (folded part base others) (sym same) ∙ base_class ∙ same
      | inr ne ↦ class_outside part base others u (ap (has (base ∷ others)) e ∙ not_in_cons base others u ne out) ∙ e
    ]

    was : (u : ℕ) → has others u ≡ false → folded part base others u ≡ u → part u ≡ u
    was u out e = elim (cases_eq u base) [
      | inl same ↦ ap part same ∙ base_living.1 ∙ sym same
      | inr ne ↦ class_before part base others u u e ne
    ]

-- pointers that are the same below n lead alike
pub leads_same : (n : ℕ) (point other : ℕ → ℕ) (foldings : List Folding) → ((u : ℕ) → u < n → point u ≡ other u) → Leads n point foldings → Leads n other foldings
leads_same n point other [] same l = λ u less. sym (same u less) ∙ l u less
leads_same n point other (f ∷ earlier) same l = ((λ u less h. sym (same u less) ∙ l.0 u less h), leads_same n (release f.others point) (release f.others other) earlier (λ u less. ap (λ (x : ℕ). cond (has f.others u) u x) (same u less)) l.1)

-- Where they lead to the bases, they stay in the classes.
pub leads_points : (g : List (List ℕ)) (n : ℕ) (point : ℕ → ℕ) (foldings : List Folding) → Foldings g foldings → Leads n point foldings → PointsTo n point (part_of foldings)
leads_points g n point [] f l = record { same = λ u less. l u less; own = λ u less e. refl; living = λ u less e. l u less }
leads_points g n point (f ∷ earlier) fs l =
    points_contract g (part_of earlier) f.base f.others n (release f.others point) point fs.0 (leads_points g n (release f.others point) earlier fs.2 l.1)
    (λ u less. elim (cases_Bool (has f.others u)) [
      | inl h ↦ l.0 u less h ∙ sym (by_member (has f.others u) f.base (release f.others point u) h)
      | inr h ↦ sym (by_other (has f.others u) f.base (release f.others point u) h ∙ by_other (has f.others u) u (point u) h)
    ])

-- One folding more.
pub leads_more : (g : List (List ℕ)) (n base : ℕ) (others : List ℕ) (point point' : ℕ → ℕ) (foldings : List Folding) → IsCycle g (part_of foldings) base others → PointsTo n point (part_of foldings) → Leads n point foldings
    → ((u : ℕ) → u < n → point' u ≡ cond (has others u) base (point u)) → Leads n point' (record { base = base; others = others } ∷ foldings)
leads_more g n base others point point' foldings c p l new = (
  (λ u less h. new u less ∙ by_member (has others u) base (point u) h),
  leads_same n point (release others point') foldings (λ u less. elim (cases_Bool (has others u)) [
    | inl h ↦ p.living u less (c.living u (has_rest base others u h)).1 ∙ sym (by_member (has others u) u (point' u) h)
    | inr h ↦ sym (by_other (has others u) u (point' u) h ∙ new u less ∙ by_other (has others u) base (point u) h)
  ]) l,
)

pub falls_contract : (g : List (List ℕ)) (part : ℕ → ℕ) (base : ℕ) (others pointers pointers' order : List ℕ) → IsCycle g part base others → ((x : ℕ) → has others x ≡ true → at order base < at order x) → Falls pointers order
    → length g ≤ length pointers → ((u : ℕ) → at pointers' u ≡ cond (has others u) base (at pointers u)) → length pointers' ≡ length pointers → Falls pointers' order
falls_contract g part base others pointers pointers' order c first f long new same = record {
  below = λ u within. elim (cases_Bool (has others u)) [
    | inl h ↦ let e : at pointers' u ≡ base = new u ∙ by_member (has others u) base (at pointers u) h in let low = (c.living base (has_front base others base refl)).0 in omega arith
    | inr h ↦ let e : at pointers' u ≡ at pointers u = new u ∙ by_other (has others u) base (at pointers u) h in let low = f.below u (omega arith) in omega arith
  ];
  lower = λ u within away. elim (cases_Bool (has others u)) [
    | inl h ↦ let e : at order (at pointers' u) ≡ at order base = ap (at order) (new u ∙ by_member (has others u) base (at pointers u) h) in let low = first u h in omega arith
    | inr h ↦
        let e : at pointers' u ≡ at pointers u = new u ∙ by_other (has others u) base (at pointers u) h in
        let k : at order (at pointers' u) ≡ at order (at pointers u) = ap (at order) e in
        let low = f.lower u (omega arith) (λ q. away (e ∙ q)) in omega arith
  ];
}

-- the labels that are left
outer_left : (labels labels' : List Label) (others : List ℕ) → ((u : ℕ) → get_or labels' u Outside ≡ cond (has others u) Outside (get_or labels u Outside)) → (x : ℕ) → has others x ≡ false → is_outer labels' x ≡ is_outer labels x
outer_left labels labels' others cleared x h = ap says_outer (cleared x ∙ by_other (has others x) Outside (get_or labels x Outside) h)

pub inner_left : (labels labels' : List Label) (others : List ℕ) → ((u : ℕ) → get_or labels' u Outside ≡ cond (has others u) Outside (get_or labels u Outside)) → (x : ℕ) → has others x ≡ false → is_inner labels' x ≡ is_inner labels x
inner_left labels labels' others cleared x h = ap says_inner (cleared x ∙ by_other (has others x) Outside (get_or labels x Outside) h)

outer_gone : (labels labels' : List Label) (others : List ℕ) → ((u : ℕ) → get_or labels' u Outside ≡ cond (has others u) Outside (get_or labels u Outside)) → (x : ℕ) → is_outer labels' x ≡ true → has others x ≡ false
outer_gone labels labels' others cleared x o = false_from_ne_true (has others x) (λ h. false≢true (sym (ap says_outer (cleared x ∙ by_member (has others x) Outside (get_or labels x Outside) h)) ∙ o))

-- a node of an outer class stays in one
outer_stays : (g : List (List ℕ)) (part : ℕ → ℕ) (base : ℕ) (others : List ℕ) (labels labels' : List Label) → IsCycle g part base others → is_outer labels base ≡ true
    → ((u : ℕ) → get_or labels' u Outside ≡ cond (has others u) Outside (get_or labels u Outside)) → (u : ℕ) → (is_outer labels (part u) ≡ true) ⊎ (has (base ∷ others) (part u) ≡ true) → is_outer labels' (folded part base others u) ≡ true
outer_stays g part base others labels labels' c base_outer cleared u o = elim (cases_Bool (has (base ∷ others) (part u))) [
  | inl in' ↦ ap (is_outer labels') (class_inside part base others u in') ∙ outer_left labels labels' others cleared base c.different.0 ∙ base_outer
  | inr out ↦
      let e : folded part base others u ≡ part u = class_outside part base others u out in
      let out' : has others (part u) ≡ false = (not_in_rest base others (part u) out).1 in
      ap (is_outer labels') e ∙ outer_left labels labels' others cleared (part u) out' ∙ elim o [ inl outer ↦ outer | inr in' ↦ absurd (false≢true (sym out ∙ in')) ]
]

pub queue_contracts : (g : List (List ℕ)) (mates : List ℕ) (root : ℕ) (part : ℕ → ℕ) (labels labels' : List Label) (parent order : ℕ → ℕ) (base : ℕ) (others queue queue' : List ℕ) (queued queued' : ℕ)
    → Tree g mates root part (is_outer labels) (is_inner labels) parent order → IsFoldable g mates root part (is_outer labels) (is_inner labels) order base others
    → ((u : ℕ) → get_or labels' u Outside ≡ cond (has others u) Outside (get_or labels u Outside)) → IsQueue g labels part queue queued
    → ((k : ℕ) → k < queued → at queue' k ≡ at queue k) → queued ≤ queued'
    → ((k : ℕ) → queued ≤ k → k < queued' → (has others (at queue' k) ≡ true) × (is_inner labels (at queue' k) ≡ true))
    → ((u : ℕ) → has others u ≡ true → is_inner labels u ≡ true → StandsIn queue' queued queued' u)
    → IsQueue g labels' (folded part base others) queue' queued'
queue_contracts g mates root part labels labels' parent order base others queue queue' queued queued' t f cleared q kept low new each = record {
  below = λ k within. elim (cases_lt k queued) [
    | inl less ↦ subst (λ (x : ℕ). x < length g) (sym (kept k less)) (q.below k less)
    | inr more ↦ let n = new k (omega arith) within in (f.cycle.living (at queue' k) (has_rest base others (at queue' k) n.0)).0
  ];
  outer = λ k within. elim (cases_lt k queued) [
    | inl less ↦ outer_stays g part base others labels labels' f.cycle f.base_outer cleared (at queue' k) (inl (ap (λ (x : ℕ). is_outer labels (part x)) (kept k less) ∙ q.outer k less))
    | inr more ↦
        let n = new k (omega arith) within in
        let in' : has (base ∷ others) (at queue' k) ≡ true = has_rest base others (at queue' k) n.0 in
        outer_stays g part base others labels labels' f.cycle f.base_outer cleared (at queue' k) (inr (ap (has (base ∷ others)) (f.cycle.living (at queue' k) in').1 ∙ in'))
  ];
  each = λ u within o. elim (cases_Bool (is_outer labels (part u))) [
    | inl was ↦ let s = q.each u within was in let s2 = s.2 in (s.0, s.1, omega arith, kept s.0 s.2 ∙ s.3)
    | inr not_outer ↦
        let own : part u ≡ u = t.alone u within not_outer in
        elim (cases_Bool (has others u)) [
          | inl h ↦ elim (f.labelled u h) [
            | inl outer ↦ absurd (false≢true (sym not_outer ∙ ap (is_outer labels) own ∙ outer))
            | inr inner ↦ let s = each u h inner in (s.0, omega arith, s.2, s.3)
          ]
          | inr out ↦ absurd (elim (cases_eq base u) [
            | inl e ↦ false≢true (sym not_outer ∙ ap (is_outer labels) (own ∙ sym e) ∙ f.base_outer)
            | inr ne ↦
                let e : folded part base others u ≡ u = class_outside part base others u (ap (has (base ∷ others)) own ∙ not_in_cons base others u ne out) ∙ own in
                false≢true (sym not_outer ∙ ap (is_outer labels) own ∙ sym (outer_left labels labels' others cleared u out) ∙ ap (is_outer labels') (sym e) ∙ o)
          ])
        ]
  ];
}

pub touched_contract : (labels labels' : List Label) (base others pointers pointers' touched : List ℕ) (b now : ℕ) → ((x : ℕ) → has others x ≡ true → (is_outer labels x ≡ true) ⊎ (is_inner labels x ≡ true))
    → ((u : ℕ) → get_or labels' u Outside ≡ cond (has others u) Outside (get_or labels u Outside)) → length labels' ≡ length labels
    → ((u : ℕ) → at pointers' u ≡ cond (has others u) b (at pointers u)) → length pointers' ≡ length pointers → IsTouched labels pointers touched now → IsTouched labels' pointers' touched now
touched_contract labels labels' base others pointers pointers' touched b now labelled cleared same new same' t = record {
  below = λ k within. let q = t.below k within in let q0 = q.0 in let q1 = q.1 in (omega arith, omega arith);
  labelled = λ u. elim (cases_Bool (has others u)) [
    | inl h ↦ inl (cleared u ∙ by_member (has others u) Outside (get_or labels u Outside) h)
    | inr h ↦ elim (t.labelled u) [
      | inl none ↦ inl (cleared u ∙ by_other (has others u) Outside (get_or labels u Outside) h ∙ none)
      | inr s ↦ inr s
    ]
  ];
  pointed = λ u within. elim (cases_Bool (has others u)) [
    | inl h ↦ elim (t.labelled u) [
      | inl none ↦ absurd (elim (labelled u h) [ inl o ↦ false≢true (sym (ap says_outer none) ∙ o) | inr i ↦ false≢true (sym (ap says_inner none) ∙ i) ])
      | inr s ↦ inr s
    ]
    | inr h ↦ elim (t.pointed u (omega arith)) [
      | inl own ↦ inl (new u ∙ by_other (has others u) b (at pointers u) h ∙ own)
      | inr s ↦ inr s
    ]
  ];
}

-- One cycle more on the stack.
pub drop_set_suc : (xs : List ℕ) (k x : ℕ) → k < length xs → drop k (set xs k x) ≡ x ∷ drop (suc k) xs
drop_set_suc [] k x less = absurd (omega arith)
drop_set_suc (y ∷ xs) zero x less = refl
drop_set_suc (y ∷ xs) (suc k) x less = drop_set_suc xs k x (omega arith)

pub drop_set : (xs : List ℕ) (k x : ℕ) → k < length xs → drop k (set xs k x) ≡ x ∷ drop (k + 1) xs
drop_set xs k x less = drop_set_suc xs k x less ∙ ap (λ (j : ℕ). x ∷ drop j xs) (let e : suc k ≡ k + 1 = omega arith in e)

pub stack_grows : (sizes nodes others left : List ℕ) (height base : ℕ) → height < length sizes → nodes ≡ base ∷ others ++ left
    → foldings_of (drop height (set sizes height (length others + 1))) nodes ≡ record { base = base; others = others } ∷ foldings_of (drop (height + 1) sizes) left
stack_grows sizes nodes others left height base less from =
    let n : length others + 1 ≡ length (base ∷ others) = omega arith in
    ap (λ (xs : List ℕ). foldings_of xs nodes) (drop_set sizes height (length others + 1) less)
    ∙ ap (λ (k : ℕ). folding_of (take k nodes) ∷ foldings_of (drop (height + 1) sizes) (drop k nodes)) n
    ∙ ap (λ (xs : List ℕ). folding_of (take (length (base ∷ others)) xs) ∷ foldings_of (drop (height + 1) sizes) (drop (length (base ∷ others)) xs)) from
    ∙ ap (λ (xs : List ℕ). folding_of xs ∷ foldings_of (drop (height + 1) sizes) (drop (length others) (others ++ left))) (take_at (base ∷ others) left (length (base ∷ others)) refl)
    ∙ ap (λ (xs : List ℕ). record { base = base; others = others } ∷ foldings_of (drop (height + 1) sizes) xs) (drop_at others left (length others) refl)

pub fits_more : (sizes nodes others left : List ℕ) (height base : ℕ) → height < length sizes → nodes ≡ base ∷ others ++ left → Fits (drop (height + 1) sizes) left
    → Fits (drop height (set sizes height (length others + 1))) nodes
fits_more sizes nodes others left height base less from fits =
    subst (λ (xs : List ℕ). Fits xs nodes) (sym (drop_set sizes height (length others + 1) less))
    (subst (λ (ns : List ℕ). Fits ((length others + 1) ∷ drop (height + 1) sizes) ns) (sym from) (
      omega arith,
      longer others left,
      subst (λ (k : ℕ). Fits (drop (height + 1) sizes) (drop k (base ∷ others ++ left))) (let n : length (base ∷ others) ≡ length others + 1 = omega arith in n)
          (subst (λ (xs : List ℕ). Fits (drop (height + 1) sizes) xs) (sym (drop_at others left (length others) refl)) fits),
    ))
  where
    longer : (xs ys : List ℕ) → length xs + 1 ≤ length (base ∷ xs ++ ys)
    longer [] ys = omega arith
    longer (x ∷ xs) ys = let h = longer xs ys in omega arith
