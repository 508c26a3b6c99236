-- Steps of the flood.
use Rattle.std.proofs.Common.{◌≡◌, ◌≢◌, ℕ, zero, suc, ◌+◌, ◌≤◌, ◌<◌, List, [], ◌∷◌, length, get_or, set, Bool, true, false, refl, ap, sym, ◌∙◌, inl, inr, arith, subst}
use Rattle.std.specs.Prelude.{nat_lt, cond, ◌⊎◌}
use Rattle.std.proofs.lemmas.Bool.{cases_eq, cases_lt}
use Rattle.std.proofs.lemmas.Bool.Decides.{nat_tests}
use Rattle.std.proofs.lemmas.List.{get_or-set_same, get_or-set_other, length-set}
use Rattle.match_barrier.specs.Graph.{has, neighbours_of, adjacent, IsGraph}
use Rattle.match_barrier.specs.Barrier.{one_if, count}
use Rattle.match_barrier.specs.Labels.{Labels, IsSettled, IsWaiting, IsLowered, Lowers, Filling, Flooded, count_above}
use Rattle.match_barrier.proofs.Counting.{but, but_same, but_other, count_but, count_same, one_if_le}
use Rattle.match_barrier.proofs.Naming.{first_label, lower_label, place_of, count_le}

lt_true : (a b : ℕ) → a < b → nat_lt a b ≡ true
lt_true a b h = grind (arith, nat_tests)

lt_false : (a b : ℕ) → b ≤ a → nat_lt a b ≡ false
lt_false a b h = grind (arith, nat_tests)

-- One label fewer is greater than root.
above_lowered : (n : ℕ) (labels : List ℕ) (root w : ℕ) → length labels ≡ n → w < n → root < get_or labels w 0 → count_above n labels root ≡ suc (count_above n (set labels w root) root)
above_lowered n labels root w long less lower =
    let p : ℕ → Bool = λ v. nat_lt root (get_or labels v 0) in
    count_but n p w less (lt_true root (get_or labels w 0) lower)
    ∙ ap suc (count_same n (but p w) (λ v. nat_lt root (get_or (set labels w root) v 0)) (λ i below. elim (cases_eq i w) [
      | inl e ↦ but_same p w i e ∙ sym (lt_false root (get_or (set labels w root) i 0) (let h : get_or (set labels w root) i 0 ≡ root = ap (λ (x : ℕ). get_or (set labels w root) x 0) e ∙ get_or-set_same labels w root 0 (omega arith) in omega arith))
      | inr ne ↦ but_other p w i ne ∙ ap (nat_lt root) (sym (get_or-set_other labels w i root 0 ne))
    ]))

-- Where one number below n does not pass, fewer than n pass.
pub count_less : (n : ℕ) (p : ℕ → Bool) (w : ℕ) → w < n → p w ≡ false → count n p < n
count_less zero p w less fails = absurd (omega arith)
count_less (suc n) p w less fails = elim (cases_eq w n) [
  | inl e ↦
      let a = count_le n p in
      let b : one_if (p n) ≡ 0 = ap one_if (subst (λ (x : ℕ). p x ≡ false) e fails) in omega arith
  | inr ne ↦
      let a = count_less n p w (omega arith) fails in
      let b = one_if_le (p n) in omega arith
]

pub lowers_none : (g : List (List ℕ)) (root : ℕ) (labels stack : List ℕ) (height : ℕ) → length labels ≡ length g → length stack ≡ length g → Lowers g root labels labels stack stack height height
lowers_none g root labels stack height long stack_long = record {
  each_node = long;
  stack_length = stack_long;
  labels = λ s h. h;
  balance = refl;
  lowered = λ u less. inl refl;
  kept = λ k less. refl;
  higher = omega arith;
  waiting = λ k low less. absurd (omega arith);
}

-- Where a label is left to be lowered, the stack has room.
pub room_left : (g : List (List ℕ)) (root : ℕ) (old labels stack pushed : List ℕ) (height top w : ℕ) → Lowers g root old labels stack pushed height top
    → height + count_above (length g) old root ≤ length g → w < length g → root < get_or labels w 0 → top < length g
room_left g root old labels stack pushed height top w s few below lower =
    let one = above_lowered (length g) labels root w s.each_node below lower in
    let balance = s.balance in omega arith

pub lowers_more : (g : List (List ℕ)) (root : ℕ) (old labels stack pushed : List ℕ) (height top v w : ℕ) → IsGraph g → Lowers g root old labels stack pushed height top
    → height + count_above (length g) old root ≤ length g → adjacent g v w ≡ true → get_or labels v 0 ≡ root → root < get_or labels w 0 → get_or labels w 0 < length g
    → Lowers g root old (set labels w root) stack (set pushed top w) height (top + 1)
lowers_more g root old labels stack pushed height top v w is s few edge own lower low =
    let n : ℕ = length g in
    let long = s.each_node in
    let stack_long = s.stack_length in
    let below : w < n = is.in_range v w edge in
    let one : count_above n labels root ≡ suc (count_above n (set labels w root) root) = above_lowered n labels root w long below lower in
    let balance = s.balance in
    let fits : top < n = room_left g root old labels stack pushed height top w s few below lower in
    let higher = s.higher in
    let at_w : get_or (set labels w root) w 0 ≡ root = get_or-set_same labels w root 0 (omega arith) in
    let at_top : get_or (set pushed top w) top 0 ≡ w = get_or-set_same pushed top w 0 (omega arith) in
    record {
      each_node = length-set labels w root ∙ long;
      stack_length = length-set pushed top w ∙ stack_long;
      labels = λ z h. subst (λ (x : ℕ). Labels g z (set labels w x)) own (lower_label g z labels v w is edge low (omega arith) (s.labels z h));
      balance = omega arith;
      lowered = λ u less. elim (cases_eq u w) [
        | inl e ↦ inr (
          (
            ap (λ (x : ℕ). get_or (set labels w root) x 0) e ∙ at_w,
            subst (λ (x : ℕ). root < get_or old x 0) (sym e) (was (s.lowered w below)).0,
            subst (λ (x : ℕ). get_or old x 0 < n) (sym e) (was (s.lowered w below)).1,
          ),
          (top, omega arith, at_top ∙ sym e),
        )
        | inr ne ↦
            let same : get_or (set labels w root) u 0 ≡ get_or labels u 0 = get_or-set_other labels w u root 0 ne in
            elim (s.lowered u less) [
              | inl kept ↦ inl (same ∙ kept)
              | inr fell ↦ inr ((same ∙ fell.0.0, fell.0.1, fell.0.2), still u fell.1)
            ]
      ];
      kept = λ k less. get_or-set_other pushed top k w 0 (λ e. absurd (omega arith)) ∙ s.kept k less;
      higher = omega arith;
      waiting = λ k high less. elim (cases_eq k top) [
        | inl e ↦
            let is_w : get_or (set pushed top w) k 0 ≡ w = ap (λ (x : ℕ). get_or (set pushed top w) x 0) e ∙ at_top in
            (subst (λ (x : ℕ). x < n) (sym is_w) below, ap (λ (x : ℕ). get_or (set labels w root) x 0) is_w ∙ at_w)
        | inr ne ↦
            let same : get_or (set pushed top w) k 0 ≡ get_or pushed k 0 = get_or-set_other pushed top k w 0 ne in
            let r = s.waiting k high (omega arith) in
            let x : ℕ = get_or pushed k 0 in
            let not_w : x ≢ w = λ e. let h : get_or labels w 0 ≡ root = ap (λ (y : ℕ). get_or labels y 0) (sym e) ∙ r.1 in absurd (omega arith) in
            (subst (λ (y : ℕ). y < n) (sym same) r.0, ap (λ (y : ℕ). get_or (set labels w root) y 0) same ∙ get_or-set_other labels w x root 0 not_w ∙ r.1)
      ];
    }
  where
    was : (get_or labels w 0 ≡ get_or old w 0) ⊎ (IsLowered (length g) root old labels w × IsWaiting pushed top w) → (root < get_or old w 0) × (get_or old w 0 < length g)
    was (inl kept) = (omega arith, omega arith)
    was (inr fell) = (fell.0.1, fell.0.2)

    still : (u : ℕ) → IsWaiting pushed top u → IsWaiting (set pushed top w) (top + 1) u
    still u (k, less, is) = (k, omega arith, get_or-set_other pushed top k w 0 (λ e. absurd (omega arith)) ∙ is)

-- What the loop has seen of a row stays, as labels fall.
pub seen_more : (g : List (List ℕ)) (root w i : ℕ) (row labels new : List ℕ) → i < length row → get_or row i 0 ≡ w
    → ((k : ℕ) → k < i → get_or labels (get_or row k 0) 0 < length g → get_or labels (get_or row k 0) 0 ≤ root)
    → ((u : ℕ) → (get_or new u 0 ≡ get_or labels u 0) ⊎ (get_or new u 0 ≡ root)) → (get_or new w 0 < length g → get_or new w 0 ≤ root)
    → (k : ℕ) → k < i + 1 → get_or new (get_or row k 0) 0 < length g → get_or new (get_or row k 0) 0 ≤ root
seen_more g root w i row labels new within is was fell here k less low = elim (cases_eq k i) [
  | inl e ↦ let at : get_or row k 0 ≡ w = ap (λ (x : ℕ). get_or row x 0) e ∙ is in
      subst (λ (x : ℕ). get_or new x 0 ≤ root) (sym at) (here (subst (λ (x : ℕ). get_or new x 0 < length g) at low))
  | inr ne ↦ elim (fell (get_or row k 0)) [
    | inl same ↦ let h = was k (omega arith) (omega arith) in omega arith
    | inr fallen ↦ omega arith
  ]
]

pub settled_of_row : (g : List (List ℕ)) (labels row : List ℕ) (v root : ℕ) → row ≡ neighbours_of g v → get_or labels v 0 ≡ root
    → ((k : ℕ) → k < length row → get_or labels (get_or row k 0) 0 < length g → get_or labels (get_or row k 0) 0 ≤ root) → IsSettled g labels v
settled_of_row g labels row v root same own seen w edge low =
    let (k, within, is) = place_of row w (subst (λ (r : List ℕ). has r w ≡ true) (sym same) edge) in
    let h = seen k within (subst (λ (x : ℕ). get_or labels x 0 < length g) (sym is) low) in
    let e : get_or labels (get_or row k 0) 0 ≡ get_or labels w 0 = ap (λ (x : ℕ). get_or labels x 0) is in omega arith

pub filling_first : (g : List (List ℕ)) (root : ℕ) (labels stack : List ℕ) → root < length g → length stack ≡ length g → Flooded g labels root → get_or labels root 0 ≡ root
    → Filling g root labels labels (set stack 0 root) 1
filling_first g root labels stack below long flooded own =
    let here : get_or (set stack 0 root) 0 0 ≡ root = get_or-set_same stack 0 root 0 (omega arith) in
    record {
      each_node = flooded.each_node;
      stack_length = length-set stack 0 root ∙ long;
      labels = λ s h. h;
      room = let h = count_less (length g) (λ v. nat_lt root (get_or labels v 0)) root below (lt_false root (get_or labels root 0) (omega arith)) in omega arith;
      lowered = λ u less. inl refl;
      waiting = λ k less.
          let k0 : k ≡ 0 = omega arith in
          let at : get_or (set stack 0 root) k 0 ≡ root = ap (λ (x : ℕ). get_or (set stack 0 root) x 0) k0 ∙ here in
          (subst (λ (x : ℕ). x < length g) (sym at) below, ap (λ (x : ℕ). get_or labels x 0) at ∙ own);
      settled = λ v less is. let e = flooded.own v less (omega arith) (omega arith) in inl (0, omega arith, here ∙ sym is ∙ e);
    }

-- A label that is written is as it was, or root.
pub fell_at : (labels : List ℕ) (w root : ℕ) → w < length labels → (u : ℕ) → (get_or (set labels w root) u 0 ≡ get_or labels u 0) ⊎ (get_or (set labels w root) u 0 ≡ root)
fell_at labels w root within u = elim (cases_eq u w) [
  | inl e ↦ inr (ap (λ (x : ℕ). get_or (set labels w root) x 0) e ∙ get_or-set_same labels w root 0 within)
  | inr ne ↦ inl (get_or-set_other labels w u root 0 ne)
]

pub filling_more : (g : List (List ℕ)) (root : ℕ) (old labels new stack pushed : List ℕ) (was height top v : ℕ) → was ≡ height + 1 → Filling g root old labels stack was → v ≡ get_or stack height 0
    → Lowers g root labels new stack pushed height top → IsSettled g new v → Filling g root old new pushed top
filling_more g root old labels new stack pushed was height top v one f is s done = record {
  each_node = s.each_node;
  stack_length = s.stack_length;
  labels = λ z h. s.labels z (f.labels z h);
  room = let a = f.room in let b = s.balance in omega arith;
  lowered = λ u less. elim (s.lowered u less) [
    | inl same ↦ elim (f.lowered u less) [
      | inl kept ↦ inl (same ∙ kept)
      | inr fell ↦ inr (same ∙ fell.0, fell.1, fell.2)
    ]
    | inr fell ↦ inr (first u less fell.0 (f.lowered u less))
  ];
  waiting = λ k less. elim (cases_lt k height) [
    | inl low ↦
        let r = f.waiting k (omega arith) in
        let same = s.kept k low in
        let x : ℕ = get_or stack k 0 in
        (subst (λ (y : ℕ). y < length g) (sym same) r.0, ap (λ (y : ℕ). get_or new y 0) same ∙ stays x r.0 r.1)
    | inr high ↦ s.waiting k high less
  ];
  settled = λ u less root_label. elim (s.lowered u less) [
    | inr fell ↦ inl fell.1
    | inl same ↦ elim (f.settled u less (sym same ∙ root_label)) [
      | inl (k, low, at) ↦ elim (cases_lt k height) [
        | inl lower ↦ inl (k, (let h = s.higher in omega arith), s.kept k lower ∙ at)
        | inr last ↦ inr (subst (IsSettled g new) (is ∙ ap (λ (x : ℕ). get_or stack x 0) (let e : height ≡ k = omega arith in e) ∙ at) done)
      ]
      | inr settled ↦ inr (λ w edge low. by u w same (settled w edge) root_label low)
    ]
  ];
}
  where
    first : (u : ℕ) → u < length g → IsLowered (length g) root labels new u → (get_or labels u 0 ≡ get_or old u 0) ⊎ IsLowered (length g) root old labels u → IsLowered (length g) root old new u
    first u less fell (inl kept) = (fell.0, (let h = fell.1 in omega arith), (let h = fell.2 in omega arith))
    first u less fell (inr fallen) = let a = fell.1 in let b = fallen.0 in absurd (omega arith)

    stays : (x : ℕ) → x < length g → get_or labels x 0 ≡ root → get_or new x 0 ≡ root
    stays x less own = elim (s.lowered x less) [ inl same ↦ same ∙ own | inr fell ↦ fell.0.0 ]

    by : (u w : ℕ) → get_or new u 0 ≡ get_or labels u 0 → (get_or labels w 0 < length g → get_or labels w 0 ≤ get_or labels u 0) → get_or new u 0 ≡ root → get_or new w 0 < length g → get_or new w 0 ≤ get_or new u 0
    by u w same settled root_label low = elim (cases_lt w (length g)) [
      | inl inside ↦ elim (s.lowered w inside) [
        | inl kept ↦ let h = settled (omega arith) in omega arith
        | inr fell ↦ let h = fell.0.0 in omega arith
      ]
      | inr outside ↦ let a = s.each_node in let h : get_or new w 0 ≡ 0 = past new w (omega arith) in omega arith
    ]
      where
        past : (xs : List ℕ) (i : ℕ) → length xs ≤ i → get_or xs i 0 ≡ 0
        past [] i h = refl
        past (x ∷ xs) zero h = absurd (omega arith)
        past (x ∷ xs) (suc i) h = past xs i (omega arith)

-- The part of root is filled.
pub flooded_more : (g : List (List ℕ)) (root : ℕ) (old new stack : List ℕ) → IsGraph g → Flooded g old root → Filling g root old new stack 0 → Flooded g new (root + 1)
flooded_more g root old new stack is flooded f = record {
  each_node = f.each_node;
  own = λ v less high low. elim (f.lowered v less) [
    | inl same ↦ let h = flooded.own v less (omega arith) (omega arith) in omega arith
    | inr fell ↦ let h = fell.0 in absurd (omega arith)
  ];
  settled = λ v less low. elim (cases_eq (get_or new v 0) root) [
    | inl e ↦ elim (f.settled v less e) [ inl (k, none, at) ↦ absurd (omega arith) | inr done ↦ done ]
    | inr ne ↦ elim (f.lowered v less) [
      | inr fell ↦ absurd (ne fell.0)
      | inl same ↦ λ w edge below. elim (f.lowered w (is.in_range v w edge)) [
        | inl kept ↦ let h = flooded.settled v less (omega arith) w edge (omega arith) in omega arith
        | inr fell ↦ let a = fell.0 in let b = fell.1 in let c = fell.2 in let h = flooded.settled v less (omega arith) w edge (omega arith) in absurd (omega arith)
      ]
    ]
  ];
}

-- root is taken away, or stands in an earlier part.
pub flooded_skip : (g : List (List ℕ)) (root : ℕ) (labels : List ℕ) → root < length g → Flooded g labels root → get_or labels root 0 ≢ root → Flooded g labels (root + 1)
flooded_skip g root labels below flooded other = record {
  each_node = flooded.each_node;
  own = λ v less high low. flooded.own v less (omega arith) low;
  settled = λ v less low. elim (cases_eq (get_or labels v 0) root) [
    | inl e ↦ let own = flooded.own v less (omega arith) (omega arith) in absurd (other (ap (λ (x : ℕ). get_or labels x 0) (let h : root ≡ v = omega arith in h) ∙ e))
    | inr ne ↦ flooded.settled v less (omega arith)
  ];
}

-- At the beginning each node that is left is its own label.
pub flooded_first : (g : List (List ℕ)) (s labels : List ℕ) → length labels ≡ length g → ((v : ℕ) → v < length g → get_or labels v 0 ≡ first_label (length g) s v) → Flooded g labels 0
flooded_first g s labels long is = record {
  each_node = long;
  own = λ v less high low. is v less ∙ by (has s v) v (subst (λ (x : ℕ). x < length g) (is v less) low);
  settled = λ v less low. absurd (omega arith);
}
  where
    by : (b : Bool) (v : ℕ) → cond b (length g) v < length g → cond b (length g) v ≡ v
    by true v low = absurd (omega arith)
    by false v low = refl
