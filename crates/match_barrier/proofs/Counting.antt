-- Counts of the numbers below a bound that pass a test.
use Rattle.std.proofs.Common.{◌≡◌, ◌≢◌, ℕ, zero, suc, ◌≤◌, ◌<◌, List, [], ◌∷◌, length, Bool, true, false, refl, ap, sym, ◌∙◌, inl, inr, arith, subst}
use Rattle.std.specs.Prelude.{◌==◌, not, ◌&&◌, ◌||◌, ◌⊎◌}
use Rattle.std.proofs.lemmas.Bool.{cases_eq, false≢true, eqb-true, cases_Bool, and_parts}
use Rattle.std.proofs.lemmas.Bool.Decides.{nat_tests}
use Rattle.match_barrier.specs.Graph.{has}
use Rattle.match_barrier.specs.Barrier.{one_if, count, is_odd}

pub test_same : (a b : ℕ) → a ≡ b → (a == b) ≡ true
test_same a b h = grind (arith, nat_tests)

pub test_other : (a b : ℕ) → a ≢ b → (a == b) ≡ false
test_other a b h = grind (arith, nat_tests)

pub not_true_is : (b : Bool) → not b ≡ true → b ≡ false
not_true_is true h = absurd (false≢true h)
not_true_is false h = refl

-- tests that agree below n count alike
pub count_same : (n : ℕ) (p q : ℕ → Bool) → ((i : ℕ) → i < n → p i ≡ q i) → count n p ≡ count n q
count_same zero p q same = refl
count_same (suc n) p q same =
    let h : count n p ≡ count n q = count_same n p q (λ i less. same i (omega arith)) in
    let k : one_if (p n) ≡ one_if (q n) = ap one_if (same n (omega arith)) in omega arith

pub count_none : (n : ℕ) (p : ℕ → Bool) → ((i : ℕ) → i < n → p i ≡ false) → count n p ≡ 0
count_none zero p none = refl
count_none (suc n) p none =
    let h : count n p ≡ 0 = count_none n p (λ i less. none i (omega arith)) in
    let k : one_if (p n) ≡ 0 = ap one_if (none n (omega arith)) in omega arith

-- a test without one number
abbrev pub but : (ℕ → Bool) → ℕ → ℕ → Bool
but p w i = p i && not (i == w)

pub but_other : (p : ℕ → Bool) (w i : ℕ) → i ≢ w → but p w i ≡ p i
but_other p w i ne = by (p i) (i == w) (test_other i w ne)
  where
    by : (a b : Bool) → b ≡ false → (a && not b) ≡ a
    by true b h = rw h refl
    by false b h = refl

pub but_same : (p : ℕ → Bool) (w i : ℕ) → i ≡ w → but p w i ≡ false
but_same p w i e = by (p i) (i == w) (test_same i w e)
  where
    by : (a b : Bool) → b ≡ true → (a && not b) ≡ false
    by true b h = rw h refl
    by false b h = refl

pub one_if_le : (b : Bool) → one_if b ≤ 1
one_if_le true = omega arith
one_if_le false = omega arith

-- a number above the bound changes nothing
but_above : (n : ℕ) (p : ℕ → Bool) (w : ℕ) → n ≤ w → count n (but p w) ≡ count n p
but_above n p w above = count_same n (but p w) p (λ i less. but_other p w i (λ e. absurd (omega arith)))

pub count_but : (n : ℕ) (p : ℕ → Bool) (w : ℕ) → w < n → p w ≡ true → count n p ≡ suc (count n (but p w))
count_but zero p w less passes = absurd (omega arith)
count_but (suc n) p w less passes = elim (cases_eq n w) [
  | inl same ↦
      let a : count n (but p w) ≡ count n p = but_above n p w (omega arith) in
      let b : one_if (but p w n) ≡ 0 = ap one_if (but_same p w n same) in
      let c : one_if (p n) ≡ 1 = ap one_if (subst (λ (x : ℕ). p x ≡ true) (sym same) passes) in omega arith
  | inr other ↦
      let a : count n p ≡ suc (count n (but p w)) = count_but n p w (omega arith) passes in
      let b : one_if (but p w n) ≡ one_if (p n) = ap one_if (but_other p w n other) in omega arith
]

-- with one number less the count falls by one at most
pub count_but_le : (n : ℕ) (p : ℕ → Bool) (w : ℕ) → count n p ≤ suc (count n (but p w))
count_but_le zero p w = omega arith
count_but_le (suc n) p w = elim (cases_eq n w) [
  | inl same ↦
      let a : count n (but p w) ≡ count n p = but_above n p w (omega arith) in
      let c = one_if_le (p n) in omega arith
  | inr other ↦
      let a = count_but_le n p w in
      let b : one_if (but p w n) ≡ one_if (p n) = ap one_if (but_other p w n other) in omega arith
]

pub has_cases : (y : ℕ) (xs : List ℕ) (x : ℕ) → has (y ∷ xs) x ≡ true → (y ≡ x) ⊎ (has xs x ≡ true)
has_cases y xs x h = by (y == x) refl h
  where
    by : (b : Bool) → (y == x) ≡ b → (b || has xs x) ≡ true → (y ≡ x) ⊎ (has xs x ≡ true)
    by true is h = inl (eqb-true y x is)
    by false is h = inr h

pub but_is : (p : ℕ → Bool) (w i : ℕ) → but p w i ≡ true → (p i ≡ true) × (i ≢ w)
but_is p w i h = let both = and_parts (p i) (not (i == w)) h in (both.0, λ e. false≢true (sym (but_same p w i e) ∙ h))

-- Pigeonhole: where each number that passes is the image of a member of the list, the list is at least as long.
pub covered : (xs : List ℕ) (image : ℕ → ℕ) (n : ℕ) (p : ℕ → Bool) → ((i : ℕ) → i < n → p i ≡ true → (x : ℕ) × (has xs x ≡ true) × (image x ≡ i)) → count n p ≤ length xs
covered [] image n p from = let h : count n p ≡ 0 = count_none n p (λ i less. by i less (p i) refl) in omega arith
  where
    by : (i : ℕ) → i < n → (b : Bool) → p i ≡ b → p i ≡ false
    by i less true h = let (x, member, is) = from i less h in absurd (false≢true member)
    by i less false h = h
covered (y ∷ xs) image n p from =
    let h = covered xs image n (but p (image y)) (λ i less passes. by i less (but_is p (image y) i passes)) in
    let k = count_but_le n p (image y) in omega arith
  where
    by : (i : ℕ) → i < n → (p i ≡ true) × (i ≢ image y) → (x : ℕ) × (has xs x ≡ true) × (image x ≡ i)
    by i less both = let (x, member, is) = from i less both.0 in elim (has_cases y xs x member) [
      | inl same ↦ absurd (both.1 (sym is ∙ ap image (sym same)))
      | inr rest ↦ (x, rest, is)
    ]

-- a search below a bound
pub search_below : (n : ℕ) (p : ℕ → Bool) → ((i : ℕ) × (i < n) × (p i ≡ true)) ⊎ ((i : ℕ) → i < n → p i ≡ false)
search_below zero p = inr (λ i less. absurd (omega arith))
search_below (suc n) p = elim (search_below n p) [
  | inl found ↦ inl (found.0, omega arith, found.2)
  | inr none ↦ elim (cases_Bool (p n)) [
    | inl holds ↦ inl (n, omega arith, holds)
    | inr no' ↦ inr (λ i less. elim (cases_eq i n) [
      | inl same ↦ subst (λ (x : ℕ). p x ≡ false) (sym same) no'
      | inr other ↦ none i (omega arith)
    ])
  ]
]

-- Where the numbers that pass are paired off, there is an even number of them.
pub record PairedOff (n : ℕ) (p : ℕ → Bool) (mate : ℕ → ℕ) : Type 0 where
  pub below : (i : ℕ) → i < n → p i ≡ true → mate i < n
  pub passes : (i : ℕ) → i < n → p i ≡ true → p (mate i) ≡ true
  pub another : (i : ℕ) → i < n → p i ≡ true → mate i ≢ i
  pub back : (i : ℕ) → i < n → p i ≡ true → mate (mate i) ≡ i

pub paired_even : (n : ℕ) (p : ℕ → Bool) (mate : ℕ → ℕ) → PairedOff n p mate → is_odd (count n p) ≡ false
paired_even zero p mate paired = refl
paired_even (suc n) p mate paired = elim (cases_Bool (p n)) [
  | inr not_last ↦
      let same : count (suc n) p ≡ count n p = let k : one_if (p n) ≡ 0 = ap one_if not_last in omega arith in
      ap is_odd same ∙ paired_even n p mate (record {
        below = λ i less holds. let b = paired.below i (omega arith) holds in elim (cases_eq (mate i) n) [
          | inl e ↦ absurd (false≢true (sym not_last ∙ subst (λ (x : ℕ). p x ≡ true) e (paired.passes i (omega arith) holds)))
          | inr ne ↦ omega arith
        ];
        passes = λ i less holds. paired.passes i (omega arith) holds;
        another = λ i less holds. paired.another i (omega arith) holds;
        back = λ i less holds. paired.back i (omega arith) holds;
      })
  | inl last ↦
      let w : ℕ = mate n in
      let below : w < suc n = paired.below n (omega arith) last in
      let ne = paired.another n (omega arith) last in
      let less : w < n = elim (cases_eq w n) [ inl e ↦ absurd (ne e) | inr other ↦ omega arith ] in
      let one : count n p ≡ suc (count n (but p w)) = count_but n p w less (paired.passes n (omega arith) last) in
      let two : count (suc n) p ≡ suc (suc (count n (but p w))) = let k : one_if (p n) ≡ 1 = ap one_if last in omega arith in
      ap is_odd two ∙ not_not (is_odd (count n (but p w))) ∙ paired_even n (but p w) mate (record {
        below = λ i less' holds. let b = but_is p w i holds in let m = paired.below i (omega arith) b.0 in elim (cases_eq (mate i) n) [
          | inl e ↦ absurd (b.1 (sym (paired.back i (omega arith) b.0) ∙ ap mate e))
          | inr ne' ↦ omega arith
        ];
        passes = λ i less' holds. let b = but_is p w i holds in
            but_other p w (mate i) (λ e. absurd (omega (arith, sym (paired.back i (omega arith) b.0) ∙ ap mate e ∙ paired.back n (omega arith) last))) ∙ paired.passes i (omega arith) b.0;
        another = λ i less' holds. let b = but_is p w i holds in paired.another i (omega arith) b.0;
        back = λ i less' holds. let b = but_is p w i holds in paired.back i (omega arith) b.0;
      })
]
  where
    not_not : (b : Bool) → not (not b) ≡ b
    not_not true = refl
    not_not false = refl
