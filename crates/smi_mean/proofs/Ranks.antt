-- The passing numbers below a bound, in order: their ranks, and the numbers of the ranks.
use Rattle.std.proofs.Common.{◌≡◌, ℕ, zero, suc, ◌+◌, ◌≤◌, ◌<◌, length, Bool, true, false, refl, ap, sym, ◌∙◌, inl, inr, arith, subst, get_or}
use Rattle.std.specs.Prelude.{◌==◌, ◌&&◌, ◌⊎◌}
use Rattle.std.proofs.lemmas.Bool.{cases_eq, cases_lt, false≢true, cases_Bool, and_parts, and_from, eqb-true, eq-eqb, cond-true, cond-false}
use Rattle.match_barrier.specs.Barrier.{one_if, count}
use Rattle.smi_mean.specs.Barriers.{table}
use Rattle.smi_mean.specs.NeedGraphs.{nth}

-- one more passing number
pub count_one : (test : ℕ → Bool) (n : ℕ) → test n ≡ true → count (suc n) test ≡ suc (count n test)
count_one test n passes = let k : one_if (test n) ≡ 1 = ap one_if passes in omega arith

pub count_skip : (test : ℕ → Bool) (n : ℕ) → test n ≡ false → count (suc n) test ≡ count n test
count_skip test n fails = let k : one_if (test n) ≡ 0 = ap one_if fails in omega arith

pub count_grows : (test : ℕ → Bool) (k n : ℕ) → k ≤ n → count k test ≤ count n test
count_grows test k zero le = subst (λ (x : ℕ). count x test ≤ 0) (zero_is k le) (omega arith)
  where
    zero_is : (k : ℕ) → k ≤ 0 → 0 ≡ k
    zero_is k le = omega arith
count_grows test k (suc n) le = elim (cases_eq k (suc n)) [
  | inl same ↦ subst (λ (x : ℕ). count k test ≤ count x test) same (omega arith)
  | inr other ↦ let h = count_grows test k n (omega arith) in omega arith
]

-- A passing number below the bound has a rank below that of the bound.
pub rank_below : (test : ℕ → Bool) (k n : ℕ) → k < n → test k ≡ true → count k test < count n test
rank_below test k n less passes = let a = count_one test k passes in let b = count_grows test (suc k) n (omega arith) in omega arith

pub rank_injective : (test : ℕ → Bool) (j k : ℕ) → test j ≡ true → test k ≡ true → count j test ≡ count k test → j ≡ k
rank_injective test j k pj pk same = elim (cases_lt j k) [
  | inl less ↦ let h = rank_below test j k less pj in absurd (omega arith)
  | inr other ↦ elim (cases_lt k j) [
    | inl more ↦ let h = rank_below test k j more pk in absurd (omega arith)
    | inr le ↦ omega arith
  ]
]

-- what is said of the number of a rank
pub record IsNth (test : ℕ → Bool) (n v k : ℕ) : Type 0 where
  pub below : k < n
  pub passes : test k ≡ true
  pub rank : count k test ≡ v

pub nth_is : (test : ℕ → Bool) (n v : ℕ) → v < count n test → IsNth test n v (nth test n v)
nth_is test zero v less = absurd (omega arith)
nth_is test (suc n) v less = elim (cases_Bool (test n && count n test == v)) [
  | inl here ↦ subst (IsNth test (suc n) v) (sym (cond-true (test n && count n test == v) n (nth test n v) here)) (record {
    below = omega arith;
    passes = (and_parts (test n) (count n test == v) here).0;
    rank = eqb-true (count n test) v (and_parts (test n) (count n test == v) here).1;
  })
  | inr below ↦
      let h = nth_is test n v (still (cases_Bool (test n)) below) in
      let b = h.below in
      subst (IsNth test (suc n) v) (sym (cond-false (test n && count n test == v) n (nth test n v) below)) (record { below = omega arith; passes = h.passes; rank = h.rank })
]
  where
    still : (test n ≡ true) ⊎ (test n ≡ false) → (test n && count n test == v) ≡ false → v < count n test
    still (inl holds) other =
        let more = count_one test n holds in
        elim (cases_eq (count n test) v) [
          | inl same ↦ absurd (false≢true (sym other ∙ and_from (test n) (count n test == v) holds (eq-eqb (count n test) v same)))
          | inr ne ↦ omega arith
        ]
    still (inr fails) other = let same = count_skip test n fails in omega arith

-- the number of the rank of a passing number is the number itself
pub nth_rank : (test : ℕ → Bool) (n k : ℕ) → k < n → test k ≡ true → nth test n (count k test) ≡ k
nth_rank test n k less passes =
    let h = nth_is test n (count k test) (rank_below test k n less passes) in
    rank_injective test (nth test n (count k test)) k h.passes passes h.rank

-- a lesser rank is that of a lesser number
pub nth_le : (test : ℕ → Bool) (n u v : ℕ) → v < count n test → u ≤ v → nth test n u ≤ nth test n v
nth_le test n u v less le =
    let a = nth_is test n u (omega arith) in
    let b = nth_is test n v less in
    elim (cases_lt (nth test n v) (nth test n u)) [
      | inl more ↦
          let h = rank_below test (nth test n v) (nth test n u) more b.passes in
          let ra = a.rank in let rb = b.rank in absurd (omega arith)
      | inr h ↦ h
    ]

-- A test that passes passing numbers alone counts as much over the ranks.
pub count_over : (test : ℕ → Bool) (n : ℕ) (p : ℕ → Bool) → ((k : ℕ) → k < n → test k ≡ false → p k ≡ false) → (m : ℕ) → m ≤ n → count m p ≡ count (count m test) (λ v. p (nth test n v))
count_over test n p only zero le = refl
count_over test n p only (suc m) le =
    let h = count_over test n p only m (omega arith) in
    elim (cases_Bool (test m)) [
      | inl holds ↦
          let same : nth test n (count m test) ≡ m = nth_rank test n m (omega arith) holds in
          let e : one_if (p (nth test n (count m test))) ≡ one_if (p m) = ap (λ (x : ℕ). one_if (p x)) same in
          subst (λ (x : ℕ). count (suc m) p ≡ count x (λ v. p (nth test n v))) (sym (count_one test m holds)) (omega arith)
      | inr fails ↦
          let e : one_if (p m) ≡ 0 = ap one_if (only m (omega arith) fails) in
          subst (λ (x : ℕ). count (suc m) p ≡ count x (λ v. p (nth test n v))) (sym (count_skip test m fails)) (omega arith)
    ]

-- tables
pub get_or_table : {X : Type 0} (f : ℕ → X) (k n i : ℕ) (d : X) → i < n → get_or (table f k n) i d ≡ f (k + i)
get_or_table f k zero i d less = absurd (omega arith)
get_or_table f k (suc n) zero d less = ap f (plus_zero k)
  where
    plus_zero : (k : ℕ) → k ≡ k + 0
    plus_zero k = omega arith
get_or_table f k (suc n) (suc i) d less = get_or_table f (suc k) n i d (omega arith) ∙ ap f (plus_suc k i)
  where
    plus_suc : (k i : ℕ) → suc k + i ≡ k + suc i
    plus_suc k i = omega arith

pub get_or_table_start : {X : Type 0} (f : ℕ → X) (n i : ℕ) (d : X) → i < n → get_or (table f 0 n) i d ≡ f i
get_or_table_start f n i d less = get_or_table f 0 n i d less ∙ ap f (zero_plus i)
  where
    zero_plus : (i : ℕ) → 0 + i ≡ i
    zero_plus i = omega arith

pub get_or_table_past : {X : Type 0} (f : ℕ → X) (k n i : ℕ) (d : X) → n ≤ i → get_or (table f k n) i d ≡ d
get_or_table_past f k zero i d le = refl
get_or_table_past f k (suc n) zero d le = absurd (omega arith)
get_or_table_past f k (suc n) (suc i) d le = get_or_table_past f (suc k) n i d (omega arith)

pub length_table : {X : Type 0} (f : ℕ → X) (k n : ℕ) → length (table f k n) ≡ n
length_table f k zero = refl
length_table f k (suc n) = ap suc (length_table f (suc k) n)
