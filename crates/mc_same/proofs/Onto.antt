-- A function of the numbers below a bound into them that takes no value twice takes each.
use Rattle.std.proofs.Common.{arith, ◌≡◌, ◌∙◌, ℕ, zero, suc, ◌<◌, ◌≤◌, ◌==◌, length, Bool, true, refl, ap, sym, inl, inr}
use Rattle.std.specs.Prelude.{if◌then◌else◌}
use Rattle.std.proofs.lemmas.Bool.{cases_Bool, cases_eq, false≢true, eqb-true, eq-eqb, cond-true, cond-false}
use Rattle.match_barrier.specs.Barrier.{count}
use Rattle.match_barrier.proofs.Counting.{but, but_other, count_but, covered, search_below}
use Rattle.smi_mean.specs.RingNumbers.{passing}
use Rattle.smi_mean.proofs.Passing.{passing_has, passing_length}

abbrev any : ℕ → Bool
any i = true

count_any : (n : ℕ) → count n any ≡ n
count_any zero = refl
count_any (suc n) = let e = count_any n in omega arith

-- the number below n whose value is x
abbrev number : (ℕ → ℕ) → ℕ → ℕ → ℕ
number g zero x = 0
number g (suc n) x = if g n == x then n else number g n x

number_is : (g : ℕ → ℕ) (n i : ℕ) → i < n → ((j : ℕ) → j < n → g j ≡ g i → j ≡ i) → number g n (g i) ≡ i
number_is g zero i less one = absurd (omega arith)
number_is g (suc n) i less one = elim (cases_Bool (g n == g i)) [
  | inl same ↦ cond-true (g n == g i) n (number g n (g i)) same ∙ one n (omega arith) (eqb-true (g n) (g i) same)
  | inr other ↦ cond-false (g n == g i) n (number g n (g i)) other ∙ elim (cases_eq i n) [
    | inl here ↦ absurd (false≢true (sym other ∙ eq-eqb (g n) (g i) (ap g (sym here))))
    | inr ne ↦ number_is g n i (omega arith) (λ j below e. one j (omega arith) e)
  ]
]

pub onto : (g : ℕ → ℕ) (n : ℕ) → ((i : ℕ) → i < n → g i < n) → ((i j : ℕ) → i < n → j < n → g i ≡ g j → i ≡ j) → (a : ℕ) → a < n → (i : ℕ) × (i < n) × (g i ≡ a)
onto g n within one a less = elim (search_below n (λ i. g i == a)) [
  | inl found ↦ (found.0, found.1, eqb-true (g found.0) a found.2)
  | inr none ↦
      let le : count n any ≤ length (passing (but any a) n) = covered (passing (but any a) n) (number g n) n any (λ i below holds.
      (g i, passing_has (but any a) n (g i) (within i below) (but_other any a (g i) (λ e. false≢true (sym (none i below) ∙ eq-eqb (g i) a e))), number_is g n i below (λ j inside e. one j i inside below e))) in
      let size = passing_length (but any a) n in
      let more = count_but n any a less refl in
      let all = count_any n in absurd (omega arith)
]
