-- Tests of the numbers below a bound: whether one passes, and how many do.
use Rattle.std.proofs.Common.{◌≡◌, ℕ, zero, suc, ◌+◌, ◌<◌, ◌≤◌, Bool, true, false, ◌||◌, if◌then◌else◌, subst, arith, refl, inl, inr}
use Rattle.std.proofs.lemmas.Bool.{cases_eq}
use Rattle.mc_mol.specs.Parts.{some_below, count_below}

pub some_found : (p : ℕ → Bool) (n k : ℕ) → k < n → p k ≡ true → some_below p n ≡ true
some_found p zero k less is = absurd (omega arith)
some_found p (suc n) k less is = elim (cases_eq k n) [
  | inl e ↦ let h : p n ≡ true = subst (λ (x : ℕ). p x ≡ true) e is in by_last (some_below p n) (p n) h
  | inr ne ↦ rw (some_found p n k (omega arith) is) refl
]
  where
    by_last : (a b : Bool) → b ≡ true → (a || b) ≡ true
    by_last false b h = h
    by_last true b h = refl

pub none_found : (p : ℕ → Bool) (n : ℕ) → ((k : ℕ) → k < n → p k ≡ false) → some_below p n ≡ false
none_found p zero none = refl
none_found p (suc n) none = rw (none_found p n (λ k less. none k (omega arith)), none n (omega arith)) refl

-- no more numbers pass than there are
pub count_low : (p : ℕ → Bool) (n : ℕ) → count_below p n ≤ n
count_low p zero = omega arith
count_low p (suc n) = by_test (p n) (count_low p n)
  where
    by_test : (t : Bool) → count_below p n ≤ n → count_below p n + (if t then 1 else 0) ≤ suc n
    by_test true le = omega arith
    by_test false le = omega arith

pub count_same : (p q : ℕ → Bool) (n : ℕ) → ((k : ℕ) → k < n → p k ≡ q k) → count_below p n ≡ count_below q n
count_same p q zero same = refl
count_same p q (suc n) same = rw (count_same p q n (λ k less. same k (omega arith)), same n (omega arith)) refl
