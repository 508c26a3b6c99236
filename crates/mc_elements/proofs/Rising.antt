-- The first number of a rising list that is at or above a sum is the least one that is.
use Rattle.std.proofs.Common.{arith, ◌≡◌, ◌<◌, ◌≤◌, ◌+◌, ◌-◌, ℕ, zero, suc, List, length, get_or, sym, subst, ◌∙◌, inl, inr}
use Rattle.std.proofs.lemmas.Bool.{cases_lt}
use Rattle.std.specs.List.Sorted.{IsStrictlyIncreasing}
use Rattle.std.proofs.lemmas.Grind.{get_or_default_zero}
use Rattle.std.proofs.lemmas.List.Elements.{Contains-get_or}
use Rattle.mc_elements.specs.Valences.{IsLeastValence}

-- a later entry isn't below an earlier one
rises : (xs : List ℕ) → IsStrictlyIncreasing xs → (i m : ℕ) → i + m < length xs → get_or xs i 0 ≤ get_or xs (i + m) 0
rises xs rising i zero within = subst (λ n. get_or xs i 0 ≤ get_or xs n 0) (let e : i ≡ i + 0 = omega arith in e) (omega arith)
rises xs rising i (suc m) within =
    let before : get_or xs i 0 ≤ get_or xs (i + m) 0 = rises xs rising i m (omega arith) in
    let next : get_or xs (i + m) 0 < get_or xs (i + m + 1) 0 = rising (i + m) (omega arith) in
    subst (λ n. get_or xs i 0 ≤ get_or xs n 0) (let e : i + m + 1 ≡ i + suc m = omega arith in e) (omega arith)

-- where all entries before this one are below the sum, and it isn't, it is the least valence
pub first_is_least : (xs : List ℕ) (sum valence i : ℕ) → IsStrictlyIncreasing xs
    → ((j : ℕ) → j < i → get_or xs j 0 < sum) → i < length xs → sum ≤ get_or xs i 0
    → IsLeastValence xs sum valence → get_or xs i 0 ≡ valence
first_is_least xs sum valence i rising below within enough least = at_its_place least.listed
  where
    at_its_place : (k : ℕ) × (k < length xs) × (get_or xs k valence ≡ valence) → get_or xs i 0 ≡ valence
    at_its_place (k, inside, is) =
        let is0 : get_or xs k 0 ≡ valence = sym (get_or_default_zero xs k valence inside) ∙ is in
        let high : sum ≤ valence = least.enough in
        let low : valence ≤ get_or xs i 0 = least.least (get_or xs i 0) (Contains-get_or xs i 0 within) enough in
        elim (cases_lt k i) [
          | inl early ↦ let b : get_or xs k 0 < sum = below k early in absurd (omega arith)
          | inr late ↦
              let e : i + (k - i) ≡ k = omega arith in
              let r : get_or xs i 0 ≤ get_or xs (i + (k - i)) 0 = rises xs rising i (k - i) (omega arith) in
              let r' : get_or xs i 0 ≤ get_or xs k 0 = subst (λ n. get_or xs i 0 ≤ get_or xs n 0) e r in
              omega arith
        ]

-- where all entries are below the sum, no valence is the least
pub none_is_least : (xs : List ℕ) (sum valence : ℕ) → ((j : ℕ) → j < length xs → get_or xs j 0 < sum)
    → IsLeastValence xs sum valence → ⊥
none_is_least xs sum valence below least = at_its_place least.listed
  where
    at_its_place : (k : ℕ) × (k < length xs) × (get_or xs k valence ≡ valence) → ⊥
    at_its_place (k, inside, is) =
        let is0 : get_or xs k 0 ≡ valence = sym (get_or_default_zero xs k valence inside) ∙ is in
        let high : sum ≤ valence = least.enough in
        let b : get_or xs k 0 < sum = below k inside in
        omega arith
