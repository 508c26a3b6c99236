-- A list with one value changed.
use Rattle.std.proofs.Common.{◌≡◌, ◌≢◌, ℕ, zero, suc, ◌+◌, ◌<◌, Bool, true, false, List, [], ◌∷◌, Some, length, slice_get, slice_set, refl, ap, sym, subst, arith, inl, inr}
use Rattle.std.proofs.lemmas.Bool.{cases_lt}
use Rattle.mc_mol.specs.Molecule.{Molecule}
use Rattle.lay_wedge.specs.Underway.{ArePlannedBelow, IsPlanned, KeepPlanned, waiting}

pub set_here : {A : Type 0} (xs : List A) (i : ℕ) (y : A) → i < length xs → slice_get (slice_set xs i y) i ≡ Some y
set_here [] i y within = absurd (omega arith)
set_here (x ∷ xs) zero y within = refl
set_here (x ∷ xs) (suc i) y within = set_here xs i y (omega arith)

pub set_else : {A : Type 0} (xs : List A) (i k : ℕ) (y z : A) → k ≢ i → slice_get xs k ≡ Some z → slice_get (slice_set xs i y) k ≡ Some z
set_else [] i k y z ne at = cc
set_else (x ∷ xs) zero zero y z ne at = absurd (ne refl)
set_else (x ∷ xs) zero (suc k) y z ne at = at
set_else (x ∷ xs) (suc i) zero y z ne at = at
set_else (x ∷ xs) (suc i) (suc k) y z ne at = set_else xs i k y z (λ e. ne (ap (λ (n : ℕ). suc n) e)) at

pub waiting_less : (planned : List Bool) (a : ℕ) → slice_get planned a ≡ Some false → waiting (slice_set planned a true) < waiting planned
waiting_less [] a at = cc
waiting_less (true ∷ planned) zero at = cc
waiting_less (false ∷ planned) zero at = omega arith
waiting_less (true ∷ planned) (suc a) at = waiting_less planned a at
waiting_less (false ∷ planned) (suc a) at = let h = waiting_less planned a at in omega arith

pub keep_planned : (planned : List Bool) (a : ℕ) → slice_get planned a ≡ Some false → KeepPlanned planned (slice_set planned a true)
keep_planned planned a waits b at = set_else planned a b true true (λ e. (let moved : slice_get planned a ≡ Some true = subst (λ (n : ℕ). slice_get planned n ≡ Some true) e at in cc)) at

pub keep_on : (first second third : List Bool) → KeepPlanned first second → KeepPlanned second third → KeepPlanned first third
keep_on first second third one other b at = other b (one b at)

-- one more atom
pub planned_more : (m : Molecule) (old new : List Bool) (k : ℕ) → ArePlannedBelow m old k → KeepPlanned old new → IsPlanned m new k → ArePlannedBelow m new (k + 1)
planned_more m old new k below keep here a low places centre = elim (cases_lt a k) [
  | inl less ↦ keep a (below a less places centre)
  | inr more ↦ (let e : a ≡ k = omega arith in subst (λ (n : ℕ). IsPlanned m new n) (sym e) here places centre)
]
