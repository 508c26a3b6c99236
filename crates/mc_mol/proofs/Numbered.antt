-- Numbers that atoms get, one after another.
use Rattle.std.proofs.Common.{List, None, Option, Some, [], ap, arith, inl, inr, length, refl, replicate, slice_get, slice_set, subst, suc, sym, true, zero, ℕ, ◌+◌, ◌<◌, ◌==◌, ◌||◌, ◌∙◌, ◌∷◌, ◌≡◌, ◌≢◌, ◌⊎◌}
use Rattle.std.proofs.lemmas.Bool.{cases_eq, ne_eqb}
use Rattle.std.specs.List.{list_any}
use Rattle.mc_base.specs.declared.ids.AtomId.{AtomId}
use Rattle.mc_mol.proofs.Lists.{slice_get-slice_set}
use Rattle.mc_mol.specs.Numbered.{Keeps, Mark, unmarked}
use Rattle.mc_mol.specs.declared.parts.HalfEdge.{HalfEdge}

-- a value that is set is there, and no other changes

pub set_here : {A : Type 0} (xs : List A) (i : ℕ) (x y : A) → slice_get xs i ≡ Some x → slice_get (slice_set xs i y) i ≡ Some y
set_here [] i x y e = cc
set_here (z ∷ xs) zero x y e = refl
set_here (z ∷ xs) (suc i) x y e = set_here xs i x y e

pub set_other : {A : Type 0} (xs : List A) (i k : ℕ) (y : A) → k ≢ i → slice_get (slice_set xs i y) k ≡ slice_get xs k
set_other [] i k y ne = refl
set_other (z ∷ xs) zero zero y ne = absurd (ne refl)
set_other (z ∷ xs) zero (suc k) y ne = refl
set_other (z ∷ xs) (suc i) zero y ne = refl
set_other (z ∷ xs) (suc i) (suc k) y ne = set_other xs i k y (λ e. ne (ap (λ (n : ℕ). suc n) e))

pub unmarked-set : (marks : List (Option ℕ)) (a d : ℕ) → slice_get marks a ≡ Some None → unmarked (slice_set marks a (Some d)) + 1 ≡ unmarked marks
unmarked-set [] a d e = cc
unmarked-set (Some m ∷ marks) zero d e = cc
unmarked-set (None ∷ marks) zero d e = omega arith
unmarked-set (Some m ∷ marks) (suc a) d e = let h = unmarked-set marks a d e in omega arith
unmarked-set (None ∷ marks) (suc a) d e = let h = unmarked-set marks a d e in omega arith

pub mark_kept : (marks : List (Option ℕ)) (y e : ℕ) → slice_get marks y ≡ Some None → Keeps marks (slice_set marks y (Some e))
mark_kept marks y e free a d at = set_other marks y a (Some e) (λ same. let there : slice_get marks y ≡ Some (Some d) = subst (λ (n : ℕ). Mark marks n d) same at in cc) ∙ at

pub mark_from : (marks : List (Option ℕ)) (y e a d : ℕ) → Mark (slice_set marks y (Some e)) a d → ((a ≡ y) × (d ≡ e)) ⊎ Mark marks a d
mark_from marks y e a d at = elim (slice_get-slice_set marks y a (Some e) (Some d) at) [
  | inl here ↦ inl (here.0, number here.1)
  | inr there ↦ inr there
]
  where
    number : Some d ≡ Some e → d ≡ e
    number same = cc

abbrev pub made : ℕ → AtomId
made n = record { 0 = n }

pub atom_is : (a : AtomId) (b : ℕ) → Some a ≡ Some (made b) → a.0 ≡ b
atom_is a b e = ap (λ (c : AtomId). c.0) (inside a (made b) e)
  where
    inside : (x y : AtomId) → Some x ≡ Some y → x ≡ y
    inside x y e = cc

-- nothing but the start has a number
abbrev pub nobody : ℕ → List (Option ℕ)
nobody n = replicate n None

pub none_marked : (n a d : ℕ) → Mark (nobody n) a d → ⊥
none_marked zero a d e = cc
none_marked (suc n) zero d e = cc
none_marked (suc n) (suc a) d e = none_marked n a d e

pub free_at : (n u : ℕ) → u < n → slice_get (nobody n) u ≡ Some None
free_at zero u h = absurd (omega arith)
free_at (suc n) zero h = refl
free_at (suc n) (suc u) h = free_at n u (omega arith)

pub unmarked-replicate : (n : ℕ) → unmarked (nobody n) ≡ n
unmarked-replicate zero = refl
unmarked-replicate (suc n) = let h = unmarked-replicate n in omega arith

pub length-none : (n : ℕ) → length (nobody n) ≡ n
length-none zero = refl
length-none (suc n) = let h = length-none n in omega arith

pub leads_to : (halves : List HalfEdge) (y : ℕ) → list_any (λ (half : HalfEdge). half.to.0 == y) halves ≡ true → (k : ℕ) × (half : HalfEdge) × (slice_get halves k ≡ Some half) × (half.to.0 ≡ y)
leads_to [] y e = cc
leads_to (half ∷ halves) y e = elim (cases_eq half.to.0 y) [
  | inl here ↦ (0, half, refl, here)
  | inr other ↦
      let found = leads_to halves y (ap (λ b. b || list_any (λ (half : HalfEdge). half.to.0 == y) halves) (sym (ne_eqb half.to.0 y other)) ∙ e) in
      (suc found.0, found.1, found.2, found.3)
]
