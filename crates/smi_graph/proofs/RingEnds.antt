-- Where ring numbers are open behind one more token.
use Rattle.std.proofs.Common.{◌≡◌, ◌≢◌, ◌∙◌, ℕ, zero, suc, List, [], ◌∷◌, ◌++◌, get_or, Bool, true, false, Option, Some, None, refl, ap, sym, inl, inr}
use Rattle.std.specs.Prelude.{◌==◌, not, if◌then◌else◌}
use Rattle.std.proofs.lemmas.Bool.{cases_eq, false≢true, ne_eqb}
use Rattle.mc_mol.proofs.Halves.{same_test}
use Rattle.smi_graph.specs.declared.ring_table.RingEnd.{RingEnd}
use Rattle.smi_graph.specs.declared.role.Role.{Role}
use Rattle.smi_graph.specs.declared.role.Role.TheVariants.{Atom, Bond, Ring, Enter, Leave, Dot}
use Rattle.smi_graph.specs.Bonds.{ring_count, is_even, ring_end, latest_end, open_end}
use Rattle.smi_graph.specs.RingTables.{turned}

-- room for one more number
pub ends_more : (ends : List (Option RingEnd)) (n : ℕ) → get_or (ends ++ None ∷ []) n None ≡ get_or ends n None
ends_more [] zero = refl
ends_more [] (suc n) = refl
ends_more (x ∷ ends) zero = refl
ends_more (x ∷ ends) (suc n) = ends_more ends n

-- a number that stands an odd number of times stands somewhere
latest_some : (n : ℕ) (before : List Role) → is_even (ring_count n before) ≡ false → (here : RingEnd) → turned (latest_end n before) here ≡ None
latest_some n [] odd here = absurd (false≢true (sym odd))
latest_some n (Ring m ∷ before) odd here = elim (cases_eq m n) [
  | inl e ↦ let t : (m == n) ≡ true = ap (λ (x : ℕ). x == n) e ∙ same_test n in rw t refl
  | inr ne ↦ let t = ne_eqb m n ne in let odd' : is_even (ring_count n before) ≡ false = rw t at odd in rw t (latest_some n before odd' here)
]
latest_some n (Atom lower ∷ before) odd here = latest_some n before odd here
latest_some n (Bond mark ∷ before) odd here = latest_some n before odd here
latest_some n (Enter ∷ before) odd here = latest_some n before odd here
latest_some n (Leave ∷ before) odd here = latest_some n before odd here
latest_some n (Dot ∷ before) odd here = latest_some n before odd here

-- an equal number opens where none is open, and closes the one that is
pub open_end_same : (n : ℕ) (before : List Role) → open_end n (Ring n ∷ before) ≡ turned (open_end n before) (ring_end before)
open_end_same n before = rw (same_test n) (by_parity (is_even (ring_count n before)) refl)
  where
    by_parity : (even : Bool) → is_even (ring_count n before) ≡ even → (if not even then None else Some (ring_end before)) ≡ turned (if even then None else latest_end n before) (ring_end before)
    by_parity true e = refl
    by_parity false e = sym (latest_some n before e (ring_end before))

pub open_end_other : (m n : ℕ) (before : List Role) → m ≢ n → open_end n (Ring m ∷ before) ≡ open_end n before
open_end_other m n before ne = rw (ne_eqb m n ne) refl

-- what is kept of each number behind one more
pub ring_step : (m n : ℕ) (before : List Role) (end was : Option RingEnd) → end ≡ turned (open_end m before) (ring_end before) → was ≡ open_end n before
    → (if m == n then end else was) ≡ open_end n (Ring m ∷ before)
ring_step m n before end was turns is = elim (cases_eq m n) [
  | inl e ↦
      ap (λ (t : Bool). if t then end else was) (ap (λ (x : ℕ). x == n) e ∙ same_test n)
      ∙ (turns ∙ ap (λ (x : ℕ). turned (open_end x before) (ring_end before)) e
      ∙ (sym (open_end_same n before) ∙ ap (λ (x : ℕ). open_end n (Ring x ∷ before)) (sym e)))
  | inr ne ↦ ap (λ (t : Bool). if t then end else was) (ne_eqb m n ne) ∙ (is ∙ sym (open_end_other m n before ne))
]
