-- Joined atoms.
use Rattle.std.proofs.Common.{All, Bool, List, Some, [], ap, false, inl, inr, refl, reverse, slice_get, subst, suc, sym, true, zero, ℕ, ◌&&◌, ◌<◌, ◌==◌, ◌||◌, ◌∙◌, ◌∷◌, ◌≡◌, ◌≢◌, ◌⊎◌}
use Rattle.std.proofs.lemmas.Bool.{or_cases}
use Rattle.std.proofs.lemmas.List.{reverse-reverse}
use Rattle.mc_mol.proofs.Apart.{joins_cases, are_joined_turned}
use Rattle.mc_mol.proofs.Halves.{same_test}
use Rattle.mc_mol.proofs.Lists.{All-head, All-reverse, All-tail}
use Rattle.mc_mol.proofs.Twins.{twins_by}
use Rattle.mc_mol.specs.HalfEdges.{LeadToNeighbours, half_edges_in}
use Rattle.mc_mol.specs.Molecule.{are_joined, joins}
use Rattle.mc_mol.specs.WellFormed.{IsBond}
use Rattle.mc_mol.specs.declared.parts.Bond.{Bond}

-- A half-edge is a step, and each step from an atom is one of its half-edges.

pub joined_at : (bonds : List Bond) (k : ℕ) (bond : Bond) (u v : ℕ) → slice_get bonds k ≡ Some bond → joins bond u v ≡ true → are_joined bonds u v ≡ true
joined_at [] k bond u v at e = cc
joined_at (b ∷ bonds) zero bond u v at e =
    let first : joins b u v ≡ true = let same : b ≡ bond = some_bond b bond at in subst (λ (c : Bond). joins c u v ≡ true) (sym same) e in
    ap (λ t. t || are_joined bonds u v) first
  where
    some_bond : (b c : Bond) → Some b ≡ Some c → b ≡ c
    some_bond b c e = cc
joined_at (b ∷ bonds) (suc k) bond u v at e = or_true (joins b u v) (are_joined bonds u v) (joined_at bonds k bond u v at e)
  where
    or_true : (s t : Bool) → t ≡ true → (s || t) ≡ true
    or_true true t e = refl
    or_true false t e = e

pub joined_back : (bonds : List Bond) (x y : ℕ) → are_joined bonds x y ≡ true → are_joined bonds y x ≡ true
joined_back bonds x y e = are_joined_turned bonds y x ∙ e

-- joined atoms are two atoms of the molecule
pub record AreEnds (n x y : ℕ) : Type 0 where
  pub first : x < n
  pub second : y < n
  pub different : x ≢ y

ends_of : (n : ℕ) (bond : Bond) (x y : ℕ) → IsBond n bond → ((bond.first.0 ≡ x) × (bond.second.0 ≡ y)) ⊎ ((bond.first.0 ≡ y) × (bond.second.0 ≡ x)) → AreEnds n x y
ends_of n bond x y is (inl (at_first, at_second)) = record {
  first = subst (λ (k : ℕ). k < n) at_first is.first;
  second = subst (λ (k : ℕ). k < n) at_second is.second;
  different = λ same. is.different (at_first ∙ same ∙ sym at_second);
}
ends_of n bond x y is (inr (at_first, at_second)) = record {
  first = subst (λ (k : ℕ). k < n) at_second is.second;
  second = subst (λ (k : ℕ). k < n) at_first is.first;
  different = λ same. is.different (at_first ∙ sym same ∙ sym at_second);
}

pub joined_ends : (n : ℕ) (bonds : List Bond) (x y : ℕ) → All (IsBond n) bonds → are_joined bonds x y ≡ true → AreEnds n x y
joined_ends n [] x y all e = cc
joined_ends n (bond ∷ bonds) x y all e = elim (or_cases (joins bond x y) (are_joined bonds x y) e) [
  | inl here ↦ ends_of n bond x y (All-head (IsBond n) bond bonds all) (joins_cases bond x y here)
  | inr there ↦ joined_ends n bonds x y (All-tail (IsBond n) bond bonds all) there
]

pub bond_joined : (bonds : List Bond) (k : ℕ) (bond : Bond) → slice_get bonds k ≡ Some bond → are_joined bonds bond.first.0 bond.second.0 ≡ true
bond_joined bonds k bond at = joined_at bonds k bond bond.first.0 bond.second.0 at (rw (same_test bond.first.0, same_test bond.second.0) refl)

-- the bond of joined atoms
pub bond_number : (bonds : List Bond) (u v : ℕ) → are_joined bonds u v ≡ true → (number : ℕ) × (bond : Bond) × (slice_get bonds number ≡ Some bond) × (joins bond u v ≡ true)
bond_number [] u v e = cc
bond_number (bond ∷ bonds) u v e = elim (or_cases (joins bond u v) (are_joined bonds u v) e) [
  | inl here ↦ (0, bond, refl, here)
  | inr there ↦ let rest = bond_number bonds u v there in (suc rest.0, rest.1, rest.2, rest.3)
]

-- each half-edge leads to a neighbour
pub lead_to_neighbours : (n : ℕ) (bonds : List Bond) (a : ℕ) → All (IsBond n) bonds → LeadToNeighbours n bonds a (half_edges_in bonds a)
lead_to_neighbours n bonds a all place half at =
    let t = twins_by (reverse bonds) n (record { 0 = a }) place half (All-reverse (IsBond n) bonds all) at in
    let is_bond = ap (λ (bs : List Bond). slice_get bs half.bond.0) (sym (reverse-reverse bonds)) ∙ t.is_bond in
    (t.to, joined_at bonds half.bond.0 t.bond a half.to.0 is_bond t.joined)
