-- What the tests need: lists of centres, and the condition of `plan` from their tests.
use Rattle.std.proofs.Common.{◌≡◌, ◌≢◌, ◌∙◌, ℕ, zero, suc, ◌<◌, Bool, true, ◌&&◌, not, ◌==◌, List, [], ◌∷◌, Option, Some, length, get_or, slice_get, refl, sym, ap, subst, arith, inl, inr}
use Rattle.std.specs.Prelude.{AllPairs, Contains}
use Rattle.std.specs.List.{list_all, list_any}
use Rattle.std.proofs.lemmas.Bool.{and_parts, or_cases}
use Rattle.std.proofs.lemmas.Bool.Decides.{nat_tests}
use Rattle.std.proofs.lemmas.List.Sums.{AllPass-from_list_all}
use Rattle.std.proofs.lemmas.Map.Views.{Contains-from_any}
use Rattle.std.proofs.lemmas.Option.{slice_get_within, slice_get-get_or, get_or_from_slice_get}
use Rattle.std.proofs.lemmas.Map.Keys.{any_passes_from_place}
use Rattle.mc_base.specs.declared.ids.AtomId.{AtomId}
use Rattle.mc_mol.specs.declared.parts.HalfEdge.{HalfEdge}
use Rattle.mc_mol.specs.declared.parts.Slot.{Slot}
use Rattle.mc_mol.specs.declared.parts.Slot.TheVariants.{At}
use Rattle.mc_mol.specs.Molecule.{Molecule, are_joined}
use Rattle.mc_mol.specs.HalfEdges.{half_edges}
use Rattle.mc_mol.specs.Permutations.{same_slot, stands_in}
use Rattle.mc_mol.specs.WellFormed.{IsMolecule, IsPlaceList, IsSides, SidesFit}
use Rattle.mc_mol.specs.declared.parts.Bond.{Bond}
use Rattle.mc_mol.specs.declared.parts.Sides.{Sides}
use Rattle.mc_mol.proofs.Halves.{are_joined-half_edges}
use Rattle.mc_mol.proofs.Neighbours.{joined_ends}
use Rattle.ct_geometry.proofs.Usable.{joined_of}
use Rattle.lay_wedge.specs.Fitting.{CentreFits, are_different, leads_to, may_be_list}
use Rattle.lay_wedge.specs.Plans.{HasSoundCentres}
use Rattle.mc_mol.proofs.Slots.{same_is, same_self}

at_number : (a : AtomId) (v : ℕ) → a.0 ≡ v → At a ≡ At (record { 0 = v })
at_number a v e = ap (λ (n : ℕ). At (record { 0 = n })) e

found_at : {A : Type 0} (f : A → Bool) (xs : List A) → list_any f xs ≡ true → (i : ℕ) × (x : A) × (slice_get xs i ≡ Some x) × (f x ≡ true)
found_at f [] e = cc
found_at f (x ∷ xs) e = elim (or_cases (f x) (list_any f xs) e) [
  | inl here ↦ (0, x, refl, here)
  | inr there ↦ let rest = found_at f xs there in (suc rest.0, rest.1, rest.2, rest.3)
]

differ_of : (places : List Slot) → are_different places ≡ true → AllPairs (λ (p q : Slot). p ≢ q) places
differ_of [] e i j d less within = absurd (omega arith)
differ_of (p ∷ places) e zero zero d less within = absurd (omega arith)
differ_of (p ∷ places) e (suc i) zero d less within = absurd (omega arith)
differ_of (p ∷ places) e zero (suc j) d less within = λ same. (
    let both = and_parts (not (stands_in places p)) (are_different places) e in
    let found : stands_in places p ≡ true = any_passes_from_place (same_slot p) places j (get_or places j d) (slice_get-get_or places j d (omega arith)) (ap (same_slot p) (sym same) ∙ same_self p) in
    let none = both.0 in
    cc)
differ_of (p ∷ places) e (suc i) (suc j) d less within = differ_of places (and_parts (not (stands_in places p)) (are_different places) e).1 i j d (omega arith) (omega arith)

module _ (m : Molecule) (a : ℕ) (places : List Slot) (is : IsMolecule m) where
  joined_if : (v : ℕ) → list_all (leads_to (half_edges m a)) places ≡ true → Contains places (At (record { 0 = v })) → are_joined m.bonds a v ≡ true
  joined_if v all (k, within, same) =
      let v_at : Slot = At (record { 0 = v }) in
      let leads : leads_to (half_edges m a) v_at ≡ true = ap (leads_to (half_edges m a)) (sym same) ∙ AllPass-from_list_all (leads_to (half_edges m a)) places all k v_at within in
      let found = found_at (λ (half : HalfEdge). half.to.0 == v) (half_edges m a) leads in
      let number : found.1.to.0 ≡ v = number_of found.1.to.0 v found.3 in
      subst (λ (n : ℕ). are_joined m.bonds a n ≡ true) number (joined_of m a found.0 found.1 is found.2)
    where
      number_of : (n v : ℕ) → (n == v) ≡ true → n ≡ v
      number_of n v e = grind (arith, nat_tests)

  stands_if : (v : ℕ) → list_all (λ (half : HalfEdge). stands_in places (At half.to)) (half_edges m a) ≡ true → are_joined m.bonds a v ≡ true → Contains places (At (record { 0 = v }))
  stands_if v all joined =
      let ends = joined_ends (length m.atoms) m.bonds a v is.bonds joined in
      let found = found_at (λ (half : HalfEdge). half.to.0 == v) (half_edges m a) (are_joined-half_edges m a v ends.different ∙ joined) in
      let test = AllPass-from_list_all (λ (half : HalfEdge). stands_in places (At half.to)) (half_edges m a) all found.0 found.1 (slice_get_within (half_edges m a) found.0 found.1 found.2) in
      let same : get_or (half_edges m a) found.0 found.1 ≡ found.1 = get_or_from_slice_get (half_edges m a) found.0 found.1 found.1 found.2 in
      let stands : stands_in places (At found.1.to) ≡ true = ap (λ (half : HalfEdge). stands_in places (At half.to)) (sym same) ∙ test in
      subst (λ (slot : Slot). Contains places slot) (at_number found.1.to v (number_of found.1.to.0 v found.3)) (Contains-from_any same_is (At found.1.to) places stands)
    where
      number_of : (n v : ℕ) → (n == v) ≡ true → n ≡ v
      number_of n v e = grind (arith, nat_tests)

  pub list_fits : length places ≡ 4 → may_be_list (half_edges m a) places ≡ true → IsPlaceList m.bonds a places
  list_fits four e =
      let first = and_parts (are_different places) (list_all (leads_to (half_edges m a)) places && list_all (λ (half : HalfEdge). stands_in places (At half.to)) (half_edges m a)) e in
      let rest = and_parts (list_all (leads_to (half_edges m a)) places) (list_all (λ (half : HalfEdge). stands_in places (At half.to)) (half_edges m a)) first.1 in
      record { four = four; different = differ_of places first.0; neighbours = λ v. (joined_if v rest.0, stands_if v rest.1) }

pub sound_of : (m : Molecule) (sizes : List (Option ℕ)) → IsMolecule m → ((a : ℕ) → a < length m.atoms → CentreFits m sizes a) → HasSoundCentres m
sound_of m sizes is fit a places centre =
    let within = slice_get_within m.centres a (Some places) centre in
    let count = is.centre_count in
    (sizes, fit a (omega arith) places centre)

-- the ends of a double bond are joined to these neighbours
pub sides_fit : (bonds : List Bond) (k : ℕ) (bond : Bond) (sides : Sides) → slice_get bonds k ≡ Some bond → bond.order ≡ 2 → are_joined bonds bond.first.0 sides.first.0 ≡ true → are_joined bonds bond.second.0 sides.second.0 ≡ true
    → sides.first.0 ≢ bond.second.0 → sides.second.0 ≢ bond.first.0 → SidesFit bonds k sides
sides_fit bonds k bond sides at double at_first at_second first second other at_other =
    subst (λ (b : Bond). IsSides bonds b sides) (let same : bond ≡ other = cc in same) (record { double = double; at_first = at_first; at_second = at_second; first = first; second = second })
