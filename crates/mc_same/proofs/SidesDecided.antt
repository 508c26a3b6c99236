-- The bond that is found decides whether sides agree.
use Rattle.std.proofs.Common.{◌≡◌, ◌∙◌, ◌↔◌, ℕ, Bool, true, List, Option, Some, slice_get, IsTrue, ap, sym, subst}
use Rattle.mc_base.specs.declared.ids.AtomId.{AtomId}
use Rattle.mc_mol.specs.declared.parts.Bond.{Bond}
use Rattle.mc_mol.specs.declared.parts.Sides.{Sides}
use Rattle.mc_mol.specs.Molecule.{Molecule, joins}
use Rattle.mc_mol.specs.WellFormed.{IsMolecule}
use Rattle.mc_mol.specs.Same.{SameSides, entry}
use Rattle.mc_same.specs.Between.{JoinedBy}
use Rattle.mc_same.specs.Differences.{SidesAgree}
use Rattle.std.proofs.lemmas.Option.{same_Some}
use Rattle.mc_mol.proofs.Apart.{one_bond}

pub sides_exact : (m n : Molecule) (f : List AtomId) (k l : ℕ) (bond counterpart : Bond) (s t : Option Sides) (result : Bool) → IsMolecule m
    → JoinedBy m (entry f bond.first.0) (entry f bond.second.0) l → slice_get n.bonds k ≡ Some bond → slice_get m.bonds l ≡ Some counterpart
    → slice_get n.sides k ≡ Some s → slice_get m.sides l ≡ Some t → (IsTrue result ↔ SameSides f n.bonds bond s counterpart t) → IsTrue result ↔ SidesAgree m n f k
sides_exact m n f k l bond counterpart s t result molecule by is_bond is_counterpart is_s is_t decides = (
  (λ yes_it_is. agree (decides.0 yes_it_is)),
  (λ all. decides.1 (all l bond counterpart s t is_bond is_counterpart joined is_s is_t)),
)
  where
    joined : joins counterpart (entry f bond.first.0) (entry f bond.second.0) ≡ true
    joined =
        let same : by.bond ≡ counterpart = same_Some by.bond counterpart (sym by.is_bond ∙ is_counterpart) in
        subst (λ (b : Bond). joins b (entry f bond.first.0) (entry f bond.second.0) ≡ true) same by.joined

    agree : SameSides f n.bonds bond s counterpart t → SidesAgree m n f k
    agree same = λ l2 bond2 counterpart2 s2 t2 at_bond at_counterpart joined2 at_s at_t.
        let bond_same : bond ≡ bond2 = same_Some bond bond2 (sym is_bond ∙ at_bond) in
        let joined_here : joins counterpart2 (entry f bond.first.0) (entry f bond.second.0) ≡ true = subst (λ (b : Bond). joins counterpart2 (entry f b.first.0) (entry f b.second.0) ≡ true) (sym bond_same) joined2 in
        let number : l ≡ l2 = one_bond m.bonds molecule.once l l2 (entry f bond.first.0) (entry f bond.second.0) counterpart counterpart2 is_counterpart at_counterpart joined joined_here in
        let counterpart_same : counterpart ≡ counterpart2 = same_Some counterpart counterpart2 (sym is_counterpart ∙ ap (λ i. slice_get m.bonds i) number ∙ at_counterpart) in
        let s_same : s ≡ s2 = same_Some s s2 (sym is_s ∙ at_s) in
        let t_same : t ≡ t2 = same_Some t t2 (sym is_t ∙ ap (λ i. slice_get m.sides i) number ∙ at_t) in
        subst (λ (b : Bond). SameSides f n.bonds b s2 counterpart2 t2) bond_same
        (subst (λ (x : Option Sides). SameSides f n.bonds bond x counterpart2 t2) s_same
        (subst (λ (b : Bond). SameSides f n.bonds bond s b t2) counterpart_same (subst (λ (x : Option Sides). SameSides f n.bonds bond s counterpart x) t_same same)))
