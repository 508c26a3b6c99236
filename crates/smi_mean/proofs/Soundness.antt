-- What a text stands for is within the limits.
use Rattle.std.proofs.Common.{arith, ◌≡◌, ◌∙◌, ℕ, ◌+◌, ◌-◌, ◌≤◌, ◌<◌, List, length, Bool, true, false, Option, Some, None, refl, sym, ap, subst}
use Rattle.std.specs.Prelude.{map, slice_get, option_map, nat_abs, nat_lt, if◌then◌else◌}
use Rattle.std.proofs.lemmas.Bool.Decides.{nat_tests}
use Rattle.std.proofs.lemmas.Bool.{false_from_ne_true, ltb-false}
use Rattle.mc_base.specs.declared.kind.Kind.TheVariants.{LimitRings, LimitIsotope, LimitClass, LimitCharge}
use Rattle.mc_mol.specs.declared.parts.Atom.{Atom}
use Rattle.mc_mol.specs.Molecule.{Molecule, bond_sum}
use Rattle.mc_mol.specs.Parts.{independent_rings}
use Rattle.mc_mol.specs.declared.limits.TheConstants.{RING_LIMIT, ISOTOPE_LIMIT, CLASS_LIMIT, CHARGE_LIMIT}
use Rattle.mc_mol.specs.Limits.{IsAtomWithinLimits, overvalent_at, hydrogen_on_hydrogen_at}
use Rattle.smi_lex.specs.Reading.{IsReading}
use Rattle.smi_lex.specs.Tokens.{tokens, unread}
use Rattle.smi_graph.specs.declared.skel_atom.SkelAtom.{SkelAtom}
use Rattle.smi_graph.specs.Rules.{atoms_in, bonds_in, fails, has_high_isotope, has_high_class, has_high_charge}
use Rattle.smi_graph.specs.declared.text_bond.TextBond.{TextBond}
use Rattle.smi_graph.specs.Links.{bond_of}
use Rattle.smi_graph.specs.Skeletons.{TextGraph, IsSkeleton}
use Rattle.smi_mean.specs.Meaning.{bare_hydrogens, hydrogens_of, meant_atom, atoms_with, with_centres}
use Rattle.smi_mean.specs.MeantCentres.{centres_in}
use Rattle.smi_mean.specs.Meant.{IsMeantBy}
use Rattle.smi_mean.specs.Placements.{meaning_under}
use Rattle.smi_mean.specs.Sound.{IsSound}
use Rattle.smi_mean.proofs.CentresMarked.{centres_may}
use Rattle.smi_mean.proofs.MeantAtoms.{meant_at, length_atoms}
use Rattle.smi_mean.proofs.Needing.{overvalent_same}
use Rattle.smi_mean.proofs.Raised.{overvalent_under, rings_raised}
use Rattle.smi_mean.proofs.LowHydrogens.{implied_low, lower_low, atoms_low}

was : {A B : Type 0} (f : A → B) (o : Option A) (b : B) → option_map f o ≡ Some b → (a : A) × (o ≡ Some a) × (f a ≡ b)
was f None b h = cc
was f (Some a) b h = (a, refl, same (f a) b h)
  where
    same : {B : Type 0} (x y : B) → Some x ≡ Some y → x ≡ y
    same x y h = cc

below : (count most : ℕ) → ((place : ℕ) → (place ≡ count) × (most < count) → ⊥) → count ≤ most
below count most none = ltb-false most count (false_from_ne_true (nat_lt most count) (λ t. none count (refl, above t)))
  where
    above : nat_lt most count ≡ true → most < count
    above t = grind (arith, nat_tests)

few_hydrogens : (a : SkelAtom) (sum : ℕ) → a.hydrogens ≤ 9 → hydrogens_of a sum ≤ 9
few_hydrogens a sum few = by_test a.bare
  where
    by_case : (t : Bool) → bare_hydrogens t a.element sum ≤ 9
    by_case true = lower_low a.element sum
    by_case false = implied_low a.element sum

    by_test : (t : Bool) → (if t then bare_hydrogens a.lower a.element sum else a.hydrogens) ≤ 9
    by_test true = by_case a.lower
    by_test false = few

pub sound_of : (text : List ℕ) (skeleton : TextGraph) (m : Molecule) → IsReading text 0 (tokens text) (length text - length (unread text)) → IsSkeleton text skeleton → IsMeantBy skeleton m → IsSound m
sound_of text skeleton m reading s h =
    let placed : List Bool = h.under.placed in
    let is : m ≡ with_centres (centres_in skeleton) (meaning_under (atoms_in text) (bonds_in text) placed) =
    h.under.molecule
    ∙ (ap (λ (x : List SkelAtom). with_centres (centres_in skeleton) (meaning_under x (map bond_of skeleton.bonds) placed)) s.atoms
    ∙ ap (λ (x : List TextBond). with_centres (centres_in skeleton) (meaning_under (atoms_in text) (map bond_of x) placed)) s.bonds) in
    let rings : independent_rings (bonds_in text) (length (atoms_in text)) ≤ RING_LIMIT = below (independent_rings (bonds_in text) (length (atoms_in text))) RING_LIMIT (λ place w. s.accepted LimitRings place w) in
    let len : length (atoms_with (bonds_in text) 0 (atoms_in text)) ≡ length (atoms_in text) = length_atoms (bonds_in text) 0 (atoms_in text) in
    record {
      within = record {
        atoms = λ k atom at. by_atom k atom (was (λ a. meant_atom a (bond_sum (bonds_in text) (0 + k))) (slice_get (atoms_in text) k) atom
            (sym (meant_at (bonds_in text) 0 (atoms_in text) k) ∙ (sym (ap (λ (x : Molecule). slice_get x.atoms k) is) ∙ at)));
        rings = subst (λ (x : Molecule). independent_rings x.bonds (length x.atoms) ≤ RING_LIMIT) (sym is)
            (subst (λ (n : ℕ). n ≤ RING_LIMIT) (sym (rings_raised placed (bonds_in text) (length (atoms_with (bonds_in text) 0 (atoms_in text)))))
            (subst (λ (n : ℕ). independent_rings (bonds_in text) n ≤ RING_LIMIT) (sym len) rings));
        valences = λ k. ap (λ (x : Molecule). overvalent_at x k) h.under.molecule ∙ overvalent_under skeleton.atoms skeleton.bonds placed h.under.placement k
            ∙ overvalent_same skeleton.atoms (map bond_of skeleton.bonds) k ∙ h.right.valences k;
        hydrogens = λ k. ap (λ (x : Molecule). hydrogen_on_hydrogen_at x k) h.under.molecule ∙ h.right.hydrogens k;
      };
      centres = λ a places at. centres_may skeleton m a places h.under h.marks at;
      no_sides = rw is refl;
    }
  where
    fine : (k : ℕ) (a : SkelAtom) (p : SkelAtom → Bool) → slice_get (atoms_in text) k ≡ Some a → (fails p (slice_get (atoms_in text) k) ≡ true → ⊥) → p a ≡ false
    fine k a p at none = sym (ap (fails p) at) ∙ false_from_ne_true (fails p (slice_get (atoms_in text) k)) none

    by_atom : (k : ℕ) (atom : Atom) → (a : SkelAtom) × (slice_get (atoms_in text) k ≡ Some a) × (meant_atom a (bond_sum (bonds_in text) (0 + k)) ≡ atom) → IsAtomWithinLimits atom
    by_atom k atom (a, at, made) = subst IsAtomWithinLimits made (record {
      isotope = ltb-false ISOTOPE_LIMIT a.isotope (fine k a has_high_isotope at (λ holds. s.accepted LimitIsotope (k + 1) (k, refl, holds)));
      class = ltb-false CLASS_LIMIT a.class (fine k a has_high_class at (λ holds. s.accepted LimitClass (k + 1) (k, refl, holds)));
      charge = ltb-false CHARGE_LIMIT (nat_abs a.charge) (fine k a has_high_charge at (λ holds. s.accepted LimitCharge (k + 1) (k, refl, holds)));
      hydrogens = few_hydrogens a _ (atoms_low text reading k a at);
    })
