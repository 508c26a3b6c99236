-- Whether an atom or a bond of a molecule fits a text, as it is looked at.
use Rattle.std.proofs.Common.{◌≡◌, ◌∙◌, ◌↔◌, ◌<◌, ◌+◌, ◌-◌, ℕ, Bool, true, false, List, length, map, Some, IsTrue, refl, ap, sym, subst, slice_get, arith}
use Rattle.std.specs.Prelude.{not, ◌&&◌, ◌||◌}
use Rattle.std.proofs.lemmas.Bool.{false≢true}
use Rattle.std.proofs.lemmas.Option.{same_Some}
use Rattle.mc_base.specs.declared.ids.AtomId.{AtomId}
use Rattle.mc_base.specs.declared.verdict.Verdict.{Verdict}
use Rattle.mc_base.specs.declared.verdict.Verdict.TheVariants.{True, Length, Range, Repeat, Atom, Bonds, Bond, Centre, Sides}
use Rattle.mc_mol.specs.declared.parts.Bond.{Bond as BondParts}
use Rattle.mc_mol.specs.Molecule.{Molecule}
use Rattle.mc_mol.specs.Same.{HasBond, entry}
use Rattle.smi_mean.specs.Meant.{molecule_under}
use Rattle.smi_mean.proofs.MeantAtoms.{length_atoms}
use Rattle.smi_graph.specs.Candidates.{marked}
use Rattle.smi_graph.specs.Links.{bond_of}
use Rattle.smi_graph.specs.Skeletons.{TextGraph}
use Rattle.mc_same.specs.Differences.{FailsFirst, IsVerdict, SameAtom, SameBond, SameGraph, InRange, IsNew, Holds}
use Rattle.mc_same.specs.Stands.{BondFits, FitsGraph, IsFitVerdict, IsStandsVerdict}
use Rattle.mc_same.proofs.OneDifference.{not_held}

atom_cases : (same needing bonded : Bool) (A : Type 0) → (IsTrue same ↔ A) → IsTrue (same && (not needing || bonded)) ↔ (A × (needing ≡ true → bonded ≡ true))
atom_cases true true true A is = ((λ h. (is.0 refl, λ e. refl)), (λ h. refl))
atom_cases true true false A is = ((λ h. absurd (false≢true h)), (λ h. h.1 refl))
atom_cases true false bonded A is = ((λ h. (is.0 refl, λ e. absurd (false≢true e))), (λ h. refl))
atom_cases false needing bonded A is = ((λ h. absurd (false≢true h)), (λ h. is.1 h.0))

pub atom_decides : (r same needing bonded n b : Bool) (A : Type 0) → r ≡ (same && (not needing || bonded)) → needing ≡ n → bonded ≡ b → (IsTrue same ↔ A) → IsTrue r ↔ (A × (n ≡ true → b ≡ true))
atom_decides r same needing bonded n b A is needing_is bonded_is decides = rw (is, needing_is, bonded_is) (atom_cases same n b A decides)

bond_cases : (found first second : Bool) (H L M : Type 0) → (IsTrue found ↔ H) → (IsTrue first ↔ L) → (IsTrue second ↔ M) → IsTrue (found && first && second) ↔ (H × L × M)
bond_cases true true true H L M a b c = ((λ h. (a.0 refl, b.0 refl, c.0 refl)), (λ h. refl))
bond_cases true true false H L M a b c = ((λ h. absurd (false≢true h)), (λ h. c.1 h.2))
bond_cases true false r H L M a b c = ((λ h. absurd (false≢true h)), (λ h. b.1 h.1))
bond_cases false q r H L M a b c = ((λ h. absurd (false≢true h)), (λ h. a.1 h.0))

-- a test that is a mark
by_mark : (test mark : Bool) → test ≡ mark → IsTrue test ↔ (mark ≡ true)
by_mark test mark is = ((λ h. sym is ∙ h), (λ h. is ∙ h))

pub bond_decides : (m : Molecule) (lying : List Bool) (n : Molecule) (f : List AtomId) (k : ℕ) (bond : BondParts) (r found first second : Bool)
    → slice_get n.bonds k ≡ Some bond → r ≡ (found && first && second) → (IsTrue found ↔ HasBond m.bonds (entry f bond.first.0) (entry f bond.second.0) bond.order)
    → first ≡ marked lying (entry f bond.first.0) → second ≡ marked lying (entry f bond.second.0) → IsTrue r ↔ BondFits m lying n f k
bond_decides m lying n f k bond r found first second at is has fits also =
    let decides = bond_cases found first second _ _ _ has (by_mark first (marked lying (entry f bond.first.0)) fits) (by_mark second (marked lying (entry f bond.second.0)) also) in
    rw is (
      (λ h other there. subst
          (λ (x : BondParts). HasBond m.bonds (entry f x.first.0) (entry f x.second.0) x.order × (marked lying (entry f x.first.0) ≡ true) × (marked lying (entry f x.second.0) ≡ true))
          (same_Some bond other (sym at ∙ there)) (decides.0 h)),
      (λ all. decides.1 (all bond at)),
    )

-- what fits is the same
pub fits_same : (m : Molecule) (needs lying : List Bool) (n : Molecule) (f : List AtomId) → FitsGraph m needs lying n f → SameGraph m n f
fits_same m needs lying n f fits = (fits.0, (λ k less. (fits.1 k less).0), fits.2, (λ k less bond at. (fits.3 k less bond at).0))

-- where the points before stereo hold, the verdict of two molecules is that of the text
pub stereo_verdict : (m : Molecule) (needs lying : List Bool) (n : Molecule) (f : List AtomId) (v : Verdict) → FitsGraph m needs lying n f
    → IsVerdict m n f v → IsFitVerdict m needs lying n f v
stereo_verdict m needs lying n f True fits same = (
  fits,
  (λ k within q p at_q at_p. same.centres k q p within at_q at_p),
  (λ k within l bond counterpart s t is_bond is_counterpart joined at_s at_t. same.sides k l bond counterpart s t is_bond is_counterpart joined at_s at_t),
)
stereo_verdict m needs lying n f Length fits is = absurd (is fits.0.0)
stereo_verdict m needs lying n f (Range k) fits is = absurd (not_held (length f) (InRange m f) k is.1 fits.0.1)
stereo_verdict m needs lying n f (Repeat k) fits is = absurd (not_held (length f) (IsNew f) k is.2 fits.0.2)
stereo_verdict m needs lying n f (Atom k) fits is = absurd (not_held (length f) (SameAtom m n f) k is.1 (fits_same m needs lying n f fits).1)
stereo_verdict m needs lying n f Bonds fits is = absurd (is.2 fits.2)
stereo_verdict m needs lying n f (Bond k) fits is = absurd (not_held (length n.bonds) (SameBond m n f) k is.3 (fits_same m needs lying n f fits).3)
stereo_verdict m needs lying n f (Centre k) fits is = (fits, is.1)
stereo_verdict m needs lying n f (Sides k) fits is = (fits, is.1, is.2)

pub count_of_text : (skeleton : TextGraph) (doubles : List Bool) (m : Molecule) → m ≡ molecule_under skeleton doubles → length m.atoms ≡ length skeleton.atoms
count_of_text skeleton doubles m is = ap (λ (x : Molecule). length x.atoms) is ∙ length_atoms (map bond_of skeleton.bonds) 0 skeleton.atoms

-- another number of atoms
pub other_count : (skeleton : TextGraph) (n : Molecule) (f : List AtomId) → (length n.atoms ≡ length skeleton.atoms → ⊥) → IsStandsVerdict skeleton n f Length
other_count skeleton n f other same = other (same.1 ∙ length_atoms (map bond_of skeleton.bonds) 0 skeleton.atoms)

pub other_length : (skeleton : TextGraph) (n : Molecule) (f : List AtomId) → (length f ≡ length n.atoms → ⊥) → IsStandsVerdict skeleton n f Length
other_length skeleton n f other same = other same.0

-- where a number that is looked at is the first that fails
pub first_failure : (n k : ℕ) (P : ℕ → Type 0) (r : Bool) → k < n → Holds k P → (IsTrue r ↔ P k) → r ≡ false → FailsFirst n P (k + 1)
first_failure n k P r less holds is failed = record {
  from_one = omega arith;
  within = omega arith;
  fails = λ p. let e : k + 1 - 1 ≡ k = omega arith in false≢true (sym failed ∙ is.1 (subst P e p));
  before = λ j upto. holds j (omega arith);
}
