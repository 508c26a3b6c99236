-- Two molecules and a map have one verdict, and so have a text, a molecule and a map.
use Rattle.std.proofs.Common.{arith, ◌≡◌, ℕ, suc, ◌+◌, ◌<◌, Bool, Option, List, [], ◌∷◌, length, map, refl, subst}
use Rattle.mc_base.specs.declared.ids.AtomId.{AtomId}
use Rattle.mc_base.specs.declared.verdict.Verdict.{Verdict}
use Rattle.mc_base.specs.declared.verdict.Verdict.TheVariants.{True, Length, Range, Repeat, Atom, Bonds, Bond, Centre, Sides}
use Rattle.mc_mol.specs.Molecule.{Molecule}
use Rattle.mc_mol.specs.declared.parts.Bond.{Bond as BondParts}
use Rattle.smi_graph.specs.declared.skel_atom.SkelAtom.{SkelAtom}
use Rattle.smi_graph.specs.declared.text_bond.TextBond.{TextBond}
use Rattle.smi_graph.specs.Candidates.{marked, AreCandidates}
use Rattle.smi_graph.specs.Links.{bond_of}
use Rattle.smi_graph.specs.Skeletons.{TextGraph}
use Rattle.smi_mean.specs.Barriers.{needs_of}
use Rattle.smi_mean.specs.Lying.{lying_of}
use Rattle.smi_mean.specs.Meant.{molecule_under}
use Rattle.smi_mean.specs.Placements.{meaning_under}
use Rattle.smi_mean.specs.Meaning.{with_centres}
use Rattle.smi_mean.specs.MeantCentres.{centres_in}
use Rattle.mc_mol.specs.declared.parts.Slot.{Slot}
use Rattle.smi_mean.proofs.BarrierTests.{marks_agree}
use Rattle.smi_mean.proofs.PlacedBonds.{bonds_count}
use Rattle.mc_same.specs.Differences.{IsVerdict, SameLength, InRange, IsNew, SameAtom, SameBond, CentreAgrees, SidesAgree}
use Rattle.mc_same.specs.Stands.{doubles_from, doubles, AtomFits, BondFits, IsFitVerdict, IsStandsVerdict}
use Rattle.mc_same.proofs.OneDifference.{Points, IsDifference, difference_once}

-- of two molecules

abbrev of_molecules : Molecule → Molecule → List AtomId → Points
of_molecules m n f = record {
  same_length = SameLength m n f;
  entries = length f;
  in_range = InRange m f;
  is_new = IsNew f;
  atom = SameAtom m n f;
  same_bonds = length n.bonds ≡ length m.bonds;
  bonds = length n.bonds;
  bond = SameBond m n f;
  centre = CentreAgrees m n f;
  sides = SidesAgree m n f;
}

difference_of : (m n : Molecule) (f : List AtomId) (v : Verdict) → IsVerdict m n f v → IsDifference (of_molecules m n f) v
difference_of m n f True same = (
  (
    ((same.length_map, same.length_atoms), same.in_range, (λ k within j less e. same.distinct j k less within e)),
    same.atoms,
    same.length_bonds,
    (λ k within bond is. same.bonds k bond is),
  ),
  (λ k within q p at_q at_p. same.centres k q p within at_q at_p),
  (λ k within l bond counterpart s t is_bond is_counterpart joined at_s at_t. same.sides k l bond counterpart s t is_bond is_counterpart joined at_s at_t),
)
difference_of m n f Length is = is
difference_of m n f (Range k) is = is
difference_of m n f (Repeat k) is = is
difference_of m n f (Atom k) is = is
difference_of m n f Bonds is = is
difference_of m n f (Bond k) is = is
difference_of m n f (Centre k) is = is
difference_of m n f (Sides k) is = is

pub verdict_once : (m n : Molecule) (f : List AtomId) (v w : Verdict) → IsVerdict m n f v → IsVerdict m n f w → v ≡ w
verdict_once m n f v w is also = difference_once (of_molecules m n f) v w (difference_of m n f v is) (difference_of m n f w also)

-- of a text and a molecule

abbrev of_text : Molecule → List Bool → List Bool → Molecule → List AtomId → Points
of_text m needs lying n f = record {
  same_length = SameLength m n f;
  entries = length f;
  in_range = InRange m f;
  is_new = IsNew f;
  atom = AtomFits m needs n f;
  same_bonds = length n.bonds ≡ length m.bonds;
  bonds = length n.bonds;
  bond = BondFits m lying n f;
  centre = CentreAgrees m n f;
  sides = SidesAgree m n f;
}

fit_difference : (m : Molecule) (needs lying : List Bool) (n : Molecule) (f : List AtomId) (v : Verdict) → IsFitVerdict m needs lying n f v
    → IsDifference (of_text m needs lying n f) v
fit_difference m needs lying n f True is = is
fit_difference m needs lying n f Length is = is
fit_difference m needs lying n f (Range k) is = is
fit_difference m needs lying n f (Repeat k) is = is
fit_difference m needs lying n f (Atom k) is = is
fit_difference m needs lying n f Bonds is = is
fit_difference m needs lying n f (Bond k) is = is
fit_difference m needs lying n f (Centre k) is = is
fit_difference m needs lying n f (Sides k) is = is

pub fit_once : (m : Molecule) (needs lying : List Bool) (n : Molecule) (f : List AtomId) (v w : Verdict) → IsFitVerdict m needs lying n f v
    → IsFitVerdict m needs lying n f w → v ≡ w
fit_once m needs lying n f v w is also = difference_once (of_text m needs lying n f) v w (fit_difference m needs lying n f v is) (fit_difference m needs lying n f w also)

pub stands_once : (skeleton : TextGraph) (n : Molecule) (f : List AtomId) (v w : Verdict) → IsStandsVerdict skeleton n f v → IsStandsVerdict skeleton n f w → v ≡ w
stands_once skeleton n f v w is also =
    fit_once (molecule_under skeleton (doubles skeleton n f)) (needs_of skeleton.atoms skeleton.bonds) (lying_of skeleton.atoms skeleton.bonds (doubles skeleton n f)) n f v w is also

-- whichever list marks the candidates of the text
doubles_same : (marks others : List Bool) (written : List BondParts) (f : List AtomId) (j : ℕ) (bonds : List BondParts) → ((k : ℕ) → k < length bonds → marked marks (j + k) ≡ marked others (j + k))
    → doubles_from marks written f j bonds ≡ doubles_from others written f j bonds
doubles_same marks others written f j [] same = refl
doubles_same marks others written f j (b ∷ bonds) same = rw (first (same 0 (omega arith)), doubles_same marks others written f (j + 1) bonds later) refl
  where
    first : marked marks (j + 0) ≡ marked others (j + 0) → marked marks j ≡ marked others j
    first e = let h : j + 0 ≡ j = omega arith in subst (λ (n : ℕ). marked marks n ≡ marked others n) h e

    later : (k : ℕ) → k < length bonds → marked marks (j + 1 + k) ≡ marked others (j + 1 + k)
    later k less = let e : j + suc k ≡ j + 1 + k = omega arith in subst (λ (n : ℕ). marked marks n ≡ marked others n) e (same (suc k) (omega arith))

-- whether it is the verdict of a text with these atoms, bonds, centres and candidates
abbrev IsVerdictOf : Molecule → List AtomId → Verdict → List SkelAtom → List TextBond → List (Option (List Slot)) → List Bool → Type 0
IsVerdictOf n f v atoms bonds centres marks =
    IsFitVerdict (with_centres centres (meaning_under atoms (map bond_of bonds) (doubles_from marks n.bonds f 0 (map bond_of bonds)))) (needs_of atoms bonds)
    (lying_of atoms bonds (doubles_from marks n.bonds f 0 (map bond_of bonds))) n f v

marked_alike : (atoms : List SkelAtom) (bonds : List TextBond) (centres : List (Option (List Slot))) (marks others : List Bool) (n : Molecule) (f : List AtomId) (v : Verdict) → AreCandidates atoms bonds marks
    → AreCandidates atoms bonds others → IsVerdictOf n f v atoms bonds centres marks → IsVerdictOf n f v atoms bonds centres others
marked_alike atoms bonds centres marks others n f v are also is =
    let same : doubles_from marks n.bonds f 0 (map bond_of bonds) ≡ doubles_from others n.bonds f 0 (map bond_of bonds) =
    doubles_same marks others n.bonds f 0 (map bond_of bonds) (λ k less.
    let e : k ≡ 0 + k = omega arith in
    let size = bonds_count bonds in subst (λ (j : ℕ). marked marks j ≡ marked others j) e (marks_agree atoms bonds marks others are also k (omega arith))) in
    subst (λ (d : List Bool). IsFitVerdict (with_centres centres (meaning_under atoms (map bond_of bonds) d)) (needs_of atoms bonds) (lying_of atoms bonds d) n f v) same is

-- skeletons of the same atoms, bonds and centres have the same verdicts
pub stands_of_text : (s t : TextGraph) (n : Molecule) (f : List AtomId) (v : Verdict) → s.atoms ≡ t.atoms → s.bonds ≡ t.bonds → centres_in s ≡ centres_in t
    → AreCandidates s.atoms s.bonds s.candidates → AreCandidates t.atoms t.bonds t.candidates → IsStandsVerdict s n f v → IsStandsVerdict t n f v
stands_of_text s t n f v atoms bonds centres are also is =
    let moved : IsVerdictOf n f v t.atoms t.bonds (centres_in t) s.candidates =
    subst (λ (x : List (Option (List Slot))). IsVerdictOf n f v t.atoms t.bonds x s.candidates) centres
    (subst (λ (x : List TextBond). IsVerdictOf n f v t.atoms x (centres_in s) s.candidates) bonds
    (subst (λ (x : List SkelAtom). IsVerdictOf n f v x s.bonds (centres_in s) s.candidates) atoms is)) in
    let marks : AreCandidates t.atoms t.bonds s.candidates = subst (λ (x : List TextBond). AreCandidates t.atoms x s.candidates) bonds (subst (λ (x : List SkelAtom). AreCandidates x s.bonds s.candidates) atoms are) in
    marked_alike t.atoms t.bonds (centres_in t) s.candidates t.candidates n f v marks also moved
