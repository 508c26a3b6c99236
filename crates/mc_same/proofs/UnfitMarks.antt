-- Where a mark doesn't fit, the text has no placement, and the first difference stands before the centres.
use Rattle.std.proofs.Common.{◌≡◌, ℕ, ◌<◌, List, length, map, Bool, Option, subst}
use Rattle.std.specs.Prelude.{Result, Ok, Err, IfOk}
use Rattle.mc_base.specs.declared.ids.AtomId.{AtomId}
use Rattle.mc_base.specs.declared.verdict.Verdict.{Verdict}
use Rattle.mc_base.specs.declared.verdict.Verdict.TheVariants.{True, Length, Range, Repeat, Atom, Bonds, Bond, Centre, Sides}
use Rattle.mc_mol.specs.declared.parts.Slot.{Slot}
use Rattle.mc_mol.specs.Molecule.{Molecule}
use Rattle.mc_mol.specs.WellFormed.{IsMolecule}
use Rattle.smi_graph.specs.Links.{bond_of}
use Rattle.smi_graph.specs.Skeletons.{TextGraph, IsTextGraph}
use Rattle.smi_mean.specs.Barriers.{needs_of}
use Rattle.smi_mean.specs.Lying.{lying_of}
use Rattle.smi_mean.specs.Meaning.{with_centres}
use Rattle.smi_mean.specs.Meant.{molecule_under}
use Rattle.smi_mean.specs.MeantCentres.{MarkFits, centres_in}
use Rattle.smi_mean.specs.Placements.{IsPlacement, meaning_under}
use Rattle.mc_same.specs.Stands.{doubles, FitsGraph, IsFitVerdict}
use Rattle.mc_same.proofs.Exact.{placement_of_fits}

before_centres : (m : Molecule) (centres : List (Option (List Slot))) (needs lying : List Bool) (n : Molecule) (f : List AtomId) (v : Verdict) → (FitsGraph m needs lying n f → ⊥)
    → IsFitVerdict m needs lying n f v → IsFitVerdict (with_centres centres m) needs lying n f v
before_centres m centres needs lying n f True none is = absurd (none is.0)
before_centres m centres needs lying n f Length none is = is
before_centres m centres needs lying n f (Range k) none is = is
before_centres m centres needs lying n f (Repeat k) none is = is
before_centres m centres needs lying n f (Atom k) none is = is
before_centres m centres needs lying n f Bonds none is = is
before_centres m centres needs lying n f (Bond k) none is = is
before_centres m centres needs lying n f (Centre k) none is = absurd (none is.0)
before_centres m centres needs lying n f (Sides k) none is = absurd (none is.0)

pub unfit_answer : {E : Type 0} (skeleton : TextGraph) (n : Molecule) (f : List AtomId) (d : List Bool) (m : Molecule) (r : Result Verdict E) → d ≡ doubles skeleton n f → IsTextGraph skeleton → IsMolecule n
    → ((placed : List Bool) → IsPlacement skeleton.atoms skeleton.bonds placed → (k : ℕ) → k < length skeleton.atoms → MarkFits skeleton k)
    → (k : ℕ) × (k < length skeleton.atoms) × (MarkFits skeleton k → ⊥) → m ≡ meaning_under skeleton.atoms (map bond_of skeleton.bonds) d
    → IfOk r (IsFitVerdict m (needs_of skeleton.atoms skeleton.bonds) (lying_of skeleton.atoms skeleton.bonds d) n f)
    → IfOk r (IsFitVerdict (molecule_under skeleton d) (needs_of skeleton.atoms skeleton.bonds) (lying_of skeleton.atoms skeleton.bonds d) n f)
unfit_answer skeleton n f d m (Ok v) e is well marks (k, less, unfit) same verdict =
    before_centres (meaning_under skeleton.atoms (map bond_of skeleton.bonds) d) (centres_in skeleton) (needs_of skeleton.atoms skeleton.bonds) (lying_of skeleton.atoms skeleton.bonds d) n f v
    (λ fits. unfit (marks (doubles skeleton n f) (placement_of_fits skeleton n f is well
    (subst (λ (x : List Bool). FitsGraph (molecule_under skeleton x) (needs_of skeleton.atoms skeleton.bonds) (lying_of skeleton.atoms skeleton.bonds x) n f) e fits)) k less))
    (subst (λ (x : Molecule). IsFitVerdict x (needs_of skeleton.atoms skeleton.bonds) (lying_of skeleton.atoms skeleton.bonds d) n f v) same verdict)
unfit_answer skeleton n f d m (Err e) is_d is well marks unfit same verdict = tt
