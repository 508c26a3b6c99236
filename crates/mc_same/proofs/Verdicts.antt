-- A verdict is True exactly where the molecules are the same.
use Rattle.std.proofs.Common.{arith, ◌≡◌, ◌↔◌, ◌-◌, ◌<◌, ◌≤◌, ℕ, List, length, refl}
use Rattle.mc_base.specs.declared.ids.AtomId.{AtomId}
use Rattle.mc_base.specs.declared.verdict.Verdict.{Verdict}
use Rattle.mc_base.specs.declared.verdict.Verdict.TheVariants.{True, Length, Range, Repeat, Atom, Bonds, Bond, Centre, Sides}
use Rattle.mc_mol.specs.Molecule.{Molecule}
use Rattle.mc_mol.specs.Same.{Same}
use Rattle.mc_same.specs.Differences.{IsVerdict, SameGraph, CentreAgrees, SidesAgree, Holds}
use Rattle.std.proofs.lemmas.Option.{slice_get_within}

pub same_at_last : (m n : Molecule) (f : List AtomId) → SameGraph m n f → Holds (length f) (CentreAgrees m n f) → Holds (length n.bonds) (SidesAgree m n f) → Same m n f
same_at_last m n f graph centres sides = record {
  length_map = graph.0.0.0;
  length_atoms = graph.0.0.1;
  in_range = graph.0.1;
  distinct = λ j k less within e. graph.0.2 k within j less e;
  atoms = graph.1;
  length_bonds = graph.2;
  bonds = λ k bond is. graph.3 k (slice_get_within n.bonds k bond is) bond is;
  centres = λ k q p less at_q at_p. centres k less q p at_q at_p;
  sides = λ k l bond counterpart s t is_bond is_counterpart joined at_s at_t. sides k (slice_get_within n.bonds k bond is_bond) l bond counterpart s t is_bond is_counterpart joined at_s at_t;
}

within_count : (count number : ℕ) → 1 ≤ number → number ≤ count → number - 1 < count
within_count count number some le = omega arith

pub true_exact : (m n : Molecule) (f : List AtomId) (verdict : Verdict) → IsVerdict m n f verdict → (verdict ≡ True) ↔ Same m n f
true_exact m n f True is = ((λ _. is), (λ _. refl))
true_exact m n f Length is = ((λ e. cc), (λ same. absurd (is (same.length_map, same.length_atoms))))
true_exact m n f (Range k) is = ((λ e. cc), (λ same. let at = is.1 in absurd (at.fails (same.in_range (k - 1) (within_count (length f) k at.from_one at.within)))))
true_exact m n f (Repeat k) is = (
  (λ e. cc),
  (λ same. let at = is.2 in absurd (at.fails (λ j less e. same.distinct j (k - 1) less (within_count (length f) k at.from_one at.within) e))),
)
true_exact m n f (Atom k) is = ((λ e. cc), (λ same. let at = is.1 in absurd (at.fails (same.atoms (k - 1) (within_count (length f) k at.from_one at.within)))))
true_exact m n f Bonds is = ((λ e. cc), (λ same. absurd (is.2 same.length_bonds)))
true_exact m n f (Bond k) is = ((λ e. cc), (λ same. let at = is.3 in absurd (at.fails (λ bond there. same.bonds (k - 1) bond there))))
true_exact m n f (Centre k) is = (
  (λ e. cc),
  (λ same. let at = is.1 in absurd (at.fails (λ q p at_q at_p. same.centres (k - 1) q p (within_count (length f) k at.from_one at.within) at_q at_p))),
)
true_exact m n f (Sides k) is = (
  (λ e. cc),
  (λ same. let at = is.2 in absurd (at.fails (λ l bond counterpart s t is_bond is_counterpart joined at_s at_t. same.sides (k - 1) l bond counterpart s t is_bond is_counterpart joined at_s at_t))),
)
