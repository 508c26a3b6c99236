-- A molecule with one more centre, and with the sides of one more bond.
use Rattle.std.proofs.Common.{◌≡◌, ◌∙◌, ℕ, List, Some, length, slice_get, slice_set, subst, sym, ap, inl, inr}
use Rattle.std.proofs.lemmas.Option.{same_Some}
use Rattle.smallvec.specs.SmallVec.{SmallVec}
use Rattle.mc_mol.specs.declared.parts.HalfEdge.{HalfEdge}
use Rattle.mc_mol.specs.declared.parts.Sides.{Sides}
use Rattle.mc_mol.specs.declared.parts.Slot.{Slot}
use Rattle.mc_mol.specs.Molecule.{Molecule}
use Rattle.mc_mol.specs.WellFormed.{IsMolecule, IsPlaceList, IsSides, SidesFit}
use Rattle.mc_mol.specs.Stored.{HoldsHalfEdges}
use Rattle.mc_mol.proofs.Lists.{slice_get-slice_set, length-slice_set}

abbrev pub with_centre : Molecule → ℕ → List Slot → Molecule
with_centre m a places = record m { centres = slice_set m.centres a (Some places) }

abbrev pub with_sides : Molecule → ℕ → Sides → Molecule
with_sides m k sides = record m { sides = slice_set m.sides k (Some sides) }

pub marks_centre : (m : Molecule) (lists : List (SmallVec HalfEdge)) (a : ℕ) (places : List Slot) → IsMolecule m × HoldsHalfEdges (length m.atoms) m.bonds lists → IsPlaceList m.bonds a places
    → IsMolecule (with_centre m a places) × HoldsHalfEdges (length m.atoms) m.bonds lists
marks_centre m lists a places holds fits =
    let is = holds.0 in (
      record {
        few_atoms = is.few_atoms;
        few_bonds = is.few_bonds;
        centre_count = length-slice_set m.centres a (Some places) ∙ is.centre_count;
        side_count = is.side_count;
        bonds = is.bonds;
        once = is.once;
        centres = λ b others at. elim (slice_get-slice_set m.centres a b (Some places) (Some others) at) [
          | inl here ↦ subst (λ (k : ℕ). IsPlaceList m.bonds k others) (sym here.0) (subst (λ (ps : List Slot). IsPlaceList m.bonds a ps) (sym (same_Some others places here.1)) fits)
          | inr there ↦ is.centres b others there
        ];
        sides = is.sides;
      },
      record { count = holds.1.count; each = holds.1.each },
    )

pub marks_sides : (m : Molecule) (lists : List (SmallVec HalfEdge)) (k : ℕ) (sides : Sides) → IsMolecule m × HoldsHalfEdges (length m.atoms) m.bonds lists → SidesFit m.bonds k sides
    → IsMolecule (with_sides m k sides) × HoldsHalfEdges (length m.atoms) m.bonds lists
marks_sides m lists k sides holds fits =
    let is = holds.0 in (
      record {
        few_atoms = is.few_atoms;
        few_bonds = is.few_bonds;
        centre_count = is.centre_count;
        side_count = length-slice_set m.sides k (Some sides) ∙ is.side_count;
        bonds = is.bonds;
        once = is.once;
        centres = is.centres;
        sides = λ j bond others b_at at. elim (slice_get-slice_set m.sides k j (Some sides) (Some others) at) [
          | inl here ↦ subst (λ (s : Sides). IsSides m.bonds bond s) (sym (same_Some others sides here.1)) (fits bond (ap (λ (n : ℕ). slice_get m.bonds n) (sym here.0) ∙ b_at))
          | inr there ↦ is.sides j bond others b_at there
        ];
      },
      record { count = holds.1.count; each = holds.1.each },
    )
