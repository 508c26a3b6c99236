-- The limits of a molecule, and what a molecule within them is (this project's own).
use Rattle.std.specs.Prelude.{◌≡◌, ℕ, ◌+◌, ◌≤◌, Bool, false, true, ◌&&◌, Option, Some, None, length, nat_abs, nat_lt, slice_get}
use Rattle.mc_elements.specs.declared.element.Element.{Element}
use Rattle.mc_elements.specs.declared.element.Element.TheVariants.{H}
use Rattle.mc_mol.specs.declared.limits.TheConstants.{RING_LIMIT, VALENCE_LIMIT, HYDROGEN_LIMIT, ISOTOPE_LIMIT, CLASS_LIMIT, CHARGE_LIMIT}
use Rattle.mc_mol.specs.declared.parts.Atom.{Atom}
use Rattle.mc_mol.specs.Molecule.{Molecule, bond_sum}
use Rattle.mc_mol.specs.Parts.{independent_rings}

-- the values of an atom are within the limits
pub record IsAtomWithinLimits (atom : Atom) : Type 0 where
  pub isotope : atom.isotope ≤ ISOTOPE_LIMIT
  pub class : atom.class ≤ CLASS_LIMIT
  pub charge : nat_abs atom.charge ≤ CHARGE_LIMIT
  pub hydrogens : atom.hydrogens ≤ HYDROGEN_LIMIT

-- an atom's bonds, of which this is the sum of orders, and its hydrogens are above the limit
abbrev pub is_over : Option Atom → ℕ → Bool
is_over None sum = false
is_over (Some atom) sum = nat_lt VALENCE_LIMIT (sum + atom.hydrogens)

abbrev pub overvalent_at : Molecule → ℕ → Bool
overvalent_at m k = is_over (slice_get m.atoms k) (bond_sum m.bonds k)

abbrev pub is_hydrogen : Element → Bool
is_hydrogen H = true
is_hydrogen _ = false

-- a hydrogen atom that has hydrogens
abbrev pub is_hydrogen_with_more : Option Atom → Bool
is_hydrogen_with_more None = false
is_hydrogen_with_more (Some atom) = is_hydrogen atom.element && nat_lt 0 atom.hydrogens

abbrev pub hydrogen_on_hydrogen_at : Molecule → ℕ → Bool
hydrogen_on_hydrogen_at m k = is_hydrogen_with_more (slice_get m.atoms k)

-- The values of each atom, the independent rings and each atom's bonds with its hydrogens are within the limits, and no
-- hydrogen has hydrogens. The numbers of atoms and bonds are within theirs in every molecule.
pub record IsWithinLimits (m : Molecule) : Type 0 where
  pub atoms : (k : ℕ) (atom : Atom) → slice_get m.atoms k ≡ Some atom → IsAtomWithinLimits atom
  pub rings : independent_rings m.bonds (length m.atoms) ≤ RING_LIMIT
  pub valences : (k : ℕ) → overvalent_at m k ≡ false
  pub hydrogens : (k : ℕ) → hydrogen_on_hydrogen_at m k ≡ false
