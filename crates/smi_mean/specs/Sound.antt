-- Molecules that are read and written today (this project's own).
use Rattle.std.specs.Prelude.{◌≡◌, ℕ, true, List, Option, Some, slice_get}
use Rattle.mc_mol.specs.declared.parts.Slot.{Slot}
use Rattle.mc_mol.specs.Limits.{IsWithinLimits}
use Rattle.mc_mol.specs.Molecule.{Molecule}
use Rattle.mc_rings.specs.Centres.{may_be_centre}
use Rattle.smi_mean.specs.Meaning.{nones}
use Rattle.smi_mean.specs.WrongCentres.{AreSizes}

-- an atom of a molecule may be a centre
pub record MayBeCentre (m : Molecule) (a : ℕ) : Type 0 where
  pub sizes : List (Option ℕ)
  pub are : AreSizes m sizes
  pub may : may_be_centre m sizes a ≡ true

-- A molecule within the limits, each centre of which is at an atom that may be one. No double bond with sides is written
-- today.
pub record IsSound (m : Molecule) : Type 0 where
  pub within : IsWithinLimits m
  pub centres : (a : ℕ) (places : List Slot) → slice_get m.centres a ≡ Some (Some places) → MayBeCentre m a
  pub no_sides : m.sides ≡ nones m.bonds
