-- Sound molecules (this project's own): what a text or a record may stand for.
use Rattle.std.specs.Prelude.{◌≡◌, ℕ, true, List, Some, slice_get}
use Rattle.mc_mol.specs.declared.parts.Sides.{Sides}
use Rattle.mc_mol.specs.declared.parts.Slot.{Slot}
use Rattle.mc_mol.specs.Limits.{IsWithinLimits}
use Rattle.mc_mol.specs.Molecule.{Molecule}
use Rattle.mc_rings.specs.Centres.{may_be_centre}
use Rattle.mc_rings.specs.Rings.{RingList}
use Rattle.mc_rings.specs.SidePlaces.{may_have_sides}

-- A molecule with its rings: within the limits, each centre an atom that may be one, and each bond with sides one that
-- may have them.
pub record IsSound (m : Molecule) (rings : RingList) : Type 0 where
  pub within : IsWithinLimits m
  pub centres : (a : ℕ) (places : List Slot) → slice_get m.centres a ≡ Some (Some places) → may_be_centre m rings.sizes a ≡ true
  pub sides : (k : ℕ) (sides : Sides) → slice_get m.sides k ≡ Some (Some sides) → may_have_sides m rings.sizes k ≡ true
