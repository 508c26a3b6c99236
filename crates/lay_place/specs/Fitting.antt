-- Whether a molecule may be placed, atom by atom and bond by bond (for the tests).
use Rattle.std.specs.Prelude.{◌≡◌, ◌≢◌, ℕ, true, List, Option, Some, None, slice_get}
use Rattle.mc_mol.specs.declared.parts.Bond.{Bond}
use Rattle.mc_mol.specs.declared.parts.Sides.{Sides}
use Rattle.mc_mol.specs.declared.parts.Slot.{Slot}
use Rattle.mc_mol.specs.Molecule.{Molecule, are_joined}
use Rattle.mc_rings.specs.Centres.{may_be_centre}
use Rattle.mc_rings.specs.SidePlaces.{may_have_sides}

abbrev pub CentreFits : Molecule → List (Option ℕ) → ℕ → Type 0
CentreFits m sizes a = (places : List Slot) → slice_get m.centres a ≡ Some (Some places) → may_be_centre m sizes a ≡ true

abbrev pub SideFits : Molecule → List (Option ℕ) → ℕ → Type 0
SideFits m sizes k = (sides : Sides) → slice_get m.sides k ≡ Some (Some sides) → (may_have_sides m sizes k ≡ true) × (slice_get sizes k ≡ Some None)

-- c is joined to u, and isn't w
abbrev pub IsNeighbourBut : List Bond → ℕ → ℕ → ℕ → Type 0
IsNeighbourBut bonds u w c = (are_joined bonds u c ≡ true) × (c ≢ w)
