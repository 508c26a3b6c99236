-- Which lists are a molecule (this project's own, after OpenSMILES 1.0, section 3.9: a stereocentre is said by the order of its neighbours).
use Rattle.std.specs.Prelude.{◌≡◌, ◌≢◌, ℕ, ◌<◌, ◌≤◌, ◌↔◌, true, false, List, Some, length, slice_get, All, AllPairs, Contains}
use Rattle.mc_mol.specs.declared.limits.TheConstants.{ATOM_LIMIT, BOND_LIMIT}
use Rattle.mc_mol.specs.declared.parts.Bond.{Bond}
use Rattle.mc_mol.specs.declared.parts.Sides.{Sides}
use Rattle.mc_mol.specs.declared.parts.Slot.{Slot}
use Rattle.mc_mol.specs.declared.parts.Slot.TheVariants.{At}
use Rattle.mc_mol.specs.Molecule.{Molecule, joins, are_joined}

-- a bond joins two different atoms, and its order is 1 to 4
pub record IsBond (atoms : ℕ) (bond : Bond) : Type 0 where
  pub first : bond.first.0 < atoms
  pub second : bond.second.0 < atoms
  pub different : bond.first.0 ≢ bond.second.0
  pub order_low : 1 ≤ bond.order
  pub order_high : bond.order ≤ 4

-- the list of a centre: four different places, of which the atoms are exactly the neighbours; so with three neighbours
-- one place is the rest, and with four none is
pub record IsPlaceList (bonds : List Bond) (a : ℕ) (places : List Slot) : Type 0 where
  pub four : length places ≡ 4
  pub different : AllPairs (λ (p q : Slot). p ≢ q) places
  pub neighbours : (v : ℕ) → Contains places (At (record { 0 = v })) ↔ (are_joined bonds a v ≡ true)

-- the sides of a double bond: a neighbour of its first end and one of its second, neither being an end
pub record IsSides (bonds : List Bond) (bond : Bond) (sides : Sides) : Type 0 where
  pub double : bond.order ≡ 2
  pub at_first : are_joined bonds bond.first.0 sides.first.0 ≡ true
  pub at_second : are_joined bonds bond.second.0 sides.second.0 ≡ true
  pub first : sides.first.0 ≢ bond.second.0
  pub second : sides.second.0 ≢ bond.first.0

-- sides that the bond of this number may have
abbrev pub SidesFit : List Bond → ℕ → Sides → Type 0
SidesFit bonds k sides = (bond : Bond) → slice_get bonds k ≡ Some bond → IsSides bonds bond sides

-- no more atoms and bonds than the limits; a centre or none for each atom, sides or none for each bond; bonds between atoms of the
-- molecule, no pair twice
pub record IsMolecule (m : Molecule) : Type 0 where
  pub few_atoms : length m.atoms ≤ ATOM_LIMIT
  pub few_bonds : length m.bonds ≤ BOND_LIMIT
  pub centre_count : length m.centres ≡ length m.atoms
  pub side_count : length m.sides ≡ length m.bonds
  pub bonds : All (IsBond (length m.atoms)) m.bonds
  pub once : AllPairs (λ (b c : Bond). joins b c.first.0 c.second.0 ≡ false) m.bonds
  pub centres : (a : ℕ) (places : List Slot) → slice_get m.centres a ≡ Some (Some places) → IsPlaceList m.bonds a places
  pub sides : (k : ℕ) (bond : Bond) (sides : Sides) → slice_get m.bonds k ≡ Some bond → slice_get m.sides k ≡ Some (Some sides) → IsSides m.bonds bond sides
