-- Molecules: OpenSMILES 1.0, sections 3.1 to 3.4 and 3.9 (atoms, bonds, stereo by the order of neighbours).
use Rattle.std.specs.List.{list_any}
use Rattle.std.specs.Prelude.{ℕ, Bool, ◌&&◌, ◌||◌, List, Option, if◌then◌else◌, ◌==◌, sum_by}
use Rattle.mc_mol.specs.declared.parts.Atom.{Atom}
use Rattle.mc_mol.specs.declared.parts.Bond.{Bond}
use Rattle.mc_mol.specs.declared.parts.Sides.{Sides}
use Rattle.mc_mol.specs.declared.parts.Slot.{Slot}

-- Atoms and bonds are named by their places in these lists, from 0. For each atom there is its list of four
-- places where it is a stereocentre, and for each bond its sides where it is specified.
pub record Molecule : Type 0 where
  pub atoms : List Atom
  pub bonds : List Bond
  pub centres : List (Option (List Slot))
  pub sides : List (Option Sides)

-- a bond between these two atoms
abbrev pub joins : Bond → ℕ → ℕ → Bool
joins bond u v = (bond.first.0 == u && bond.second.0 == v) || (bond.first.0 == v && bond.second.0 == u)

-- some bond is between these two atoms
abbrev pub are_joined : List Bond → ℕ → ℕ → Bool
are_joined bonds u v = list_any (λ bond. joins bond u v) bonds

-- a bond of this atom
abbrev pub touches : Bond → ℕ → Bool
touches bond u = bond.first.0 == u || bond.second.0 == u

-- the sum of the orders of an atom's bonds
abbrev pub bond_sum : List Bond → ℕ → ℕ
bond_sum bonds u = sum_by (λ bond. if touches bond u then bond.order else 0) bonds
