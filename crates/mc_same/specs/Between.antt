-- The bond between two atoms.
use Rattle.std.specs.Prelude.{◌≡◌, ℕ, true, false, Option, Some, None, slice_get}
use Rattle.mc_base.specs.declared.ids.BondId.{BondId}
use Rattle.mc_mol.specs.declared.parts.Bond.{Bond}
use Rattle.mc_mol.specs.Molecule.{Molecule, joins, are_joined}

-- this bond joins the two atoms
pub record JoinedBy (m : Molecule) (u v : ℕ) (number : ℕ) : Type 0 where
  pub bond : Bond
  pub is_bond : slice_get m.bonds number ≡ Some bond
  pub joined : joins bond u v ≡ true

-- the bond between two atoms, and none where they aren't joined
abbrev pub FindsBond : Molecule → ℕ → ℕ → Option BondId → Type 0
FindsBond m u v None = are_joined m.bonds u v ≡ false
FindsBond m u v (Some number) = JoinedBy m u v number.0
