-- The neighbours of an atom are atoms of its molecule.
use Rattle.std.proofs.Common.{arith, ◌≡◌, ℕ, List, length, slice_get, Option, Some, None, Contains}
use Rattle.mc_mol.specs.declared.parts.Slot.{Slot}
use Rattle.mc_mol.specs.declared.parts.Slot.TheVariants.{At, Rest}
use Rattle.mc_mol.specs.Molecule.{Molecule}
use Rattle.mc_mol.specs.WellFormed.{IsMolecule}
use Rattle.mc_same.specs.Carried.{HasEntry, HaveEntries}
use Rattle.mc_mol.proofs.Neighbours.{joined_ends}

pub have_entries : (m : Molecule) (count k : ℕ) (centre : Option (List Slot)) → IsMolecule m → count ≡ length m.atoms → slice_get m.centres k ≡ Some centre → HaveEntries count centre
have_entries m count k None molecule same is = tt
have_entries m count k (Some places) molecule same is = each
  where
    each : (slot : Slot) → Contains places slot → HasEntry count slot
    each (At a) contains =
        let joined = ((molecule.centres k places is).neighbours a.0).0 contains in
        let range = (joined_ends (length m.atoms) m.bonds k a.0 molecule.bonds joined).second in
        omega arith
    each Rest contains = tt
