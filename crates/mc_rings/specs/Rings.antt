-- The rings of a molecule, as contracts see them.
use Rattle.std.specs.Prelude.{◌≡◌, ◌≢◌, ◌↔◌, ℕ, List, Option, Some, length, slice_get}
use Rattle.mc_base.specs.declared.ids.AtomId.{AtomId}
use Rattle.mc_mol.specs.declared.parts.Bond.{Bond}
use Rattle.mc_mol.specs.Molecule.{Molecule}
use Rattle.mc_mol.specs.Parts.{independent_rings}
use Rattle.mc_rings.specs.RingSizes.{RingSizeAt, ShareClosedPath}
use Rattle.mc_rings.specs.BlockOrder.{IsBlockOrder}

-- for each bond its ring size, or none, and its block number; the number of independent rings; and the block order: the
-- atoms in order, each block's first atom, and each atom's block above it, or none
pub record RingList : Type 0 where
  pub sizes : List (Option ℕ)
  pub blocks : List ℕ
  pub independent : ℕ
  pub order : List AtomId
  pub firsts : List AtomId
  pub above : List (Option ℕ)

-- each bond has a block number, and two bonds have the same exactly where one closed path goes along both
pub record AreBlocks (bonds : List Bond) (blocks : List ℕ) : Type 0 where
  pub count : length blocks ≡ length bonds
  pub same : (i j : ℕ) (b c : Bond) (k l : ℕ) → i ≢ j → slice_get bonds i ≡ Some b → slice_get bonds j ≡ Some c → slice_get blocks i ≡ Some k → slice_get blocks j ≡ Some l
      → (k ≡ l) ↔ ShareClosedPath bonds b c

-- they are those of the molecule
pub record AreRingsOf (m : Molecule) (rings : RingList) : Type 0 where
  pub count : length rings.sizes ≡ length m.bonds
  pub sizes : (k : ℕ) (size : Option ℕ) → slice_get rings.sizes k ≡ Some size → RingSizeAt m.bonds k size
  pub blocks : AreBlocks m.bonds rings.blocks
  pub independent : rings.independent ≡ independent_rings m.bonds (length m.atoms)
  pub order : IsBlockOrder m rings.blocks rings.order rings.firsts rings.above
