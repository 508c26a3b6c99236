-- An order of the atoms block by block (this project's own). A block is the bonds with one block number.
use Rattle.std.specs.Prelude.{◌≡◌, ◌↔◌, ℕ, ◌<◌, ◌⊎◌, ◌==◌, true, false, List, Option, Some, None, if◌then◌else◌, length, slice_get, sum_by}
use Rattle.mc_base.specs.declared.ids.AtomId.{AtomId}
use Rattle.mc_mol.specs.declared.parts.Bond.{Bond}
use Rattle.mc_mol.specs.Molecule.{Molecule, touches}
use Rattle.mc_mol.specs.Parts.{are_connected}

-- how often the atom stands in a list
abbrev pub times : ℕ → List AtomId → ℕ
times x atoms = sum_by (λ (a : AtomId). if a.0 == x then 1 else 0) atoms

-- the atom is an end of one of the block's bonds
pub record EndOfBlock (bonds : List Bond) (blocks : List ℕ) (block x : ℕ) : Type 0 where
  pub number : ℕ
  pub bond : Bond
  pub is_bond : slice_get bonds number ≡ Some bond
  pub in_block : slice_get blocks number ≡ Some block
  pub touched : touches bond x ≡ true

-- the atom's block above it
abbrev pub Above : List (Option ℕ) → ℕ → ℕ → Type 0
Above above x block = slice_get above x ≡ Some (Some block)

-- an order of the atoms, the first atom of each block, and the block above each atom, or none
pub record IsBlockOrder (m : Molecule) (blocks : List ℕ) (order firsts : List AtomId) (above : List (Option ℕ)) : Type 0 where
  -- the order lists each atom once, and nothing else
  pub count : length order ≡ length m.atoms
  pub within : (i : ℕ) (x : AtomId) → slice_get order i ≡ Some x → x.0 < length m.atoms
  pub once : (x : ℕ) → x < length m.atoms → times x order ≡ 1
  -- each block has a first atom, which is an end of one of its bonds
  pub below_count : (b block : ℕ) → slice_get blocks b ≡ Some block → block < length firsts
  pub first_end : (block : ℕ) (a : AtomId) → slice_get firsts block ≡ Some a → EndOfBlock m.bonds blocks block a.0
  -- each atom has at most one block above it, and is an end of one of that block's bonds
  pub above_count : length above ≡ length m.atoms
  pub above_end : (x block : ℕ) → Above above x block → EndOfBlock m.bonds blocks block x
  -- an atom has no block above it exactly where it is the first of its connected part in the order
  pub part_first : (i : ℕ) (x : AtomId) → slice_get order i ≡ Some x
      → (slice_get above x.0 ≡ Some None) ↔ ((j : ℕ) (y : AtomId) → j < i → slice_get order j ≡ Some y → are_connected m.bonds y.0 x.0 ≡ false)
  -- each end of a bond of a block is the block's first atom or has this block above it
  pub ends : (block x : ℕ) → EndOfBlock m.bonds blocks block x → (slice_get firsts block ≡ Some (record { 0 = x })) ⊎ Above above x block
  -- the atoms that have the same block above them follow one another in the order, behind that block's first atom
  pub together : (i j l : ℕ) (x y z : AtomId) (block : ℕ) → i < j → j < l → slice_get order i ≡ Some x → slice_get order j ≡ Some y → slice_get order l ≡ Some z
      → Above above x.0 block → Above above z.0 block → Above above y.0 block
  pub behind : (i : ℕ) (x a : AtomId) (block : ℕ) → slice_get order i ≡ Some x → Above above x.0 block → slice_get firsts block ≡ Some a → (j : ℕ) × (j < i) × (slice_get order j ≡ Some a)
