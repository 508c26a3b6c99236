-- Which bonds of a depth-first search's tree belong to one block, and the tree of blocks that they make.
use Rattle.std.specs.Prelude.{◌≡◌, ℕ, ◌+◌, ◌<◌, ◌≤◌, ◌⊎◌, ◌++◌, Bool, true, List, [], ◌∷◌, Option, Some, None, length, slice_get}
use Rattle.mc_base.specs.declared.ids.AtomId.{AtomId}
use Rattle.mc_mol.specs.declared.parts.Bond.{Bond}
use Rattle.mc_mol.specs.Numbered.{Mark}
use Rattle.mc_mol.specs.Forests.{Parent, IsForest}
use Rattle.mc_mol.specs.Lows.{Rises}

-- The bond between x and its parent p has block k: it is the block's first, or the block is that of the bond above p.
abbrev pub Hangs : List Bond → List (Option ℕ) → List (Option AtomId) → List AtomId → List AtomId → List (Option ℕ) → ℕ → ℕ → ℕ → Type 0
Hangs bonds places parents heads firsts above x p k =
    ((slice_get heads k ≡ Some (record { 0 = x })) × (slice_get firsts k ≡ Some (record { 0 = p })) × (Rises bonds places parents x p → slice_get above p ≡ Some None))
    ⊎ (Rises bonds places parents x p × Mark above p k)

pub record HeadOf (parents : List (Option AtomId)) (firsts : List AtomId) (above : List (Option ℕ)) (k c : ℕ) : Type 0 where
  pub first : ℕ
  pub parent : Parent parents c first
  pub block : Mark above c k
  pub at : slice_get firsts k ≡ Some (record { 0 = first })
  pub later : (j : ℕ) → Mark above first j → j < k

-- the first `done` atoms of the order have their blocks
pub record Blocked (bonds : List Bond) (atoms : ℕ) (places : List (Option ℕ)) (parents : List (Option AtomId)) (heads firsts : List AtomId) (above : List (Option ℕ)) (done : ℕ) : Type 0 where
  pub count : length above ≡ atoms
  pub same_count : length firsts ≡ length heads
  pub few : length heads ≤ done
  pub within : (x k : ℕ) → Mark above x k → k < length heads
  pub free : (x j : ℕ) → Mark places x j → done ≤ j → slice_get above x ≡ Some None
  pub root : (x j : ℕ) → Mark places x j → slice_get parents x ≡ Some None → slice_get above x ≡ Some None
  pub each : (x p j : ℕ) → Parent parents x p → Mark places x j → j < done → (k : ℕ) × (Mark above x k) × (Hangs bonds places parents heads firsts above x p k)
  pub head : (k : ℕ) (c : AtomId) → slice_get heads k ≡ Some c → HeadOf parents firsts above k c.0

-- an atom whose bond to its parent rises belongs to the parent's block, if there is one, and begins a new block otherwise
abbrev pub Begins : List AtomId → List AtomId → List AtomId → List AtomId → List (Option ℕ) → AtomId → AtomId → Bool → ℕ → Type 0
Begins heads firsts longer further above atom parent rises k =
    ((rises ≡ true) × (Mark above parent.0 k) × (longer ≡ heads) × (further ≡ firsts))
    ⊎ ((rises ≡ true → slice_get above parent.0 ≡ Some None) × (k ≡ length heads) × (longer ≡ heads ++ atom ∷ []) × (further ≡ firsts ++ parent ∷ []))

-- the bond between u and v, the later of the two, has this block
pub record LowerEnd (places above : List (Option ℕ)) (u v block : ℕ) : Type 0 where
  pub first : ℕ
  pub second : ℕ
  pub at_first : Mark places u first
  pub at_second : Mark places v second
  pub later : first < second
  pub has : Mark above v block

abbrev pub BlockOf : List (Option ℕ) → List (Option ℕ) → ℕ → ℕ → ℕ → Type 0
BlockOf places above u v block = LowerEnd places above u v block ⊎ LowerEnd places above v u block

-- a molecule's bonds with a depth-first search of it and its tree of blocks
pub record Tree : Type 0 where
  pub bonds : List Bond
  pub atoms : ℕ
  pub order : List AtomId
  pub places : List (Option ℕ)
  pub parents : List (Option AtomId)
  pub roots : List AtomId
  pub heads : List AtomId
  pub firsts : List AtomId
  pub above : List (Option ℕ)

pub record IsTree (t : Tree) : Type 0 where
  pub forest : IsForest t.bonds t.atoms t.order t.places t.parents t.roots
  pub blocked : Blocked t.bonds t.atoms t.places t.parents t.heads t.firsts t.above t.atoms

abbrev pub IsFirst : Tree → ℕ → ℕ → Type 0
IsFirst t block a = slice_get t.firsts block ≡ Some (record { 0 = a })

-- the atom is the block's first or has this block above it
abbrev pub IsEnd : Tree → ℕ → ℕ → Type 0
IsEnd t block x = IsFirst t block x ⊎ Mark t.above x block

-- the place of an atom in the block order: atoms without a block above them come first, then block after block
abbrev pub block_key : Option (Option ℕ) → ℕ
block_key (Some (Some block)) = block + 1
block_key (Some None) = 0
block_key None = 0
