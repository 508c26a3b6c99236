-- The least closed path through a bond, and bonds that share one (in the words of graph theory; this project's own).
use Rattle.std.specs.Prelude.{◌≡◌, ℕ, ◌≤◌, List, Option, Some, None, length, slice_get}
use Rattle.mc_mol.specs.declared.parts.Bond.{Bond}
use Rattle.mc_mol.specs.ClosedPaths.{IsClosedPath, Uses, IsRingOf}

-- the least length of a closed path that uses the bond
pub record IsRingSize (bonds : List Bond) (bond : Bond) (size : ℕ) : Type 0 where
  pub path : List ℕ
  pub ring : IsRingOf bonds bond path
  pub size_is : length path ≡ size
  pub least : (other : List ℕ) → IsRingOf bonds bond other → size ≤ length other

-- the ring size of a bond, or none where no closed path uses it
abbrev pub RingSizeIs : List Bond → Bond → Option ℕ → Type 0
RingSizeIs bonds bond None = (path : List ℕ) → ¬ IsRingOf bonds bond path
RingSizeIs bonds bond (Some size) = IsRingSize bonds bond size

-- the same of the bond of a number
abbrev pub RingSizeAt : List Bond → ℕ → Option ℕ → Type 0
RingSizeAt bonds k size = (bond : Bond) → slice_get bonds k ≡ Some bond → RingSizeIs bonds bond size

-- one closed path of the molecule goes along both bonds
pub record ShareClosedPath (bonds : List Bond) (b c : Bond) : Type 0 where
  pub path : List ℕ
  pub closed_path : IsClosedPath bonds path
  pub first : Uses path b
  pub second : Uses path c
