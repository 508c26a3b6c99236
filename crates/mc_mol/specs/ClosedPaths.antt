-- Closed paths of bonds (in the words of graph theory; this project's own).
use Rattle.std.specs.Prelude.{◌≡◌, ◌≢◌, ℕ, ◌+◌, ◌-◌, ◌<◌, ◌≤◌, ◌⊎◌, true, List, length, slice_index}
use Rattle.mc_mol.specs.declared.parts.Bond.{Bond}
use Rattle.mc_mol.specs.Molecule.{are_joined}

-- at least three different atoms, each joined to the next and the last to the first
pub record IsClosedPath (bonds : List Bond) (path : List ℕ) : Type 0 where
  pub long : 3 ≤ length path
  pub different : (i j : ℕ) → i < j → j < length path → slice_index path i ≢ slice_index path j
  pub joined : (i : ℕ) → i + 1 < length path → are_joined bonds (slice_index path i) (slice_index path (i + 1)) ≡ true
  pub closed : are_joined bonds (slice_index path (length path - 1)) (slice_index path 0) ≡ true

-- y follows x round the path
abbrev pub Follows : List ℕ → ℕ → ℕ → Type 0
Follows path x y = ((i : ℕ) × (i + 1 < length path) × (slice_index path i ≡ x) × (slice_index path (i + 1) ≡ y))
    ⊎ ((slice_index path (length path - 1) ≡ x) × (slice_index path 0 ≡ y))

-- the path goes along the bond, in one direction or the other
abbrev pub Uses : List ℕ → Bond → Type 0
Uses path bond = Follows path bond.first.0 bond.second.0 ⊎ Follows path bond.second.0 bond.first.0

-- a closed path of the molecule that uses the bond
pub record IsRingOf (bonds : List Bond) (bond : Bond) (path : List ℕ) : Type 0 where
  pub closed_path : IsClosedPath bonds path
  pub uses : Uses path bond

-- some closed path uses the bond
abbrev pub LiesOnClosedPath : List Bond → Bond → Type 0
LiesOnClosedPath bonds bond = (path : List ℕ) × IsRingOf bonds bond path
