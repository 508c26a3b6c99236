-- What a depth-first search of all atoms finds: the order of the atoms, the place of each in it, and the atom from which
-- each was found, its parent. An atom without a parent is a root.
use Rattle.std.specs.Prelude.{◌≡◌, ◌≢◌, ℕ, zero, suc, ◌+◌, ◌<◌, ◌≤◌, ◌&&◌, ◌++◌, if◌then◌else◌, true, false, Bool, List, [], ◌∷◌, Option, Some, None, length, slice_get, All, AllPairs}
use Rattle.mc_base.specs.declared.ids.AtomId.{AtomId}
use Rattle.mc_mol.specs.declared.parts.Bond.{Bond}
use Rattle.mc_mol.specs.Molecule.{joins, are_joined}
use Rattle.mc_mol.specs.WellFormed.{IsBond}
use Rattle.mc_mol.specs.Numbered.{Mark, Holds, unmarked}

-- x was found from p
abbrev pub Parent : List (Option AtomId) → ℕ → ℕ → Type 0
Parent parents x p = slice_get parents x ≡ Some (Some (record { 0 = p }))

-- k steps from child to parent lead from x to a
abbrev pub Up : List (Option AtomId) → ℕ → ℕ → ℕ → Type 0
Up parents zero x a = x ≡ a
Up parents (suc k) x a = (p : ℕ) × (Parent parents x p) × (Up parents k p a)

-- a is x or an ancestor of x
abbrev pub IsAbove : List (Option AtomId) → ℕ → ℕ → Type 0
IsAbove parents a x = (k : ℕ) × (Up parents k x a)

-- the atom is the current one or an ancestor of it
abbrev pub OnPath : List (Option AtomId) → Option AtomId → ℕ → Type 0
OnPath parents None x = ⊥
OnPath parents (Some current) x = IsAbove parents x current.0

-- x and its parent are joined, and the parent was found first
pub record IsChild (bonds : List Bond) (places : List (Option ℕ)) (x p : ℕ) : Type 0 where
  pub joined : are_joined bonds p x ≡ true
  pub place : ℕ
  pub above : ℕ
  pub placed : Mark places x place
  pub placed_above : Mark places p above
  pub earlier : above < place

-- The atoms that are found so far: of two joined ones the one is an ancestor of the other.
pub record Found (bonds : List Bond) (atoms : ℕ) (order : List AtomId) (places : List (Option ℕ)) (parents : List (Option AtomId)) (roots : List AtomId) : Type 0 where
  pub place_count : length places ≡ atoms
  pub parent_count : length parents ≡ atoms
  pub total : length order + unmarked places ≡ atoms
  pub listed : (i : ℕ) (x : AtomId) → slice_get order i ≡ Some x → Mark places x.0 i
  pub placed : (x i : ℕ) → Mark places x i → slice_get order i ≡ Some (record { 0 = x })
  pub free : (x : ℕ) → slice_get places x ≡ Some None → slice_get parents x ≡ Some None
  pub parent : (x p : ℕ) → Parent parents x p → IsChild bonds places x p
  pub related : (x y i j : ℕ) → Mark places x i → Mark places y j → i < j → are_joined bonds x y ≡ true → IsAbove parents x y
  pub root : (x i : ℕ) → Mark places x i → slice_get parents x ≡ Some None → Holds roots x
  pub no_parent : (i : ℕ) (r : AtomId) → slice_get roots i ≡ Some r → slice_get parents r.0 ≡ Some None
  pub root_found : (i : ℕ) (r : AtomId) → slice_get roots i ≡ Some r → (place : ℕ) × (Mark places r.0 place)
  pub different : (i j : ℕ) (r s : AtomId) → i < j → slice_get roots i ≡ Some r → slice_get roots j ≡ Some s → r.0 ≢ s.0
  pub few_roots : length roots ≤ length order

-- In the middle of the search: each atom with a neighbour that isn't found yet is the current one or an ancestor of it.
pub record Searched (bonds : List Bond) (atoms : ℕ) (order : List AtomId) (places : List (Option ℕ)) (parents : List (Option AtomId)) (roots : List AtomId) (current : Option AtomId) : Type 0 where
  pub found : Found bonds atoms order places parents roots
  pub unfinished : (x y i : ℕ) → Mark places x i → are_joined bonds x y ≡ true → slice_get places y ≡ Some None → OnPath parents current x
  pub current_found : (c : AtomId) → current ≡ Some c → (place : ℕ) × (Mark places c.0 place)

-- all atoms are found
pub record IsForest (bonds : List Bond) (atoms : ℕ) (order : List AtomId) (places : List (Option ℕ)) (parents : List (Option AtomId)) (roots : List AtomId) : Type 0 where
  pub found : Found bonds atoms order places parents roots
  pub fit : All (IsBond atoms) bonds
  pub once : AllPairs (λ (b c : Bond). joins b c.first.0 c.second.0 ≡ false) bonds
  pub all : (x : ℕ) → x < atoms → (place : ℕ) × (Mark places x place)

-- the current atom may be the parent of x
abbrev pub MayFind : List Bond → Option AtomId → ℕ → Type 0
MayFind bonds None x = Unit
MayFind bonds (Some p) x = are_joined bonds p.0 x ≡ true

-- an atom without a parent is one more root
abbrev pub with_root : List AtomId → Option AtomId → AtomId → List AtomId
with_root roots None x = roots ++ x ∷ []
with_root roots (Some p) x = roots

-- how far there still is to go: an atom that isn't found counts more than all places
abbrev pub scaled : ℕ → ℕ → ℕ
scaled n zero = 0
scaled n (suc k) = scaled n k + n + 1

abbrev pub next_place : Option (Option ℕ) → ℕ
next_place (Some (Some i)) = i + 1
next_place (Some None) = 0
next_place None = 0

abbrev pub depth_of : List (Option ℕ) → Option AtomId → ℕ
depth_of places None = 0
depth_of places (Some current) = next_place (slice_get places current.0)

abbrev pub still_to_go : ℕ → List (Option ℕ) → Option AtomId → ℕ
still_to_go atoms places current = scaled atoms (unmarked places) + depth_of places current

-- v was found later than u
abbrev pub IsLater : List (Option ℕ) → ℕ → ℕ → Type 0
IsLater places u v = (i : ℕ) × (j : ℕ) × (Mark places u i) × (Mark places v j) × (i < j)
