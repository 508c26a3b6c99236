-- Lists of atoms as paths, read from the front.
use Rattle.std.specs.Prelude.{◌≡◌, ℕ, ◌⊎◌, true, List, [], ◌∷◌}
use Rattle.mc_mol.specs.declared.parts.Bond.{Bond}
use Rattle.mc_mol.specs.Molecule.{are_joined}

abbrev pub In : ℕ → List ℕ → Type 0
In x [] = ⊥
In x (y ∷ ys) = (x ≡ y) ⊎ In x ys

abbrev pub HeadIs : List ℕ → ℕ → Type 0
HeadIs [] v = ⊥
HeadIs (x ∷ xs) v = x ≡ v

abbrev pub LastIs : List ℕ → ℕ → Type 0
LastIs [] u = ⊥
LastIs (x ∷ []) u = x ≡ u
LastIs (x ∷ y ∷ ys) u = LastIs (y ∷ ys) u

-- u stands directly before v
abbrev pub Next : List ℕ → ℕ → ℕ → Type 0
Next [] u v = ⊥
Next (x ∷ xs) u v = ((x ≡ u) × HeadIs xs v) ⊎ Next xs u v

-- u and v stand side by side
abbrev pub Pair : List ℕ → ℕ → ℕ → Type 0
Pair xs u v = Next xs u v ⊎ Next xs v u

-- each atom is joined to the next
abbrev pub Chain : List Bond → List ℕ → Type 0
Chain bonds [] = Unit
Chain bonds (x ∷ xs) = ((y : ℕ) → HeadIs xs y → are_joined bonds x y ≡ true) × Chain bonds xs

-- no atom stands twice
abbrev pub Distinct : List ℕ → Type 0
Distinct [] = Unit
Distinct (x ∷ xs) = (¬ In x xs) × Distinct xs

-- a path from one atom to another
pub record OpenPath (bonds : List Bond) (path : List ℕ) (from to : ℕ) : Type 0 where
  pub chain : Chain bonds path
  pub distinct : Distinct path
  pub head : HeadIs path from
  pub last : LastIs path to

-- a path between the ends of one bond that goes along another one
pub record RingBy (bonds : List Bond) (u v x y : ℕ) : Type 0 where
  pub path : List ℕ
  pub is : OpenPath bonds path v u
  pub uses : Pair path x y
