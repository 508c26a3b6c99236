-- When two molecules are the same under a map of their atoms (this project's own; stereo after OpenSMILES 1.0, section 3.9).
use Rattle.std.specs.Prelude.{◌≡◌, ◌≢◌, ℕ, ◌<◌, Bool, true, not, ◌==◌, if◌then◌else◌, List, Option, Some, None, slice_get, slice_index_or, length, map, Contains}
use Rattle.mc_base.specs.declared.ids.AtomId.{AtomId}
use Rattle.mc_mol.specs.declared.parts.Bond.{Bond}
use Rattle.mc_mol.specs.declared.parts.Sides.{Sides}
use Rattle.mc_mol.specs.declared.parts.Slot.{Slot}
use Rattle.mc_mol.specs.declared.parts.Slot.TheVariants.{At, Rest}
use Rattle.mc_mol.specs.Molecule.{Molecule, joins, are_joined}
use Rattle.mc_mol.specs.Permutations.{is_even_permutation}

-- entry k of a map of atoms
abbrev pub entry : List AtomId → ℕ → ℕ
entry f k = (slice_index_or f k (record { 0 = 0 })).0

-- a bond of this order between two atoms
abbrev pub HasBond : List Bond → ℕ → ℕ → ℕ → Type 0
HasBond bonds u v order = (bond : Bond) × Contains bonds bond × (joins bond u v ≡ true) × (bond.order ≡ order)

-- the place to which the map carries a place; the rest stays the rest
abbrev pub carried : List AtomId → Slot → Slot
carried f (At a) = At (record { 0 = entry f a.0 })
carried f Rest = Rest

-- Both atoms are no centres, or both are, and the map carries one list of places to an even permutation of the other.
abbrev pub SameCentre : List AtomId → Option (List Slot) → Option (List Slot) → Type 0
SameCentre f None None = Unit {0}
SameCentre f (Some q) (Some p) = is_even_permutation p (map (carried f) q) ≡ true
SameCentre f (Some q) None = ⊥
SameCentre f None (Some p) = ⊥

-- whether these two neighbours of the two ends of a double bond stand together
abbrev pub turned : Bool → Bool → Bool
turned together same = if same then together else not together

abbrev pub stand_together : Sides → ℕ → ℕ → Bool
stand_together sides c d = turned (turned sides.together (sides.first.0 == c)) (sides.second.0 == d)

-- the same of the bond between u and v, whichever end of it is its first
abbrev pub together_at : Bond → Sides → ℕ → ℕ → ℕ → Bool
together_at bond sides u c d = if bond.first.0 == u then stand_together sides c d else stand_together sides d c

-- Both bonds are unspecified, or both have sides that agree for each neighbour of the one end and each of the other.
abbrev pub SameSides : List AtomId → List Bond → Bond → Option Sides → Bond → Option Sides → Type 0
SameSides f bonds bond None counterpart None = Unit {0}
SameSides f bonds bond (Some s) counterpart (Some t) =
    (c d : ℕ) → are_joined bonds bond.first.0 c ≡ true → c ≢ bond.second.0 → are_joined bonds bond.second.0 d ≡ true → d ≢ bond.first.0 →
    stand_together s c d ≡ together_at counterpart t (entry f bond.first.0) (entry f c) (entry f d)
SameSides f bonds bond (Some s) counterpart None = ⊥
SameSides f bonds bond None counterpart (Some t) = ⊥

-- The map is one-to-one from the atoms of n onto those of m: entry k is the atom of m for atom k of n. Atoms are
-- equal, bonds correspond with their orders, and centres and sides agree.
pub record Same (m n : Molecule) (f : List AtomId) : Type 0 where
  pub length_map : length f ≡ length n.atoms
  pub length_atoms : length n.atoms ≡ length m.atoms
  pub in_range : (k : ℕ) → k < length f → entry f k < length m.atoms
  pub distinct : (j k : ℕ) → j < k → k < length f → entry f j ≡ entry f k → ⊥
  pub atoms : (k : ℕ) → k < length f → slice_get n.atoms k ≡ slice_get m.atoms (entry f k)
  pub length_bonds : length n.bonds ≡ length m.bonds
  pub bonds : (k : ℕ) (bond : Bond) → slice_get n.bonds k ≡ Some bond → HasBond m.bonds (entry f bond.first.0) (entry f bond.second.0) bond.order
  pub centres : (k : ℕ) (q p : Option (List Slot)) → k < length f → slice_get n.centres k ≡ Some q → slice_get m.centres (entry f k) ≡ Some p → SameCentre f q p
  pub sides : (k l : ℕ) (bond counterpart : Bond) (s t : Option Sides) → slice_get n.bonds k ≡ Some bond → slice_get m.bonds l ≡ Some counterpart
      → joins counterpart (entry f bond.first.0) (entry f bond.second.0) ≡ true → slice_get n.sides k ≡ Some s → slice_get m.sides l ≡ Some t → SameSides f n.bonds bond s counterpart t
