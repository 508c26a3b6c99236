-- Which lists are the neighbours of an atom (this project's own).
use Rattle.std.specs.Prelude.{◌≡◌, ◌↔◌, ℕ, ◌+◌, ◌<◌, ◌≤◌, Bool, true, false, List, [], ◌∷◌, ◌==◌, length, map}
use Rattle.mc_base.specs.declared.ids.AtomId.{AtomId}
use Rattle.mc_mol.specs.declared.parts.Bond as bond
use Rattle.mc_mol.specs.HalfEdges.{degree}
use Rattle.mc_mol.specs.Molecule.{are_joined}

abbrev pub bit : Bool → ℕ
bit true = 1
bit false = 0

-- how often an atom stands in a list
abbrev pub occurs : ℕ → List ℕ → ℕ
occurs v [] = 0
occurs v (x ∷ xs) = bit (x == v) + occurs v xs

abbrev pub atom_number : AtomId → ℕ
atom_number a = a.0

-- each atom that a bond joins to atom a stands once, and no other stands; there are as many as bonds of the atom
pub record AreNeighboursOf (bonds : List bond.Bond) (a : ℕ) (list : List AtomId) : Type 0 where
  pub count : length list ≡ degree bonds a
  pub once : (v : ℕ) → occurs v (map atom_number list) ≤ 1
  pub joined : (v : ℕ) → (0 < occurs v (map atom_number list)) ↔ (are_joined bonds a v ≡ true)
