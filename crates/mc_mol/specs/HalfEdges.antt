-- The half-edges of an atom, as the bonds of a molecule give them (this project's own).
use Rattle.std.specs.Prelude.{◌≡◌, ◌≢◌, ℕ, ◌+◌, ◌<◌, true, List, [], ◌∷◌, ◌++◌, Some, if◌then◌else◌, ◌==◌, length, reverse, slice_get}
use Rattle.mc_base.specs.declared.ids.AtomId.{AtomId}
use Rattle.mc_mol.specs.declared.parts.Bond.{Bond}
use Rattle.mc_mol.specs.declared.parts.HalfEdge.{HalfEdge}
use Rattle.mc_mol.specs.Molecule.{Molecule, joins, are_joined, touches}

-- the end of a bond across from an atom that it touches
abbrev pub other_end : Bond → ℕ → AtomId
other_end bond a = if bond.first.0 == a then bond.second else bond.first

-- how many of the bonds touch an atom
abbrev pub degree : List Bond → ℕ → ℕ
degree [] a = 0
degree (bond ∷ bonds) a = degree bonds a + (if touches bond a then 1 else 0)

-- the half-edge of a bond at an atom, where the bond touches it: the bond's number is the number of earlier bonds,
-- and its twin stands in the other atom's list behind the half-edges of the earlier bonds
abbrev pub half_edge : Bond → List Bond → ℕ → List HalfEdge
half_edge bond earlier a = if touches bond a
    then record { bond = record { 0 = length earlier }; to = other_end bond a; twin = degree earlier (other_end bond a).0 } ∷ []
    else []

-- the half-edges of an atom by the bonds so far, the latest first
abbrev pub half_edges_by : List Bond → ℕ → List HalfEdge
half_edges_by [] a = []
half_edges_by (bond ∷ earlier) a = half_edges_by earlier a ++ half_edge bond earlier a

-- the half-edges of an atom: one for each bond that touches it, in the order of the bonds' numbers
abbrev pub half_edges_in : List Bond → ℕ → List HalfEdge
half_edges_in bonds a = half_edges_by (reverse bonds) a

abbrev pub half_edges : Molecule → ℕ → List HalfEdge
half_edges m a = half_edges_in m.bonds a

-- a half-edge of an atom, at this place of its list: its bond joins the atom to another one, and in that atom's list the
-- half-edge of the same bond leads back to this place
pub record HasTwin (m : Molecule) (a : AtomId) (place : ℕ) (half : HalfEdge) : Type 0 where
  pub to : half.to.0 < length m.atoms
  pub different : half.to.0 ≢ a.0
  pub bond : Bond
  pub is_bond : slice_get m.bonds half.bond.0 ≡ Some bond
  pub joined : joins bond a.0 half.to.0 ≡ true
  pub twin : slice_get (half_edges m half.to.0) half.twin ≡ Some (record { bond = half.bond; to = a; twin = place })

-- each half-edge of an atom has its twin
abbrev pub AllHaveTwins : Molecule → AtomId → Type 0
AllHaveTwins m a = (place : ℕ) (half : HalfEdge) → slice_get (half_edges m a.0) place ≡ Some half → HasTwin m a place half

-- different half-edges lead to different atoms
abbrev pub LeadApart : List HalfEdge → Type 0
LeadApart halves = (i j : ℕ) (g h : HalfEdge) → i ≢ j → slice_get halves i ≡ Some g → slice_get halves j ≡ Some h → g.to.0 ≢ h.to.0

-- each half-edge leads to an atom that is there and joined to this one
abbrev pub LeadToNeighbours : ℕ → List Bond → ℕ → List HalfEdge → Type 0
LeadToNeighbours atoms bonds a halves = (place : ℕ) (half : HalfEdge) → slice_get halves place ≡ Some half → (half.to.0 < atoms) × (are_joined bonds a half.to.0 ≡ true)
