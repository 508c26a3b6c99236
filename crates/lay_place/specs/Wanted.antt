-- What a molecule asks of a row of its atoms.
use Rattle.std.specs.Prelude.{◌≡◌, ℕ, ◌==◌, ◌&&◌, Bool, true, false, not, List, [], ◌∷◌, Option, Some, None, if◌then◌else◌, length, slice_get, filter}
use Rattle.mc_mol.specs.declared.parts.Bond.{Bond}
use Rattle.mc_mol.specs.declared.parts.HalfEdge.{HalfEdge}
use Rattle.mc_mol.specs.declared.parts.Sides.{Sides}
use Rattle.mc_mol.specs.declared.parts.Slot.{Slot}
use Rattle.mc_mol.specs.Molecule.{Molecule, joins}
use Rattle.mc_mol.specs.WellFormed.{IsMolecule}
use Rattle.mc_mol.specs.HalfEdges.{half_edges}
use Rattle.mc_rings.specs.Rings.{RingList, AreRingsOf}
use Rattle.mc_rings.specs.Centres.{may_be_centre}
use Rattle.mc_rings.specs.SidePlaces.{may_have_sides}
use Rattle.lay_place.specs.declared.asking.Named.{Named}
use Rattle.lay_place.specs.Rows.{same}
use Rattle.ct_geometry.specs.Drawn.{IsOther}

-- a sound molecule with its rings, in which no specified bond lies in a ring
pub record MayBePlaced (m : Molecule) (rings : RingList) : Type 0 where
  pub well_formed : IsMolecule m
  pub are_rings : AreRingsOf m rings
  pub centres : (a : ℕ) (places : List Slot) → slice_get m.centres a ≡ Some (Some places) → may_be_centre m rings.sizes a ≡ true
  pub sides : (k : ℕ) (sides : Sides) → slice_get m.sides k ≡ Some (Some sides) → may_have_sides m rings.sizes k ≡ true
  pub free : (k : ℕ) (sides : Sides) → slice_get m.sides k ≡ Some (Some sides) → slice_get rings.sizes k ≡ Some None

-- a double bond in no ring joins two atoms
pub record FreeDouble (m : Molecule) (sizes : List (Option ℕ)) (k u w : ℕ) : Type 0 where
  pub bond : Bond
  pub is_bond : slice_get m.bonds k ≡ Some bond
  pub joined : joins bond u w ≡ true
  pub double : bond.order ≡ 2
  pub free : slice_get sizes k ≡ Some None

-- the half-edges of an atom but that of bond number k
abbrev pub others : Molecule → ℕ → ℕ → List HalfEdge
others m k a = filter (λ (half : HalfEdge). not (half.bond.0 == k)) (half_edges m a)

-- the first of them
abbrev pub first_named : List HalfEdge → Option Named
first_named [] = None
first_named (half ∷ halves) = Some (record { atom = half.to; side = true })

abbrev pub is_centre : Option (Option (List Slot)) → Bool
is_centre None = false
is_centre (Some None) = false
is_centre (Some (Some places)) = true

abbrev pub named_by : Molecule → ℕ → ℕ → Option Bond → Option (Option Sides) → Option Named
named_by m k a (Some bond) (Some (Some sides)) = if bond.first.0 == a then Some (record { atom = sides.first; side = true }) else Some (record { atom = sides.second; side = sides.together })
named_by m k a (Some bond) (Some None) = if is_centre (slice_get m.centres a) && (length (half_edges m a) == 3) then first_named (others m k a) else None
named_by m k a (Some bond) None = None
named_by m k a None sides = None

-- A double bond of a centre with three neighbours, and a specified one, asks at its end: one of the end's other neighbours is named, with its
-- side. The sides of the named ones at both ends are those of the molecule.
abbrev pub named_at : Molecule → ℕ → ℕ → Option Named
named_at m k a = named_by m k a (slice_get m.bonds k) (slice_get m.sides k)

-- the side of a neighbour of this end: the named one's, or the other
abbrev pub side_from : Named → ℕ → Bool
side_from name c = same name.side (c == name.atom.0)

-- atom c is another neighbour of an end at which bond k asks, and has this side: the named one's or the other
pub record Wanted (m : Molecule) (sizes : List (Option ℕ)) (k c : ℕ) (side : Bool) : Type 0 where
  pub e : ℕ
  pub p : ℕ
  pub ends : FreeDouble m sizes k e p
  pub other : IsOther m k e c
  pub name : Named
  pub named : named_at m k e ≡ Some name
  pub is : side ≡ side_from name c
