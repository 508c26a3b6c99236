-- Atoms placed in the block order.
use Rattle.std.specs.Prelude.{◌≡◌, ◌≢◌, ℕ, ◌<◌, Bool, List, Some, slice_get}
use Rattle.mc_base.specs.declared.ids.AtomId.{AtomId}
use Rattle.mc_mol.specs.Molecule.{Molecule}
use Rattle.mc_rings.specs.Rings.{RingList}
use Rattle.lay_place.specs.declared.asking.Named.{Named}
use Rattle.ct_geometry.specs.Drawn.{IsOther}
use Rattle.lay_place.specs.Wanted.{FreeDouble, Wanted, named_at}

-- one of the first `done` atoms of the order
abbrev pub IsBefore : List AtomId → ℕ → ℕ → Type 0
IsBefore order done a = (i : ℕ) × (i < done) × (slice_get order i ≡ Some (record { 0 = a }))

-- v is the second end of bond k, and two neighbours of the first end that have sides are placed
pub record IsLastEnd (m : Molecule) (rings : RingList) (done v k : ℕ) : Type 0 where
  pub u : ℕ
  pub ends : FreeDouble m rings.sizes k u v
  pub placed : IsBefore rings.order done u
  pub name : Named
  pub named : named_at m k u ≡ Some name
  pub c : ℕ
  pub d : ℕ
  pub apart : c ≢ d
  pub other_c : IsOther m k u c
  pub other_d : IsOther m k u d
  pub placed_c : IsBefore rings.order done c
  pub placed_d : IsBefore rings.order done d

-- v is another neighbour of an end of bond k; both ends are placed, and another atom that has a side
pub record IsLastSide (m : Molecule) (rings : RingList) (done v k : ℕ) : Type 0 where
  pub e : ℕ
  pub p : ℕ
  pub ends : FreeDouble m rings.sizes k e p
  pub placed_e : IsBefore rings.order done e
  pub placed_p : IsBefore rings.order done p
  pub name : Named
  pub named : named_at m k e ≡ Some name
  pub other : IsOther m k e v
  pub d : ℕ
  pub side : Bool
  pub wanted : Wanted m rings.sizes k d side
  pub placed_d : IsBefore rings.order done d
