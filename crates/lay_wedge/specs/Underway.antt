-- A plan underway: some centres have their wedges (this project's own).
use Rattle.std.specs.Prelude.{◌≡◌, ◌≢◌, ℕ, ◌+◌, ◌<◌, ◌⊎◌, ◌&&◌, Bool, true, false, not, List, [], ◌∷◌, Option, Some, None, length, slice_get, Contains}
use Rattle.ct_sd.specs.declared.table.DrawMark.{DrawMark}
use Rattle.ct_sd.specs.declared.table.DrawMark.TheVariants.{Plain, Up, Down, Wavy, Either}
use Rattle.mc_base.specs.declared.ids.AtomId.{AtomId}
use Rattle.mc_mol.specs.declared.drawing.Point.{Point}
use Rattle.mc_mol.specs.declared.parts.Bond.{Bond}
use Rattle.mc_mol.specs.declared.parts.HalfEdge.{HalfEdge}
use Rattle.mc_mol.specs.declared.parts.Slot.{Slot}
use Rattle.mc_mol.specs.declared.parts.Slot.TheVariants.{At}
use Rattle.mc_mol.specs.Molecule.{Molecule}
use Rattle.mc_mol.specs.HalfEdges.{half_edges}
use Rattle.mc_mol.specs.WellFormed.{IsMolecule}
use Rattle.mc_mol.specs.Permutations.{is_even_permutation}
use Rattle.mc_rings.specs.Centres.{has_order}
use Rattle.ct_geometry.specs.declared.wedge.Wedge.{Wedge}
use Rattle.ct_geometry.specs.Bounds.{ArePlaces}
use Rattle.ct_geometry.specs.Drawn.{IsDrawn, rays_from}
use Rattle.ct_geometry.specs.Wedges.{is_middle_one, is_wedge, wedge_list}
use Rattle.lay_wedge.specs.Plans.{HasSoundCentres, IsCentre, IsWedgeOf, plain}

-- a drawing of a sound molecule, as it may be planned
pub record IsPlannable (m : Molecule) (drawing : List Point) : Type 0 where
  pub molecule : IsMolecule m
  pub drawn : IsDrawn m drawing
  pub places : ArePlaces drawing
  pub sound : HasSoundCentres m

-- the bond of a half-edge may carry the wedge of its atom
abbrev pub may_serve : Molecule → List Point → ℕ → HalfEdge → Bool
may_serve m drawing a half = has_order m.bonds half.bond.0 1 && not (is_middle_one (half_edges m a) (rays_from drawing a) half.to)

-- all neighbours stand in the list
abbrev pub AreAmong : List HalfEdge → List Slot → Type 0
AreAmong halves places = (i : ℕ) (half : HalfEdge) → slice_get halves i ≡ Some half → Contains places (At half.to)

abbrev pub is_plain : DrawMark → Bool
is_plain Plain = true
is_plain Up = false
is_plain Down = false
is_plain Wavy = false
is_plain Either = false

abbrev pub is_plain_wedge : Option Wedge → Bool
is_plain_wedge None = false
is_plain_wedge (Some wedge) = is_plain wedge.mark

-- no wedge lies on this bond yet
abbrev pub is_free : List Wedge → ℕ → Bool
is_free wedges k = is_plain_wedge (slice_get wedges k)

-- a free bond of the atom that may carry its wedge
pub record HasFree (m : Molecule) (drawing : List Point) (wedges : List Wedge) (a place : ℕ) : Type 0 where
  pub half : HalfEdge
  pub is_half : slice_get (half_edges m a) place ≡ Some half
  pub serves : may_serve m drawing a half ≡ true
  pub free : is_free wedges half.bond.0 ≡ true

pub record HasTwoFree (m : Molecule) (drawing : List Point) (wedges : List Wedge) (a : ℕ) : Type 0 where
  pub first : ℕ
  pub second : ℕ
  pub different : first ≢ second
  pub one : HasFree m drawing wedges a first
  pub other : HasFree m drawing wedges a second

-- the bond that carries the wedge of a centre, by its place among the half-edges
pub record Carries (m : Molecule) (drawing : List Point) (wedges : List Wedge) (a : ℕ) (places : List Slot) : Type 0 where
  pub place : ℕ
  pub half : HalfEdge
  pub is_half : slice_get (half_edges m a) place ≡ Some half
  pub serves : may_serve m drawing a half ≡ true
  pub wedge : Wedge
  pub at_bond : slice_get wedges half.bond.0 ≡ Some wedge
  pub narrow : wedge.narrow.0 ≡ a
  pub marked : is_wedge wedge.mark ≡ true
  pub even : is_even_permutation places (wedge_list (half_edges m a) (rays_from drawing a) half.to wedge.mark) ≡ true
  pub only : (k : ℕ) (other : Wedge) → slice_get wedges k ≡ Some other → other.narrow.0 ≡ a → k ≢ half.bond.0 → other.mark ≡ Plain

abbrev pub is_some_list : Option (Option (List Slot)) → Bool
is_some_list None = false
is_some_list (Some None) = false
is_some_list (Some (Some places)) = true

abbrev pub is_false : Option Bool → Bool
is_false None = false
is_false (Some true) = false
is_false (Some false) = true

-- a centre that has no wedge yet
abbrev pub is_open : Molecule → List Bool → ℕ → Bool
is_open m planned a = is_some_list (slice_get m.centres a) && is_false (slice_get planned a)

-- how many atoms have no wedge yet
abbrev pub waiting : List Bool → ℕ
waiting [] = 0
waiting (true ∷ planned) = waiting planned
waiting (false ∷ planned) = waiting planned + 1

-- an atom that has its wedge keeps it
abbrev pub KeepPlanned : List Bool → List Bool → Type 0
KeepPlanned old new = (b : ℕ) → slice_get old b ≡ Some true → slice_get new b ≡ Some true

-- where atom a is a centre it has its wedge
abbrev pub IsPlanned : Molecule → List Bool → ℕ → Type 0
IsPlanned m planned a = (places : List Slot) → IsCentre m a places → slice_get planned a ≡ Some true

abbrev pub ArePlannedBelow : Molecule → List Bool → ℕ → Type 0
ArePlannedBelow m planned k = (a : ℕ) → a < k → IsPlanned m planned a

abbrev pub number : Option AtomId → Option ℕ
number None = None
number (Some a) = Some a.0

-- The centres that are planned have their wedges. Each other one has two free bonds that may carry its wedge, but for the one that is looked
-- at, which has one at least.
pub record Underway (m : Molecule) (drawing : List Point) (wedges : List Wedge) (planned : List Bool) (at : Option ℕ) : Type 0 where
  pub count : length wedges ≡ length m.bonds
  pub marks : length planned ≡ length m.atoms
  pub bonds : (k : ℕ) (bond : Bond) (wedge : Wedge) → slice_get m.bonds k ≡ Some bond → slice_get wedges k ≡ Some wedge
      → (wedge ≡ plain bond) ⊎ (IsWedgeOf m bond wedge × (slice_get planned wedge.narrow.0 ≡ Some true))
  pub done : (a : ℕ) (places : List Slot) → IsCentre m a places → slice_get planned a ≡ Some true → Carries m drawing wedges a places
  pub others : (a : ℕ) (places : List Slot) → IsCentre m a places → slice_get planned a ≡ Some false → at ≢ Some a → HasTwoFree m drawing wedges a
  pub waits : (a : ℕ) → at ≡ Some a → slice_get planned a ≡ Some false
  pub is_centre : (a : ℕ) → at ≡ Some a → (places : List Slot) × IsCentre m a places
  pub here : (a : ℕ) → at ≡ Some a → (place : ℕ) × HasFree m drawing wedges a place

-- where the walk goes on: at the other end of the bond, where that is a centre without a wedge
pub record GoesOn (m : Molecule) (planned : List Bool) (to : ℕ) (next : Option ℕ) : Type 0 where
  pub at : (b : ℕ) → next ≡ Some b → (b ≡ to) × ((places : List Slot) × IsCentre m b places) × (slice_get planned b ≡ Some false)
  pub ended : (places : List Slot) → next ≢ Some to → IsCentre m to places → slice_get planned to ≢ Some false
