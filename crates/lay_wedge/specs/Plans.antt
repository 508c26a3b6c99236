-- A plan of wedges, as it is written (this project's own, for BIOVIA CTfile Formats, bond stereo).
use Rattle.std.specs.Prelude.{◌≡◌, ◌≢◌, ℕ, ◌⊎◌, true, List, Option, Some, if◌then◌else◌, nat_lt, length, slice_get}
use Rattle.ct_sd.specs.declared.table.DrawMark.TheVariants.{Plain}
use Rattle.mc_mol.specs.declared.drawing.Point.{Point}
use Rattle.mc_mol.specs.declared.parts.Bond.{Bond}
use Rattle.mc_mol.specs.declared.parts.Slot.{Slot}
use Rattle.mc_mol.specs.Molecule.{Molecule, touches}
use Rattle.mc_mol.specs.Permutations.{is_even_permutation}
use Rattle.mc_rings.specs.Centres.{may_be_centre}
use Rattle.ct_geometry.specs.declared.wedge.Wedge.{Wedge}
use Rattle.ct_geometry.specs.declared.wedge_read.WedgeRead.TheVariants as read
use Rattle.ct_geometry.specs.Wedges.{begins_by, is_wedge, read_wedges}

-- the list of a centre
abbrev pub IsCentre : Molecule → ℕ → List Slot → Type 0
IsCentre m a places = slice_get m.centres a ≡ Some (Some places)

-- each centre is an atom that may be one, with the ring sizes of some rings
abbrev pub HasSoundCentres : Molecule → Type 0
HasSoundCentres m = (a : ℕ) (places : List Slot) → IsCentre m a places → (sizes : List (Option ℕ)) × (may_be_centre m sizes a ≡ true)

-- without a mark the end with the lesser number is written first
abbrev pub plain : Bond → Wedge
plain bond = record { mark = Plain; narrow = if nat_lt bond.second.0 bond.first.0 then bond.second else bond.first }

-- an up or down wedge of a single bond, which begins at a centre
pub record IsWedgeOf (m : Molecule) (bond : Bond) (wedge : Wedge) : Type 0 where
  pub marked : is_wedge wedge.mark ≡ true
  pub single : bond.order ≡ 1
  pub at_end : touches bond wedge.narrow.0 ≡ true
  pub places : List Slot
  pub centre : IsCentre m wedge.narrow.0 places

-- The centre has exactly one bond whose mark begins there, and it reads as an even permutation of its list.
pub record HasOwnWedge (m : Molecule) (drawing : List Point) (wedges : List Wedge) (a : ℕ) (places : List Slot) : Type 0 where
  pub bond : ℕ
  pub one : is_wedge (begins_by wedges a bond) ≡ true
  pub only : (k : ℕ) → k ≢ bond → begins_by wedges a k ≡ Plain
  pub list : List Slot
  pub reads : (sizes : List (Option ℕ)) → may_be_centre m sizes a ≡ true → read_wedges m sizes drawing (begins_by wedges a) a ≡ read.Centre list
  pub even : is_even_permutation places list ≡ true

-- Each bond has a wedge of a centre or none, and each centre has one of its own.
pub record IsPlan (m : Molecule) (drawing : List Point) (wedges : List Wedge) : Type 0 where
  pub count : length wedges ≡ length m.bonds
  pub bonds : (k : ℕ) (bond : Bond) (wedge : Wedge) → slice_get m.bonds k ≡ Some bond → slice_get wedges k ≡ Some wedge → (wedge ≡ plain bond) ⊎ IsWedgeOf m bond wedge
  pub centres : (a : ℕ) (places : List Slot) → IsCentre m a places → HasOwnWedge m drawing wedges a places
