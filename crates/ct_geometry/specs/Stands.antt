-- What a table stands for, and the rules of the kinds for which it is refused (BIOVIA CTfile Formats; the rules of this project's own that
-- they cite).
use Rattle.std.specs.Prelude.{◌≡◌, ℕ, ◌+◌, ◌<◌, Bool, true, false, not, ◌&&◌, List, Option, Some, None, if◌then◌else◌, count_by, get_or, length, map, slice_get}
use Rattle.ct_sd.specs.declared.table.DrawMark.{DrawMark}
use Rattle.ct_sd.specs.declared.table.DrawMark.TheVariants.{Plain}
use Rattle.ct_sd.specs.declared.table.Table.{Table}
use Rattle.ct_sd.specs.declared.table.TableBond.{TableBond}
use Rattle.ct_sd.specs.Faults.{StandsIn, IsNoBarrier}
use Rattle.mc_base.specs.declared.ids.AtomId.{AtomId}
use Rattle.mc_base.specs.declared.kind.Kind.{Kind}
use Rattle.mc_base.specs.declared.kind.Kind.TheVariants.{AmbiguousCentre}
use Rattle.mc_base.specs.declared.refusal.Stop.{Stop}
use Rattle.mc_base.specs.declared.refusal.Stop.TheVariants.{Refused, NoMemory}
use Rattle.mc_base.specs.Shown.{IsFirst}
use Rattle.mc_mol.specs.declared.parts.Sides.{Sides}
use Rattle.mc_mol.specs.declared.parts.Slot.{Slot}
use Rattle.mc_mol.specs.Molecule.{Molecule}
use Rattle.mc_mol.specs.Parts.{count_below}
use Rattle.mc_rings.specs.Centres.{lies_in_no_ring}
use Rattle.mc_rings.specs.Rings.{RingList, AreRingsOf}
use Rattle.mc_rings.specs.SidePlaces.{may_have_sides}
use Rattle.ct_geometry.specs.declared.ct_read.CtRead.{CtRead}
use Rattle.ct_geometry.specs.declared.wedge.Wedge.{Wedge}
use Rattle.ct_geometry.specs.declared.wedge_read.WedgeRead.{WedgeRead}
use Rattle.ct_geometry.specs.CentresRead.{centre_given, is_ambiguous, up_to}
use Rattle.ct_geometry.specs.Tables.{atoms_of, bonds_of, drawing_of, marks_of, without_stereo}
use Rattle.ct_geometry.specs.TableFaults.{limit_faults}
use Rattle.ct_geometry.specs.TableSides.{drawn_sides, is_either}
use Rattle.ct_geometry.specs.Wedges.{begins, is_wedge, read_wedges}

-- ---- centres and sides

-- what the wedges say of an atom
abbrev pub centre_read : Table → List (Option ℕ) → ℕ → WedgeRead
centre_read table sizes a = read_wedges (without_stereo table) sizes (drawing_of table) (begins (bonds_of table.bonds) (marks_of table) a) a

-- the list of places of each atom, where it is a centre
abbrev pub centres_of : Table → List (Option ℕ) → List (Option (List Slot))
centres_of table sizes = up_to (λ (a : ℕ). centre_given (centre_read table sizes a)) (length (atoms_of table))

-- the sides of each bond, where it is specified
abbrev pub sides_of_bonds : Table → List (Option ℕ) → List (Option Sides)
sides_of_bonds table sizes = up_to (λ (k : ℕ). drawn_sides (without_stereo table) sizes (drawing_of table) (marks_of table) k) (length (bonds_of table.bonds))

-- ---- the kinds

-- the wedges at an atom that would be a centre can't be told, or contradict each other
pub record IsAmbiguousAt (table : Table) (a : ℕ) : Type 0 where
  pub atom : a < length (atoms_of table)
  pub rings : RingList
  pub are_rings : AreRingsOf (without_stereo table) rings
  pub ambiguous : is_ambiguous (centre_read table rings.sizes a) ≡ true

-- A kind stands at a place of a table: too many or too great values, or an atom whose wedges are ambiguous. Atoms count from 1.
abbrev pub StandsAt : Table → Kind → ℕ → Type 0
StandsAt table AmbiguousCentre place = (a : ℕ) × (place ≡ a + 1) × IsAmbiguousAt table a
StandsAt table kind place = StandsIn (limit_faults table) kind place

-- the first kind that stands in a table is the one that is answered; want of memory is free
abbrev pub IsRefused : Table → Stop → Type 0
IsRefused table (Refused refusal) = IsFirst (StandsAt table) IsNoBarrier refusal
IsRefused table NoMemory = Unit {0}

-- ---- the molecule

-- A table stands for a molecule: no kind stands in it, and the molecule has its atoms and bonds, the centres of its wedges and the sides
-- of its drawing.
pub record CtStands (table : Table) (m : Molecule) : Type 0 where
  pub accepted : (kind : Kind) (place : ℕ) → StandsAt table kind place → ⊥
  pub rings : RingList
  pub are_rings : AreRingsOf (without_stereo table) rings
  pub molecule : m ≡ record (without_stereo table) { centres = centres_of table rings.sizes; sides = sides_of_bonds table rings.sizes }

-- ---- wedges and counts

abbrev pub is_some : {A : Type 0} → Option (Option A) → Bool
is_some None = false
is_some (Some None) = false
is_some (Some (Some x)) = true

-- the bond is marked up or down, and begins at a centre
abbrev pub carries_centre : List (Option (List Slot)) → TableBond → Bool
carries_centre centres bond = is_wedge bond.mark && is_some (slice_get centres bond.first)

-- up and down marks that begin at centres are kept
abbrev pub kept_wedge : List (Option (List Slot)) → TableBond → Wedge
kept_wedge centres bond = record { mark = if carries_centre centres bond then bond.mark else Plain; narrow = record { 0 = bond.first } }

abbrev pub kept_wedges : List (Option (List Slot)) → List TableBond → List Wedge
kept_wedges centres bonds = map (kept_wedge centres) bonds

-- a bond is marked up or down, and its first atom is no centre
abbrev pub is_idle : List (Option (List Slot)) → TableBond → Bool
is_idle centres bond = is_wedge bond.mark && not (is_some (slice_get centres bond.first))

-- how many bonds are such
abbrev pub idle_count : List (Option (List Slot)) → List TableBond → ℕ
idle_count centres bonds = count_by (λ (bond : TableBond). is_idle centres bond) bonds

-- a side place in a ring without an either mark
abbrev pub is_ring_side : Molecule → List (Option ℕ) → List DrawMark → ℕ → Bool
is_ring_side m sizes marks k = may_have_sides m sizes k && (not (lies_in_no_ring sizes k) && not (is_either (get_or marks k Plain)))

-- how many bonds are such
abbrev pub ring_count : Table → List (Option ℕ) → ℕ
ring_count table sizes = count_below (is_ring_side (without_stereo table) sizes (marks_of table)) (length (bonds_of table.bonds))

-- What is read of a table: its molecule with the rings of this, the drawing, the wedges of centres, and the two counts.
pub record IsReadOf (table : Table) (ct : CtRead) : Type 0 where
  pub stands : CtStands table ct.mol
  pub rings : AreRingsOf ct.mol ct.rings
  pub drawing : ct.drawing ≡ drawing_of table
  pub wedges : ct.wedges ≡ kept_wedges ct.mol.centres table.bonds
  pub idle : ct.idle ≡ idle_count ct.mol.centres table.bonds
  pub ring : ct.ring ≡ ring_count table ct.rings.sizes
