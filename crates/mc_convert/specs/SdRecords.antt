-- What a record of an SD file stands for, and which kinds stand in it (CTfile formats, SD files; the kinds are this
-- project's own).
use Rattle.std.specs.Prelude.{◌≡◌, ◌⊎◌, ℕ, ◌+◌, ◌&&◌, ◌||◌, not, Bool, true, false, List, [], ◌∷◌, Option}
use Rattle.std.specs.List.{list_any}
use Rattle.mc_base.specs.declared.kind.Kind.{Kind}
use Rattle.mc_base.specs.declared.kind.Kind.TheVariants.{NotBuilt}
use Rattle.mc_base.specs.declared.refusal.Stop.{Stop}
use Rattle.mc_base.specs.declared.refusal.Stop.TheVariants.{Refused, NoMemory}
use Rattle.mc_base.specs.Shown.{IsFirst}
use Rattle.mc_mol.specs.Molecule.{Molecule}
use Rattle.mc_rings.specs.Rings.{RingList, AreRingsOf}
use Rattle.mc_rings.specs.SidePlaces.{may_have_sides}
use Rattle.ct_sd.specs.declared.fault.Fault.{Fault}
use Rattle.ct_sd.specs.declared.head.Version.{Version}
use Rattle.ct_sd.specs.declared.head.Version.TheVariants.{V2000, V3000, Other}
use Rattle.ct_sd.specs.declared.table.DrawMark.{DrawMark}
use Rattle.ct_sd.specs.declared.table.Table.{Table}
use Rattle.ct_sd.specs.declared.table.TableAtom.{TableAtom}
use Rattle.ct_sd.specs.declared.table.TableBond.{TableBond}
use Rattle.ct_sd.specs.Faults.{AreNone, IsNoBarrier, StandsIn}
use Rattle.ct_sd.specs.Heads.{line, version_of}
use Rattle.ct_v2000.specs.Table.{record_faults as v2000_faults, table_atoms as v2000_atoms, table_bonds as v2000_bonds}
use Rattle.ct_v3000.specs.Table.{record_faults as v3000_faults, table_atoms as v3000_atoms, table_bonds as v3000_bonds}
use Rattle.ct_geometry.specs.Stands.{CtStands, IsReadOf, StandsAt as StandsInTable}
use Rattle.ct_geometry.specs.TableFaults.{limit_faults}
use Rattle.ct_geometry.specs.Tables.{without_stereo}
use Rattle.ct_geometry.specs.TableSides.{is_either}
use Rattle.ct_geometry.specs.Wedges.{is_wavy, is_wedge}
use Rattle.mc_convert.specs.declared.sd_read.SdRead.{SdRead}
use Rattle.mc_convert.specs.Records.{header_count}

-- ---- the table of a record, by the rules of its version

-- a record of any other version is looked at as a V2000 record is, and shows that it is none
abbrev pub faults_by : Version → List (List ℕ) → List Fault
faults_by V2000 lines = v2000_faults lines
faults_by V3000 lines = v3000_faults lines
faults_by Other lines = v2000_faults lines

abbrev pub atoms_by : Version → List (List ℕ) → List TableAtom
atoms_by V2000 lines = v2000_atoms lines
atoms_by V3000 lines = v3000_atoms lines
atoms_by Other lines = v2000_atoms lines

abbrev pub bonds_by : Version → List (List ℕ) → List TableBond
bonds_by V2000 lines = v2000_bonds lines
bonds_by V3000 lines = v3000_bonds lines
bonds_by Other lines = v2000_bonds lines

abbrev pub record_faults : List (List ℕ) → List Fault
record_faults lines = faults_by (version_of lines) lines

-- the lines of a record give a table
pub record IsSdTable (lines : List (List ℕ)) (table : Table) : Type 0 where
  pub accepted : AreNone (record_faults lines)
  pub atoms : table.atoms ≡ atoms_by (version_of lines) lines
  pub bonds : table.bonds ≡ bonds_by (version_of lines) lines
  pub name : table.name ≡ line 1 lines

-- ---- what is read today

-- a bond is drawn up, down or wavy
abbrev pub is_drawn : DrawMark → Bool
is_drawn mark = is_wedge mark || is_wavy mark

-- a side place without an either mark
abbrev pub is_open_side : Molecule → List (Option ℕ) → ℕ → DrawMark → Bool
is_open_side m sizes k mark = may_have_sides m sizes k && not (is_either mark)

-- one of these bonds is such, the first of them number k
abbrev pub has_open_side : Molecule → List (Option ℕ) → ℕ → List TableBond → Bool
has_open_side m sizes k [] = false
has_open_side m sizes k (bond ∷ bonds) = is_open_side m sizes k bond.mark || has_open_side m sizes (k + 1) bonds

-- one of these bonds is drawn up, down or wavy
abbrev pub has_drawn : List TableBond → Bool
has_drawn bonds = list_any (λ (bond : TableBond). is_drawn bond.mark) bonds

-- a single bond is drawn up, down or wavy, or a side place has no either mark
abbrev pub says_stereo : Molecule → List (Option ℕ) → List TableBond → Bool
says_stereo m sizes bonds = has_drawn bonds || has_open_side m sizes 0 bonds

-- the drawing of a table says stereo
pub record SaysStereo (table : Table) : Type 0 where
  pub rings : RingList
  pub are_rings : AreRingsOf (without_stereo table) rings
  pub says : says_stereo (without_stereo table) rings.sizes table.bonds ≡ true

-- What isn't read today, where no kind stands before: a table whose drawing says stereo.
abbrev pub IsNotBuilt : List (List ℕ) → Type 0
IsNotBuilt lines = (table : Table) × IsSdTable lines table × AreNone (limit_faults table) × SaysStereo table

-- ---- kinds

-- a kind stands at a place of a record's table
abbrev pub StandsInTableOf : List (List ℕ) → Kind → ℕ → Type 0
StandsInTableOf lines kind place = (table : Table) × IsSdTable lines table × StandsInTable table kind place

-- a kind stands at a place of a record's lines: in one of them, in the table that they give, or since they aren't read today
abbrev pub StandsInLines : List (List ℕ) → Kind → ℕ → Type 0
StandsInLines lines kind place = StandsIn (record_faults lines) kind place
    ⊎ (StandsInTableOf lines kind place ⊎ ((kind ≡ NotBuilt) × (place ≡ 1) × IsNotBuilt lines))

-- the first kind that stands in lines is the one that is answered; want of memory is free
abbrev pub IsSdRefused : List (List ℕ) → Stop → Type 0
IsSdRefused lines (Refused refusal) = IsFirst (StandsInLines lines) IsNoBarrier refusal
IsSdRefused lines NoMemory = Unit {0}

-- ---- molecules

-- a record stands for what its table stands for
pub record SdStands (lines : List (List ℕ)) (m : Molecule) : Type 0 where
  pub table : Table
  pub given : IsSdTable lines table
  pub built : SaysStereo table → ⊥
  pub stands : CtStands table m

-- what is read of lines: what their table is read as, the name, and the number of headers
pub record IsSdReadOf (lines : List (List ℕ)) (read : SdRead) : Type 0 where
  pub table : Table
  pub given : IsSdTable lines table
  pub built : SaysStereo table → ⊥
  pub is : IsReadOf table read.ct
  pub name : read.name ≡ line 1 lines
  pub headers : read.headers ≡ header_count lines
