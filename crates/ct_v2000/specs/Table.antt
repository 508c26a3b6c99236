-- The table of a V2000 record (CTfile formats, connection table), over the whole list of its lines, and the faults of the
-- record.
use Rattle.std.specs.Prelude.{◌≡◌, ℕ, ◌+◌, Bool, true, false, not, ◌&&◌, ◌||◌, nat_lt, if◌then◌else◌, List, [], ◌∷◌, ◌++◌, length, drop, Option, Some, None, ℤ, pos, unsigned_abs, is_none}
use Rattle.mc_base.specs.declared.kind.Kind.{Kind}
use Rattle.mc_base.specs.declared.kind.Kind.TheVariants.{BadField, ShortRecord, Version as VersionKind, Radical, MassDifference}
use Rattle.ct_sd.specs.declared.fault.Fault.{Fault}
use Rattle.ct_sd.specs.declared.head.Version.{Version}
use Rattle.ct_sd.specs.declared.head.Version.TheVariants.{V2000, V3000, Other}
use Rattle.ct_sd.specs.declared.table.Table.{Table}
use Rattle.ct_sd.specs.declared.table.TableAtom.{TableAtom}
use Rattle.ct_sd.specs.declared.table.TableBond.{TableBond}
use Rattle.ct_sd.specs.Faults.{faults_at, faults_of_lines, shown_if, AreNone}
use Rattle.ct_sd.specs.Fields.{fields_show, or_zero}
use Rattle.ct_sd.specs.Heads.{line, name_shows, version_of}
use Rattle.ct_v2000.specs.declared.atom_line.AtomLine.{AtomLine}
use Rattle.ct_v2000.specs.Counts.{counts_fields, atom_count, atom_lines, bond_count, bond_lines, lines_before, is_well_formed}
use Rattle.ct_v2000.specs.AtomLines.{atom_lines_of, atom_line_shows}
use Rattle.ct_v2000.specs.BondLines.{bond_of, bond_faults}
use Rattle.ct_v2000.specs.Properties.{Numbered, block, has_end, property_faults}
use Rattle.ct_v2000.specs.Replaced.{replaces_codes, replaces_differences, says_charges, some_line, last_said}

-- the property lines that are read
abbrev pub properties : List (List ℕ) → List Numbered
properties lines = block false (lines_before lines + 1) (drop (lines_before lines) lines)

-- ---- the atoms

-- a charge by the last entry for the atom, and 0 without one; or by the atom line
abbrev pub charge_with : Bool → Option ℤ → Option ℤ → ℤ
charge_with replaced said own = if replaced then or_zero said else or_zero own

abbrev pub isotope_or : ℕ → Option ℕ → ℕ
isotope_or symbol None = symbol
isotope_or symbol (Some isotope) = isotope

abbrev pub mass_or : ℕ → Option ℤ → ℕ
mass_or symbol None = symbol
mass_or symbol (Some mass) = unsigned_abs mass

-- an isotope by the last entry for the atom, and without one that of the symbol; or by the atom line
abbrev pub isotope_with : Bool → Option ℤ → ℕ → Option ℕ → ℕ
isotope_with replaced said symbol own = if replaced then mass_or symbol said else isotope_or symbol own

-- the k-th atom, with what the property lines say of it
abbrev pub atom_with : List Numbered → ℕ → AtomLine → TableAtom
atom_with lines k given = record given.atom {
  charge = charge_with (some_line replaces_codes lines) (last_said says_charges k None lines) given.charge;
  isotope = isotope_with (some_line replaces_differences lines) (last_said replaces_differences k None lines) given.atom.isotope given.isotope;
}

-- the atoms of these lines, the first of them the k-th
abbrev pub atoms_from : List Numbered → ℕ → List AtomLine → List TableAtom
atoms_from lines k [] = []
atoms_from lines k (given ∷ more) = atom_with lines k given ∷ atoms_from lines (k + 1) more

abbrev pub table_atoms : List (List ℕ) → List TableAtom
table_atoms lines = atoms_from (properties lines) 1 (atom_lines_of 5 (atom_lines lines))

-- ---- the bonds

abbrev pub bonds_from : ℕ → List (List ℕ) → List TableBond
bonds_from k [] = []
bonds_from k (text ∷ texts) = bond_of k text ∷ bonds_from (k + 1) texts

abbrev pub table_bonds : List (List ℕ) → List TableBond
table_bonds lines = bonds_from (5 + atom_count lines) (bond_lines lines)

-- ---- the faults

-- what atom lines show where no property line replaces their fields: a radical, and a mass difference that says no mass
abbrev pub late_shows : Bool → Bool → AtomLine → List Kind
late_shows charges masses given = shown_if (not charges && is_none given.charge) Radical ++ shown_if (not masses && is_none given.isotope) MassDifference

abbrev pub late_faults : Bool → Bool → ℕ → List AtomLine → List Fault
late_faults charges masses k [] = []
late_faults charges masses k (given ∷ more) = faults_at k (late_shows charges masses given) ++ late_faults charges masses (k + 1) more

-- what the lines show that line 4 counts, and the property lines
abbrev pub block_faults : List (List ℕ) → List Fault
block_faults lines =
    faults_of_lines atom_line_shows 5 (atom_lines lines)
    ++ (bond_faults (atom_count lines) [] (5 + atom_count lines) (bond_lines lines)
    ++ (property_faults (atom_count lines) (properties lines)
    ++ late_faults (some_line replaces_codes (properties lines)) (some_line replaces_differences (properties lines)) 5 (atom_lines_of 5 (atom_lines lines))))

-- what line 4 shows, and the lines that it counts; nothing of these is looked at where line 4 isn't of its grammar
abbrev pub counted_faults : List (List ℕ) → List Fault
counted_faults lines =
    if is_well_formed lines then faults_at 4 (fields_show counts_fields (line 4 lines)) ++ block_faults lines
    else faults_at 4 (BadField ∷ [])

abbrev pub version_faults : Version → List (List ℕ) → List Fault
version_faults V2000 lines = counted_faults lines
version_faults V3000 lines = []
version_faults Other lines = faults_at 4 (VersionKind ∷ [])

-- fewer lines than line 4 counts, or no end of the property block behind them
abbrev pub ends_early : List (List ℕ) → Bool
ends_early lines = nat_lt (length lines) (lines_before lines) || not (has_end false (drop (lines_before lines) lines))

abbrev pub is_v2000 : Version → Bool
is_v2000 V2000 = true
is_v2000 V3000 = false
is_v2000 Other = false

-- fewer than four lines, or, of a V2000 record whose line 4 is of its grammar, fewer than that line asks for
abbrev pub is_short : List (List ℕ) → Bool
is_short lines = nat_lt (length lines) 4 || (is_v2000 (version_of lines) && (is_well_formed lines && ends_early lines))

-- The faults of a record that is no V3000 record. Of one that is too short nothing else is looked at.
abbrev pub record_faults : List (List ℕ) → List Fault
record_faults lines =
    if is_short lines then faults_at (length lines) (ShortRecord ∷ [])
    else faults_at 1 (name_shows lines) ++ version_faults (version_of lines) lines

-- ---- what a record is read as

pub record IsTableOf (lines : List (List ℕ)) (table : Table) : Type 0 where
  pub accepted : AreNone (record_faults lines)
  pub atoms : table.atoms ≡ table_atoms lines
  pub bonds : table.bonds ≡ table_bonds lines
  pub name : table.name ≡ line 1 lines
