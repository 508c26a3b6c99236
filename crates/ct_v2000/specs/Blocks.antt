-- How far a reader is in the lines of a record.
use Rattle.std.specs.Prelude.{◌≡◌, ℕ, ◌+◌, ◌-◌, ◌*◌, ◌<◌, ◌≤◌, ◌||◌, ◌++◌, Bool, true, false, List, [], ◌∷◌, Option, Some, None, take, drop, get_or, length, unsigned_abs}
use Rattle.ct_sd.specs.declared.fault.Fault.{Fault}
use Rattle.ct_sd.specs.declared.head.Version.TheVariants.{V2000}
use Rattle.ct_sd.specs.Faults.{first_of, faults_at}
use Rattle.ct_sd.specs.Fields.{value, fields_show}
use Rattle.ct_sd.specs.Heads.{line, name_shows, version_of}
use Rattle.ct_sd.specs.declared.table.TableAtom.{TableAtom}
use Rattle.ct_v2000.specs.declared.atom_line.AtomLine.{AtomLine}
use Rattle.ct_v2000.specs.declared.counts.Counts.{Counts}
use Rattle.ct_v2000.specs.declared.said.Said.{Said}
use Rattle.ct_v2000.specs.Counts.{counts_fields, atoms_field, bonds_field, lists_field, stext_field, is_well_formed}
use Rattle.ct_v2000.specs.Properties.{Numbered, block, has_end, property_faults, property_of, property_line_shows}
use Rattle.ct_v2000.specs.Replaced.{replaces_codes, replaces_differences, says_charges, some_line, said_by_line, last_said}
use Rattle.ct_v2000.specs.Table.{charge_with, isotope_with, atoms_from, late_faults}

-- the lines from the n-th on of so many that begin behind the first ones
abbrev pub still : ℕ → ℕ → ℕ → List (List ℕ) → List (List ℕ)
still first n count lines = take (count - n) (drop (first + n) lines)

-- what is kept of property lines is what they say of so many atoms
pub record IsSaid (lines : List Numbered) (said : Said) : Type 0 where
  pub codes : said.codes_replaced ≡ some_line replaces_codes lines
  pub differences : said.differences_replaced ≡ some_line replaces_differences lines
  pub charges : (k : ℕ) → k < length said.charges.items → get_or said.charges.items k None ≡ last_said says_charges (k + 1) None lines
  pub masses : (k : ℕ) → k < length said.charges.items → get_or said.masses.items k None ≡ last_said replaces_differences (k + 1) None lines

-- an atom with what is kept of it
abbrev pub atom_by_said : Said → ℕ → AtomLine → TableAtom
atom_by_said said k given = record given.atom {
  charge = charge_with said.codes_replaced (get_or said.charges.items k None) given.charge;
  isotope = isotope_with said.differences_replaced (get_or said.masses.items k None) given.atom.isotope given.isotope;
}

abbrev pub atoms_by_said : Said → ℕ → List AtomLine → List TableAtom
atoms_by_said said k [] = []
atoms_by_said said k (given ∷ more) = atom_by_said said k given ∷ atoms_by_said said (k + 1) more

-- the lines of the property block behind the first ones are read up to the k-th line: what is kept so far, and what the
-- lines from there on show and say, is what they all show and say
pub record ReadsBlock (lines : List (List ℕ)) (first atoms : ℕ) (said0 : Said) (fault0 : Option Fault) (k : ℕ) (passed : Bool) (said : Said) (fault : Option Fault) : Type 0 where
  pub within : k ≤ length lines
  pub ends : has_end passed (drop k lines) ≡ has_end false (drop first lines)
  pub shows : first_of fault (property_faults atoms (block passed (k + 1) (drop k lines))) ≡ first_of fault0 (property_faults atoms (block false (first + 1) (drop first lines)))
  pub count : length said.charges.items ≡ length said0.charges.items
  pub mass_count : length said.masses.items ≡ length said0.masses.items
  pub codes : (said.codes_replaced || some_line replaces_codes (block passed (k + 1) (drop k lines))) ≡ (said0.codes_replaced || some_line replaces_codes (block false (first + 1) (drop first lines)))
  pub differences : (said.differences_replaced || some_line replaces_differences (block passed (k + 1) (drop k lines))) ≡ (said0.differences_replaced || some_line replaces_differences (block false (first + 1) (drop first lines)))
  pub charges : (j : ℕ) → j < length said0.charges.items → last_said says_charges (j + 1) (get_or said.charges.items j None) (block passed (k + 1) (drop k lines)) ≡ last_said says_charges (j + 1) (get_or said0.charges.items j None) (block false (first + 1) (drop first lines))
  pub masses : (j : ℕ) → j < length said0.charges.items → last_said replaces_differences (j + 1) (get_or said.masses.items j None) (block passed (k + 1) (drop k lines)) ≡ last_said replaces_differences (j + 1) (get_or said0.masses.items j None) (block false (first + 1) (drop first lines))

-- what was kept before a line is what is kept behind it and what the line shows and says
pub record LineRead (line : List ℕ) (atoms place : ℕ) (said0 : Said) (fault0 : Option Fault) (said1 : Said) (fault1 : Option Fault) : Type 0 where
  pub count : length said1.charges.items ≡ length said0.charges.items
  pub mass_count : length said1.masses.items ≡ length said0.masses.items
  pub codes : said1.codes_replaced ≡ (said0.codes_replaced || replaces_codes (property_of line))
  pub differences : said1.differences_replaced ≡ (said0.differences_replaced || replaces_differences (property_of line))
  pub charges : (k : ℕ) → k < length said0.charges.items → get_or said1.charges.items k None ≡ said_by_line says_charges (k + 1) (get_or said0.charges.items k None) line
  pub masses : (k : ℕ) → k < length said0.masses.items → get_or said1.masses.items k None ≡ said_by_line replaces_differences (k + 1) (get_or said0.masses.items k None) line
  pub shows : fault1 ≡ first_of fault0 (faults_at place (property_line_shows atoms line))

-- ---- how far a record is read

-- the counts of line 4
pub record AreCounts (line : List ℕ) (counts : Counts) : Type 0 where
  pub atoms : counts.atoms ≡ unsigned_abs (value atoms_field line)
  pub bonds : counts.bonds ≡ unsigned_abs (value bonds_field line)
  pub lists : counts.lists ≡ unsigned_abs (value lists_field line)
  pub stexts : counts.stexts ≡ unsigned_abs (value stext_field line)
  pub few_atoms : counts.atoms ≤ 999
  pub few_bonds : counts.bonds ≤ 999
  pub few_lists : counts.lists < 1000
  pub few_stexts : counts.stexts < 1000

-- a V2000 record whose header and line 4 are read
pub record HasCounts (lines : List (List ℕ)) (counts : Counts) (fault : Option Fault) : Type 0 where
  pub four : 4 ≤ length lines
  pub version : version_of lines ≡ V2000
  pub formed : is_well_formed lines ≡ true
  pub counted : AreCounts (line 4 lines) counts
  pub noted : fault ≡ first_of None (faults_at 1 (name_shows lines) ++ faults_at 4 (fields_show counts_fields (line 4 lines)))

-- how many lines stand before the property block
abbrev pub lines_counted : Counts → ℕ
lines_counted counts = 4 + counts.atoms + counts.bonds + counts.lists + 2 * counts.stexts

pub record IsWholeRest (lines : List Numbered) (ends : Bool) (count : ℕ) (given : List AtomLine) (fault0 : Option Fault) (atoms : List TableAtom) (fault1 : Option Fault) : Type 0 where
  pub end : ends ≡ true
  pub atoms_are : atoms ≡ atoms_from lines 1 given
  pub shows : fault1 ≡ first_of (first_of fault0 (property_faults count lines)) (late_faults (some_line replaces_codes lines) (some_line replaces_differences lines) 5 given)

-- the property block is read, with the atoms and what their lines show late; or it has no end
abbrev pub IsRest : List (List ℕ) → Counts → List AtomLine → Option Fault → Option (List TableAtom) → Option Fault → Type 0
IsRest lines counts given fault0 None fault1 = has_end false (drop (lines_counted counts) lines) ≡ false
IsRest lines counts given fault0 (Some atoms) fault1 = IsWholeRest (block false (lines_counted counts + 1) (drop (lines_counted counts) lines)) (has_end false (drop (lines_counted counts) lines)) counts.atoms given fault0 atoms fault1
