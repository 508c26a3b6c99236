-- The property block of a V2000 record (CTfile formats, properties block).
use Rattle.std.specs.Prelude.{ℕ, zero, suc, ◌+◌, Bool, true, false, not, ◌||◌, if◌then◌else◌, List, [], ◌∷◌, ◌++◌, Option, Some, None, ℤ, pos, negsuc, codes, int_le, unsigned_abs}
use Rattle.std.specs.List.{list_any}
use Rattle.std.specs.Ordering.{int_eq}
use Rattle.mc_base.specs.declared.kind.Kind.{Kind}
use Rattle.mc_base.specs.declared.kind.Kind.TheVariants.{BadField, Query, Radical, Sgroup, Alias, AtomNumber}
use Rattle.mc_digits.specs.Fronts.{count_of}
use Rattle.ct_sd.specs.declared.fault.Fault.{Fault}
use Rattle.ct_sd.specs.declared.field.Field.{Field}
use Rattle.ct_sd.specs.Columns.{columns, trim, equals, begins_with, is_blank_text, is_end_line}
use Rattle.ct_sd.specs.Faults.{faults_at, shown_if}
use Rattle.ct_sd.specs.Fields.{count_within, read}
use Rattle.ct_v2000.specs.declared.entry.Entry.{Entry}
use Rattle.ct_v2000.specs.declared.property.Property.{Property}
use Rattle.ct_v2000.specs.declared.property.Property.TheVariants as says
use Rattle.ct_v2000.specs.BondLines.{is_named}

-- ---- which lines are read

-- an alias passes the line behind it
unfoldable pub passes_next : List ℕ → Bool
passes_next line = begins_with (codes "A  ") line || begins_with (codes "G  ") line

-- a line and its number
pub record Numbered : Type 0 where
  pub at : ℕ
  pub text : List ℕ

-- the lines of the block that are read, up to its end, from the number of the first; the test says whether the line before
-- passes this one
abbrev pub block : Bool → ℕ → List (List ℕ) → List Numbered
block passed k [] = []
block true k (line ∷ lines) = block false (k + 1) lines
block false k (line ∷ lines) =
    if is_end_line line then [] else record { at = k; text = line } ∷ block (passes_next line) (k + 1) lines

-- the block has its end
abbrev pub has_end : Bool → List (List ℕ) → Bool
has_end passed [] = false
has_end true (line ∷ lines) = has_end false lines
has_end false (line ∷ lines) = is_end_line line || has_end (passes_next line) lines

-- ---- what a line says

-- the heads of lines that are queries
abbrev pub query_heads : List (List ℕ)
query_heads =
    codes "M  ALS" ∷ codes "M  RGP" ∷ codes "M  LOG" ∷ codes "M  APO" ∷ codes "M  AAL" ∷ codes "M  RBC" ∷ codes "M  SUB"
    ∷ codes "M  UNS" ∷ codes "M  LIN" ∷ codes "M  $3D" ∷ []

abbrev pub is_query_line : List ℕ → Bool
is_query_line line = list_any (λ head. begins_with head line) query_heads

-- how a line begins, and what it says; the first row that fits counts
unfoldable pub property_of : List ℕ → Property
property_of line =
    if begins_with (codes "M  CHG") line then says.Charges
    else if begins_with (codes "M  ISO") line then says.Masses
    else if begins_with (codes "M  RAD") line then says.Radicals
    else if begins_with (codes "M  STY") line then says.Sgroups
    else if is_query_line line then says.Query
    else if begins_with (codes "A  ") line || begins_with (codes "G  ") line then says.Alias
    else if begins_with (codes "V  ") line || begins_with (codes "M  ") line || is_blank_text line then says.Passed
    else says.Nothing

-- ---- entries

-- columns of a line with entries   field   rule
abbrev pub entries_field : Field
entries_field = count_within 7 9 (pos 1) (pos 8)

abbrev pub amount : Option ℤ → Option ℕ
amount None = None
amount (Some n) = Some (unsigned_abs n)

-- the number of entries
unfoldable pub entry_count : List ℕ → Option ℕ
entry_count line = amount (read entries_field line)

-- a number of an entry, which may not be blank
unfoldable pub entry_number : List ℕ → Option ℤ
entry_number text = if is_blank_text text then None else count_of text

-- the atom that a number names; one below 0 names none, as 0 doesn't
abbrev pub atom_named : Option ℤ → Option ℕ
atom_named None = None
atom_named (Some (pos n)) = Some n
atom_named (Some (negsuc n)) = Some 0

-- the entry in the eight columns from this one: an atom and a value in four columns each
unfoldable pub entry_at : ℕ → List ℕ → Entry
entry_at from line = record {
  atom = atom_named (entry_number (columns from (from + 3) line));
  value = entry_number (columns (from + 4) (from + 7) line);
}

abbrev pub entries_from : ℕ → ℕ → List ℕ → List Entry
entries_from zero from line = []
entries_from (suc count) from line = entry_at from line ∷ entries_from count (from + 8) line

abbrev pub counted_entries : Option ℕ → List ℕ → List Entry
counted_entries None line = []
counted_entries (Some count) line = entries_from count 10 line

-- the entries of a line, none where their number isn't read
unfoldable pub entries_of : List ℕ → List Entry
entries_of line = counted_entries (entry_count line) line

-- ---- what a line shows

-- what a value of an entry shows
abbrev pub value_shows : Property → ℤ → List Kind
value_shows says.Masses n = shown_if (not (int_le (pos 0) n)) BadField
value_shows says.Radicals n = shown_if (not (int_eq n (pos 0))) Radical
value_shows _ n = []

abbrev pub entry_shows : ℕ → Property → Option ℕ → Option ℤ → List Kind
entry_shows atoms property (Some atom) (Some value) = shown_if (not (is_named atoms atom)) AtomNumber ++ value_shows property value
entry_shows atoms property None value = BadField ∷ []
entry_shows atoms property (Some atom) None = BadField ∷ []

-- what the entry from this column on shows
unfoldable pub entry_kinds : ℕ → Property → ℕ → List ℕ → List Kind
entry_kinds atoms property from line = entry_shows atoms property (entry_at from line).atom (entry_at from line).value

-- the number of an Sgroup may be blank
abbrev pub number_shows : Option ℤ → List Kind
number_shows None = BadField ∷ []
number_shows (Some n) = []

abbrev pub sgroup_shows : List ℕ → List Kind
sgroup_shows type = shown_if (not (equals type (codes "SUP") || equals type (codes "DAT"))) Sgroup

-- what the Sgroup from this column on shows: its number, and its type with blanks around it
unfoldable pub sgroup_kinds : ℕ → List ℕ → List Kind
sgroup_kinds from line = number_shows (count_of (columns from (from + 3) line)) ++ sgroup_shows (trim (columns (from + 4) (from + 7) line))

-- what so many entries show, from the column of the first, each by the same rule
abbrev pub each_shows : (ℕ → List ℕ → List Kind) → ℕ → ℕ → List ℕ → List Kind
each_shows shows zero from line = []
each_shows shows (suc count) from line = shows from line ++ each_shows shows count (from + 8) line

abbrev pub entries_show : (ℕ → List ℕ → List Kind) → Option ℕ → List ℕ → List Kind
entries_show shows None line = BadField ∷ []
entries_show shows (Some count) line = each_shows shows count 10 line

abbrev pub property_shows : ℕ → Property → List ℕ → List Kind
property_shows atoms says.Charges line = entries_show (entry_kinds atoms says.Charges) (entry_count line) line
property_shows atoms says.Masses line = entries_show (entry_kinds atoms says.Masses) (entry_count line) line
property_shows atoms says.Radicals line = entries_show (entry_kinds atoms says.Radicals) (entry_count line) line
property_shows atoms says.Sgroups line = entries_show sgroup_kinds (entry_count line) line
property_shows atoms says.Query line = Query ∷ []
property_shows atoms says.Alias line = Alias ∷ []
property_shows atoms says.Passed line = []
property_shows atoms says.Nothing line = BadField ∷ []

-- what a line of the block shows in a record of so many atoms
unfoldable pub property_line_shows : ℕ → List ℕ → List Kind
property_line_shows atoms line = property_shows atoms (property_of line) line

abbrev pub property_faults : ℕ → List Numbered → List Fault
property_faults atoms [] = []
property_faults atoms (line ∷ lines) = faults_at line.at (property_line_shows atoms line.text) ++ property_faults atoms lines
