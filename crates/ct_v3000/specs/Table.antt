-- The table of a V3000 record (CTfile formats, V3000 connection table), over the whole list of its lines, and the faults of
-- the record.
use Rattle.std.specs.Prelude.{◌≡◌, ℕ, Bool, not, nat_eq, nat_lt, if◌then◌else◌, List, [], ◌∷◌, ◌++◌, length, drop, Some}
use Rattle.std.specs.List.{list_any}
use Rattle.mc_base.specs.declared.kind.Kind.{Kind}
use Rattle.mc_base.specs.declared.kind.Kind.TheVariants.{BadField, Query, ShortRecord, AtomNumber, LimitAtoms, LimitBonds}
use Rattle.ct_sd.specs.declared.fault.Fault.{Fault}
use Rattle.ct_sd.specs.declared.table.Table.{Table}
use Rattle.ct_sd.specs.declared.table.TableAtom.{TableAtom}
use Rattle.ct_sd.specs.declared.table.TableBond.{TableBond}
use Rattle.ct_sd.specs.Bonds.{Pair}
use Rattle.ct_sd.specs.Columns.{is_end_line}
use Rattle.ct_sd.specs.Faults.{faults_at, shown_if, AreNone}
use Rattle.ct_sd.specs.Heads.{line, name_shows}
use Rattle.ct_v3000.specs.declared.stage.Role.{Role}
use Rattle.ct_v3000.specs.declared.stage.Role.TheVariants as is
use Rattle.ct_v3000.specs.Joined.{joined_lines, end_place}
use Rattle.ct_v3000.specs.Blocks.{Item, items, start}
use Rattle.ct_v3000.specs.AtomLines.{number_in, atom_line_shows, atom_of}
use Rattle.ct_v3000.specs.BondLines.{bond_line_shows, ends_in, pair_list, bond_of}
use Rattle.ct_v3000.specs.OtherLines.{sgroup_line_shows, collection_line_shows}

-- the joined lines of a record, each with what it is
abbrev pub all_items : List (List ℕ) → List Item
all_items lines = items (end_place lines) (Some start) (joined_lines lines)

-- ---- indices and pairs

abbrev pub is_given : ℕ → List ℕ → Bool
is_given index indices = list_any (nat_eq index) indices

-- the indices in the order of their lines, each once
abbrev pub with_index : ℕ → List ℕ → List ℕ
with_index index indices = if is_given index indices then indices else indices ++ index ∷ []

abbrev pub indices_behind : Role → List ℕ → List (List ℕ) → List ℕ
indices_behind is.Atom indices words = with_index (number_in 0 words) indices
indices_behind _ indices words = indices

abbrev pub pairs_behind : Role → List ℕ → List Pair → List (List ℕ) → List Pair
pairs_behind is.Bond indices pairs words = pairs ++ pair_list (ends_in indices words)
pairs_behind _ indices pairs words = pairs

-- ---- the table

abbrev pub atoms_by : Role → ℕ → List (List ℕ) → List TableAtom
atoms_by is.Atom k words = atom_of k words ∷ []
atoms_by _ k words = []

abbrev pub item_atoms : List Item → List TableAtom
item_atoms [] = []
item_atoms (item ∷ later) = atoms_by item.role item.at item.words ++ item_atoms later

abbrev pub table_atoms : List (List ℕ) → List TableAtom
table_atoms lines = item_atoms (all_items lines)

abbrev pub bonds_by : Role → ℕ → List ℕ → List (List ℕ) → List TableBond
bonds_by is.Bond k indices words = bond_of k indices words ∷ []
bonds_by _ k indices words = []

-- bonds name atoms by the indices before them
abbrev pub item_bonds : List ℕ → List Item → List TableBond
item_bonds indices [] = []
item_bonds indices (item ∷ later) = bonds_by item.role item.at indices item.words ++ item_bonds (indices_behind item.role indices item.words) later

abbrev pub table_bonds : List (List ℕ) → List TableBond
table_bonds lines = item_bonds [] (all_items lines)

-- ---- the faults

-- what a line shows behind the indices and the pairs before it
abbrev pub item_shows : Role → List ℕ → List Pair → List (List ℕ) → List Kind
item_shows is.Atom indices pairs words = atom_line_shows words ++ shown_if (is_given (number_in 0 words) indices) AtomNumber
item_shows is.Bond indices pairs words = bond_line_shows indices pairs words
item_shows is.Sgroup indices pairs words = sgroup_line_shows words
item_shows is.Collection indices pairs words = collection_line_shows words
item_shows is.Query indices pairs words = Query ∷ []
item_shows is.Frame indices pairs words = []
item_shows is.Wrong indices pairs words = BadField ∷ []

abbrev pub item_faults : List ℕ → List Pair → List Item → List Fault
item_faults indices pairs [] = []
item_faults indices pairs (item ∷ later) =
    faults_at item.at (item_shows item.role indices pairs item.words)
    ++ item_faults (indices_behind item.role indices item.words) (pairs_behind item.role indices pairs item.words) later

-- the most atoms, and the most bonds
abbrev pub most : ℕ
most = 999

abbrev pub limit_faults : ℕ → Kind → List Fault
limit_faults count kind = faults_at count (shown_if (nat_lt most count) kind)

-- no line behind line 4 ends the table
abbrev pub is_short : List (List ℕ) → Bool
is_short lines = not (list_any is_end_line (drop 4 lines))

-- The faults of a V3000 record. Of one that is too short nothing else is looked at.
abbrev pub record_faults : List (List ℕ) → List Fault
record_faults lines =
    if is_short lines then faults_at (length lines) (ShortRecord ∷ [])
    else faults_at 1 (name_shows lines)
    ++ (item_faults [] [] (all_items lines)
    ++ (limit_faults (length (table_atoms lines)) LimitAtoms ++ limit_faults (length (table_bonds lines)) LimitBonds))

-- ---- what a record is read as

pub record IsTableOf (lines : List (List ℕ)) (table : Table) : Type 0 where
  pub accepted : AreNone (record_faults lines)
  pub atoms : table.atoms ≡ table_atoms lines
  pub bonds : table.bonds ≡ table_bonds lines
  pub name : table.name ≡ line 1 lines
