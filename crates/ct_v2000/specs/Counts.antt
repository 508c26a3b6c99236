-- Line 4 of a V2000 record (CTfile formats, counts line), and where its blocks stand.
use Rattle.std.specs.Prelude.{ℕ, ◌+◌, ◌*◌, Bool, is_some, List, [], ◌∷◌, pos, take, drop, unsigned_abs}
use Rattle.std.specs.List.{list_all}
use Rattle.mc_base.specs.declared.kind.Kind.TheVariants.{Query, Stext}
use Rattle.ct_sd.specs.declared.field.Field.{Field}
use Rattle.ct_sd.specs.Fields.{count_within, count_up_showing, value, read}
use Rattle.ct_sd.specs.Heads.{line}

-- columns of line 4             field        rule
abbrev pub atoms_field : Field
atoms_field = count_within 1 3 (pos 0) (pos 999)

abbrev pub bonds_field : Field
bonds_field = count_within 4 6 (pos 0) (pos 999)

abbrev pub lists_field : Field
lists_field = count_up_showing 7 9 Query

abbrev pub stext_field : Field
stext_field = count_up_showing 16 18 Stext

abbrev pub counts_fields : List Field
counts_fields = atoms_field ∷ bonds_field ∷ lists_field ∷ stext_field ∷ []

-- the number of a field of line 4
unfoldable pub counted : Field → List (List ℕ) → ℕ
counted f lines = unsigned_abs (value f (line 4 lines))

abbrev pub atom_count : List (List ℕ) → ℕ
atom_count lines = counted atoms_field lines

abbrev pub bond_count : List (List ℕ) → ℕ
bond_count lines = counted bonds_field lines

-- how many lines stand before the property block: the first four, a line for each atom, bond and atom list, and two for
-- each stext
abbrev pub lines_before : List (List ℕ) → ℕ
lines_before lines = 4 + atom_count lines + bond_count lines + counted lists_field lines + 2 * counted stext_field lines

abbrev pub atom_lines : List (List ℕ) → List (List ℕ)
atom_lines lines = take (atom_count lines) (drop 4 lines)

abbrev pub bond_lines : List (List ℕ) → List (List ℕ)
bond_lines lines = take (bond_count lines) (drop (4 + atom_count lines) lines)

-- each field of line 4 is of its grammar
unfoldable pub is_well_formed : List (List ℕ) → Bool
is_well_formed lines = list_all (λ f. is_some (read f (line 4 lines))) counts_fields
