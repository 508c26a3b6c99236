-- An atom line of a V2000 record (CTfile formats, atom block).
use Rattle.std.specs.Prelude.{ℕ, ◌-◌, ◌+◌, ◌==◌, if◌then◌else◌, List, [], ◌∷◌, ◌++◌, Option, Some, None, ℤ, pos, negsuc, unsigned_abs, int_le, ◌+ℤ◌}
use Rattle.std.specs.Ordering.{int_eq}
use Rattle.mc_base.specs.declared.kind.Kind.{Kind}
use Rattle.mc_base.specs.declared.kind.Kind.TheVariants.{Query, Reaction, ThreeD}
use Rattle.mc_elements.specs.Valences.{reference_mass}
use Rattle.ct_sd.specs.declared.field.Field.{Field}
use Rattle.ct_sd.specs.declared.symbol.Symbol.{Symbol}
use Rattle.ct_sd.specs.declared.table.TableAtom.{TableAtom}
use Rattle.ct_sd.specs.Columns.{columns, trim}
use Rattle.ct_sd.specs.Fields.{count, count_within, count_up, count_showing, fixed, fixed_showing, value, or_zero, fields_show}
use Rattle.ct_sd.specs.Symbols.{symbol_of, symbol_shows, element_said, isotope_said}
use Rattle.ct_v2000.specs.declared.atom_line.AtomLine.{AtomLine}

-- columns of an atom line       field        rule
abbrev pub x_field : Field
x_field = fixed 1 10

abbrev pub y_field : Field
y_field = fixed 11 20

abbrev pub z_field : Field
z_field = fixed_showing 21 30 ThreeD

abbrev pub difference_field : Field
difference_field = count 35 36

abbrev pub code_field : Field
code_field = count_within 37 39 (pos 0) (pos 7)

abbrev pub hydrogen_query_field : Field
hydrogen_query_field = count_showing 43 45 Query

abbrev pub valence_field : Field
valence_field = count_within 49 51 (pos 0) (pos 15)

abbrev pub mapping_field : Field
mapping_field = count_up 61 63

abbrev pub inversion_field : Field
inversion_field = count_showing 64 66 Reaction

abbrev pub change_field : Field
change_field = count_showing 67 69 Reaction

abbrev pub place_fields : List Field
place_fields = x_field ∷ y_field ∷ z_field ∷ []

abbrev pub middle_fields : List Field
middle_fields = difference_field ∷ code_field ∷ hydrogen_query_field ∷ valence_field ∷ []

abbrev pub last_fields : List Field
last_fields = mapping_field ∷ inversion_field ∷ change_field ∷ []

abbrev pub atom_fields : List Field
atom_fields = place_fields ++ (middle_fields ++ last_fields)

-- the symbol stands in columns 32 to 34, with blanks around it
unfoldable pub symbol_in : List ℕ → Symbol
symbol_in line = symbol_of (trim (columns 32 34 line))

-- what an atom line shows by itself
unfoldable pub atom_line_shows : List ℕ → List Kind
atom_line_shows line = fields_show atom_fields line ++ symbol_shows (symbol_in line)

-- a valence of 0 isn't marked, and 15 is zero
abbrev pub valence_marked : ℕ → Option ℕ
valence_marked v = if v == 0 then None else if v == 15 then Some 0 else Some v

-- the charge of a charge code, from 0 to 7; code 4 is a radical
abbrev pub charge_of_code : ℕ → Option ℤ
charge_of_code code =
    if code == 0 then Some (pos 0)
    else if code == 1 then Some (pos 3)
    else if code == 2 then Some (pos 2)
    else if code == 3 then Some (pos 1)
    else if code == 4 then None
    else if code == 5 then Some (negsuc 0)
    else if code == 6 then Some (negsuc 1)
    else Some (negsuc 2)

-- the charge that a line says; none where it says a radical
unfoldable pub charge_in : List ℕ → Option ℤ
charge_in line = charge_of_code (unsigned_abs (value code_field line))

-- a mass from its difference to the reference mass of the element, where there is one and the mass is at least 1
abbrev pub mass_by : Option ℕ → ℤ → Option ℕ
mass_by None difference = None
mass_by (Some mass) difference = if int_le (pos 1) (pos mass +ℤ difference) then Some (unsigned_abs (pos mass +ℤ difference)) else None

-- the isotope of a symbol, and a mass difference beside it: 0 says nothing, and `D` and `T` take no other
abbrev pub isotope_by : Symbol → ℤ → Option ℕ
isotope_by symbol difference =
    if int_eq difference (pos 0) then Some (isotope_said symbol)
    else if isotope_said symbol == 0 then mass_by (reference_mass (element_said symbol)) difference
    else None

-- the isotope that a line says; none where its mass difference says none
unfoldable pub isotope_in : List ℕ → Option ℕ
isotope_in line = isotope_by (symbol_in line) (value difference_field line)

-- The atom that a line gives before the property lines: with the isotope of its symbol, and without a charge.
unfoldable pub atom_of : ℕ → List ℕ → TableAtom
atom_of k line = record {
  element = element_said (symbol_in line);
  isotope = isotope_said (symbol_in line);
  charge = pos 0;
  class = unsigned_abs (value mapping_field line);
  valence = valence_marked (unsigned_abs (value valence_field line));
  x = value x_field line;
  y = value y_field line;
  z = value z_field line;
  line = k;
}

-- what a line gives by itself: the atom, and what may be replaced
unfoldable pub atom_line_of : ℕ → List ℕ → AtomLine
atom_line_of k line = record { atom = atom_of k line; charge = charge_in line; isotope = isotope_in line }

-- what lines give, from the number of the first
abbrev pub atom_lines_of : ℕ → List (List ℕ) → List AtomLine
atom_lines_of k [] = []
atom_lines_of k (line ∷ lines) = atom_line_of k line ∷ atom_lines_of (k + 1) lines
