-- What the property lines say of the atoms (CTfile formats, properties block): they replace what the atom block says.
use Rattle.std.specs.Prelude.{ℕ, Bool, true, false, ◌&&◌, ◌||◌, ◌==◌, if◌then◌else◌, List, [], ◌∷◌, Option, Some, None, ℤ, is_some}
use Rattle.ct_v2000.specs.declared.entry.Entry.{Entry}
use Rattle.ct_v2000.specs.declared.property.Property.{Property}
use Rattle.ct_v2000.specs.declared.property.Property.TheVariants as says
use Rattle.ct_v2000.specs.Properties.{Numbered, property_of, entries_of}

-- a line of charges or of radicals replaces all charge codes
abbrev pub replaces_codes : Property → Bool
replaces_codes says.Charges = true
replaces_codes says.Radicals = true
replaces_codes _ = false

-- a line of masses replaces all mass differences
abbrev pub replaces_differences : Property → Bool
replaces_differences says.Masses = true
replaces_differences _ = false

-- only a line of charges says charges
abbrev pub says_charges : Property → Bool
says_charges says.Charges = true
says_charges _ = false

-- one of the lines is as a test says
abbrev pub some_line : (Property → Bool) → List Numbered → Bool
some_line picks [] = false
some_line picks (line ∷ lines) = picks (property_of line.text) || some_line picks lines

-- an entry for this atom says a value
abbrev pub said_for : ℕ → Option ℕ → Option ℤ → Option ℤ → Option ℤ
said_for k None value before = before
said_for k (Some atom) value before = if is_some value && atom == k then value else before

-- the last of the entries for an atom, and what was said before where there is none
abbrev pub last_entry : ℕ → Option ℤ → List Entry → Option ℤ
last_entry k before [] = before
last_entry k before (entry ∷ entries) = last_entry k (said_for k entry.atom entry.value before) entries

-- the same behind one more line, where a test picks it
abbrev pub said_by_line : (Property → Bool) → ℕ → Option ℤ → List ℕ → Option ℤ
said_by_line picks k before text = if picks (property_of text) then last_entry k before (entries_of text) else before

-- the last entry for an atom in the lines that a test picks
abbrev pub last_said : (Property → Bool) → ℕ → Option ℤ → List Numbered → Option ℤ
last_said picks k before [] = before
last_said picks k before (line ∷ lines) = last_said picks k (said_by_line picks k before line.text) lines
