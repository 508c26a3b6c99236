-- An atom line of a V3000 record (CTfile formats, V3000 atom block): index, type, x, y, z, mapping number, and key words.
use Rattle.std.specs.Prelude.{ℕ, Bool, not, ◌&&◌, ◌||◌, nat_eq, nat_le, if◌then◌else◌, List, [], ◌∷◌, ◌++◌, drop, Option, Some, None, ℤ, pos, negsuc, unsigned_abs, codes}
use Rattle.std.specs.List.{starts_with}
use Rattle.std.specs.Ordering.{int_eq}
use Rattle.mc_base.specs.declared.kind.Kind.{Kind}
use Rattle.mc_base.specs.declared.kind.Kind.TheVariants.{BadField, ThreeD}
use Rattle.mc_digits.specs.Fronts.{fixed_of}
use Rattle.ct_sd.specs.declared.symbol.Symbol.{Symbol}
use Rattle.ct_sd.specs.declared.symbol.Symbol.TheVariants as symbol
use Rattle.ct_sd.specs.declared.table.TableAtom.{TableAtom}
use Rattle.ct_sd.specs.Faults.{shown_if}
use Rattle.ct_sd.specs.Fields.{or_zero}
use Rattle.ct_sd.specs.Symbols.{symbol_of, symbol_shows, element_said, isotope_said}
use Rattle.ct_v3000.specs.declared.key.Keys.TheVariants.{OfAtoms}
use Rattle.ct_v3000.specs.declared.number.Grammar.TheVariants.{Unsigned, Signed, Valence}
use Rattle.ct_v3000.specs.Words.{word}
use Rattle.ct_v3000.specs.Numbers.{unsigned_of, or_none, held_amount, held_charge}
use Rattle.ct_v3000.specs.Keys.{keys_show, said}

-- what isn't read isn't of the format
abbrev pub missing : {A : Type 0} → Option A → List Kind
missing None = BadField ∷ []
missing (Some a) = []

-- ---- the index

-- the number that a word writes, and 0 where it writes none
unfoldable pub number_in : ℕ → List (List ℕ) → ℕ
number_in n words = or_none (unsigned_of (word n words))

-- an index is from 1 to 4294967295
unfoldable pub index_shows : List (List ℕ) → List Kind
index_shows words = shown_if (not (nat_le 1 (number_in 0 words) && nat_le (number_in 0 words) 4294967295)) BadField

-- ---- the type

-- how a type begins that is a query
abbrev pub begins_query : List ℕ → Bool
begins_query text = starts_with nat_eq text (codes "[") || starts_with nat_eq text (codes "NOT") || starts_with nat_eq text (codes "\"")

abbrev pub or_query : Symbol → Bool → Symbol
or_query symbol.Unknown query = if query then symbol.Query else symbol.Unknown
or_query s query = s

unfoldable pub type_in : List (List ℕ) → Symbol
type_in words = or_query (symbol_of (word 1 words)) (begins_query (word 1 words))

-- ---- the place, and the mapping number

unfoldable pub place_in : ℕ → List (List ℕ) → ℤ
place_in n words = or_zero (fixed_of (word n words))

unfoldable pub place_shows : ℕ → List (List ℕ) → List Kind
place_shows n words = missing (fixed_of (word n words))

unfoldable pub places_show : List (List ℕ) → List Kind
places_show words = place_shows 2 words ++ (place_shows 3 words ++ (place_shows 4 words ++ shown_if (not (int_eq (place_in 4 words) (pos 0))) ThreeD))

unfoldable pub number_shows : ℕ → List (List ℕ) → List Kind
number_shows n words = missing (unsigned_of (word n words))

-- ---- the keys

abbrev pub atom_key_words : List (List ℕ) → List (List ℕ)
atom_key_words words = drop 6 words

unfoldable pub charge_in : List (List ℕ) → ℤ
charge_in words = held_charge (or_zero (said (codes "CHG=") Signed words))

abbrev pub mass_or : ℕ → Option ℤ → ℕ
mass_or own None = own
mass_or own (Some n) = held_amount (unsigned_abs n)

-- the isotope of a symbol, which a mass replaces
unfoldable pub isotope_in : Symbol → List (List ℕ) → ℕ
isotope_in symbol words = mass_or (isotope_said symbol) (said (codes "MASS=") Unsigned words)

-- a valence of 0 isn't marked, and -1 is zero
abbrev pub valence_said : Option ℤ → Option ℕ
valence_said None = None
valence_said (Some n) = if int_eq n (pos 0) then None else if int_eq n (negsuc 0) then Some 0 else Some (unsigned_abs n)

unfoldable pub valence_in : List (List ℕ) → Option ℕ
valence_in words = valence_said (said (codes "VAL=") Valence words)

-- ---- the line

-- what the words before the keys show
unfoldable pub fields_show : List (List ℕ) → List Kind
fields_show words = index_shows words ++ (symbol_shows (type_in words) ++ (places_show words ++ number_shows 5 words))

-- what an atom line shows by itself
unfoldable pub atom_line_shows : List (List ℕ) → List Kind
atom_line_shows words = fields_show words ++ keys_show OfAtoms (atom_key_words words)

-- the atom that line k gives
unfoldable pub atom_of : ℕ → List (List ℕ) → TableAtom
atom_of k words = record {
  element = element_said (type_in words);
  isotope = isotope_in (type_in words) (atom_key_words words);
  charge = charge_in (atom_key_words words);
  class = held_amount (number_in 5 words);
  valence = valence_in (atom_key_words words);
  x = place_in 2 words;
  y = place_in 3 words;
  z = place_in 4 words;
  line = k;
}
