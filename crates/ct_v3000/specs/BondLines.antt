-- A bond line of a V3000 record (CTfile formats, V3000 bond block): index, type, two atoms by their indices, and key words.
use Rattle.std.specs.Prelude.{ℕ, ◌==◌, Bool, not, ◌&&◌, ◌||◌, nat_eq, nat_le, if◌then◌else◌, List, [], ◌∷◌, ◌++◌, drop, position, Option, Some, None, unsigned_abs, codes}
use Rattle.mc_base.specs.declared.kind.Kind.{Kind}
use Rattle.mc_base.specs.declared.kind.Kind.TheVariants.{BadField, AtomNumber, BondPair}
use Rattle.ct_sd.specs.declared.table.DrawMark.{DrawMark}
use Rattle.ct_sd.specs.declared.table.DrawMark.TheVariants.{Plain, Up, Down, Wavy, Either}
use Rattle.ct_sd.specs.declared.table.TableBond.{TableBond}
use Rattle.ct_sd.specs.Bonds.{type_shows, Pair, is_joined}
use Rattle.ct_sd.specs.Faults.{shown_if}
use Rattle.ct_sd.specs.Fields.{or_zero}
use Rattle.ct_v3000.specs.declared.key.Keys.TheVariants.{OfBonds}
use Rattle.ct_v3000.specs.declared.number.Grammar.TheVariants.{Configuration}
use Rattle.ct_v3000.specs.Keys.{keys_show, said}
use Rattle.ct_v3000.specs.AtomLines.{number_in, number_shows}

-- the type is from 1 to 10
abbrev pub is_type : ℕ → Bool
is_type n = nat_le 1 n && nat_le n 10

unfoldable pub type_range_shows : List (List ℕ) → List Kind
type_range_shows words = shown_if (not (is_type (number_in 1 words))) BadField

-- the type, and 0 where it is none
unfoldable pub bond_type_in : List (List ℕ) → ℕ
bond_type_in words = if is_type (number_in 1 words) then number_in 1 words else 0

-- ---- the atoms

-- Two atoms by their numbers from 0: an atom's index stands among the indices in the order of the atoms. None where one
-- isn't there.
abbrev pub both : Option ℕ → Option ℕ → Option Pair
both (Some first) (Some second) = Some (first, second)
both _ _ = None

unfoldable pub ends_in : List ℕ → List (List ℕ) → Option Pair
ends_in indices words = both (position (nat_eq (number_in 2 words)) indices) (position (nat_eq (number_in 3 words)) indices)

-- what two atoms show behind the pairs before them
abbrev pub ends_show : List Pair → Option Pair → List Kind
ends_show before None = AtomNumber ∷ []
ends_show before (Some pair) = shown_if (pair.0 == pair.1 || is_joined pair.0 pair.1 before) BondPair

abbrev pub pair_list : Option Pair → List Pair
pair_list None = []
pair_list (Some pair) = pair ∷ []

abbrev pub first_end : Option Pair → ℕ
first_end None = 0
first_end (Some pair) = pair.0

abbrev pub second_end : Option Pair → ℕ
second_end None = 0
second_end (Some pair) = pair.1

-- ---- the mark

-- of a single bond: 1 is up, 2 is wavy, 3 is down; of a double bond: 2 is either
abbrev pub mark_by : ℕ → ℕ → DrawMark
mark_by type cfg =
    if type == 1 then (if cfg == 1 then Up else if cfg == 2 then Wavy else if cfg == 3 then Down else Plain)
    else if type == 2 && cfg == 2 then Either else Plain

abbrev pub bond_key_words : List (List ℕ) → List (List ℕ)
bond_key_words words = drop 4 words

unfoldable pub configuration_in : List (List ℕ) → ℕ
configuration_in words = unsigned_abs (or_zero (said (codes "CFG=") Configuration words))

-- ---- the line

-- what the numbers of a bond line show
unfoldable pub bond_numbers_show : List (List ℕ) → List Kind
bond_numbers_show words = number_shows 0 words ++ (type_range_shows words ++ (number_shows 2 words ++ number_shows 3 words))

-- what a bond line shows, with the indices of the atoms and the pairs of the bonds before it
unfoldable pub bond_line_shows : List ℕ → List Pair → List (List ℕ) → List Kind
bond_line_shows indices before words =
    bond_numbers_show words ++ (keys_show OfBonds (bond_key_words words) ++ (type_shows (bond_type_in words) ++ ends_show before (ends_in indices words)))

-- the bond that line k gives
unfoldable pub bond_of : ℕ → List ℕ → List (List ℕ) → TableBond
bond_of k indices words = record {
  first = first_end (ends_in indices words);
  second = second_end (ends_in indices words);
  order = bond_type_in words;
  mark = mark_by (bond_type_in words) (configuration_in (bond_key_words words));
  line = k;
}
