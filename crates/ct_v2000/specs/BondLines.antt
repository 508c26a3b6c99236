-- A bond line of a V2000 record (CTfile formats, bond block).
use Rattle.std.specs.Prelude.{ℕ, ◌+◌, ◌-◌, ◌==◌, Bool, ◌&&◌, ◌||◌, nat_le, if◌then◌else◌, List, [], ◌∷◌, ◌++◌, pos, unsigned_abs}
use Rattle.mc_base.specs.declared.kind.Kind.{Kind}
use Rattle.mc_base.specs.declared.kind.Kind.TheVariants.{Query, Reaction, AtomNumber, BondPair}
use Rattle.ct_sd.specs.declared.fault.Fault.{Fault}
use Rattle.ct_sd.specs.declared.field.Field.{Field}
use Rattle.ct_sd.specs.declared.table.DrawMark.{DrawMark}
use Rattle.ct_sd.specs.declared.table.DrawMark.TheVariants.{Plain, Up, Down, Wavy, Either}
use Rattle.ct_sd.specs.declared.table.TableBond.{TableBond}
use Rattle.ct_sd.specs.Bonds.{type_shows, Pair, is_joined}
use Rattle.ct_sd.specs.Faults.{faults_at}
use Rattle.ct_sd.specs.Fields.{count_within, count_up, count_showing, value, fields_show}

-- columns of a bond line        field        rule
abbrev pub first_field : Field
first_field = count_up 1 3

abbrev pub second_field : Field
second_field = count_up 4 6

abbrev pub type_field : Field
type_field = count_within 7 9 (pos 1) (pos 10)

abbrev pub stereo_field : Field
stereo_field = count_within 10 12 (pos 0) (pos 6)

abbrev pub topology_field : Field
topology_field = count_showing 16 18 Query

abbrev pub centre_field : Field
centre_field = count_showing 19 21 Reaction

abbrev pub ends_fields : List Field
ends_fields = first_field ∷ second_field ∷ []

abbrev pub kind_fields : List Field
kind_fields = type_field ∷ stereo_field ∷ topology_field ∷ centre_field ∷ []

abbrev pub bond_fields : List Field
bond_fields = ends_fields ++ kind_fields

unfoldable pub type_in : List ℕ → ℕ
type_in line = unsigned_abs (value type_field line)

-- the numbers of the two atoms, as they are written
unfoldable pub pair_in : List ℕ → Pair
pair_in line = (unsigned_abs (value first_field line), unsigned_abs (value second_field line))

-- stereo of a single bond: 1 is up, 6 is down, 4 is wavy; of a double bond: 3 is either
abbrev pub mark_of : ℕ → ℕ → DrawMark
mark_of type stereo =
    if type == 1 then (if stereo == 1 then Up else if stereo == 6 then Down else if stereo == 4 then Wavy else Plain)
    else if type == 2 && stereo == 3 then Either else Plain

-- an atom is there
abbrev pub is_named : ℕ → ℕ → Bool
is_named atoms n = nat_le 1 n && nat_le n atoms

-- what the two atoms of a bond show, behind the pairs before it
abbrev pub pair_shows : ℕ → List Pair → Pair → List Kind
pair_shows atoms before pair =
    if is_named atoms pair.0 && is_named atoms pair.1
    then (if pair.0 == pair.1 || is_joined pair.0 pair.1 before then BondPair ∷ [] else [])
    else AtomNumber ∷ []

-- what a bond line shows, behind the pairs of the lines before it
unfoldable pub bond_line_shows : ℕ → List Pair → List ℕ → List Kind
bond_line_shows atoms before line = fields_show bond_fields line ++ (type_shows (type_in line) ++ pair_shows atoms before (pair_in line))

-- what bond lines show, from the number of the first, behind the pairs of the lines before
abbrev pub bond_faults : ℕ → List Pair → ℕ → List (List ℕ) → List Fault
bond_faults atoms before k [] = []
bond_faults atoms before k (line ∷ lines) =
    faults_at k (bond_line_shows atoms before line) ++ bond_faults atoms (before ++ pair_in line ∷ []) (k + 1) lines

-- the bond that a bond line gives
unfoldable pub bond_of : ℕ → List ℕ → TableBond
bond_of k line = record {
  first = (pair_in line).0 - 1;
  second = (pair_in line).1 - 1;
  order = type_in line;
  mark = mark_of (type_in line) (unsigned_abs (value stereo_field line));
  line = k;
}
