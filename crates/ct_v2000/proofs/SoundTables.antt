-- The table of a record in which nothing stands is a table.
use Rattle.std.proofs.Common.{arith, ◌≡◌, ◌≢◌, ◌∙◌, ℕ, zero, suc, ◌+◌, ◌-◌, ◌<◌, ◌≤◌, ◌==◌, ◌&&◌, ◌||◌, Bool, true, false, not, if◌then◌else◌, List, [], ◌∷◌, ◌++◌, length, take, drop, Option, Some, None, refl, ap, sym, subst, inl, inr, All}
use Rattle.std.specs.Prelude.{AllPairs, IfOk, Result, Ok, Err, pos, nat_le, nat_lt, slice_index_or}
use Rattle.std.specs.List.{list_any}
use Rattle.std.proofs.lemmas.Bool.{false≢true, or_parts, and_parts}
use Rattle.std.proofs.lemmas.Bool.Decides.{nat_tests}
use Rattle.std.proofs.lemmas.List.{length-append, length-drop, length-take-le}
use Rattle.std.proofs.lemmas.List.Elements.{All-cons, All-nil}
use Rattle.std.proofs.lemmas.List.Folds.{list_any-append}
use Rattle.std.proofs.lemmas.List.Kept.{AllPairs-cons}
use Rattle.mc_base.specs.declared.kind.Kind.{Kind}
use Rattle.mc_base.specs.declared.kind.Kind.TheVariants.{AtomNumber, BadField, BondPair, BondType, Query, ShortRecord}
use Rattle.mc_base.specs.declared.refusal.Stop.{Stop}
use Rattle.ct_sd.specs.declared.fault.Fault.{Fault}
use Rattle.ct_sd.specs.declared.table.Table.{Table}
use Rattle.ct_sd.specs.declared.table.TableAtom.{TableAtom}
use Rattle.ct_sd.specs.declared.table.TableBond.{TableBond}
use Rattle.ct_sd.specs.Bonds.{Pair, is_joined, is_pair, type_shows}
use Rattle.ct_sd.specs.Faults.{AreNone, faults_at, faults_of_lines, shown_if}
use Rattle.ct_sd.specs.Fields.{field_shows, fields_show, value}
use Rattle.ct_sd.specs.Tables.{IsTable, IsTableBond, is_parallel}
use Rattle.ct_sd.proofs.Reading.{value_least, value_most}
use Rattle.ct_sd.specs.declared.field.Field.{Field}
use Rattle.ct_sd.specs.declared.head.Version.{Version}
use Rattle.ct_sd.specs.declared.head.Version.TheVariants.{V2000, V3000, Other}
use Rattle.ct_sd.specs.Heads.{line, name_shows, version_of}
use Rattle.ct_v2000.specs.declared.atom_line.AtomLine.{AtomLine}
use Rattle.ct_v2000.specs.AtomLines.{atom_line_shows, atom_lines_of}
use Rattle.ct_v2000.specs.BondLines.{bond_faults, bond_fields, bond_line_shows, bond_of, centre_field, first_field, is_named, kind_fields, pair_in, pair_shows, second_field, stereo_field, topology_field, type_field, type_in}
use Rattle.ct_v2000.specs.Counts.{atom_count, atom_lines, atoms_field, bond_count, bond_lines, bonds_field, counted, counts_fields, is_well_formed, lines_before}
use Rattle.ct_v2000.specs.Properties.{Numbered, has_end}
use Rattle.ct_v2000.specs.Table.{IsTableOf, atoms_from, block_faults, bonds_from, ends_early, is_short, is_v2000, properties, record_faults, version_faults}
use Rattle.ct_sd.proofs.NoneShown.{none_front, none_back, none_at}

-- no fault is there where no kind stands
pub none_stand : (faults : List Fault) → AreNone faults → faults ≡ []
none_stand [] none = refl
none_stand (fault ∷ faults) none = absurd (none fault.kind fault.place (inl refl))

-- ---- a bond line

-- the two atoms of a bond
record ArePaired (atoms : ℕ) (before : List Pair) (pair : Pair) : Type 0 where
  first_low : 1 ≤ pair.0
  first_high : pair.0 ≤ atoms
  second_low : 1 ≤ pair.1
  second_high : pair.1 ≤ atoms
  different : (pair.0 == pair.1) ≡ false
  apart : is_joined pair.0 pair.1 before ≡ false

named : (atoms n : ℕ) → is_named atoms n ≡ true → (1 ≤ n) × (n ≤ atoms)
named atoms n is = (low n (and_parts (nat_le 1 n) (nat_le n atoms) is).0, high n atoms (and_parts (nat_le 1 n) (nat_le n atoms) is).1)
  where
    low : (n : ℕ) → nat_le 1 n ≡ true → 1 ≤ n
    low n is = grind (arith, nat_tests)

    high : (n m : ℕ) → nat_le n m ≡ true → n ≤ m
    high n m is = grind (arith, nat_tests)

paired : (atoms : ℕ) (before : List Pair) (pair : Pair) → pair_shows atoms before pair ≡ [] → ArePaired atoms before pair
paired atoms before pair none = by_named (is_named atoms pair.0 && is_named atoms pair.1) refl none
  where
    by_pair : (t : Bool) → (pair.0 == pair.1 || is_joined pair.0 pair.1 before) ≡ t → (if t then BondPair ∷ [] else []) ≡ [] → (is_named atoms pair.0 && is_named atoms pair.1) ≡ true → ArePaired atoms before pair
    by_pair true is none there = absurd cc
    by_pair false is none there =
        let names = and_parts (is_named atoms pair.0) (is_named atoms pair.1) there in
        let first = named atoms pair.0 names.0 in
        let second = named atoms pair.1 names.1 in
        let tests = or_parts (pair.0 == pair.1) (is_joined pair.0 pair.1 before) is in record {
          first_low = first.0;
          first_high = first.1;
          second_low = second.0;
          second_high = second.1;
          different = tests.0;
          apart = tests.1;
        }

    by_named : (t : Bool) → (is_named atoms pair.0 && is_named atoms pair.1) ≡ t → (if t then (if pair.0 == pair.1 || is_joined pair.0 pair.1 before then BondPair ∷ [] else []) else AtomNumber ∷ []) ≡ [] → ArePaired atoms before pair
    by_named true is none = by_pair (pair.0 == pair.1 || is_joined pair.0 pair.1 before) refl none is
    by_named false is none = absurd cc

-- a type that shows nothing is an order
order_is : (type : ℕ) → 1 ≤ type → type ≤ 10 → type_shows type ≡ [] → type ≤ 3
order_is type low high none =
    let query = not_shown (nat_le 4 type && nat_le type 8) Query (none_front (shown_if (nat_le 4 type && nat_le type 8) Query) (shown_if (nat_le 9 type) BondType) none) in
    let kept = not_shown (nat_le 9 type) BondType (none_back (shown_if (nat_le 4 type && nat_le type 8) Query) (shown_if (nat_le 9 type) BondType) none) in
    at_most type query kept
  where
    not_shown : (t : Bool) (kind : Kind) → shown_if t kind ≡ [] → t ≡ false
    not_shown true kind none = absurd cc
    not_shown false kind none = refl

    at_most : (n : ℕ) → (nat_le 4 n && nat_le n 8) ≡ false → nat_le 9 n ≡ false → n ≤ 3
    at_most n query kept = grind (arith, nat_tests)

different : (a b : ℕ) → (a == b) ≡ false → 1 ≤ a → 1 ≤ b → a - 1 ≢ b - 1
different a b is low high = λ same. not_same a b is (omega arith)
  where
    not_same : (a b : ℕ) → (a == b) ≡ false → a ≢ b
    not_same a b is = grind (arith, nat_tests)

-- the bond of a line that shows nothing
record IsSoundLine (atoms : ℕ) (before : List Pair) (pair : Pair) (bond : TableBond) : Type 0 where
  is : IsTableBond atoms bond
  first : pair.0 ≡ bond.first + 1
  second : pair.1 ≡ bond.second + 1
  apart : is_joined (bond.first + 1) (bond.second + 1) before ≡ false

sound_line : (atoms : ℕ) (before : List Pair) (k : ℕ) (line : List ℕ) → bond_line_shows atoms before line ≡ [] → IsSoundLine atoms before (pair_in line) (bond_of k line)
unfolding bond_line_shows bond_of type_in
sound_line atoms before k line none =
    let fields = none_front (fields_show bond_fields line) (type_shows (type_in line) ++ pair_shows atoms before (pair_in line)) none in
    let rest = none_back (fields_show bond_fields line) (type_shows (type_in line) ++ pair_shows atoms before (pair_in line)) none in
    let typed = none_front (type_shows (type_in line)) (pair_shows atoms before (pair_in line)) rest in
    let pair = paired atoms before (pair_in line) (none_back (type_shows (type_in line)) (pair_shows atoms before (pair_in line)) rest) in
    let first = pair.first_low in
    let second = pair.second_low in
    let first_high = pair.first_high in
    let second_high = pair.second_high in
    let behind : fields_show kind_fields line ≡ [] = none_back (field_shows second_field line) (fields_show kind_fields line) (none_back (field_shows first_field line) (field_shows second_field line ++ fields_show kind_fields line) fields) in
    let shows = none_front (field_shows type_field line) (fields_show (stereo_field ∷ topology_field ∷ centre_field ∷ []) line) behind in
    let low : 1 ≤ type_in line = value_least type_field line 1 refl shows in
    let high : type_in line ≤ 10 = value_most type_field line 1 10 refl refl in
    let one : (pair_in line).0 ≡ (pair_in line).0 - 1 + 1 = omega arith in
    let two : (pair_in line).1 ≡ (pair_in line).1 - 1 + 1 = omega arith in record {
      is = record {
        first = omega arith;
        second = omega arith;
        different = different (pair_in line).0 (pair_in line).1 pair.different first second;
        order_low = low;
        order_high = order_is (type_in line) low high typed;
      };
      first = one;
      second = two;
      apart = ap (λ (u : ℕ). is_joined u ((pair_in line).1 - 1 + 1) before) (sym one) ∙ (ap (λ (v : ℕ). is_joined (pair_in line).0 v before) (sym two) ∙ pair.apart);
    }

-- ---- bond lines

record AreSound (atoms : ℕ) (before : List Pair) (bonds : List TableBond) : Type 0 where
  each : All (IsTableBond atoms) bonds
  once : AllPairs (λ (bond other : TableBond). is_parallel bond other ≡ false) bonds
  apart : All (λ (bond : TableBond). is_joined (bond.first + 1) (bond.second + 1) before ≡ false) bonds

-- behind one more pair
behind_pair : (u v : ℕ) (before : List Pair) (pair : Pair) → is_joined u v (before ++ pair ∷ []) ≡ false → (is_joined u v before ≡ false) × (is_pair u v pair ≡ false)
behind_pair u v before pair apart =
    let parts = or_parts (is_joined u v before) (is_pair u v pair || false) (sym (list_any-append (λ (p : Pair). is_pair u v p) before (pair ∷ [])) ∙ apart) in
    (parts.0, (or_parts (is_pair u v pair) false parts.1).0)

from_zero : (u v p q : ℕ) → is_pair (u + 1) (v + 1) (p + 1, q + 1) ≡ false → is_pair u v (p, q) ≡ false
from_zero u v p q apart = grind (arith, nat_tests)

not_parallel : (bond other : TableBond) (pair : Pair) → pair.0 ≡ bond.first + 1 → pair.1 ≡ bond.second + 1 → is_pair (other.first + 1) (other.second + 1) pair ≡ false → is_parallel bond other ≡ false
not_parallel bond other pair first second apart =
    from_zero other.first other.second bond.first bond.second
    (ap (λ (p : ℕ). is_pair (other.first + 1) (other.second + 1) (p, bond.second + 1)) (sym first)
    ∙ (ap (λ (q : ℕ). is_pair (other.first + 1) (other.second + 1) (pair.0, q)) (sym second) ∙ apart))

sound_bonds : (atoms : ℕ) (before : List Pair) (k : ℕ) (lines : List (List ℕ)) → bond_faults atoms before k lines ≡ [] → AreSound atoms before (bonds_from k lines)
sound_bonds atoms before k [] none = record {
  each = All-nil (IsTableBond atoms);
  once = λ i j d less below. absurd (omega arith);
  apart = All-nil (λ (bond : TableBond). is_joined (bond.first + 1) (bond.second + 1) before ≡ false);
}
sound_bonds atoms before k (line ∷ lines) none =
    let pair = pair_in line in
    let here = sound_line atoms before k line (none_at k (bond_line_shows atoms before line) (none_front (faults_at k (bond_line_shows atoms before line)) (bond_faults atoms (before ++ pair_in line ∷ []) (k + 1) lines) none)) in
    let rest = sound_bonds atoms (before ++ pair_in line ∷ []) (k + 1) lines (none_back (faults_at k (bond_line_shows atoms before line)) (bond_faults atoms (before ++ pair_in line ∷ []) (k + 1) lines) none) in
    let bond = bond_of k line in
    let bonds = bonds_from (k + 1) lines in record {
      each = All-cons (IsTableBond atoms) bond bonds here.is rest.each;
      once = AllPairs-cons (λ (bond other : TableBond). is_parallel bond other ≡ false) bond bonds
          (λ i d low. not_parallel bond (slice_index_or bonds i d) (pair_in line) here.first here.second (behind_pair ((slice_index_or bonds i d).first + 1) ((slice_index_or bonds i d).second + 1) before (pair_in line) (rest.apart i d low)).1)
          rest.once;
      apart = All-cons (λ (bond : TableBond). is_joined (bond.first + 1) (bond.second + 1) before ≡ false) bond bonds here.apart
          (λ i d low. (behind_pair ((slice_index_or bonds i d).first + 1) ((slice_index_or bonds i d).second + 1) before (pair_in line) (rest.apart i d low)).0);
    }

-- ---- how many there are

count_bonds : (k : ℕ) (lines : List (List ℕ)) → length (bonds_from k lines) ≡ length lines
count_bonds k [] = refl
count_bonds k (line ∷ lines) = ap suc (count_bonds (k + 1) lines)

count_given : (k : ℕ) (lines : List (List ℕ)) → length (atom_lines_of k lines) ≡ length lines
count_given k [] = refl
count_given k (line ∷ lines) = ap suc (count_given (k + 1) lines)

count_with : (properties : List Numbered) (k : ℕ) (given : List AtomLine) → length (atoms_from properties k given) ≡ length given
count_with properties k [] = refl
count_with properties k (atom ∷ more) = ap suc (count_with properties (k + 1) more)

few_taken : {A : Type 0} (n : ℕ) (xs : List A) → length (take n xs) ≤ n
few_taken zero xs = omega arith
few_taken (suc n) [] = omega arith
few_taken (suc n) (x ∷ xs) = let few = few_taken n xs in omega arith

-- ---- the table

counted_most : (f : Field) (lines : List (List ℕ)) (l m : ℕ) → f.least ≡ pos l → f.most ≡ pos m → counted f lines ≤ m
unfolding counted
counted_most f lines l m low high = value_most f (line 4 lines) l m low high

-- a record of version 2000 whose lines are all there, and in which nothing stands
record IsWhole (lines : List (List ℕ)) : Type 0 where
  bonds : bond_faults (atom_count lines) [] (5 + atom_count lines) (bond_lines lines) ≡ []
  there : lines_before lines ≤ length lines

sound_whole : (lines : List (List ℕ)) (table : Table) → IsTableOf lines table → IsWhole lines → IsTable table
sound_whole lines table is whole =
    let sound = sound_bonds (atom_count lines) [] (5 + atom_count lines) (bond_lines lines) whole.bonds in
    let there = whole.there in
    let d = length-drop 4 lines in
    let atoms : length table.atoms ≡ atom_count lines =
    ap length is.atoms ∙ (count_with (properties lines) 1 (atom_lines_of 5 (atom_lines lines)) ∙ (count_given 5 (atom_lines lines) ∙ length-take-le (atom_count lines) (drop 4 lines) (omega arith))) in
    let bonds : length table.bonds ≡ length (bond_lines lines) = ap length is.bonds ∙ count_bonds (5 + atom_count lines) (bond_lines lines) in
    let few = counted_most atoms_field lines 0 999 refl refl in
    let few_bonds = counted_most bonds_field lines 0 999 refl refl in
    let taken = few_taken (bond_count lines) (drop (4 + atom_count lines) lines) in record {
      few_atoms = omega arith;
      few_bonds = omega arith;
      bonds = subst (λ (n : ℕ). All (IsTableBond n) table.bonds) (sym atoms) (subst (λ (bs : List TableBond). All (IsTableBond (atom_count lines)) bs) (sym is.bonds) sound.each);
      once = subst (λ (bs : List TableBond). AllPairs (λ (bond other : TableBond). is_parallel bond other ≡ false) bs) (sym is.bonds) sound.once;
    }

pub table_is_sound : (lines : List (List ℕ)) (table : Table) → (version_of lines ≡ V3000 → ⊥) → IsTableOf lines table → IsTable table
table_is_sound lines table other is = by_short (is_short lines) refl (none_stand (record_faults lines) is.accepted)
  where
    not_less : (m n : ℕ) → nat_lt m n ≡ false → n ≤ m
    not_less m n is = grind (arith, nat_tests)

    all_there : is_short lines ≡ false → version_of lines ≡ V2000 → is_well_formed lines ≡ true → lines_before lines ≤ length lines
    all_there whole version formed =
        let tests = (or_parts (nat_lt (length lines) 4) (is_v2000 (version_of lines) && (is_well_formed lines && ends_early lines)) whole).1 in
        let early : ends_early lines ≡ false = sym (ap (λ (t : Bool). t && ends_early lines) formed) ∙ (sym (ap (λ (v : Version). is_v2000 v && (is_well_formed lines && ends_early lines)) version) ∙ tests) in
        not_less (length lines) (lines_before lines) (or_parts (nat_lt (length lines) (lines_before lines)) (not (has_end false (drop (lines_before lines) lines))) early).0

    by_formed : (t : Bool) → is_short lines ≡ false → version_of lines ≡ V2000 → is_well_formed lines ≡ t → (if t then faults_at 4 (fields_show counts_fields (line 4 lines)) ++ block_faults lines else faults_at 4 (BadField ∷ [])) ≡ [] → IsTable table
    by_formed true whole version formed none =
        let blocks = none_back (faults_at 4 (fields_show counts_fields (line 4 lines))) (block_faults lines) none in
        let behind = none_back (faults_of_lines atom_line_shows 5 (atom_lines lines)) _ blocks in
        sound_whole lines table is (record { bonds = none_front (bond_faults (atom_count lines) [] (5 + atom_count lines) (bond_lines lines)) _ behind; there = all_there whole version formed })
    by_formed false whole version formed none = absurd cc

    by_version : (v : Version) → is_short lines ≡ false → version_of lines ≡ v → version_faults v lines ≡ [] → IsTable table
    by_version V2000 whole version none = by_formed (is_well_formed lines) whole version refl none
    by_version V3000 whole version none = absurd (other version)
    by_version Other whole version none = absurd cc

    by_short : (t : Bool) → is_short lines ≡ t → (if t then faults_at (length lines) (ShortRecord ∷ []) else faults_at 1 (name_shows lines) ++ version_faults (version_of lines) lines) ≡ [] → IsTable table
    by_short true short none = absurd cc
    by_short false whole none = by_version (version_of lines) whole refl (none_back (faults_at 1 (name_shows lines)) (version_faults (version_of lines) lines) none)

pub read_is_sound : (lines : List (List ℕ)) (result : Result Table Stop) → (version_of lines ≡ V3000 → ⊥) → IfOk result (IsTableOf lines) → IfOk result IsTable
read_is_sound lines (Ok table) other is = table_is_sound lines table other is
read_is_sound lines (Err stop) other is = tt
