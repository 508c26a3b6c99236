-- A record in which no kind stands has a table within the limits, with each bond between two different atoms of it.
use Rattle.std.proofs.Common.{arith, ◌≡◌, ◌≢◌, ◌∙◌, ℕ, zero, suc, ◌+◌, ◌≤◌, ◌<◌, ◌==◌, ◌&&◌, ◌||◌, List, [], ◌∷◌, ◌++◌, length, map, get_or, Bool, true, false, if◌then◌else◌, Option, Some, None, refl, ap, sym, subst, inl, inr, All}
use Rattle.std.specs.Prelude.{nat_le, nat_lt, not, position, nat_eq, AllPairs, Result, Ok, Err, IfOk}
use Rattle.std.proofs.lemmas.Bool.Decides.{nat_tests}
use Rattle.std.proofs.lemmas.List.{map-append, length-append}
use Rattle.std.proofs.lemmas.List.Elements.{All-append}
use Rattle.std.proofs.lemmas.List.Quantifiers.{all_pairs_push, position-Some}
use Rattle.mc_base.specs.declared.kind.Kind.{Kind}
use Rattle.mc_base.specs.declared.kind.Kind.TheVariants.{AtomNumber, BondPair, BadField, Query, BondType, ShortRecord, LimitAtoms, LimitBonds}
use Rattle.mc_base.specs.declared.refusal.Stop.{Stop}
use Rattle.ct_sd.specs.declared.fault.Fault.{Fault}
use Rattle.ct_sd.specs.declared.table.Table.{Table}
use Rattle.ct_sd.specs.declared.table.TableAtom.{TableAtom}
use Rattle.ct_sd.specs.declared.table.TableBond.{TableBond}
use Rattle.ct_sd.specs.Bonds.{Pair, is_pair, is_joined, type_shows}
use Rattle.ct_sd.specs.Faults.{IsAmong, AreNone, faults_at, shown_if}
use Rattle.ct_sd.specs.Heads.{name_shows}
use Rattle.ct_sd.specs.Tables.{IsTable, IsTableBond, is_parallel}
use Rattle.ct_v3000.specs.declared.reading.Reading.{Reading}
use Rattle.ct_v3000.specs.declared.stage.Role.{Role}
use Rattle.ct_v3000.specs.declared.stage.Role.TheVariants as is
use Rattle.ct_v3000.specs.Blocks.{Item}
use Rattle.ct_v3000.specs.AtomLines.{atom_line_shows, number_in, number_shows, atom_of}
use Rattle.ct_v3000.specs.BondLines.{bond_line_shows, bond_numbers_show, bond_key_words, type_range_shows, bond_type_in, is_type, both, ends_in, ends_show, pair_list, first_end, second_end, bond_of}
use Rattle.ct_v3000.specs.Keys.{keys_show}
use Rattle.ct_v3000.specs.declared.key.Keys.TheVariants.{OfBonds}
use Rattle.ct_v3000.specs.Table.{item_shows, is_given, indices_behind, pairs_behind, item_faults, all_items, is_short, limit_faults, table_atoms, table_bonds, IsTableOf}
use Rattle.ct_v3000.specs.Steps.{after, after_item, after_items, nothing_read}
use Rattle.ct_v3000.proofs.ItemSteps.{atoms_law, bonds_law, after_indices, after_joined}
use Rattle.ct_sd.proofs.NoneShown.{none_front, none_back, not_shown}

-- ---- where nothing stands

among_left : (xs ys : List Fault) (fault : Fault) → IsAmong xs fault → IsAmong (xs ++ ys) fault
among_left [] ys fault at = absurd at
among_left (x ∷ xs) ys fault at = elim at [ inl same ↦ inl same | inr later ↦ inr (among_left xs ys fault later) ]

among_right : (xs ys : List Fault) (fault : Fault) → IsAmong ys fault → IsAmong (xs ++ ys) fault
among_right [] ys fault at = at
among_right (x ∷ xs) ys fault at = inr (among_right xs ys fault at)

none_left : (xs ys : List Fault) → AreNone (xs ++ ys) → AreNone xs
none_left xs ys none = λ kind place at. none kind place (among_left xs ys (record { kind = kind; place = place }) at)

none_right : (xs ys : List Fault) → AreNone (xs ++ ys) → AreNone ys
none_right xs ys none = λ kind place at. none kind place (among_right xs ys (record { kind = kind; place = place }) at)

none_at : (k : ℕ) (kinds : List Kind) → AreNone (faults_at k kinds) → kinds ≡ []
none_at k [] none = refl
none_at k (kind ∷ kinds) none = absurd (none kind k (inl refl))

-- ---- what is kept

abbrev ends_of : TableBond → Pair
ends_of bond = (bond.first, bond.second)

pub record Kept (r : Reading) : Type 0 where
  pub count : length r.indices ≡ length r.atoms
  pub bonds : All (IsTableBond (length r.atoms)) r.bonds
  pub pairs : r.joined ≡ map ends_of r.bonds
  pub once : AllPairs (λ (bond other : TableBond). is_parallel bond other ≡ false) r.bonds

-- ---- an atom

one_longer : {A : Type 0} (xs : List A) (x : A) → length (xs ++ x ∷ []) ≡ length xs + 1
one_longer xs x = length-append xs (x ∷ [])

wider : (n m : ℕ) (bond : TableBond) → n ≤ m → IsTableBond n bond → IsTableBond m bond
wider n m bond le is = record {
  first = let f = is.first in omega arith;
  second = let s = is.second in omega arith;
  different = is.different;
  order_low = is.order_low;
  order_high = is.order_high;
}

atom_kept : (k : ℕ) (words : List (List ℕ)) (r : Reading) (given : Bool) → is_given (number_in 0 words) r.indices ≡ given → given ≡ false → Kept r → Kept (after is.Atom k words r)
atom_kept k words r given is new kept = record {
  count = ap (λ (t : Bool). length (if t then r.indices else r.indices ++ number_in 0 words ∷ [])) (is ∙ new)
      ∙ (one_longer r.indices (number_in 0 words) ∙ (ap (λ (n : ℕ). n + 1) kept.count ∙ sym (one_longer r.atoms (atom_of k words))));
  bonds = λ i d less. wider (length r.atoms) (length (r.atoms ++ atom_of k words ∷ [])) _ (let e : length (r.atoms ++ atom_of k words ∷ []) ≡ length r.atoms + 1 = one_longer r.atoms (atom_of k words) in omega arith) (kept.bonds i d less);
  pairs = kept.pairs;
  once = kept.once;
}

-- ---- a bond

or_first : (s t : Bool) → (s || t) ≡ false → s ≡ false
or_first false t e = refl
or_first true t e = e

or_second : (s t : Bool) → (s || t) ≡ false → t ≡ false
or_second false t e = e
or_second true t e = cc

none_joined : (u v : ℕ) (bonds : List TableBond) (k : ℕ) (d : TableBond) → is_joined u v (map ends_of bonds) ≡ false → k < length bonds → is_pair u v (ends_of (get_or bonds k d)) ≡ false
none_joined u v [] k d is less = absurd (omega arith)
none_joined u v (b ∷ bonds) zero d is less = or_first (is_pair u v (ends_of b)) (is_joined u v (map ends_of bonds)) is
none_joined u v (b ∷ bonds) (suc k) d is less = none_joined u v bonds k d (or_second (is_pair u v (ends_of b)) (is_joined u v (map ends_of bonds)) is) (omega arith)

-- the numbers of two atoms that are there
pub record AreEnds (n : ℕ) (before : List Pair) (pair : Pair) : Type 0 where
  pub first : pair.0 < n
  pub second : pair.1 < n
  pub different : pair.0 ≢ pair.1
  pub once : is_joined pair.0 pair.1 before ≡ false

apart : (u v : ℕ) (joined : Bool) → ((u == v) || joined) ≡ false → u ≢ v
apart u v joined is = λ same. differ (sym (equal u v same joined) ∙ is)
  where
    differ : true ≡ false → ⊥
    differ e = cc

    equal : (u v : ℕ) → u ≡ v → (joined : Bool) → ((u == v) || joined) ≡ true
    equal u v same joined = grind (arith, nat_tests)

fresh : (u v : ℕ) (joined : Bool) → ((u == v) || joined) ≡ false → joined ≡ false
fresh u v joined is = or_second (u == v) joined is

nonempty : (kind : Kind) (kinds : List Kind) → kind ∷ kinds ≡ [] → ⊥
nonempty kind kinds is = cc

are_ends : (indices : List ℕ) (before : List Pair) (u v : ℕ) (first second : Option ℕ) → position (nat_eq u) indices ≡ first → position (nat_eq v) indices ≡ second
    → ends_show before (both first second) ≡ [] → (pair : Pair) × (both first second ≡ Some pair) × AreEnds (length indices) before pair
are_ends indices before u v None None e f is = absurd (nonempty AtomNumber [] is)
are_ends indices before u v None (Some b) e f is = absurd (nonempty AtomNumber [] is)
are_ends indices before u v (Some a) None e f is = absurd (nonempty AtomNumber [] is)
are_ends indices before u v (Some a) (Some b) e f is = (
  (a, b),
  refl,
  record {
    first = (position-Some (nat_eq u) indices a 0 e).0;
    second = (position-Some (nat_eq v) indices b 0 f).0;
    different = apart a b (is_joined a b before) (not_shown ((a == b) || is_joined a b before) BondPair is);
    once = fresh a b (is_joined a b before) (not_shown ((a == b) || is_joined a b before) BondPair is);
  },
)

type_within : (n : ℕ) → not (is_type n) ≡ false → type_shows (if is_type n then n else 0) ≡ [] → (1 ≤ (if is_type n then n else 0)) × ((if is_type n then n else 0) ≤ 3)
type_within n range shows = by_test (is_type n) refl range shows
  where
    high : (n : ℕ) → (nat_le 1 n && nat_le n 10) ≡ true → (nat_le 4 n && nat_le n 8) ≡ false → nat_le 9 n ≡ false → n ≤ 3
    high n a b c = grind (arith, nat_tests)

    low : (n : ℕ) → (nat_le 1 n && nat_le n 10) ≡ true → 1 ≤ n
    low n a = grind (arith, nat_tests)

    by_test : (t : Bool) → is_type n ≡ t → not t ≡ false → type_shows (if t then n else 0) ≡ [] → (1 ≤ (if t then n else 0)) × ((if t then n else 0) ≤ 3)
    by_test false e r s = cc
    by_test true e r s = (low n e, high n e (not_shown (nat_le 4 n && nat_le n 8) Query (none_front (shown_if (nat_le 4 n && nat_le n 8) Query) (shown_if (nat_le 9 n) BondType) s)) (not_shown (nat_le 9 n) BondType (none_back (shown_if (nat_le 4 n && nat_le n 8) Query) (shown_if (nat_le 9 n) BondType) s)))

bond_type_within : (words : List (List ℕ)) → type_range_shows words ≡ [] → type_shows (bond_type_in words) ≡ [] → (1 ≤ bond_type_in words) × (bond_type_in words ≤ 3)
unfolding type_range_shows bond_type_in
bond_type_within words range shows = type_within (number_in 1 words) (not_shown (not (is_type (number_in 1 words))) BadField range) shows

-- the parts of a bond line
numbers_nil : (words : List (List ℕ)) → bond_numbers_show words ≡ [] → type_range_shows words ≡ []
unfolding bond_numbers_show
numbers_nil words is = none_front (type_range_shows words) (number_shows 2 words ++ number_shows 3 words) (none_back (number_shows 0 words) (type_range_shows words ++ (number_shows 2 words ++ number_shows 3 words)) is)

pub record BondIs (n : ℕ) (before : List Pair) (ends : Option Pair) (bond : TableBond) : Type 0 where
  pub pair : Pair
  pub ends_are : ends ≡ Some pair
  pub first : bond.first ≡ pair.0
  pub second : bond.second ≡ pair.1
  pub are : AreEnds n before pair
  pub low : 1 ≤ bond.order
  pub high : bond.order ≤ 3

bond_is : (k : ℕ) (indices : List ℕ) (before : List Pair) (words : List (List ℕ)) → bond_line_shows indices before words ≡ [] → BondIs (length indices) before (ends_in indices words) (bond_of k indices words)
unfolding bond_line_shows bond_of ends_in
bond_is k indices before words is =
    let rest = none_back (bond_numbers_show words) (keys_show OfBonds (bond_key_words words) ++ (type_shows (bond_type_in words) ++ ends_show before (both (position (nat_eq (number_in 2 words)) indices) (position (nat_eq (number_in 3 words)) indices)))) is in
    let behind = none_back (keys_show OfBonds (bond_key_words words)) (type_shows (bond_type_in words) ++ ends_show before (both (position (nat_eq (number_in 2 words)) indices) (position (nat_eq (number_in 3 words)) indices))) rest in
    let types = bond_type_within words (numbers_nil words (none_front (bond_numbers_show words) (keys_show OfBonds (bond_key_words words) ++ (type_shows (bond_type_in words) ++ ends_show before (both (position (nat_eq (number_in 2 words)) indices) (position (nat_eq (number_in 3 words)) indices)))) is)) (none_front (type_shows (bond_type_in words)) (ends_show before (both (position (nat_eq (number_in 2 words)) indices) (position (nat_eq (number_in 3 words)) indices))) behind) in
    let ends = are_ends indices before (number_in 2 words) (number_in 3 words) (position (nat_eq (number_in 2 words)) indices) (position (nat_eq (number_in 3 words)) indices) refl refl (none_back (type_shows (bond_type_in words)) (ends_show before (both (position (nat_eq (number_in 2 words)) indices) (position (nat_eq (number_in 3 words)) indices))) behind) in
    record {
      pair = ends.0;
      ends_are = ends.1;
      first = ap first_end ends.1;
      second = ap second_end ends.1;
      are = ends.2;
      low = types.0;
      high = types.1;
    }

bond_kept : (k : ℕ) (words : List (List ℕ)) (r : Reading) → bond_line_shows r.indices r.joined words ≡ [] → Kept r → Kept (after is.Bond k words r)
bond_kept k words r is kept = record {
  count = kept.count;
  bonds = All-append (IsTableBond (length r.atoms)) r.bonds (bond_of k r.indices words ∷ []) kept.bonds (λ i d less. one i d less);
  pairs = ap (λ (t : List Pair). t ++ pair_list (ends_in r.indices words)) kept.pairs
      ∙ (ap (λ (t : Option Pair). map ends_of r.bonds ++ pair_list t) the.ends_are
      ∙ (ap (λ (t : ℕ). map ends_of r.bonds ++ (t, the.pair.1) ∷ []) (sym the.first)
      ∙ (ap (λ (t : ℕ). map ends_of r.bonds ++ ((bond_of k r.indices words).first, t) ∷ []) (sym the.second)
      ∙ sym (map-append ends_of r.bonds (bond_of k r.indices words ∷ [])))));
  once = all_pairs_push (λ (bond other : TableBond). is_parallel bond other ≡ false) r.bonds (bond_of k r.indices words) kept.once
      (λ i d less. none_joined (bond_of k r.indices words).first (bond_of k r.indices words).second r.bonds i d not_joined less);
}
  where
    the : BondIs (length r.indices) r.joined (ends_in r.indices words) (bond_of k r.indices words)
    the = bond_is k r.indices r.joined words is

    good : IsTableBond (length r.atoms) (bond_of k r.indices words)
    good = record {
      first = subst (λ (n : ℕ). (bond_of k r.indices words).first < n) kept.count (subst (λ (n : ℕ). n < length r.indices) (sym the.first) the.are.first);
      second = subst (λ (n : ℕ). (bond_of k r.indices words).second < n) kept.count (subst (λ (n : ℕ). n < length r.indices) (sym the.second) the.are.second);
      different = λ same. the.are.different (sym the.first ∙ (same ∙ the.second));
      order_low = the.low;
      order_high = the.high;
    }

    one : (i : ℕ) (d : TableBond) → i < 1 → IsTableBond (length r.atoms) (get_or (bond_of k r.indices words ∷ []) i d)
    one zero d less = good
    one (suc i) d less = absurd (omega arith)

    not_joined : is_joined (bond_of k r.indices words).first (bond_of k r.indices words).second (map ends_of r.bonds) ≡ false
    not_joined =
        sym (ap (λ (t : List Pair). is_joined (bond_of k r.indices words).first (bond_of k r.indices words).second t) kept.pairs)
        ∙ (ap (λ (u : ℕ). is_joined u (bond_of k r.indices words).second r.joined) the.first
        ∙ (ap (λ (v : ℕ). is_joined the.pair.0 v r.joined) the.second ∙ the.are.once))

-- ---- any line, and all

line_kept : (role : Role) (k : ℕ) (words : List (List ℕ)) (r : Reading) → item_shows role r.indices r.joined words ≡ [] → Kept r → Kept (after role k words r)
line_kept is.Atom k words r is kept = atom_kept k words r (is_given (number_in 0 words) r.indices) refl (not_shown (is_given (number_in 0 words) r.indices) AtomNumber (none_back (atom_line_shows words) (shown_if (is_given (number_in 0 words) r.indices) AtomNumber) is)) kept
line_kept is.Bond k words r is kept = bond_kept k words r is kept
line_kept is.Frame k words r is kept = kept
line_kept is.Sgroup k words r is kept = record { count = kept.count; bonds = kept.bonds; pairs = kept.pairs; once = kept.once }
line_kept is.Collection k words r is kept = record { count = kept.count; bonds = kept.bonds; pairs = kept.pairs; once = kept.once }
line_kept is.Query k words r is kept = absurd (nonempty Query [] is)
line_kept is.Wrong k words r is kept = absurd (nonempty BadField [] is)

items_kept : (all : List Item) (r : Reading) → AreNone (item_faults r.indices r.joined all) → Kept r → Kept (after_items all r)
items_kept [] r none kept = kept
items_kept (item ∷ later) r none kept =
    items_kept later (after_item item r)
    (subst (λ (t : List ℕ). AreNone (item_faults t (after_item item r).joined later)) (sym (after_indices item.role item.at item.words r))
    (subst (λ (t : List Pair). AreNone (item_faults (indices_behind item.role r.indices item.words) t later)) (sym (after_joined item.role item.at item.words r))
    (none_right (faults_at item.at (item_shows item.role r.indices r.joined item.words)) (item_faults (indices_behind item.role r.indices item.words) (pairs_behind item.role r.indices r.joined item.words) later) none)))
    (line_kept item.role item.at item.words r (none_at item.at (item_shows item.role r.indices r.joined item.words) (none_left (faults_at item.at (item_shows item.role r.indices r.joined item.words)) (item_faults (indices_behind item.role r.indices item.words) (pairs_behind item.role r.indices r.joined item.words) later) none)) kept)

nothing_kept : Kept nothing_read
nothing_kept = record {
  count = refl;
  bonds = λ i d less. absurd (omega arith);
  pairs = refl;
  once = λ i j d lt less. absurd (omega arith);
}

-- ---- the table

within_limit : (n : ℕ) → nat_lt 999 n ≡ false → n ≤ 999
within_limit n is = grind (arith, nat_tests)

few : (n : ℕ) (kind : Kind) → AreNone (limit_faults n kind) → n ≤ 999
few n kind none = within_limit n (not_shown (nat_lt 999 n) kind (none_at n (shown_if (nat_lt 999 n) kind) none))

abbrev rest_faults : List (List ℕ) → List Fault
rest_faults lines = item_faults [] [] (all_items lines) ++ (limit_faults (length (table_atoms lines)) LimitAtoms ++ limit_faults (length (table_bonds lines)) LimitBonds)

not_short : (lines : List (List ℕ)) (short : Bool) → is_short lines ≡ short → AreNone (if short then faults_at (length lines) (ShortRecord ∷ []) else faults_at 1 (name_shows lines) ++ rest_faults lines) → AreNone (rest_faults lines)
not_short lines true is none = absurd (none ShortRecord (length lines) (inl refl))
not_short lines false is none = none_right (faults_at 1 (name_shows lines)) (rest_faults lines) none

table_kept : (lines : List (List ℕ)) (table : Table) → table.atoms ≡ table_atoms lines → table.bonds ≡ table_bonds lines → AreNone (rest_faults lines) → IsTable table
table_kept lines table atoms bonds none = record {
  few_atoms = subst (λ (t : List TableAtom). length t ≤ 999) (sym atoms) (few (length (table_atoms lines)) LimitAtoms (none_left (limit_faults (length (table_atoms lines)) LimitAtoms) (limit_faults (length (table_bonds lines)) LimitBonds) limits));
  few_bonds = subst (λ (t : List TableBond). length t ≤ 999) (sym bonds) (few (length (table_bonds lines)) LimitBonds (none_right (limit_faults (length (table_atoms lines)) LimitAtoms) (limit_faults (length (table_bonds lines)) LimitBonds) limits));
  bonds = subst (λ (t : List TableBond). All (IsTableBond (length table.atoms)) t) (sym same_bonds) (subst (λ (t : List TableAtom). All (IsTableBond (length t)) read.bonds) (sym same_atoms) kept.bonds);
  once = subst (λ (t : List TableBond). AllPairs (λ (bond other : TableBond). is_parallel bond other ≡ false) t) (sym same_bonds) kept.once;
}
  where
    limits : AreNone (limit_faults (length (table_atoms lines)) LimitAtoms ++ limit_faults (length (table_bonds lines)) LimitBonds)
    limits = none_right (item_faults [] [] (all_items lines)) (limit_faults (length (table_atoms lines)) LimitAtoms ++ limit_faults (length (table_bonds lines)) LimitBonds) none

    read : Reading
    read = after_items (all_items lines) nothing_read

    kept : Kept read
    kept = items_kept (all_items lines) nothing_read (none_left (item_faults [] [] (all_items lines)) (limit_faults (length (table_atoms lines)) LimitAtoms ++ limit_faults (length (table_bonds lines)) LimitBonds) none) nothing_kept

    same_atoms : table.atoms ≡ read.atoms
    same_atoms = atoms ∙ sym (atoms_law (all_items lines) nothing_read)

    same_bonds : table.bonds ≡ read.bonds
    same_bonds = bonds ∙ sym (bonds_law (all_items lines) nothing_read)

pub table_is_sound : (lines : List (List ℕ)) (table : Table) → IsTableOf lines table → IsTable table
table_is_sound lines table is = table_kept lines table is.atoms is.bonds (not_short lines (is_short lines) refl is.accepted)

pub ok_is_sound : (lines : List (List ℕ)) (answer : Result Table Stop) → IfOk answer (IsTableOf lines) → IfOk answer IsTable
ok_is_sound lines (Ok table) is = table_is_sound lines table is
ok_is_sound lines (Err stop) is = tt
