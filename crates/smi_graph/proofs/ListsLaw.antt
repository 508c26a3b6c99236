-- One more token, as a reader keeps the neighbours of atoms.
use Rattle.std.proofs.Common.{◌≡◌, ℕ, zero, suc, ◌+◌, ◌-◌, ◌<◌, List, [], ◌∷◌, ◌++◌, length, map, get_or, slice_set, reverse, Bool, true, false, Option, Some, None, refl, ap, sym, ◌∙◌, subst, inl, inr, arith}
use Rattle.std.specs.Prelude.{◌==◌, slice_get, slice_index_or, is_some, IsNone, option_map, Vec, if◌then◌else◌}
use Rattle.std.specs.Option.{option_to_list}
use Rattle.std.proofs.lemmas.Bool.{cases_eq, cases_lt, ne_eqb}
use Rattle.std.proofs.lemmas.List.{map-append, length-map, length-append, get_or_push, get_or_append_left}
use Rattle.mc_mol.proofs.Halves.{same_test}
use Rattle.std.specs.declared.alloc.Global.{Global}
use Rattle.smallvec.specs.SmallVec.{SmallVec}
use Rattle.mc_base.specs.declared.ids.AtomId.{AtomId}
use Rattle.smi_lex.specs.declared.token.BondMark.{BondMark}
use Rattle.std.proofs.lemmas.Option.{same_Some, slice_get-map, slice_get-get_or}
use Rattle.smi_graph.specs.declared.atom_lists.AtomLists.{AtomLists}
use Rattle.smi_graph.specs.declared.ring_table.RingEnd.{RingEnd}
use Rattle.smi_graph.specs.declared.text_bond.TextBond.{TextBond}
use Rattle.smi_graph.specs.declared.role.Role.{Role}
use Rattle.smi_graph.specs.declared.role.Role.TheVariants.{Atom, Ring}
use Rattle.smi_graph.specs.Bonds.{atom_count, predecessor, mark_of, open_end, text_bond, chain_bond, ring_end, ring_bond, completed}
use Rattle.smi_graph.specs.TextOrder.{predecessor_of, if_behind, followers, list_if, ring_partners, neighbours, has_predecessor}
use Rattle.smi_graph.specs.RingSlots.{RingSlot, filled, slot_if, turn_slots, slots, slot_atoms, known, entries, latest_slot, atom_id, raw, HoldsLists, lists_in, AreEntries, HoldsNeighbours, ids_if, IsPushed, set_if, IsFilled, joined_at, AreJoined}
use Rattle.smi_graph.proofs.Waiting.{bit, waits, opened_at}
use Rattle.smi_graph.proofs.EntriesLaw.{entries_law, entries_none, entries_wait, fill_nothing, fill_one_slot, slot_law}
use Rattle.smi_graph.proofs.RingSlotsLaw.{Lacks, open_lacks, partners_kept}

raw_set : (ss : List RingSlot) (i : ℕ) (s : RingSlot) → map raw (slice_set ss i s) ≡ slice_set (map raw ss) i (raw s)
raw_set [] i s = refl
raw_set (x ∷ ss) zero s = refl
raw_set (x ∷ ss) (suc i) s = ap (λ (us : List AtomId). raw x ∷ us) (raw_set ss i s)

-- an atom and its predecessor

both_raw : (s t : Bool) (p c : ℕ) → map raw (known (list_if s (Some p) ++ (if t then c ∷ [] else []))) ≡ ids_if s (atom_id p) ++ ids_if t (atom_id c)
both_raw true true p c = refl
both_raw true false p c = refl
both_raw false true p c = refl
both_raw false false p c = refl

none_raw : (s : Bool) → map raw (known (list_if s None ++ [])) ≡ []
none_raw true = refl
none_raw false = refl

added : (k c : ℕ) (o : Option ℕ) (mark : Option BondMark) → joined_at k (chain_bond o c mark) ≡ map raw (known (list_if (c == k) o ++ if_behind k o c))
added k c None mark = sym (none_raw (c == k))
added k c (Some p) mark = sym (both_raw (c == k) (p == k) p c)

index_left : (xs ys : List (SmallVec AtomId)) (k : ℕ) (d : SmallVec AtomId) → k < length xs → slice_index_or (xs ++ ys) k d ≡ slice_index_or xs k d
index_left [] ys k d less = absurd (omega arith)
index_left (x ∷ xs) ys zero d less = refl
index_left (x ∷ xs) ys (suc k) d less = index_left xs ys k d (omega arith)

index_last : (xs : List (SmallVec AtomId)) (y d : SmallVec AtomId) (k : ℕ) → k ≡ length xs → slice_index_or (xs ++ y ∷ []) k d ≡ y
index_last [] y d zero e = refl
index_last [] y d (suc k) e = absurd (omega arith)
index_last (x ∷ xs) y d zero e = absurd (omega arith)
index_last (x ∷ xs) y d (suc k) e = index_last xs y d k (omega arith)

pub atom_lists : (old mid new : List (SmallVec AtomId)) (empty : SmallVec AtomId) (lower : Bool) (before : List Role) (bond : Option TextBond)
    → AreJoined bond old mid → length mid ≡ length old → new ≡ mid ++ empty ∷ [] → empty.items ≡ [] → bond ≡ completed before (Atom lower)
    → length old ≡ atom_count before + 1 → HoldsLists old before → HoldsLists new (Atom lower ∷ before)
atom_lists old mid new empty lower before bond joined same is none completes count holds = λ a d less. elim (cases_lt a (length mid)) [
  | inl below ↦
      ap (λ (x : List (SmallVec AtomId)). (slice_index_or x a d).items) is ∙ ap (λ (x : SmallVec AtomId). x.items) (index_left mid (empty ∷ []) a d below)
      ∙ joined a d (omega arith)
      ∙ ap (λ (x : List AtomId). x ++ joined_at a bond) (holds a d (omega arith))
      ∙ ap (λ (x : List AtomId). map raw (entries a before) ++ x) (ap (joined_at a) completes ∙ added a (atom_count before) (predecessor before) (mark_of before))
      ∙ sym (map-append raw (entries a before) (known (list_if (atom_count before == a) (predecessor before) ++ if_behind a (predecessor before) (atom_count before))))
  | inr above ↦
      let long : length new ≡ length mid + 1 = ap (λ (x : List (SmallVec AtomId)). length x) is ∙ length_push mid in
      let last : a ≡ length mid = omega arith in
      ap (λ (x : List (SmallVec AtomId)). (slice_index_or x a d).items) is ∙ ap (λ (x : SmallVec AtomId). x.items) (index_last mid empty d a last) ∙ none
      ∙ sym (ap (map raw) (entries_none a (Atom lower ∷ before) (omega arith) (omega arith)))
]
  where
    length_push : (xs : List (SmallVec AtomId)) → length (xs ++ empty ∷ []) ≡ length xs + 1
    length_push [] = refl
    length_push (x ∷ xs) = let h = length_push xs in omega arith

-- a ring number that opens

opened_raw : (t : Bool) (n : ℕ) → ids_if t (atom_id 0) ≡ map raw (slot_if t (inr n))
opened_raw true n = refl
opened_raw false n = refl

pub opened : (old new : List (SmallVec AtomId)) (here n : ℕ) (before : List Role) → IsPushed here (atom_id 0) old new → length new ≡ length old
    → here ≡ atom_count before - 1 → open_end n before ≡ None → HoldsLists old before → HoldsLists new (Ring n ∷ before)
opened old new here n before pushed count is none holds = λ a d less.
    pushed a d (omega arith)
    ∙ ap (λ (x : List AtomId). x ++ ids_if (here == a) (atom_id 0)) (holds a d (omega arith))
    ∙ ap (λ (x : List AtomId). map raw (entries a before) ++ x) (ap (λ (x : ℕ). ids_if (x == a) (atom_id 0)) is ∙ opened_raw (atom_count before - 1 == a) n)
    ∙ sym (map-append raw (entries a before) (slot_if (atom_count before - 1 == a) (inr n)))
    ∙ ap (λ (o : Option RingEnd). map raw (turn_slots o n (atom_count before - 1) a (entries a before))) (sym none)

-- a ring number that closes

closed_raw : (t : Bool) (u : ℕ) → ids_if t (atom_id u) ≡ map raw (slot_if t (inl u))
closed_raw true u = refl
closed_raw false u = refl

filled_raw : (slot here n a : ℕ) (before : List Role) (end : RingEnd) (us : List AtomId) → us ≡ map raw (entries a before) → open_end n before ≡ Some end → slot ≡ latest_slot n before
    → set_if (end.atom == a) slot (atom_id here) us ≡ map raw (filled n here (entries a before))
filled_raw slot here n a before end us holds open_ is_slot = elim (cases_eq end.atom a) [
  | inl same ↦
      let t : (end.atom == a) ≡ true = ap (λ (x : ℕ). x == a) same ∙ same_test a in
      let w : waits n (entries a before) ≡ 1 = entries_wait a n before ∙ ap (opened_at a) open_ ∙ ap bit t in
      let s = slot_law n before end open_ in
      let fill : filled n here (entries a before) ≡ slice_set (entries a before) (latest_slot n before) (inl here) =
      fill_one_slot n here (latest_slot n before) (entries a before) w (subst (λ (x : ℕ). latest_slot n before < length (entries x before)) same s.0)
      (ap (λ (x : ℕ). get_or (entries x before) (latest_slot n before) (inl 0)) (sym same) ∙ s.1) in
      ap (λ (b : Bool). set_if b slot (atom_id here) us) t
      ∙ ap (λ (x : List AtomId). slice_set x slot (atom_id here)) holds
      ∙ ap (λ (i : ℕ). slice_set (map raw (entries a before)) i (atom_id here)) is_slot
      ∙ sym (raw_set (entries a before) (latest_slot n before) (inl here))
      ∙ ap (map raw) (sym fill)
  | inr ne ↦
      let t = ne_eqb end.atom a ne in
      let w : waits n (entries a before) ≡ 0 = entries_wait a n before ∙ ap (opened_at a) open_ ∙ ap bit t in
      ap (λ (b : Bool). set_if b slot (atom_id here) us) t ∙ holds ∙ ap (map raw) (sym (fill_nothing n here (entries a before) w))
]

pub closed : (old mid new : List (SmallVec AtomId)) (other here : AtomId) (slot n : ℕ) (before : List Role) (end : RingEnd)
    → IsFilled other.0 slot here old mid → IsPushed here.0 other mid new → length mid ≡ length old → length new ≡ length mid
    → here.0 ≡ atom_count before - 1 → other.0 ≡ end.atom → open_end n before ≡ Some end → slot ≡ latest_slot n before → HoldsLists old before → HoldsLists new (Ring n ∷ before)
closed old mid new other here slot n before end fills pushed count count' is_here is open_ is_slot holds = λ a d less.
    pushed a d (omega arith)
    ∙ ap (λ (x : List AtomId). x ++ ids_if (here.0 == a) other) (fills a d (omega arith)
    ∙ ap (λ (x : ℕ). set_if (x == a) slot here (slice_index_or old a d).items) is
    ∙ filled_raw slot here.0 n a before end (slice_index_or old a d).items (holds a d (omega arith)) open_ is_slot)
    ∙ ap (λ (x : ℕ). map raw (filled n here.0 (entries a before)) ++ ids_if (here.0 == a) (atom_id x)) is
    ∙ ap (λ (x : ℕ). map raw (filled n x (entries a before)) ++ ids_if (x == a) (atom_id end.atom)) is_here
    ∙ ap (λ (x : List AtomId). map raw (filled n (atom_count before - 1) (entries a before)) ++ x) (closed_raw (atom_count before - 1 == a) end.atom)
    ∙ sym (map-append raw (filled n (atom_count before - 1) (entries a before)) (slot_if (atom_count before - 1 == a) (inl end.atom)))
    ∙ ap (λ (o : Option RingEnd). map raw (turn_slots o n (atom_count before - 1) a (entries a before))) (sym open_)

-- where a number has its latest slot

pub slot_turned : (n m slot was : ℕ) (before : List Role) (new : ℕ) → new ≡ (if m == n then slot else was) → slot ≡ length (entries (atom_count before - 1) before)
    → was ≡ latest_slot n before → new ≡ latest_slot n (Ring m ∷ before)
slot_turned n m slot was before new set is holds =
    set ∙ ap (λ (x : ℕ). if m == n then x else was) is ∙ ap (λ (x : ℕ). if m == n then length (entries (atom_count before - 1) before) else x) holds

-- At the end

raw_known : (us : List ℕ) → map raw (known us) ≡ map atom_id us
raw_known [] = refl
raw_known (u ∷ us) = ap (λ (x : List AtomId). atom_id u ∷ x) (raw_known us)

all_known : (c : ℕ) (ss : List RingSlot) → ((n : ℕ) → Lacks n ss) → map raw ss ≡ map atom_id (slot_atoms c [] ss)
all_known c [] h = refl
all_known c (inl u ∷ ss) h = ap (λ (x : List AtomId). atom_id u ∷ x) (all_known c ss (λ n. (h n).1))
all_known c (inr m ∷ ss) h = absurd ((h m).0 refl)

-- Where no ring number stays open, each atom's list has its neighbours in their order.
pub lists_end : (a : ℕ) (ks : List Role) → ((n : ℕ) → open_end n (reverse ks) ≡ None) → map raw (entries a (reverse ks)) ≡ map atom_id (neighbours a ks)
lists_end a ks closed_all =
    let us : List ℕ = option_to_list (predecessor_of a (reverse ks)) in
    let vs : List ℕ = followers a (reverse ks) in
    let ss : List RingSlot = slots a (reverse ks) in
    let ps : List ℕ = ring_partners a [] ks in
    let middle : map raw ss ≡ map atom_id ps =
    all_known (atom_count (reverse ks)) ss (λ n. open_lacks a n (reverse ks) (closed_all n)) ∙ ap (map atom_id) (sym (partners_kept a ks)) in
    ap (map raw) (entries_law a (reverse ks))
    ∙ map-append raw (known us) (ss ++ known vs)
    ∙ ap (λ (x : List AtomId). x ++ map raw (ss ++ known vs)) (raw_known us)
    ∙ ap (λ (x : List AtomId). map atom_id us ++ x) (map-append raw ss (known vs) ∙ ap (λ (x : List AtomId). map raw ss ++ x) (raw_known vs) ∙ ap (λ (x : List AtomId). x ++ map atom_id vs) middle)
    ∙ sym (map-append atom_id us (ps ++ vs) ∙ ap (λ (x : List AtomId). map atom_id us ++ x) (map-append atom_id ps vs))

-- which atoms have a predecessor

some_bond : (o : Option ℕ) (c : ℕ) (mark : Option BondMark) → is_some (chain_bond o c mark) ≡ is_some o
some_bond None c mark = refl
some_bond (Some p) c mark = refl

pub led_step : (old mid new : List Bool) (flag lower : Bool) (before : List Role) (bond : Option TextBond) → mid ≡ old → new ≡ mid ++ flag ∷ [] → flag ≡ is_some bond
    → bond ≡ completed before (Atom lower) → length old ≡ atom_count before → ((a : ℕ) → a < atom_count before → get_or old a false ≡ is_some (predecessor_of a before))
    → (a : ℕ) → a < atom_count before + 1 → get_or new a false ≡ is_some (predecessor_of a (Atom lower ∷ before))
led_step old mid new flag lower before bond same is some completes count holds a less = elim (cases_eq (atom_count before) a) [
  | inl last ↦
      let t : (atom_count before == a) ≡ true = ap (λ (x : ℕ). x == a) last ∙ same_test a in
      ap (λ (x : List Bool). get_or x a false) (is ∙ ap (λ (x : List Bool). x ++ flag ∷ []) same) ∙ get_or_push old flag false a (count ∙ last)
      ∙ some ∙ ap is_some completes ∙ some_bond (predecessor before) (atom_count before) (mark_of before)
      ∙ ap (λ (b : Bool). is_some (if b then predecessor before else predecessor_of a before)) (sym t)
  | inr ne ↦
      ap (λ (x : List Bool). get_or x a false) (is ∙ ap (λ (x : List Bool). x ++ flag ∷ []) same)
      ∙ get_or_append_left old (flag ∷ []) false a (omega arith) ∙ holds a (omega arith)
      ∙ ap (λ (b : Bool). is_some (if b then predecessor before else predecessor_of a before)) (sym (ne_eqb (atom_count before) a ne))
]

-- one more ring number, whose slot is kept

some_list : (lists : List (SmallVec AtomId)) → 0 < length lists → SmallVec AtomId
some_list [] h = absurd (omega arith)
some_list (x ∷ lists) h = x

pub slot_here : (lists : List (SmallVec AtomId)) (here slot : ℕ) (before : List Role) → length lists ≡ atom_count before + 1 → here ≡ atom_count before - 1 → HoldsLists lists before
    → ((d : SmallVec AtomId) → here < length lists → slot ≡ length (slice_index_or lists here d).items) → slot ≡ length (entries (atom_count before - 1) before)
slot_here lists here slot before count is holds counted =
    let less : here < length lists = omega arith in
    let d : SmallVec AtomId = some_list lists (omega arith) in
    counted d less ∙ ap (λ (x : List AtomId). length x) (holds here d less) ∙ length-map (entries here before) raw ∙ ap (λ (x : ℕ). length (entries x before)) is

pub ring_held : (old new : AtomLists) (n slot : ℕ) (before : List Role) → HoldsNeighbours old before → HoldsLists new.lists.items (Ring n ∷ before)
    → length new.lists.items ≡ length old.lists.items → new.led ≡ old.led
    → ((k : ℕ) → get_or new.slots.items k 0 ≡ (if n == k then slot else get_or old.slots.items k 0)) → slot ≡ length (entries (atom_count before - 1) before)
    → HoldsNeighbours new (Ring n ∷ before)
ring_held old new n slot before holds lists count led set is = record {
  count = count ∙ holds.count;
  lists = lists;
  led_count = ap (λ (x : Vec Bool Global). length x.items) led ∙ holds.led_count;
  led = λ a less. ap (λ (x : Vec Bool Global). get_or x.items a false) led ∙ holds.led a less;
  slots = λ k. slot_turned k n slot (get_or old.slots.items k 0) before (get_or new.slots.items k 0) (set k) is (holds.slots k);
}

-- the bond that a closing number completes

pub record Closes (o : Option RingEnd) (bond : TextBond) (here : ℕ) : Type 0 where
  pub end : RingEnd
  pub opened : o ≡ Some end
  pub first : bond.first.0 ≡ end.atom
  pub second : bond.second.0 ≡ here

pub closes : (o : Option RingEnd) (bond : TextBond) (before : List Role) → Some bond ≡ ring_bond o (ring_end before) → Closes o bond (atom_count before - 1)
closes None bond before h = cc
closes (Some end) bond before h =
    let same = same_Some bond (text_bond end.atom (atom_count before - 1) end.mark (mark_of before)) h in
    record { end = end; opened = refl; first = ap (λ (b : TextBond). b.first.0) same; second = ap (λ (b : TextBond). b.second.0) same }

pub stays_open : (o : Option RingEnd) (before : List Role) → None ≡ ring_bond o (ring_end before) → o ≡ None
stays_open None before h = refl
stays_open (Some end) before h = cc

-- the lists but the one of the next atom

index_get : (xs : List (SmallVec AtomId)) (k : ℕ) (d : SmallVec AtomId) → k < length xs → slice_get xs k ≡ Some (slice_index_or xs k d)
index_get [] k d less = absurd (omega arith)
index_get (x ∷ xs) zero d less = refl
index_get (x ∷ xs) (suc k) d less = index_get xs k d (omega arith)

pub but_last : (old new : List (SmallVec AtomId)) (o : Option (SmallVec AtomId)) (before : List Role) → old ≡ new ++ option_to_list o → (IsNone o → length old ≡ 0)
    → length old ≡ atom_count before + 1 → HoldsLists old before → AreEntries before (lists_in new)
but_last old new None before is none count holds = absurd (let z = none refl in omega arith)
but_last old new (Some x) before is none count holds =
    let long = ap (λ (xs : List (SmallVec AtomId)). length xs) is ∙ length-append new (x ∷ []) in
    let same : length new ≡ atom_count before = omega arith in
    record {
      count = length-map new (λ (list : SmallVec AtomId). list.items) ∙ same;
      each = λ a less.
          slice_get-map (λ (list : SmallVec AtomId). list.items) new a
          ∙ ap (option_map (λ (list : SmallVec AtomId). list.items)) (index_get new a x (omega arith))
          ∙ ap (λ (xs : List AtomId). Some xs) (ap (λ (v : SmallVec AtomId). v.items) (sym (index_left new (x ∷ []) a x (omega arith)))
          ∙ ap (λ (xs : List (SmallVec AtomId)). (slice_index_or xs a x).items) (sym is) ∙ holds a x (omega arith));
    }

-- what is held of a text in which no ring number stays open

pub record AreHeld (ks : List Role) (count : ℕ) (lists : List (List AtomId)) (led : List Bool) : Type 0 where
  pub lists_count : length lists ≡ count
  pub led_count : length led ≡ count
  pub lists_are : (a : ℕ) → a < count → slice_get lists a ≡ Some (map atom_id (neighbours a ks))
  pub led_are : (a : ℕ) → a < count → slice_get led a ≡ Some (has_predecessor a ks)

pub are_held : (ks : List Role) (held : AtomLists) (lists : List (List AtomId)) (led : List Bool) (count : ℕ) → HoldsNeighbours held (reverse ks) → AreEntries (reverse ks) lists
    → led ≡ held.led.items → atom_count (reverse ks) ≡ count → ((n : ℕ) → open_end n (reverse ks) ≡ None) → AreHeld ks count lists led
are_held ks held lists led count holds entries_ is counted closed_all =
    let same : length led ≡ count = ap (λ (xs : List Bool). length xs) is ∙ holds.led_count ∙ counted in
    record {
      lists_count = entries_.count ∙ counted;
      led_count = same;
      lists_are = λ a less. entries_.each a (omega arith) ∙ ap (λ (xs : List AtomId). Some xs) (lists_end a ks closed_all);
      led_are = λ a less. slice_get-get_or led a false (omega arith) ∙ ap (λ (b : Bool). Some b) (ap (λ (xs : List Bool). get_or xs a false) is ∙ holds.led a (omega arith));
    }
