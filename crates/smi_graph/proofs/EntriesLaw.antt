-- One list for each atom, which grows at its end and is filled in place, holds the places of the atom in their order.
use Rattle.std.proofs.Common.{◌≡◌, ◌≢◌, ℕ, zero, suc, ◌+◌, ◌-◌, ◌≤◌, ◌<◌, List, [], ◌∷◌, ◌++◌, length, get_or, slice_set, Bool, true, false, Option, Some, None, refl, ap, sym, ◌∙◌, subst, inl, inr, arith}
use Rattle.std.specs.Prelude.{◌==◌, if◌then◌else◌}
use Rattle.std.specs.Option.{option_to_list}
use Rattle.std.proofs.lemmas.Bool.{cases_eq}
use Rattle.std.proofs.lemmas.List.{append-nil, append_assoc, length-append, get_or_append_left, get_or_push}
use Rattle.smi_graph.specs.declared.ring_table.RingEnd.{RingEnd}
use Rattle.smi_graph.specs.declared.role.Role.{Role}
use Rattle.smi_graph.specs.declared.role.Role.TheVariants.{Atom, Bond, Ring, Enter, Leave, Dot}
use Rattle.smi_graph.specs.Bonds.{atom_count, predecessor, open_end, ring_end}
use Rattle.smi_graph.specs.RingTables.{turned}
use Rattle.smi_graph.proofs.RingEnds.{open_end_same, open_end_other}
use Rattle.smi_graph.proofs.SoundBonds.{predecessor_below}
use Rattle.smi_graph.specs.TextOrder.{predecessor_of, if_behind, followers, list_if}
use Rattle.smi_graph.specs.RingSlots.{RingSlot, fill_one, filled, slot_if, turn_slots, slots, known, entries, latest_slot}
use Rattle.std.proofs.lemmas.Bool.{ne_eqb, eqb-true}
use Rattle.std.proofs.lemmas.Option.{same_Some}
use Rattle.mc_mol.proofs.Halves.{same_test}
use Rattle.smi_graph.proofs.Waiting.{bit, waits_one, waits, waits_append, opened_at, waiting}

-- The three parts of the list

known_append : (us vs : List ℕ) → known (us ++ vs) ≡ known us ++ known vs
known_append [] vs = refl
known_append (u ∷ us) vs = ap (λ (x : List RingSlot). inl u ∷ x) (known_append us vs)

filled_known : (n v : ℕ) (us : List ℕ) → filled n v (known us) ≡ known us
filled_known n v [] = refl
filled_known n v (u ∷ us) = ap (λ (x : List RingSlot). inl u ∷ x) (filled_known n v us)

filled_append : (n v : ℕ) (xs ys : List RingSlot) → filled n v (xs ++ ys) ≡ filled n v xs ++ filled n v ys
filled_append n v [] ys = refl
filled_append n v (x ∷ xs) ys = ap (λ (z : List RingSlot). fill_one n v x ∷ z) (filled_append n v xs ys)

behind_none : (a v : ℕ) (o : Option ℕ) → ((p : ℕ) → o ≡ Some p → p ≢ a) → if_behind a o v ≡ []
behind_none a v None h = refl
behind_none a v (Some p) h = ap (λ (t : Bool). if t then v ∷ [] else []) (ne_eqb p a (h p refl))

-- an atom that isn't read yet has no predecessor
pub none_yet : (a : ℕ) (before : List Role) → atom_count before ≤ a → predecessor_of a before ≡ None
none_yet a [] le = refl
none_yet a (Atom lower ∷ before) le =
    ap (λ (t : Bool). if t then predecessor before else predecessor_of a before) (ne_eqb (atom_count before) a (omega arith)) ∙ none_yet a before (omega arith)
none_yet a (Bond mark ∷ before) le = none_yet a before le
none_yet a (Ring number ∷ before) le = none_yet a before le
none_yet a (Enter ∷ before) le = none_yet a before le
none_yet a (Leave ∷ before) le = none_yet a before le
none_yet a (Dot ∷ before) le = none_yet a before le

-- an atom's followers stand behind it
followers_none : (a : ℕ) (before : List Role) → atom_count before ≤ suc a → followers a before ≡ []
followers_none a [] le = refl
followers_none a (Atom lower ∷ before) le =
    ap (λ (x : List ℕ). x ++ if_behind a (predecessor before) (atom_count before)) (followers_none a before (omega arith))
    ∙ behind_none a (atom_count before) (predecessor before) (λ p e. let b = predecessor_below before p e in omega arith)
followers_none a (Bond mark ∷ before) le = followers_none a before le
followers_none a (Ring number ∷ before) le = followers_none a before le
followers_none a (Enter ∷ before) le = followers_none a before le
followers_none a (Leave ∷ before) le = followers_none a before le
followers_none a (Dot ∷ before) le = followers_none a before le

turn_none : (o : Option RingEnd) (n here a : ℕ) → (here == a) ≡ false → turn_slots o n here a [] ≡ []
turn_none None n here a t = ap (λ (b : Bool). slot_if b (inr n)) t
turn_none (Some end) n here a t = ap (λ (b : Bool). slot_if b (inl end.atom)) t

-- no ring number stands at an atom that isn't read yet, but one before the first atom at this
slots_none : (a : ℕ) (before : List Role) → atom_count before ≤ a → 0 < a → slots a before ≡ []
slots_none a [] le some = refl
slots_none a (Ring n ∷ before) le some =
    ap (turn_slots (open_end n before) n (atom_count before - 1) a) (slots_none a before le some) ∙ turn_none (open_end n before) n (atom_count before - 1) a (ne_eqb (atom_count before - 1) a (omega arith))
slots_none a (Atom lower ∷ before) le some = slots_none a before (omega arith) some
slots_none a (Bond mark ∷ before) le some = slots_none a before le some
slots_none a (Enter ∷ before) le some = slots_none a before le some
slots_none a (Leave ∷ before) le some = slots_none a before le some
slots_none a (Dot ∷ before) le some = slots_none a before le some

abbrev three : List RingSlot → List RingSlot → List RingSlot → List RingSlot
three xs ys zs = xs ++ (ys ++ zs)

ring_turns : (o : Option RingEnd) (n here a : ℕ) (us vs : List ℕ) (ss : List RingSlot) → ((here == a) ≡ true → vs ≡ [])
    → turn_slots o n here a (three (known us) ss (known vs)) ≡ three (known us) (turn_slots o n here a ss) (known vs)
ring_turns o n here a us vs ss none = by_test (here == a) refl o
  where
    by_test : (t : Bool) → (here == a) ≡ t → (o : Option RingEnd) → turn_slots o n here a (three (known us) ss (known vs)) ≡ three (known us) (turn_slots o n here a ss) (known vs)
    by_test false e None =
        let z : slot_if (here == a) (inr n) ≡ [] = ap (λ (b : Bool). slot_if b (inr n)) e in
        ap (λ (x : List RingSlot). three (known us) ss (known vs) ++ x) z ∙ append-nil (three (known us) ss (known vs))
        ∙ ap (λ (x : List RingSlot). three (known us) x (known vs)) (sym (ap (λ (x : List RingSlot). ss ++ x) z ∙ append-nil ss))
    by_test false e (Some end) =
        let z : slot_if (here == a) (inl end.atom) ≡ [] = ap (λ (b : Bool). slot_if b (inl end.atom)) e in
        ap (λ (x : List RingSlot). filled n here (three (known us) ss (known vs)) ++ x) z ∙ append-nil (filled n here (three (known us) ss (known vs)))
        ∙ parts
        ∙ ap (λ (x : List RingSlot). three (known us) x (known vs)) (sym (ap (λ (x : List RingSlot). filled n here ss ++ x) z ∙ append-nil (filled n here ss)))
      where
        parts : filled n here (three (known us) ss (known vs)) ≡ three (known us) (filled n here ss) (known vs)
        parts =
            filled_append n here (known us) (ss ++ known vs) ∙ ap (λ (x : List RingSlot). x ++ filled n here (ss ++ known vs)) (filled_known n here us)
            ∙ ap (λ (x : List RingSlot). known us ++ x) (filled_append n here ss (known vs) ∙ ap (λ (x : List RingSlot). filled n here ss ++ x) (filled_known n here vs))
    by_test true e None =
        let no_more : vs ≡ [] = none e in
        ap (λ (x : List ℕ). three (known us) ss (known x) ++ slot_if (here == a) (inr n)) no_more
        ∙ append_assoc (known us) (ss ++ []) (slot_if (here == a) (inr n))
        ∙ ap (λ (x : List RingSlot). known us ++ x) (ap (λ (x : List RingSlot). x ++ slot_if (here == a) (inr n)) (append-nil ss) ∙ sym (append-nil (ss ++ slot_if (here == a) (inr n))))
        ∙ ap (λ (x : List ℕ). three (known us) (ss ++ slot_if (here == a) (inr n)) (known x)) (sym no_more)
    by_test true e (Some end) =
        let no_more : vs ≡ [] = none e in
        let x0 : List RingSlot = slot_if (here == a) (inl end.atom) in
        ap (λ (x : List ℕ). filled n here (three (known us) ss (known x)) ++ x0) no_more
        ∙ ap (λ (x : List RingSlot). x ++ x0) (filled_append n here (known us) (ss ++ []) ∙ ap (λ (x : List RingSlot). x ++ filled n here (ss ++ [])) (filled_known n here us) ∙ ap (λ (x : List RingSlot). known us ++ filled n here x) (append-nil ss))
        ∙ append_assoc (known us) (filled n here ss) x0
        ∙ ap (λ (x : List RingSlot). known us ++ x) (sym (append-nil (filled n here ss ++ x0)))
        ∙ ap (λ (x : List ℕ). three (known us) (filled n here ss ++ x0) (known x)) (sym no_more)

-- The one list is the predecessor, the slots of the ring numbers and the followers.
pub entries_law : (a : ℕ) (before : List Role) → entries a before ≡ known (option_to_list (predecessor_of a before)) ++ (slots a before ++ known (followers a before))
entries_law a [] = refl
entries_law a (Ring n ∷ before) =
    ap (turn_slots (open_end n before) n (atom_count before - 1) a) (entries_law a before)
    ∙ ring_turns (open_end n before) n (atom_count before - 1) a (option_to_list (predecessor_of a before)) (followers a before) (slots a before)
    (λ t. followers_none a before (let e = eqb-true (atom_count before - 1) a t in omega arith))
entries_law a (Atom lower ∷ before) = elim (cases_eq (atom_count before) a) [
  | inl e ↦
      let test : (atom_count before == a) ≡ true = ap (λ (c : ℕ). c == a) e ∙ same_test a in
      let no_pred : predecessor_of a before ≡ None = none_yet a before (omega arith) in
      let no_followers : followers a before ≡ [] = followers_none a before (omega arith) in
      let no_behind : if_behind a (predecessor before) (atom_count before) ≡ [] = behind_none a (atom_count before) (predecessor before) (λ p h. let b = predecessor_below before p h in omega arith) in
      let so_far : entries a before ≡ slots a before =
      entries_law a before ∙ ap (λ (o : Option ℕ). known (option_to_list o) ++ (slots a before ++ known (followers a before))) no_pred
      ∙ ap (λ (x : List ℕ). slots a before ++ known x) no_followers ∙ append-nil (slots a before) in
      ap (λ (x : List RingSlot). x ++ known (list_if (atom_count before == a) (predecessor before) ++ if_behind a (predecessor before) (atom_count before))) so_far
      ∙ ap (λ (t : Bool). slots a before ++ known (list_if t (predecessor before) ++ if_behind a (predecessor before) (atom_count before))) test
      ∙ ap (λ (x : List ℕ). slots a before ++ known (option_to_list (predecessor before) ++ x)) no_behind
      ∙ turn (predecessor before) (λ p h. predecessor_below before p h) e
      ∙ sym (ap (λ (t : Bool). known (option_to_list (if t then predecessor before else predecessor_of a before)) ++ (slots a before ++ known (followers a before ++ if_behind a (predecessor before) (atom_count before)))) test
      ∙ ap (λ (x : List ℕ). known (option_to_list (predecessor before)) ++ (slots a before ++ known (x ++ if_behind a (predecessor before) (atom_count before)))) no_followers
      ∙ ap (λ (x : List ℕ). known (option_to_list (predecessor before)) ++ (slots a before ++ known x)) no_behind)
  | inr ne ↦
      let test : (atom_count before == a) ≡ false = ne_eqb (atom_count before) a ne in
      let b : List ℕ = if_behind a (predecessor before) (atom_count before) in
      let us : List ℕ = option_to_list (predecessor_of a before) in
      ap (λ (x : List RingSlot). x ++ known (list_if (atom_count before == a) (predecessor before) ++ b)) (entries_law a before)
      ∙ ap (λ (t : Bool). (known us ++ (slots a before ++ known (followers a before))) ++ known (list_if t (predecessor before) ++ b)) test
      ∙ append_assoc (known us) (slots a before ++ known (followers a before)) (known b)
      ∙ ap (λ (x : List RingSlot). known us ++ x) (append_assoc (slots a before) (known (followers a before)) (known b) ∙ ap (λ (x : List RingSlot). slots a before ++ x) (sym (known_append (followers a before) b)))
      ∙ ap (λ (t : Bool). known (option_to_list (if t then predecessor before else predecessor_of a before)) ++ (slots a before ++ known (followers a before ++ b))) (sym test)
]
  where
    turn : (o : Option ℕ) → ((p : ℕ) → o ≡ Some p → p < atom_count before) → atom_count before ≡ a → slots a before ++ known (option_to_list o ++ []) ≡ known (option_to_list o) ++ (slots a before ++ [])
    turn None below e = refl
    turn (Some p) below e =
        let low = below p refl in
        let none : slots a before ≡ [] = slots_none a before (omega arith) (omega arith) in
        ap (λ (x : List RingSlot). x ++ (inl p ∷ [])) none ∙ sym (ap (λ (x : List RingSlot). inl p ∷ (x ++ [])) none)
entries_law a (Bond mark ∷ before) = entries_law a before
entries_law a (Enter ∷ before) = entries_law a before
entries_law a (Leave ∷ before) = entries_law a before
entries_law a (Dot ∷ before) = entries_law a before

-- nothing stands at an atom that isn't read yet, but a ring number before the first atom at that
pub entries_none : (a : ℕ) (before : List Role) → atom_count before ≤ a → 0 < a → entries a before ≡ []
entries_none a before le some =
    entries_law a before
    ∙ ap (λ (o : Option ℕ). known (option_to_list o) ++ (slots a before ++ known (followers a before))) (none_yet a before le)
    ∙ ap (λ (x : List RingSlot). x ++ known (followers a before)) (slots_none a before le some)
    ∙ ap known (followers_none a before (omega arith))

-- A closing number changes one slot of one atom

waits_known : (n : ℕ) (us : List ℕ) → waits n (known us) ≡ 0
waits_known n [] = refl
waits_known n (u ∷ us) = let h = waits_known n us in omega arith

pub entries_wait : (a n : ℕ) (before : List Role) → waits n (entries a before) ≡ opened_at a (open_end n before)
entries_wait a n before =
    let us : List ℕ = option_to_list (predecessor_of a before) in
    let vs : List ℕ = followers a before in
    let p = waits_append n (known us) (slots a before ++ known vs) in
    let q = waits_append n (slots a before) (known vs) in
    let u = waits_known n us in
    let v = waits_known n vs in
    let w = waiting a n before in ap (waits n) (entries_law a before) ∙ omega arith

pub fill_nothing : (n v : ℕ) (ss : List RingSlot) → waits n ss ≡ 0 → filled n v ss ≡ ss
fill_nothing n v [] h = refl
fill_nothing n v (inl u ∷ ss) h = ap (λ (x : List RingSlot). inl u ∷ x) (fill_nothing n v ss (omega arith))
fill_nothing n v (inr m ∷ ss) h = by_test (m == n) refl h (fill_nothing n v ss)
  where
    by_test : (t : Bool) → (m == n) ≡ t → bit t + waits n ss ≡ 0 → (waits n ss ≡ 0 → filled n v ss ≡ ss) → (if t then inl v else inr m) ∷ filled n v ss ≡ inr m ∷ ss
    by_test true e h more = absurd (omega arith)
    by_test false e h more = ap (λ (x : List RingSlot). inr m ∷ x) (more (omega arith))

waits_at : (n i : ℕ) (ss : List RingSlot) → i < length ss → get_or ss i (inl 0) ≡ inr n → 0 < waits n ss
waits_at n i [] less e = absurd (omega arith)
waits_at n zero (s ∷ ss) less e = let w : waits_one n s ≡ 1 = ap (waits_one n) e ∙ ap bit (same_test n) in omega arith
waits_at n (suc i) (s ∷ ss) less e = let h = waits_at n i ss (omega arith) e in omega arith

pub fill_one_slot : (n v i : ℕ) (ss : List RingSlot) → waits n ss ≡ 1 → i < length ss → get_or ss i (inl 0) ≡ inr n → filled n v ss ≡ slice_set ss i (inl v)
fill_one_slot n v i [] one less e = absurd (omega arith)
fill_one_slot n v zero (s ∷ ss) one less e =
    let w : waits_one n s ≡ 1 = ap (waits_one n) e ∙ ap bit (same_test n) in
    let here : fill_one n v s ≡ inl v = ap (fill_one n v) e ∙ ap (λ (t : Bool). let x : RingSlot = if t then inl v else inr n in x) (same_test n) in
    ap (λ (x : RingSlot). x ∷ filled n v ss) here ∙ ap (λ (x : List RingSlot). inl v ∷ x) (fill_nothing n v ss (omega arith))
fill_one_slot n v (suc i) (s ∷ ss) one less e =
    let some = waits_at n i ss (omega arith) e in
    ap (λ (x : RingSlot). x ∷ filled n v ss) (stays s (omega arith)) ∙ ap (λ (x : List RingSlot). s ∷ x) (fill_one_slot n v i ss (omega arith) (omega arith) e)
  where
    stays : (s : RingSlot) → waits_one n s ≡ 0 → fill_one n v s ≡ s
    stays (inl u) h = refl
    stays (inr m) h = by_test (m == n) h
      where
        by_test : (t : Bool) → bit t ≡ 0 → (let x : RingSlot = if t then inl v else inr m in x) ≡ inr m
        by_test true h = absurd (omega arith)
        by_test false h = refl

-- Where the slot is

length_filled : (n v : ℕ) (ss : List RingSlot) → length (filled n v ss) ≡ length ss
length_filled n v [] = refl
length_filled n v (s ∷ ss) = ap suc (length_filled n v ss)

filled_at : (n v i : ℕ) (ss : List RingSlot) (d : RingSlot) → i < length ss → get_or (filled n v ss) i d ≡ fill_one n v (get_or ss i d)
filled_at n v i [] d less = absurd (omega arith)
filled_at n v zero (s ∷ ss) d less = refl
filled_at n v (suc i) (s ∷ ss) d less = filled_at n v i ss d (omega arith)

abbrev Waits : ℕ → ℕ → List RingSlot → Type 0
Waits n i ss = (i < length ss) × (get_or ss i (inl 0) ≡ inr n)

waits_left : (n i : ℕ) (xs ys : List RingSlot) → Waits n i xs → Waits n i (xs ++ ys)
waits_left n i xs ys w = let a = w.0 in let l = length-append xs ys in (omega arith, get_or_append_left xs ys (inl 0) i w.0 ∙ w.1)

waits_still : (n m v i : ℕ) (ss : List RingSlot) → m ≢ n → Waits n i ss → Waits n i (filled m v ss)
waits_still n m v i ss ne w =
    let a = w.0 in
    let l = length_filled m v ss in (
      omega arith,
      filled_at m v i ss (inl 0) w.0 ∙ ap (fill_one m v) w.1 ∙ ap (λ (t : Bool). let x : RingSlot = if t then inl v else inr n in x) (ne_eqb n m (λ e. ne (sym e))),
    )

-- An open number's slot stands where its atom's list ended when it was opened.
pub slot_law : (n : ℕ) (before : List Role) (end : RingEnd) → open_end n before ≡ Some end → Waits n (latest_slot n before) (entries end.atom before)
slot_law n [] end h = cc
slot_law n (Ring m ∷ before) end h = elim (cases_eq m n) [
  | inl e ↦
      let h' : turned (open_end m before) (ring_end before) ≡ Some end = sym (open_end_same m before) ∙ ap (λ (x : ℕ). open_end x (Ring m ∷ before)) e ∙ h in
      subst (λ (k : ℕ). Waits n k (entries end.atom (Ring m ∷ before))) (sym (ap (λ (t : Bool). if t then length (entries (atom_count before - 1) before) else latest_slot n before) (ap (λ (x : ℕ). x == n) e ∙ same_test n)))
      (opens (open_end m before) h' e)
  | inr ne ↦
      subst (λ (k : ℕ). Waits n k (entries end.atom (Ring m ∷ before))) (sym (ap (λ (t : Bool). if t then length (entries (atom_count before - 1) before) else latest_slot n before) (ne_eqb m n ne)))
      (other (open_end m before) ne (slot_law n before end (sym (open_end_other m n before ne) ∙ h)))
]
  where
    opens : (o : Option RingEnd) → turned o (ring_end before) ≡ Some end → m ≡ n → Waits n (length (entries (atom_count before - 1) before)) (turn_slots o m (atom_count before - 1) end.atom (entries end.atom before))
    opens None h e =
        let is : ring_end before ≡ end = same_Some (ring_end before) end h in
        let at : atom_count before - 1 ≡ end.atom = ap (λ (x : RingEnd). x.atom) is in
        let xs : List RingSlot = entries (atom_count before - 1) before in
        subst (λ (a : ℕ). Waits n (length xs) (turn_slots None m (atom_count before - 1) a (entries a before))) at
        (subst (λ (t : Bool). Waits n (length xs) (xs ++ slot_if t (inr m))) (sym (same_test (atom_count before - 1)))
        (let l = length-append xs (inr m ∷ []) in (omega arith, get_or_push xs (inr m) (inl 0) (length xs) refl ∙ ap (λ (k : ℕ). let x : RingSlot = inr k in x) e)))
    opens (Some x) h e = cc

    other : (o : Option RingEnd) → m ≢ n → Waits n (latest_slot n before) (entries end.atom before) → Waits n (latest_slot n before) (turn_slots o m (atom_count before - 1) end.atom (entries end.atom before))
    other None ne w = waits_left n (latest_slot n before) (entries end.atom before) (slot_if (atom_count before - 1 == end.atom) (inr m)) w
    other (Some x) ne w =
        waits_left n (latest_slot n before) (filled m (atom_count before - 1) (entries end.atom before)) (slot_if (atom_count before - 1 == end.atom) (inl x.atom))
        (waits_still n m (atom_count before - 1) (latest_slot n before) (entries end.atom before) ne w)
slot_law n (Atom lower ∷ before) end h =
    waits_left n (latest_slot n before) (entries end.atom before) (known (list_if (atom_count before == end.atom) (predecessor before) ++ if_behind end.atom (predecessor before) (atom_count before))) (slot_law n before end h)
slot_law n (Bond mark ∷ before) end h = slot_law n before end h
slot_law n (Enter ∷ before) end h = slot_law n before end h
slot_law n (Leave ∷ before) end h = slot_law n before end h
slot_law n (Dot ∷ before) end h = slot_law n before end h
