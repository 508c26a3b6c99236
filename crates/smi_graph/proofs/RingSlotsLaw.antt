-- The slots that a reader keeps in one pass hold the ring partners of an atom in their order.
use Rattle.std.proofs.Common.{◌≡◌, ◌≢◌, ℕ, suc, ◌+◌, ◌-◌, List, [], ◌∷◌, ◌++◌, reverse, Bool, true, false, Option, Some, None, refl, ap, sym, ◌∙◌, subst, inl, inr, arith}
use Rattle.std.specs.Prelude.{◌==◌, if◌then◌else◌}
use Rattle.std.specs.Option.{option_to_list}
use Rattle.std.proofs.lemmas.Bool.{cases_eq}
use Rattle.std.proofs.lemmas.List.{append-nil, append_assoc}
use mathlib.Core.List.{reverse_aux}
use Rattle.smi_graph.specs.declared.ring_table.RingEnd.{RingEnd}
use Rattle.smi_graph.specs.declared.role.Role.{Role}
use Rattle.smi_graph.specs.declared.role.Role.TheVariants.{Atom, Bond, Ring, Enter, Leave, Dot}
use Rattle.smi_graph.specs.Bonds.{atom_count, open_end, ring_end}
use Rattle.smi_graph.specs.RingTables.{turned}
use Rattle.smi_graph.proofs.RingEnds.{open_end_same, open_end_other}
use Rattle.smi_graph.specs.TextOrder.{next_end, partner, list_if, ring_partners}
use Rattle.smi_graph.specs.RingSlots.{RingSlot, filled, slot_if, turn_slots, slots, slot_atom, slot_atoms}
use Rattle.std.proofs.lemmas.Bool.{ne_eqb}
use Rattle.mc_mol.proofs.Halves.{same_test}

-- no slot waits for this number
abbrev pub LacksOne : ℕ → RingSlot → Type 0
LacksOne n (inl u) = Unit {0}
LacksOne n (inr m) = m ≢ n

abbrev pub Lacks : ℕ → List RingSlot → Type 0
Lacks n [] = Unit {0}
Lacks n (s ∷ ss) = LacksOne n s × Lacks n ss

lacks_append : (n : ℕ) (xs ys : List RingSlot) → Lacks n xs → Lacks n ys → Lacks n (xs ++ ys)
lacks_append n [] ys h k = k
lacks_append n (x ∷ xs) ys h k = (h.0, lacks_append n xs ys h.1 k)

lacks_one : (n : ℕ) (t : Bool) (s : RingSlot) → LacksOne n s → Lacks n (slot_if t s)
lacks_one n true s h = (h, tt)
lacks_one n false s h = tt

lacks_filled : (n v : ℕ) (ss : List RingSlot) → Lacks n (filled n v ss)
lacks_filled n v [] = tt
lacks_filled n v (inl u ∷ ss) = (tt, lacks_filled n v ss)
lacks_filled n v (inr m ∷ ss) = elim (cases_eq m n) [
  | inl e ↦ (subst (λ (t : Bool). LacksOne n (if t then inl v else inr m)) (sym (ap (λ (x : ℕ). x == n) e ∙ same_test n)) tt, lacks_filled n v ss)
  | inr ne ↦ (subst (λ (t : Bool). LacksOne n (if t then inl v else inr m)) (sym (ne_eqb m n ne)) ne, lacks_filled n v ss)
]

lacks_still : (n k v : ℕ) (ss : List RingSlot) → Lacks n ss → Lacks n (filled k v ss)
lacks_still n k v [] h = tt
lacks_still n k v (inl u ∷ ss) h = (tt, lacks_still n k v ss h.1)
lacks_still n k v (inr m ∷ ss) h = (by_test (m == k), lacks_still n k v ss h.1)
  where
    by_test : (t : Bool) → LacksOne n (if t then inl v else inr m)
    by_test true = tt
    by_test false = h.0

-- where a number isn't open, no slot waits for it
pub open_lacks : (a n : ℕ) (before : List Role) → open_end n before ≡ None → Lacks n (slots a before)
open_lacks a n [] none = tt
open_lacks a n (Ring m ∷ before) none = elim (cases_eq m n) [
  | inl e ↦ closes (open_end m before) refl (sym (open_end_same m before) ∙ ap (λ (x : ℕ). open_end x (Ring m ∷ before)) e ∙ none) e
  | inr ne ↦ other (open_end m before) ne (open_lacks a n before (sym (open_end_other m n before ne) ∙ none))
]
  where
    closes : (o : Option RingEnd) → open_end m before ≡ o → turned (open_end m before) (ring_end before) ≡ None → m ≡ n → Lacks n (turn_slots o m (atom_count before - 1) a (slots a before))
    closes None e h same = absurd (some_none (ap (λ (x : Option RingEnd). turned x (ring_end before)) (sym e) ∙ h))
      where
        some_none : Some (ring_end before) ≡ None → ⊥
        some_none h = cc
    closes (Some end) e h same =
        lacks_append n (filled m (atom_count before - 1) (slots a before)) (slot_if (atom_count before - 1 == a) (inl end.atom))
        (subst (λ (x : ℕ). Lacks x (filled m (atom_count before - 1) (slots a before))) same (lacks_filled m (atom_count before - 1) (slots a before)))
        (lacks_one n (atom_count before - 1 == a) (inl end.atom) tt)

    other : (o : Option RingEnd) → m ≢ n → Lacks n (slots a before) → Lacks n (turn_slots o m (atom_count before - 1) a (slots a before))
    other None ne h = lacks_append n (slots a before) (slot_if (atom_count before - 1 == a) (inr m)) h (lacks_one n (atom_count before - 1 == a) (inr m) ne)
    other (Some end) ne h =
        lacks_append n (filled m (atom_count before - 1) (slots a before)) (slot_if (atom_count before - 1 == a) (inl end.atom))
        (lacks_still n m (atom_count before - 1) (slots a before) h) (lacks_one n (atom_count before - 1 == a) (inl end.atom) tt)
open_lacks a n (Atom lower ∷ before) none = open_lacks a n before none
open_lacks a n (Bond mark ∷ before) none = open_lacks a n before none
open_lacks a n (Enter ∷ before) none = open_lacks a n before none
open_lacks a n (Leave ∷ before) none = open_lacks a n before none
open_lacks a n (Dot ∷ before) none = open_lacks a n before none

-- What the tokens to come fill in

atoms_append : (c : ℕ) (ks : List Role) (xs ys : List RingSlot) → slot_atoms c ks (xs ++ ys) ≡ slot_atoms c ks xs ++ slot_atoms c ks ys
atoms_append c ks [] ys = refl
atoms_append c ks (x ∷ xs) ys =
    ap (λ (t : List ℕ). slot_atom c ks x ++ t) (atoms_append c ks xs ys) ∙ sym (append_assoc (slot_atom c ks x) (slot_atoms c ks xs) (slot_atoms c ks ys))

atoms_quiet : (c d : ℕ) (ks js : List Role) (ss : List RingSlot) → ((n : ℕ) → next_end n c ks ≡ next_end n d js) → slot_atoms c ks ss ≡ slot_atoms d js ss
atoms_quiet c d ks js [] same = refl
atoms_quiet c d ks js (inl u ∷ ss) same = ap (λ (t : List ℕ). u ∷ t) (atoms_quiet c d ks js ss same)
atoms_quiet c d ks js (inr n ∷ ss) same =
    ap (λ (o : Option ℕ). option_to_list o ++ slot_atoms c ks ss) (same n) ∙ ap (λ (t : List ℕ). option_to_list (next_end n d js) ++ t) (atoms_quiet c d ks js ss same)

-- a number for which no slot waits
atoms_open : (c n : ℕ) (ks : List Role) (ss : List RingSlot) → Lacks n ss → slot_atoms c (Ring n ∷ ks) ss ≡ slot_atoms c ks ss
atoms_open c n ks [] h = refl
atoms_open c n ks (inl u ∷ ss) h = ap (λ (t : List ℕ). u ∷ t) (atoms_open c n ks ss h.1)
atoms_open c n ks (inr m ∷ ss) h =
    ap (λ (t : Bool). option_to_list (if t then Some (c - 1) else next_end m c ks) ++ slot_atoms c (Ring n ∷ ks) ss) (ne_eqb n m (λ e. h.0 (sym e)))
    ∙ ap (λ (t : List ℕ). option_to_list (next_end m c ks) ++ t) (atoms_open c n ks ss h.1)

-- a number that closes
atoms_close : (c n : ℕ) (ks : List Role) (ss : List RingSlot) → slot_atoms c (Ring n ∷ ks) ss ≡ slot_atoms c ks (filled n (c - 1) ss)
atoms_close c n ks [] = refl
atoms_close c n ks (inl u ∷ ss) = ap (λ (t : List ℕ). u ∷ t) (atoms_close c n ks ss)
atoms_close c n ks (inr m ∷ ss) = elim (cases_eq m n) [
  | inl e ↦
      let t : (n == m) ≡ true = ap (λ (x : ℕ). x == m) (sym e) ∙ same_test m in
      let u : (m == n) ≡ true = ap (λ (x : ℕ). x == n) e ∙ same_test n in
      ap (λ (b : Bool). option_to_list (if b then Some (c - 1) else next_end m c ks) ++ slot_atoms c (Ring n ∷ ks) ss) t
      ∙ ap (λ (x : List ℕ). (c - 1) ∷ x) (atoms_close c n ks ss)
      ∙ ap (λ (b : Bool). slot_atom c ks (if b then inl (c - 1) else inr m) ++ slot_atoms c ks (filled n (c - 1) ss)) (sym u)
  | inr ne ↦
      ap (λ (b : Bool). option_to_list (if b then Some (c - 1) else next_end m c ks) ++ slot_atoms c (Ring n ∷ ks) ss) (ne_eqb n m (λ e. ne (sym e)))
      ∙ ap (λ (x : List ℕ). option_to_list (next_end m c ks) ++ x) (atoms_close c n ks ss)
      ∙ ap (λ (b : Bool). slot_atom c ks (if b then inl (c - 1) else inr m) ++ slot_atoms c ks (filled n (c - 1) ss)) (sym (ne_eqb m n ne))
]

own : (c : ℕ) (ks : List Role) (t : Bool) (s : RingSlot) (o : Option ℕ) → slot_atom c ks s ≡ option_to_list o → list_if t o ≡ slot_atoms c ks (slot_if t s)
own c ks true s o e = sym e ∙ sym (append-nil (slot_atom c ks s))
own c ks false s o e = refl

-- one more number
ring_step : (a n : ℕ) (before ks : List Role) → slot_atoms (atom_count before) (Ring n ∷ ks) (slots a before)
    ++ list_if (atom_count before - 1 == a) (partner (open_end n before) (next_end n (atom_count before) ks)) ≡ slot_atoms (atom_count before) ks (slots a (Ring n ∷ before))
ring_step a n before ks = by_end (open_end n before) refl
  where
    by_end : (o : Option RingEnd) → open_end n before ≡ o → slot_atoms (atom_count before) (Ring n ∷ ks) (slots a before)
        ++ list_if (atom_count before - 1 == a) (partner o (next_end n (atom_count before) ks)) ≡ slot_atoms (atom_count before) ks (turn_slots o n (atom_count before - 1) a (slots a before))
    by_end None e =
        let c : ℕ = atom_count before in
        let t : Bool = atom_count before - 1 == a in
        ap (λ (x : List ℕ). x ++ list_if t (next_end n c ks)) (atoms_open c n ks (slots a before) (open_lacks a n before e))
        ∙ ap (λ (x : List ℕ). slot_atoms c ks (slots a before) ++ x) (own c ks t (inr n) (next_end n c ks) refl)
        ∙ sym (atoms_append c ks (slots a before) (slot_if t (inr n)))
    by_end (Some end) e =
        let c : ℕ = atom_count before in
        let t : Bool = atom_count before - 1 == a in
        ap (λ (x : List ℕ). x ++ list_if t (Some end.atom)) (atoms_close c n ks (slots a before))
        ∙ ap (λ (x : List ℕ). slot_atoms c ks (filled n (c - 1) (slots a before)) ++ x) (own c ks t (inl end.atom) (Some end.atom) refl)
        ∙ sym (atoms_append c ks (filled n (c - 1) (slots a before)) (slot_if t (inl end.atom)))

-- What the slots hold so far and what the tokens to come add is what the slots hold at the end.
pub slots_law : (a : ℕ) (ks before : List Role)
    → slot_atoms (atom_count before) ks (slots a before) ++ ring_partners a before ks ≡ slot_atoms (atom_count (reverse_aux ks before)) [] (slots a (reverse_aux ks before))
slots_law a [] before = append-nil (slot_atoms (atom_count before) [] (slots a before))
slots_law a (Ring n ∷ ks) before =
    sym (append_assoc (slot_atoms (atom_count before) (Ring n ∷ ks) (slots a before)) (list_if (atom_count before - 1 == a) (partner (open_end n before) (next_end n (atom_count before) ks))) (ring_partners a (Ring n ∷ before) ks))
    ∙ ap (λ (x : List ℕ). x ++ ring_partners a (Ring n ∷ before) ks) (ring_step a n before ks)
    ∙ slots_law a ks (Ring n ∷ before)
slots_law a (Atom lower ∷ ks) before =
    let one : suc (atom_count before) ≡ atom_count before + 1 = omega arith in
    ap (λ (x : List ℕ). x ++ ring_partners a (Atom lower ∷ before) ks)
    (atoms_quiet (atom_count before) (atom_count before + 1) (Atom lower ∷ ks) ks (slots a before) (λ n. ap (λ (c : ℕ). next_end n c ks) one))
    ∙ slots_law a ks (Atom lower ∷ before)
slots_law a (Bond mark ∷ ks) before =
    ap (λ (x : List ℕ). x ++ ring_partners a (Bond mark ∷ before) ks) (atoms_quiet (atom_count before) (atom_count before) (Bond mark ∷ ks) ks (slots a before) (λ n. refl)) ∙ slots_law a ks (Bond mark ∷ before)
slots_law a (Enter ∷ ks) before =
    ap (λ (x : List ℕ). x ++ ring_partners a (Enter ∷ before) ks) (atoms_quiet (atom_count before) (atom_count before) (Enter ∷ ks) ks (slots a before) (λ n. refl)) ∙ slots_law a ks (Enter ∷ before)
slots_law a (Leave ∷ ks) before =
    ap (λ (x : List ℕ). x ++ ring_partners a (Leave ∷ before) ks) (atoms_quiet (atom_count before) (atom_count before) (Leave ∷ ks) ks (slots a before) (λ n. refl)) ∙ slots_law a ks (Leave ∷ before)
slots_law a (Dot ∷ ks) before =
    ap (λ (x : List ℕ). x ++ ring_partners a (Dot ∷ before) ks) (atoms_quiet (atom_count before) (atom_count before) (Dot ∷ ks) ks (slots a before) (λ n. refl)) ∙ slots_law a ks (Dot ∷ before)

-- the ring partners of an atom of a text are what its slots hold behind all tokens
pub partners_kept : (a : ℕ) (ks : List Role) → ring_partners a [] ks ≡ slot_atoms (atom_count (reverse ks)) [] (slots a (reverse ks))
partners_kept a ks = slots_law a ks []
