-- One slot waits for each ring number that is open, at the atom where it was opened.
use Rattle.std.proofs.Common.{◌≡◌, ◌≢◌, ℕ, ◌+◌, ◌-◌, List, [], ◌∷◌, ◌++◌, Bool, true, false, Option, Some, None, refl, ap, sym, ◌∙◌, subst, inl, inr, arith}
use Rattle.std.specs.Prelude.{◌==◌, if◌then◌else◌}
use Rattle.std.proofs.lemmas.Bool.{cases_eq, ne_eqb}
use Rattle.mc_mol.proofs.Halves.{same_test}
use Rattle.smi_graph.specs.declared.ring_table.RingEnd.{RingEnd}
use Rattle.smi_graph.specs.declared.role.Role.{Role}
use Rattle.smi_graph.specs.declared.role.Role.TheVariants.{Atom, Bond, Ring, Enter, Leave, Dot}
use Rattle.smi_graph.specs.Bonds.{atom_count, open_end, ring_end}
use Rattle.smi_graph.specs.RingTables.{turned}
use Rattle.smi_graph.specs.RingSlots.{RingSlot, filled, slot_if, turn_slots, slots}
use Rattle.smi_graph.proofs.RingEnds.{open_end_same, open_end_other}
pub use Rattle.smi_graph.specs.NeighbourLists.{bit}

-- how many slots wait for a number

abbrev pub waits_one : ℕ → RingSlot → ℕ
waits_one n (inl u) = 0
waits_one n (inr m) = bit (m == n)

abbrev pub waits : ℕ → List RingSlot → ℕ
waits n [] = 0
waits n (s ∷ ss) = waits_one n s + waits n ss

pub waits_append : (n : ℕ) (xs ys : List RingSlot) → waits n (xs ++ ys) ≡ waits n xs + waits n ys
waits_append n [] ys = omega arith
waits_append n (x ∷ xs) ys = ap (λ (y : ℕ). waits_one n x + y) (waits_append n xs ys) ∙ omega arith

waits_if : (n : ℕ) (t : Bool) (s : RingSlot) → waits n (slot_if t s) ≡ (if t then waits_one n s else 0)
waits_if n true s = omega arith
waits_if n false s = refl

bit_if : (t : Bool) (k : ℕ) → k ≡ 1 → (if t then k else 0) ≡ bit t
bit_if true k e = e
bit_if false k e = refl

pub zero_if : (t : Bool) (k : ℕ) → k ≡ 0 → (if t then k else 0) ≡ 0
zero_if true k e = e
zero_if false k e = refl

waits_filled : (n v : ℕ) (ss : List RingSlot) → waits n (filled n v ss) ≡ 0
waits_filled n v [] = refl
waits_filled n v (inl u ∷ ss) = let h = waits_filled n v ss in omega arith
waits_filled n v (inr m ∷ ss) = by_test (m == n) refl (waits_filled n v ss)
  where
    by_test : (t : Bool) → (m == n) ≡ t → waits n (filled n v ss) ≡ 0 → waits_one n (if t then inl v else inr m) + waits n (filled n v ss) ≡ 0
    by_test true e h = omega arith
    by_test false e h = let z : bit (m == n) ≡ 0 = ap bit e in omega arith

waits_other : (n k v : ℕ) (ss : List RingSlot) → k ≢ n → waits n (filled k v ss) ≡ waits n ss
waits_other n k v [] ne = refl
waits_other n k v (inl u ∷ ss) ne = let h = waits_other n k v ss ne in omega arith
waits_other n k v (inr m ∷ ss) ne = elim (cases_eq m k) [
  | inl e ↦
      let t : (m == k) ≡ true = ap (λ (x : ℕ). x == k) e ∙ same_test k in
      let f : (m == n) ≡ false = ne_eqb m n (λ s. ne (sym e ∙ s)) in
      let w : waits_one n (if m == k then inl v else inr m) ≡ 0 = ap (λ (b : Bool). waits_one n (if b then inl v else inr m)) t in
      let z : bit (m == n) ≡ 0 = ap bit f in
      let h = waits_other n k v ss ne in omega arith
  | inr apart ↦
      ap (λ (b : Bool). waits_one n (if b then inl v else inr m) + waits n (filled k v ss)) (ne_eqb m k apart)
      ∙ ap (λ (x : ℕ). bit (m == n) + x) (waits_other n k v ss ne)
]

-- whether a number was opened at atom a
abbrev pub opened_at : ℕ → Option RingEnd → ℕ
opened_at a None = 0
opened_at a (Some end) = bit (end.atom == a)

-- One slot waits for each open number, at the atom where it was opened.
pub waiting : (a n : ℕ) (before : List Role) → waits n (slots a before) ≡ opened_at a (open_end n before)
waiting a n [] = refl
waiting a n (Ring m ∷ before) = elim (cases_eq m n) [
  | inl e ↦
      subst (λ (x : ℕ). waits x (turn_slots (open_end m before) m (atom_count before - 1) a (slots a before)) ≡ opened_at a (open_end x (Ring m ∷ before))) e
      (same (open_end m before) (waiting a m before) ∙ ap (opened_at a) (sym (open_end_same m before)))
  | inr ne ↦ other (open_end m before) ne ∙ waiting a n before ∙ ap (opened_at a) (sym (open_end_other m n before ne))
]
  where
    same : (o : Option RingEnd) → waits m (slots a before) ≡ opened_at a o → waits m (turn_slots o m (atom_count before - 1) a (slots a before)) ≡ opened_at a (turned o (ring_end before))
    same None h =
        let w = waits_if m (atom_count before - 1 == a) (inr m) in
        let b = bit_if (atom_count before - 1 == a) (bit (m == m)) (ap bit (same_test m)) in
        let h' : waits m (slots a before) ≡ 0 = h in
        let all : waits m (slots a before) + waits m (slot_if (atom_count before - 1 == a) (inr m)) ≡ bit (atom_count before - 1 == a) = omega arith in
        waits_append m (slots a before) (slot_if (atom_count before - 1 == a) (inr m)) ∙ all
    same (Some end) h =
        let f = waits_filled m (atom_count before - 1) (slots a before) in
        let w = waits_if m (atom_count before - 1 == a) (inl end.atom) in
        let z = zero_if (atom_count before - 1 == a) 0 refl in
        let all : waits m (filled m (atom_count before - 1) (slots a before)) + waits m (slot_if (atom_count before - 1 == a) (inl end.atom)) ≡ 0 = omega arith in
        waits_append m (filled m (atom_count before - 1) (slots a before)) (slot_if (atom_count before - 1 == a) (inl end.atom)) ∙ all

    other : (o : Option RingEnd) → m ≢ n → waits n (turn_slots o m (atom_count before - 1) a (slots a before)) ≡ waits n (slots a before)
    other None ne =
        let w = waits_if n (atom_count before - 1 == a) (inr m) in
        let z = zero_if (atom_count before - 1 == a) (bit (m == n)) (ap bit (ne_eqb m n ne)) in
        let all : waits n (slots a before) + waits n (slot_if (atom_count before - 1 == a) (inr m)) ≡ waits n (slots a before) = omega arith in
        waits_append n (slots a before) (slot_if (atom_count before - 1 == a) (inr m)) ∙ all
    other (Some end) ne =
        let w = waits_if n (atom_count before - 1 == a) (inl end.atom) in
        let z = zero_if (atom_count before - 1 == a) 0 refl in
        waits_append n (filled m (atom_count before - 1) (slots a before)) (slot_if (atom_count before - 1 == a) (inl end.atom))
        ∙ (let o = waits_other n m (atom_count before - 1) (slots a before) ne in
        let all : waits n (filled m (atom_count before - 1) (slots a before)) + waits n (slot_if (atom_count before - 1 == a) (inl end.atom)) ≡ waits n (slots a before) = omega arith in all)
waiting a n (Atom lower ∷ before) = waiting a n before
waiting a n (Bond mark ∷ before) = waiting a n before
waiting a n (Enter ∷ before) = waiting a n before
waiting a n (Leave ∷ before) = waiting a n before
waiting a n (Dot ∷ before) = waiting a n before
