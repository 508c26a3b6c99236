-- Whatever is summed over the neighbours of an atom is the sum over the other ends of its bonds.
use Rattle.std.proofs.Common.{◌≡◌, ℕ, zero, suc, ◌+◌, ◌-◌, List, [], ◌∷◌, ◌++◌, length, reverse, Bool, true, false, Option, Some, None, refl, ap, sym, ◌∙◌, inl, inr, arith}
use Rattle.std.specs.Prelude.{◌==◌, if◌then◌else◌}
use Rattle.std.specs.Option.{option_to_list}
use Rattle.std.proofs.lemmas.Bool.{cases_eq, ne_eqb}
use Rattle.std.proofs.lemmas.List.{append-nil}
use Rattle.mc_mol.proofs.Halves.{same_test}
use Rattle.smi_graph.specs.declared.ring_table.RingEnd.{RingEnd}
use Rattle.smi_graph.specs.declared.role.Role.{Role}
use Rattle.smi_graph.specs.declared.role.Role.TheVariants.{Atom, Bond, Ring, Enter, Leave, Dot}
use Rattle.smi_graph.specs.declared.text_bond.TextBond.{TextBond}
use Rattle.smi_graph.specs.Bonds.{atom_count, predecessor, mark_of, open_end, ring_end, ring_bond, chain_bond, completed, text_bonds}
use Rattle.smi_graph.specs.TextOrder.{predecessor_of, if_behind, followers, ring_partners, neighbours}
use Rattle.smi_graph.specs.RingSlots.{RingSlot, filled, slot_if, turn_slots, slots, slot_atoms}
pub use Rattle.smi_graph.specs.NeighbourLists.{occurs}
use Rattle.smi_graph.proofs.Waiting.{bit, waits, opened_at, waiting, zero_if}
use Rattle.smi_graph.proofs.EntriesLaw.{none_yet}
use Rattle.smi_graph.proofs.RingSlotsLaw.{partners_kept}

-- the sum of w over some atoms
abbrev pub weight : (ℕ → ℕ) → List ℕ → ℕ
weight w [] = 0
weight w (x ∷ xs) = w x + weight w xs

weight_append : (w : ℕ → ℕ) (xs ys : List ℕ) → weight w (xs ++ ys) ≡ weight w xs + weight w ys
weight_append w [] ys = omega arith
weight_append w (x ∷ xs) ys = ap (λ (y : ℕ). w x + y) (weight_append w xs ys) ∙ omega arith

-- The atoms that the slots hold

abbrev holds_one : (ℕ → ℕ) → RingSlot → ℕ
holds_one w (inl u) = w u
holds_one w (inr n) = 0

abbrev holds : (ℕ → ℕ) → List RingSlot → ℕ
holds w [] = 0
holds w (s ∷ ss) = holds_one w s + holds w ss

holds_append : (w : ℕ → ℕ) (xs ys : List RingSlot) → holds w (xs ++ ys) ≡ holds w xs + holds w ys
holds_append w [] ys = omega arith
holds_append w (x ∷ xs) ys = ap (λ (y : ℕ). holds_one w x + y) (holds_append w xs ys) ∙ omega arith

holds_if : (w : ℕ → ℕ) (t : Bool) (s : RingSlot) → holds w (slot_if t s) ≡ (if t then holds_one w s else 0)
holds_if w true s = omega arith
holds_if w false s = refl

abbrev pub times : ℕ → ℕ → ℕ
times zero x = 0
times (suc k) x = x + times k x

pub times_bit : (t : Bool) (k x : ℕ) → times (bit t + k) x ≡ (if t then x else 0) + times k x
times_bit true k x = ap (λ (j : ℕ). times j x) (let e : 1 + k ≡ suc k = omega arith in e)
times_bit false k x = ap (λ (j : ℕ). times j x) (let e : 0 + k ≡ k = omega arith in e) ∙ omega arith

times_if : (t : Bool) (x : ℕ) → times (bit t) x ≡ (if t then x else 0)
times_if true x = omega arith
times_if false x = refl

holds_filled : (w : ℕ → ℕ) (n u : ℕ) (ss : List RingSlot) → holds w (filled n u ss) ≡ holds w ss + times (waits n ss) (w u)
holds_filled w n u [] = refl
holds_filled w n u (inl x ∷ ss) =
    let h = holds_filled w n u ss in
    let z : times (0 + waits n ss) (w u) ≡ times (waits n ss) (w u) = ap (λ (j : ℕ). times j (w u)) (let e : 0 + waits n ss ≡ waits n ss = omega arith in e) in omega arith
holds_filled w n u (inr m ∷ ss) = by_test (m == n) (holds_filled w n u ss)
  where
    by_test : (t : Bool) → holds w (filled n u ss) ≡ holds w ss + times (waits n ss) (w u)
        → holds_one w (if t then inl u else inr m) + holds w (filled n u ss) ≡ (0 + holds w ss) + times (bit t + waits n ss) (w u)
    by_test true h = let z = times_bit true (waits n ss) (w u) in omega arith
    by_test false h = let z = times_bit false (waits n ss) (w u) in omega arith

held : (w : ℕ → ℕ) (c : ℕ) (ss : List RingSlot) → weight w (slot_atoms c [] ss) ≡ holds w ss
held w c [] = refl
held w c (inl u ∷ ss) = ap (λ (y : ℕ). w u + y) (held w c ss)
held w c (inr n ∷ ss) = let h = held w c ss in omega arith

-- The neighbours of atom a, by its list and by the bonds

abbrev named : (ℕ → ℕ) → ℕ → List Role → ℕ
named w a before = (weight w (option_to_list (predecessor_of a before)) + holds w (slots a before)) + weight w (followers a before)

-- the sum of w over the other ends of an atom's bonds
abbrev pub end_weight : (ℕ → ℕ) → ℕ → TextBond → ℕ
end_weight w a b = (if b.first.0 == a then w b.second.0 else 0) + (if b.second.0 == a then w b.first.0 else 0)

abbrev pub ends_weight : (ℕ → ℕ) → ℕ → List TextBond → ℕ
ends_weight w a [] = 0
ends_weight w a (b ∷ bs) = end_weight w a b + ends_weight w a bs

ends_append : (w : ℕ → ℕ) (a : ℕ) (xs ys : List TextBond) → ends_weight w a (xs ++ ys) ≡ ends_weight w a xs + ends_weight w a ys
ends_append w a [] ys = omega arith
ends_append w a (x ∷ xs) ys = ap (λ (y : ℕ). end_weight w a x + y) (ends_append w a xs ys) ∙ omega arith

-- an atom and its predecessor
atom_step : (w : ℕ → ℕ) (a : ℕ) (before : List Role) (o : Option ℕ)
    → (weight w (option_to_list (if atom_count before == a then o else predecessor_of a before)) + holds w (slots a before)) + weight w (followers a before ++ if_behind a o (atom_count before))
    ≡ named w a before + ends_weight w a (option_to_list (chain_bond o (atom_count before) (mark_of before)))
atom_step w a before None = elim (cases_eq (atom_count before) a) [
  | inl e ↦
      let none : predecessor_of a before ≡ None = none_yet a before (omega arith) in
      let z : weight w (option_to_list (predecessor_of a before)) ≡ 0 = ap (λ (o : Option ℕ). weight w (option_to_list o)) none in
      let t : weight w (option_to_list (if atom_count before == a then None else predecessor_of a before)) ≡ 0
      = ap (λ (b : Bool). weight w (option_to_list (if b then None else predecessor_of a before))) (ap (λ (c : ℕ). c == a) e ∙ same_test a) in
      let f = weight_append w (followers a before) [] in omega arith
  | inr ne ↦
      let t : weight w (option_to_list (if atom_count before == a then None else predecessor_of a before)) ≡ weight w (option_to_list (predecessor_of a before))
      = ap (λ (b : Bool). weight w (option_to_list (if b then None else predecessor_of a before))) (ne_eqb (atom_count before) a ne) in
      let f = weight_append w (followers a before) [] in omega arith
]
atom_step w a before (Some p) =
    let here : ℕ = atom_count before in
    let f = weight_append w (followers a before) (if_behind a (Some p) here) in
    let g : weight w (if_behind a (Some p) here) ≡ (if p == a then w here else 0) = behind (p == a) in
    elim (cases_eq here a) [
      | inl e ↦
          let none : predecessor_of a before ≡ None = none_yet a before (omega arith) in
          let z : weight w (option_to_list (predecessor_of a before)) ≡ 0 = ap (λ (o : Option ℕ). weight w (option_to_list o)) none in
          let test : (here == a) ≡ true = ap (λ (c : ℕ). c == a) e ∙ same_test a in
          let t : weight w (option_to_list (if here == a then Some p else predecessor_of a before)) ≡ w p + 0 = ap (λ (b : Bool). weight w (option_to_list (if b then Some p else predecessor_of a before))) test in
          let u : (if here == a then w p else 0) ≡ w p = ap (λ (b : Bool). if b then w p else 0) test in omega arith
      | inr ne ↦
          let test : (here == a) ≡ false = ne_eqb here a ne in
          let t : weight w (option_to_list (if here == a then Some p else predecessor_of a before)) ≡ weight w (option_to_list (predecessor_of a before))
          = ap (λ (b : Bool). weight w (option_to_list (if b then Some p else predecessor_of a before))) test in
          let u : (if here == a then w p else 0) ≡ 0 = ap (λ (b : Bool). if b then w p else 0) test in omega arith
    ]
  where
    behind : (s : Bool) → weight w (if s then atom_count before ∷ [] else []) ≡ (if s then w (atom_count before) else 0)
    behind true = omega arith
    behind false = refl

-- a ring number
ring_step : (w : ℕ → ℕ) (a n : ℕ) (before : List Role) (o : Option RingEnd) → waits n (slots a before) ≡ opened_at a o
    → holds w (turn_slots o n (atom_count before - 1) a (slots a before)) ≡ holds w (slots a before) + ends_weight w a (option_to_list (ring_bond o (ring_end before)))
ring_step w a n before None h =
    let u = holds_if w (atom_count before - 1 == a) (inr n) in
    let z = zero_if (atom_count before - 1 == a) 0 refl in
    holds_append w (slots a before) (slot_if (atom_count before - 1 == a) (inr n)) ∙ omega arith
ring_step w a n before (Some end) h =
    let here : ℕ = atom_count before - 1 in
    let f = holds_filled w n here (slots a before) in
    let g : times (waits n (slots a before)) (w here) ≡ (if end.atom == a then w here else 0) = ap (λ (x : ℕ). times x (w here)) h ∙ times_if (end.atom == a) (w here) in
    let u = holds_if w (here == a) (inl end.atom) in
    holds_append w (filled n here (slots a before)) (slot_if (here == a) (inl end.atom)) ∙ omega arith

pub named_law : (w : ℕ → ℕ) (a : ℕ) (before : List Role) → named w a before ≡ ends_weight w a (text_bonds before)
named_law w a [] = refl
named_law w a (Atom lower ∷ before) =
    let h = named_law w a before in
    atom_step w a before (predecessor before) ∙ ap (λ (x : ℕ). x + ends_weight w a (option_to_list (chain_bond (predecessor before) (atom_count before) (mark_of before)))) h
    ∙ sym (ends_append w a (text_bonds before) (option_to_list (completed before (Atom lower))))
named_law w a (Ring n ∷ before) =
    let h = named_law w a before in
    let s = ring_step w a n before (open_end n before) (waiting a n before) in
    let j = ends_append w a (text_bonds before) (option_to_list (completed before (Ring n))) in omega arith
named_law w a (Bond mark ∷ before) = named_law w a before ∙ ap (ends_weight w a) (sym (append-nil (text_bonds before)))
named_law w a (Enter ∷ before) = named_law w a before ∙ ap (ends_weight w a) (sym (append-nil (text_bonds before)))
named_law w a (Leave ∷ before) = named_law w a before ∙ ap (ends_weight w a) (sym (append-nil (text_bonds before)))
named_law w a (Dot ∷ before) = named_law w a before ∙ ap (ends_weight w a) (sym (append-nil (text_bonds before)))

-- Whatever is summed over the neighbours in an atom's list is the sum over the other ends of its bonds.
pub sum_law : (w : ℕ → ℕ) (a : ℕ) (ks : List Role) → weight w (neighbours a ks) ≡ ends_weight w a (text_bonds (reverse ks))
sum_law w a ks =
    let one = weight_append w (option_to_list (predecessor_of a (reverse ks))) (ring_partners a [] ks ++ followers a (reverse ks)) in
    let two = weight_append w (ring_partners a [] ks) (followers a (reverse ks)) in
    let three : weight w (ring_partners a [] ks) ≡ holds w (slots a (reverse ks)) = ap (weight w) (partners_kept a ks) ∙ held w (atom_count (reverse ks)) (slots a (reverse ks)) in
    let law = named_law w a (reverse ks) in omega arith

-- there are as many neighbours as bonds of the atom
length_weight : (xs : List ℕ) → length xs ≡ weight (λ x. 1) xs
length_weight [] = refl
length_weight (x ∷ xs) = let h = length_weight xs in omega arith

pub length_law : (a : ℕ) (ks : List Role) → length (neighbours a ks) ≡ ends_weight (λ x. 1) a (text_bonds (reverse ks))
length_law a ks = length_weight (neighbours a ks) ∙ sum_law (λ x. 1) a ks

pub occurs_append : (v : ℕ) (xs ys : List ℕ) → occurs v (xs ++ ys) ≡ occurs v xs + occurs v ys
occurs_append v [] ys = omega arith
occurs_append v (x ∷ xs) ys = ap (λ (n : ℕ). bit (x == v) + n) (occurs_append v xs ys) ∙ omega arith

occurs_weight : (v : ℕ) (xs : List ℕ) → occurs v xs ≡ weight (λ x. bit (x == v)) xs
occurs_weight v [] = refl
occurs_weight v (x ∷ xs) = ap (λ (y : ℕ). bit (x == v) + y) (occurs_weight v xs)

-- a neighbour stands as often as a bond joins the two
pub neighbours_law : (a v : ℕ) (ks : List Role) → occurs v (neighbours a ks) ≡ ends_weight (λ x. bit (x == v)) a (text_bonds (reverse ks))
neighbours_law a v ks = occurs_weight v (neighbours a ks) ∙ sum_law (λ x. bit (x == v)) a ks
