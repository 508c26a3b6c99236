-- Two lists of which the one has the last two of the other exchanged: an even permutation of a third list is just one of them.
use Rattle.std.proofs.Common.{◌≡◌, ◌≢◌, ◌∙◌, ◌⊎◌, ℕ, ◌+◌, ◌%◌, ◌<◌, Bool, true, false, ◌==◌, List, [], ◌∷◌, Some, None, zero, suc, if◌then◌else◌, get_or, slice_get, length, nat_lt, refl, sym, ap, arith, inl, inr}
use Rattle.std.specs.Prelude.{count_by, position, unwrap_or, Contains}
use Rattle.std.specs.List.{position_or_len}
use Rattle.std.proofs.lemmas.Bool.{cases_eq, cases_lt}
use Rattle.std.proofs.lemmas.Bool.Decides.{nat_tests}
use Rattle.std.proofs.lemmas.List.Quantifiers.{position-Some}
use Rattle.mc_mol.specs.declared.parts.Slot.{Slot}
use Rattle.mc_mol.specs.declared.parts.Slot.TheVariants.{At, Rest}
use Rattle.mc_mol.specs.Permutations.{same_slot, place_in, inversions, is_even_permutation}
use Rattle.ct_sd.specs.declared.table.DrawMark.TheVariants.{Up, Down}
use Rattle.mc_base.specs.declared.ids.AtomId.{AtomId}
use Rattle.mc_mol.specs.declared.parts.HalfEdge.{HalfEdge}
use Rattle.mc_mol.specs.HalfEdges.{LeadApart}
use Rattle.ct_geometry.specs.Neighbours.{AreOfCentre, LeadTo}
use Rattle.ct_geometry.specs.Turns.{Vector, is_wide}
use Rattle.ct_geometry.specs.Wedges.{exchanged, met_from, others, up_list, wedge_list}
use Rattle.ct_geometry.proofs.Apart.{Each, Apart, apart_met, apart_others, each_met, each_other, length_met}
use Rattle.ct_geometry.proofs.Others.{but_first_of_three, but_second_of_three, but_third_of_three, but_first_of_four, but_second_of_four, but_third_of_four, but_fourth_of_four}
use Rattle.mc_mol.proofs.Slots.{same_is, same_self}

-- ---- numbers

-- how many of the later numbers are less doesn't depend on their order
two_less : (i k l : ℕ) (x y : Bool) → nat_lt k i ≡ x → nat_lt l i ≡ y → count_by (λ y. nat_lt y i) (k ∷ l ∷ []) ≡ count_by (λ y. nat_lt y i) (l ∷ k ∷ [])
two_less i k l true true e f = rw (e, f) refl
two_less i k l true false e f = rw (e, f) refl
two_less i k l false true e f = rw (e, f) refl
two_less i k l false false e f = rw (e, f) refl

three_less : (i j k l : ℕ) (x y z : Bool) → nat_lt j i ≡ z → nat_lt k i ≡ x → nat_lt l i ≡ y → count_by (λ y. nat_lt y i) (j ∷ k ∷ l ∷ []) ≡ count_by (λ y. nat_lt y i) (j ∷ l ∷ k ∷ [])
three_less i j k l true true true g e f = rw (g, e, f) refl
three_less i j k l true true false g e f = rw (g, e, f) refl
three_less i j k l true false true g e f = rw (g, e, f) refl
three_less i j k l true false false g e f = rw (g, e, f) refl
three_less i j k l false true true g e f = rw (g, e, f) refl
three_less i j k l false true false g e f = rw (g, e, f) refl
three_less i j k l false false true g e f = rw (g, e, f) refl
three_less i j k l false false false g e f = rw (g, e, f) refl

one_less : (k l : ℕ) → l < k → count_by (λ y. nat_lt y k) (l ∷ []) ≡ 1
one_less k l less = (let e : nat_lt l k ≡ true = grind (arith, nat_tests) in rw e refl)

none_less : (k l : ℕ) → k < l → count_by (λ y. nat_lt y k) (l ∷ []) ≡ 0
none_less k l less = (let e : nat_lt l k ≡ false = grind (arith, nat_tests) in rw e refl)

-- of two different numbers one is less
last_two : (k l : ℕ) → k ≢ l → count_by (λ y. nat_lt y k) (l ∷ []) + count_by (λ y. nat_lt y l) (k ∷ []) ≡ 1
last_two k l ne = elim (cases_lt k l) [
  | inl less ↦ (let a = none_less k l less in let b = one_less l k less in omega arith)
  | inr more ↦ (let less : l < k = omega arith in let a = one_less k l less in let b = none_less l k less in omega arith)
]

-- one more inversion, or one less
pub inversions_differ : (i j k l : ℕ) → k ≢ l → (inversions (i ∷ j ∷ l ∷ k ∷ []) ≡ inversions (i ∷ j ∷ k ∷ l ∷ []) + 1) ⊎ (inversions (i ∷ j ∷ k ∷ l ∷ []) ≡ inversions (i ∷ j ∷ l ∷ k ∷ []) + 1)
inversions_differ i j k l ne =
    let first = three_less i j k l _ _ _ refl refl refl in
    let second = two_less j k l _ _ refl refl in
    let last = last_two k l ne in
    elim (cases_lt k l) [
      | inl less ↦ (let a = none_less k l less in let b = one_less l k less in inl (omega arith))
      | inr more ↦ (let less : l < k = omega arith in let a = one_less k l less in let b = none_less l k less in inr (omega arith))
    ]

next_even : (m n : ℕ) → (m ≡ n + 1) ⊎ (n ≡ m + 1) → ((n % 2) == 0) ≡ false → ((m % 2) == 0) ≡ true
next_even m n (inl e) odd = grind (arith, nat_tests)
next_even m n (inr e) odd = grind (arith, nat_tests)

-- ---- places

first_within : (f : Slot → Bool) (xs : List Slot) (k : ℕ) (d : Slot) → k < length xs → f (get_or xs k d) ≡ true → position_or_len f xs < length xs
first_within f [] k d within e = absurd (omega arith)
first_within f (x ∷ xs) k d within e = by_test f x xs k d (f x) refl within e (λ j below h. first_within f xs j d below h)
  where
    by_test : (f : Slot → Bool) (x : Slot) (xs : List Slot) (k : ℕ) (d : Slot) (b : Bool) → f x ≡ b → k < length (x ∷ xs) → f (get_or (x ∷ xs) k d) ≡ true
        → ((j : ℕ) → j < length xs → f (get_or xs j d) ≡ true → position_or_len f xs < length xs) → position_or_len f (x ∷ xs) < length (x ∷ xs)
    by_test f x xs k d true t within e rest = rw t (omega arith)
    by_test f x xs zero d false t within e rest = cc
    by_test f x xs (suc k) d false t within e rest = (let h = rest k (omega arith) e in rw t (omega arith))

-- two places of which the first is in a list have different numbers there
pub apart_places : (places : List Slot) (r s : Slot) → Contains places r → r ≢ s → place_in places r ≢ place_in places s
apart_places places r s (k, within, is) ne e =
    let i = position_or_len (same_slot r) places in
    let j = position_or_len (same_slot s) places in
    let low : i < length places = first_within (same_slot r) places k r within (ap (same_slot r) is ∙ same_self r) in
    let test : nat_lt i (length places) ≡ true = grind (arith, nat_tests) in
    let found : position (same_slot r) places ≡ Some i = rw test refl in
    let is_r : r ≡ get_or places i r = same_is r (get_or places i r) (position-Some (same_slot r) places i r found).1 in
    let at_r : place_in places r ≡ i = ap (λ o. unwrap_or o (length places)) found in
    elim (cases_lt j (length places)) [
      | inl below ↦
          let test_s : nat_lt j (length places) ≡ true = grind (arith, nat_tests) in
          let found_s : position (same_slot s) places ≡ Some j = rw test_s refl in
          let is_s : s ≡ get_or places j r = same_is s (get_or places j r) (position-Some (same_slot s) places j r found_s).1 in
          let at_s : place_in places s ≡ j = ap (λ o. unwrap_or o (length places)) found_s in
          let one : i ≡ j = sym at_r ∙ e ∙ at_s in
          ne (is_r ∙ ap (λ (n : ℕ). get_or places n r) one ∙ sym is_s)
      | inr past ↦
          let test_s : nat_lt j (length places) ≡ false = grind (arith, nat_tests) in
          let found_s : position (same_slot s) places ≡ None = rw test_s refl in
          let at_s : place_in places s ≡ length places = ap (λ o. unwrap_or o (length places)) found_s in
          omega arith
    ]

-- ---- lists

exchanged_even : (places : List Slot) (p q r s : Slot) → place_in places r ≢ place_in places s → is_even_permutation places (p ∷ q ∷ r ∷ s ∷ []) ≡ false
    → is_even_permutation places (p ∷ q ∷ s ∷ r ∷ []) ≡ true
exchanged_even places p q r s ne odd =
    next_even (inversions (place_in places p ∷ place_in places q ∷ place_in places s ∷ place_in places r ∷ [])) (inversions (place_in places p ∷ place_in places q ∷ place_in places r ∷ place_in places s ∷ []))
    (inversions_differ (place_in places p) (place_in places q) (place_in places r) (place_in places s) ne) odd

-- where a list isn't even it is so with its last two exchanged
abbrev Turns : List Slot → List Slot → Type 0
Turns places list = is_even_permutation places list ≡ false → is_even_permutation places (exchanged list) ≡ true

turns_if : (places : List Slot) (b : Bool) (x y : List Slot) → Turns places x → Turns places y → Turns places (if b then x else y)
turns_if places true x y p q = p
turns_if places false x y p q = q

pub at_differ : (a b : AtomId) → a.0 ≢ b.0 → At a ≢ At b
at_differ a b ne e = ne cc

pub at_no_rest : (a : AtomId) → At a ≢ Rest
at_no_rest a e = cc

turns : (places : List Slot) (ray_to : AtomId → Vector) (w : AtomId) (ys : List AtomId) → Each (λ (c : AtomId). Contains places (At c)) ys → Apart ys
    → (length ys ≡ 2) ⊎ (length ys ≡ 3) → Turns places (up_list ray_to w ys)
turns places ray_to w [] in_places apart (inl e) = absurd (omega arith)
turns places ray_to w [] in_places apart (inr e) = absurd (omega arith)
turns places ray_to w (p ∷ []) in_places apart (inl e) = absurd (omega arith)
turns places ray_to w (p ∷ []) in_places apart (inr e) = absurd (omega arith)
turns places ray_to w (p ∷ q ∷ []) (in_p, (in_q, _)) ((p_q, _), _) few =
    turns_if places (is_wide (ray_to w) (ray_to p)) (At w ∷ Rest ∷ At p ∷ At q ∷ []) (if is_wide (ray_to q) (ray_to w) then At w ∷ At p ∷ At q ∷ Rest ∷ [] else Rest ∷ At w ∷ At q ∷ At p ∷ [])
    (exchanged_even places (At w) Rest (At p) (At q) (apart_places places (At p) (At q) in_p (at_differ p q p_q)))
    (turns_if places (is_wide (ray_to q) (ray_to w)) (At w ∷ At p ∷ At q ∷ Rest ∷ []) (Rest ∷ At w ∷ At q ∷ At p ∷ [])
    (exchanged_even places (At w) (At p) (At q) Rest (apart_places places (At q) Rest in_q (at_no_rest q)))
    (exchanged_even places Rest (At w) (At q) (At p) (apart_places places (At q) (At p) in_q (at_differ q p (λ e. p_q (sym e))))))
turns places ray_to w (p ∷ q ∷ s ∷ []) (in_p, (in_q, _)) (_, ((q_s, _), _)) few =
    exchanged_even places (At w) (At p) (At q) (At s) (apart_places places (At q) (At s) in_q (at_differ q s q_s))
turns places ray_to w (p ∷ q ∷ s ∷ x ∷ xs) in_places apart (inl e) = absurd (omega arith)
turns places ray_to w (p ∷ q ∷ s ∷ x ∷ xs) in_places apart (inr e) = absurd (omega arith)

count_of_three : (xs : List HalfEdge) (d : HalfEdge) (w : AtomId) → length xs ≡ 3 → LeadApart xs → LeadTo xs w → length (others xs w) ≡ 2
count_of_three xs d w count apart lead = elim (cases_eq (get_or xs 0 d).to.0 w.0) [
  | inl first ↦ ap length (sym (but_first_of_three xs d w count apart first))
  | inr first ↦ elim (cases_eq (get_or xs 1 d).to.0 w.0) [
    | inl second ↦ ap length (sym (but_second_of_three xs d w count apart second))
    | inr second ↦ ap length (sym (but_third_of_three xs d w count apart lead first second))
  ]
]

count_of_four : (xs : List HalfEdge) (d : HalfEdge) (w : AtomId) → length xs ≡ 4 → LeadApart xs → LeadTo xs w → length (others xs w) ≡ 3
count_of_four xs d w count apart lead = elim (cases_eq (get_or xs 0 d).to.0 w.0) [
  | inl first ↦ ap length (sym (but_first_of_four xs d w count apart first))
  | inr first ↦ elim (cases_eq (get_or xs 1 d).to.0 w.0) [
    | inl second ↦ ap length (sym (but_second_of_four xs d w count apart second))
    | inr second ↦ elim (cases_eq (get_or xs 2 d).to.0 w.0) [
      | inl third ↦ ap length (sym (but_third_of_four xs d w count apart third))
      | inr third ↦ ap length (sym (but_fourth_of_four xs d w count apart lead first second third))
    ]
  ]
]

pub count_of : (xs : List HalfEdge) (w : AtomId) → AreOfCentre xs → LeadTo xs w → (length (others xs w) ≡ 2) ⊎ (length (others xs w) ≡ 3)
count_of xs w of lead = elim of.few [
  | inl three ↦ inl (count_of_three xs lead.half w three of.apart lead)
  | inr four ↦ inr (count_of_four xs lead.half w four of.apart lead)
]

-- of the up and the down wedge of a neighbour one says the hand of a list in which the neighbours are
pub down_reads : (places : List Slot) (halves : List HalfEdge) (ray_to : AtomId → Vector) (w : AtomId) → AreOfCentre halves → LeadTo halves w
    → ((i : ℕ) (half : HalfEdge) → slice_get halves i ≡ Some half → Contains places (At half.to))
    → is_even_permutation places (wedge_list halves ray_to w Up) ≡ false → is_even_permutation places (wedge_list halves ray_to w Down) ≡ true
unfolding wedge_list
down_reads places halves ray_to w of lead all =
    let r = ray_to w in
    let count = length_met ray_to r (others halves w) in
    let few : (length (met_from ray_to r (others halves w)) ≡ 2) ⊎ (length (met_from ray_to r (others halves w)) ≡ 3) = elim (count_of halves w of lead) [
      | inl two ↦ inl (count ∙ two)
      | inr three ↦ inr (count ∙ three)
    ] in
    turns places ray_to w (met_from ray_to r (others halves w)) (each_met ray_to r (λ (c : AtomId). Contains places (At c)) (others halves w) (each_other (λ (c : AtomId). Contains places (At c)) halves w all))
    (apart_met ray_to r (others halves w) (apart_others halves w of.apart)) few
