-- Exchanging the last two of a list of places turns the parity of its permutation.
use Rattle.std.proofs.Common.{◌≡◌, ◌≢◌, ℕ, suc, ◌+◌, ◌≤◌, List, [], ◌∷◌, length, map, Bool, true, false, Some, None, refl, ap, sym, ◌∙◌, inl, inr, arith}
use Rattle.std.specs.Prelude.{◌⊎◌, ◌==◌, ◌%◌, ◌||◌, not, cond, nat_lt, count_by, unwrap_or}
use Rattle.std.specs.List.{list_any, position_or_len}
use Rattle.std.proofs.lemmas.Bool.{cases_lt, cases_eq, false≢true}
use Rattle.std.proofs.lemmas.Bool.Decides.{nat_tests}
use Rattle.std.proofs.lemmas.List.Sums.{sum_by-cons}
use Rattle.mc_mol.specs.declared.parts.Slot.{Slot}
use Rattle.mc_mol.specs.Permutations.{same_slot, inversions, place_in, is_even_permutation, stands_in}
use Rattle.smi_mean.specs.CentrePlaces.{exchanged, said}
use Rattle.mc_mol.proofs.Slots.{same_is}

-- Numbers

abbrev pub turned : List ℕ → List ℕ
turned [] = []
turned (x ∷ []) = x ∷ []
turned (x ∷ y ∷ []) = y ∷ x ∷ []
turned (x ∷ y ∷ z ∷ zs) = x ∷ turned (y ∷ z ∷ zs)

-- there are at least two, and the last two are different
abbrev pub LastDiffer : {A : Type 0} → List A → Type 0
LastDiffer [] = ⊥
LastDiffer (x ∷ []) = ⊥
LastDiffer (x ∷ y ∷ []) = x ≢ y
LastDiffer (x ∷ y ∷ z ∷ zs) = LastDiffer (y ∷ z ∷ zs)

abbrev one_if : Bool → ℕ
one_if t = cond t 1 0

count_cons : (p : ℕ → Bool) (x : ℕ) (xs : List ℕ) → count_by p (x ∷ xs) ≡ one_if (p x) + count_by p xs
count_cons p x xs = sum_by-cons (λ y. cond (p y) 1 0) x xs

count_turned : (p : ℕ → Bool) (xs : List ℕ) → count_by p (turned xs) ≡ count_by p xs
count_turned p [] = refl
count_turned p (x ∷ []) = refl
count_turned p (x ∷ y ∷ []) =
    let a = count_cons p y (x ∷ []) in
    let b = count_cons p x [] in
    let c = count_cons p x (y ∷ []) in
    let d = count_cons p y [] in
    a ∙ omega arith ∙ sym c
count_turned p (x ∷ y ∷ z ∷ zs) = count_cons p x (turned (y ∷ z ∷ zs)) ∙ ap (λ (n : ℕ). one_if (p x) + n) (count_turned p (y ∷ z ∷ zs)) ∙ sym (count_cons p x (y ∷ z ∷ zs))

abbrev ByOne : ℕ → ℕ → Type 0
ByOne a b = (a ≡ b + 1) ⊎ (b ≡ a + 1)

one_less : (x y : ℕ) → count_by (λ z. nat_lt z x) (y ∷ []) ≡ one_if (nat_lt y x)
one_less x y = count_cons (λ z. nat_lt z x) y [] ∙ omega arith

by_one : (x y : ℕ) → x ≢ y → ByOne (inversions (y ∷ x ∷ [])) (inversions (x ∷ y ∷ []))
by_one x y ne =
    let a = one_less y x in
    let b = one_less x y in
    elim (cases_lt x y) [
      | inl less ↦
          let t : one_if (nat_lt x y) ≡ 1 = (let h : nat_lt x y ≡ true = grind (arith, nat_tests) in ap one_if h) in
          let f : one_if (nat_lt y x) ≡ 0 = (let h : nat_lt y x ≡ false = grind (arith, nat_tests) in ap one_if h) in
          inl (sums _ _ a b (t, f))
      | inr more ↦
          let t : one_if (nat_lt x y) ≡ 0 = (let h : nat_lt x y ≡ false = grind (arith, nat_tests) in ap one_if h) in
          let f : one_if (nat_lt y x) ≡ 1 = (let h : nat_lt y x ≡ true = grind (arith, nat_tests) in ap one_if h) in
          inr (sums' _ _ a b (t, f))
    ]
  where
    sums : (c d : ℕ) → c ≡ one_if (nat_lt x y) → d ≡ one_if (nat_lt y x) → (one_if (nat_lt x y) ≡ 1) × (one_if (nat_lt y x) ≡ 0) → c + (0 + 0) ≡ (d + (0 + 0)) + 1
    sums c d e f h = let t = h.0 in let u = h.1 in omega arith

    sums' : (c d : ℕ) → c ≡ one_if (nat_lt x y) → d ≡ one_if (nat_lt y x) → (one_if (nat_lt x y) ≡ 0) × (one_if (nat_lt y x) ≡ 1) → d + (0 + 0) ≡ (c + (0 + 0)) + 1
    sums' c d e f h = let t = h.0 in let u = h.1 in omega arith

inversions_turned : (xs : List ℕ) → LastDiffer xs → ByOne (inversions (turned xs)) (inversions xs)
inversions_turned [] h = absurd h
inversions_turned (x ∷ []) h = absurd h
inversions_turned (x ∷ y ∷ []) ne = by_one x y ne
inversions_turned (x ∷ y ∷ z ∷ zs) h =
    let c = count_turned (λ w. nat_lt w x) (y ∷ z ∷ zs) in
    add (count_by (λ w. nat_lt w x) (turned (y ∷ z ∷ zs))) (count_by (λ w. nat_lt w x) (y ∷ z ∷ zs)) (inversions (turned (y ∷ z ∷ zs))) (inversions (y ∷ z ∷ zs)) c (inversions_turned (y ∷ z ∷ zs) h)
  where
    add : (a b m n : ℕ) → a ≡ b → ByOne m n → ByOne (a + m) (b + n)
    add a b m n e (inl h) = inl (omega arith)
    add a b m n e (inr h) = inr (omega arith)

next_turns : (n : ℕ) → ((suc n % 2) == 0) ≡ not ((n % 2) == 0)
next_turns n = elim (cases_eq (n % 2) 0) [
  | inl e ↦
      let u : suc n % 2 ≡ 1 = omega arith in
      let t : ((n % 2) == 0) ≡ true = grind (arith, nat_tests) in
      let f : ((suc n % 2) == 0) ≡ false = ap (λ (x : ℕ). x == 0) u in
      f ∙ sym (ap not t)
  | inr ne ↦
      let u : suc n % 2 ≡ 0 = omega arith in
      let t : ((n % 2) == 0) ≡ false = grind (arith, nat_tests) in
      let f : ((suc n % 2) == 0) ≡ true = ap (λ (x : ℕ). x == 0) u in
      f ∙ sym (ap not t)
]

one_turns : (a b : ℕ) → ByOne a b → ((a % 2) == 0) ≡ not ((b % 2) == 0)
one_turns a b (inl e) = ap (λ (x : ℕ). (x % 2) == 0) (let e' : a ≡ suc b = omega arith in e') ∙ next_turns b
one_turns a b (inr e) = sym (twice ((a % 2) == 0)) ∙ ap not (sym (ap (λ (x : ℕ). (x % 2) == 0) (let e' : b ≡ suc a = omega arith in e') ∙ next_turns a))
  where
    twice : (t : Bool) → not (not t) ≡ t
    twice true = refl
    twice false = refl

-- Places

map_exchanged : (f : Slot → ℕ) (q : List Slot) → map f (exchanged q) ≡ turned (map f q)
map_exchanged f [] = refl
map_exchanged f (x ∷ []) = refl
map_exchanged f (x ∷ y ∷ []) = refl
map_exchanged f (x ∷ y ∷ z ∷ zs) = ap (λ (ns : List ℕ). f x ∷ ns) (map_exchanged f (y ∷ z ∷ zs))

pub exchanged_map : (f : Slot → Slot) (q : List Slot) → map f (exchanged q) ≡ exchanged (map f q)
exchanged_map f [] = refl
exchanged_map f (x ∷ []) = refl
exchanged_map f (x ∷ y ∷ []) = refl
exchanged_map f (x ∷ y ∷ z ∷ zs) = ap (λ (ps : List Slot). f x ∷ ps) (exchanged_map f (y ∷ z ∷ zs))

-- one exchange turns the parity
pub exchange_law : (p q : List Slot) → LastDiffer (map (place_in p) q) → is_even_permutation p (exchanged q) ≡ not (is_even_permutation p q)
exchange_law p q h =
    ap (λ (ns : List ℕ). (inversions ns % 2) == 0) (map_exchanged (place_in p) q)
    ∙ one_turns (inversions (turned (map (place_in p) q))) (inversions (map (place_in p) q)) (inversions_turned (map (place_in p) q) h)

-- Where `@` is written for an even permutation and `@@` for an odd one, the list that is read is an even one.
pub mark_law : (p q : List Slot) (f : Slot → Slot) → LastDiffer (map (place_in p) (map f q)) → is_even_permutation p (map f (said (is_even_permutation p (map f q)) q)) ≡ true
mark_law p q f h = by_mark (is_even_permutation p (map f q)) refl
  where
    by_mark : (t : Bool) → is_even_permutation p (map f q) ≡ t → is_even_permutation p (map f (said t q)) ≡ true
    by_mark true e = e
    by_mark false e = ap (is_even_permutation p) (exchanged_map f q) ∙ exchange_law p (map f q) h ∙ ap not e

-- Different places have different numbers

index_same : (p : List Slot) (c d : Slot) → list_any (same_slot c) p ≡ true → position_or_len (same_slot c) p ≡ position_or_len (same_slot d) p → c ≡ d
index_same [] c d h e = absurd (false≢true h)
index_same (x ∷ p) c d h e = by_tests (λ h e. index_same p c d h e) (same_slot c x) refl (same_slot d x) refl h e
  where
    by_tests : (list_any (same_slot c) p ≡ true → position_or_len (same_slot c) p ≡ position_or_len (same_slot d) p → c ≡ d) → (s : Bool) → same_slot c x ≡ s → (t : Bool) → same_slot d x ≡ t → (s || list_any (same_slot c) p) ≡ true
        → cond (not s) (1 + position_or_len (same_slot c) p) 0 ≡ cond (not t) (1 + position_or_len (same_slot d) p) 0 → c ≡ d
    by_tests more true es true et h e = same_is c x es ∙ sym (same_is d x et)
    by_tests more true es false et h e = absurd (omega arith)
    by_tests more false es true et h e = absurd (omega arith)
    by_tests more false es false et h e = more h (omega arith)

index_le : (p : List Slot) (test : Slot → Bool) → position_or_len test p ≤ length p
index_le [] test = omega arith
index_le (x ∷ p) test = by_test (test x) (index_le p test)
  where
    by_test : (t : Bool) → position_or_len test p ≤ length p → cond (not t) (1 + position_or_len test p) 0 ≤ suc (length p)
    by_test true le = omega arith
    by_test false le = omega arith

place_index : (p : List Slot) (c : Slot) → place_in p c ≡ position_or_len (same_slot c) p
place_index p c = let le = index_le p (same_slot c) in elim (cases_lt (position_or_len (same_slot c) p) (length p)) [
  | inl less ↦
      let t : nat_lt (position_or_len (same_slot c) p) (length p) ≡ true = grind (arith, nat_tests) in
      ap (λ (b : Bool). unwrap_or (cond b (Some (position_or_len (same_slot c) p)) None) (length p)) t
  | inr more ↦
      let t : nat_lt (position_or_len (same_slot c) p) (length p) ≡ false = grind (arith, nat_tests) in
      let e : length p ≡ position_or_len (same_slot c) p = omega arith in
      ap (λ (b : Bool). unwrap_or (cond b (Some (position_or_len (same_slot c) p)) None) (length p)) t ∙ e
]

pub place_same : (p : List Slot) (c d : Slot) → stands_in p c ≡ true → place_in p c ≡ place_in p d → c ≡ d
place_same p c d h e = index_same p c d h (sym (place_index p c) ∙ e ∙ place_index p d)

-- all of them are places of p
abbrev pub AllIn : List Slot → List Slot → Type 0
AllIn p [] = Unit {0}
AllIn p (c ∷ cs) = (stands_in p c ≡ true) × AllIn p cs

pub last_numbers : (p q : List Slot) → AllIn p q → LastDiffer q → LastDiffer (map (place_in p) q)
last_numbers p [] all h = absurd h
last_numbers p (x ∷ []) all h = absurd h
last_numbers p (x ∷ y ∷ []) all ne = λ e. ne (place_same p x y all.0 e)
last_numbers p (x ∷ y ∷ z ∷ zs) all h = last_numbers p (y ∷ z ∷ zs) all.1 h
