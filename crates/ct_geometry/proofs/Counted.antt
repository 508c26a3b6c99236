-- How many elements of a list pass a test, and where they stand.
use Rattle.std.proofs.Common.{◌≡◌, ◌≢◌, ◌∙◌, ℕ, zero, suc, ◌+◌, ◌<◌, ◌≤◌, Bool, true, false, arith, refl, sym, ap, inl, inr, ◌&&◌, List, [], ◌∷◌, Some, length, slice_get}
use Rattle.std.proofs.lemmas.Option.{same_Some}
use Rattle.std.proofs.lemmas.Bool.{cases_lt, cases_Bool}
use Rattle.std.proofs.lemmas.List.Sums.{sum_by-cons, count_by-le-length}
use Rattle.std.specs.Prelude.{count_by, cond}
use Rattle.std.specs.List.{list_all}

pub count_cons : {X : Type 0} (p : X → Bool) (x : X) (xs : List X) → count_by p (x ∷ xs) ≡ cond (p x) 1 0 + count_by p xs
count_cons p x xs = sum_by-cons (λ y. cond (p y) 1 0) x xs

counted : {X : Type 0} (p : X → Bool) (x : X) (xs : List X) → p x ≡ true → count_by p (x ∷ xs) ≡ 1 + count_by p xs
counted p x xs e = count_cons p x xs ∙ rw e refl

uncounted : {X : Type 0} (p : X → Bool) (x : X) (xs : List X) → p x ≡ false → count_by p (x ∷ xs) ≡ count_by p xs
uncounted p x xs e = count_cons p x xs ∙ rw e (let z : 0 + count_by p xs ≡ count_by p xs = omega arith in z)

at_least_rest : {X : Type 0} (p : X → Bool) (x : X) (xs : List X) → count_by p xs ≤ count_by p (x ∷ xs)
at_least_rest p x xs = elim (cases_Bool (p x)) [
  | inl pass ↦ let e = counted p x xs pass in omega arith
  | inr fail ↦ let e = uncounted p x xs fail in omega arith
]

at_most_rest : {X : Type 0} (p : X → Bool) (x : X) (xs : List X) → count_by p (x ∷ xs) ≤ count_by p xs + 1
at_most_rest p x xs = elim (cases_Bool (p x)) [
  | inl pass ↦ let e = counted p x xs pass in omega arith
  | inr fail ↦ let e = uncounted p x xs fail in omega arith
]

pub one_yes : {X : Type 0} (p : X → Bool) (xs : List X) (i : ℕ) (x : X) → slice_get xs i ≡ Some x → p x ≡ true → 1 ≤ count_by p xs
one_yes p [] i x at pass = cc
one_yes p (y ∷ xs) zero x at pass = let e = counted p y xs (ap p (same_Some y x at) ∙ pass) in omega arith
one_yes p (y ∷ xs) (suc i) x at pass = let e = one_yes p xs i x at pass in let f = at_least_rest p y xs in omega arith

pub two_yes : {X : Type 0} (p : X → Bool) (xs : List X) (i j : ℕ) (x y : X) → i < j → slice_get xs i ≡ Some x → slice_get xs j ≡ Some y → p x ≡ true → p y ≡ true → 2 ≤ count_by p xs
two_yes p [] i j x y less at_x at_y px py = cc
two_yes p (z ∷ xs) i zero x y less at_x at_y px py = absurd (omega arith)
two_yes p (z ∷ xs) zero (suc j) x y less at_x at_y px py = let e = counted p z xs (ap p (same_Some z x at_x) ∙ px) in let f = one_yes p xs j y at_y py in omega arith
two_yes p (z ∷ xs) (suc i) (suc j) x y less at_x at_y px py = let e = two_yes p xs i j x y (omega arith) at_x at_y px py in let f = at_least_rest p z xs in omega arith

-- two different places
pub two_apart : {X : Type 0} (p : X → Bool) (xs : List X) (i j : ℕ) (x y : X) → i ≢ j → slice_get xs i ≡ Some x → slice_get xs j ≡ Some y → p x ≡ true → p y ≡ true → 2 ≤ count_by p xs
two_apart p xs i j x y different at_x at_y px py = elim (cases_lt i j) [
  | inl less ↦ two_yes p xs i j x y less at_x at_y px py
  | inr more ↦ two_yes p xs j i y x (omega arith) at_y at_x py px
]

three_yes_sorted : {X : Type 0} (p : X → Bool) (xs : List X) (i j k : ℕ) (x y z : X) → i < j → j < k → slice_get xs i ≡ Some x → slice_get xs j ≡ Some y → slice_get xs k ≡ Some z
    → p x ≡ true → p y ≡ true → p z ≡ true → 3 ≤ count_by p xs
three_yes_sorted p [] i j k x y z ij jk at_x at_y at_z px py pz = cc
three_yes_sorted p (w ∷ xs) i j zero x y z ij jk at_x at_y at_z px py pz = absurd (omega arith)
three_yes_sorted p (w ∷ xs) i zero (suc k) x y z ij jk at_x at_y at_z px py pz = absurd (omega arith)
three_yes_sorted p (w ∷ xs) zero (suc j) (suc k) x y z ij jk at_x at_y at_z px py pz =
    let e = counted p w xs (ap p (same_Some w x at_x) ∙ px) in let f = two_yes p xs j k y z (omega arith) at_y at_z py pz in omega arith
three_yes_sorted p (w ∷ xs) (suc i) (suc j) (suc k) x y z ij jk at_x at_y at_z px py pz =
    let e = three_yes_sorted p xs i j k x y z (omega arith) (omega arith) at_x at_y at_z px py pz in let f = at_least_rest p w xs in omega arith

-- three different places
pub three_yes : {X : Type 0} (p : X → Bool) (xs : List X) (i j k : ℕ) (x y z : X) → i ≢ j → j ≢ k → i ≢ k → slice_get xs i ≡ Some x → slice_get xs j ≡ Some y → slice_get xs k ≡ Some z
    → p x ≡ true → p y ≡ true → p z ≡ true → 3 ≤ count_by p xs
three_yes p xs i j k x y z ij jk ik at_x at_y at_z px py pz = elim (cases_lt i j) [
  | inl a ↦ elim (cases_lt j k) [
    | inl b ↦ three_yes_sorted p xs i j k x y z a b at_x at_y at_z px py pz
    | inr b ↦ elim (cases_lt i k) [
      | inl c ↦ three_yes_sorted p xs i k j x z y c (omega arith) at_x at_z at_y px pz py
      | inr c ↦ three_yes_sorted p xs k i j z x y (omega arith) a at_z at_x at_y pz px py
    ]
  ]
  | inr a ↦ elim (cases_lt i k) [
    | inl b ↦ three_yes_sorted p xs j i k y x z (omega arith) b at_y at_x at_z py px pz
    | inr b ↦ elim (cases_lt j k) [
      | inl c ↦ three_yes_sorted p xs j k i y z x c (omega arith) at_y at_z at_x py pz px
      | inr c ↦ three_yes_sorted p xs k j i z y x (omega arith) (omega arith) at_z at_y at_x pz py px
    ]
  ]
]

pub one_no : {X : Type 0} (p : X → Bool) (xs : List X) (i : ℕ) (x : X) → slice_get xs i ≡ Some x → p x ≡ false → count_by p xs + 1 ≤ length xs
one_no p [] i x at n = cc
one_no p (y ∷ xs) zero x at n = let e = uncounted p y xs (ap p (same_Some y x at) ∙ n) in let f = count_by-le-length p xs in omega arith
one_no p (y ∷ xs) (suc i) x at n = let e = one_no p xs i x at n in let f = at_most_rest p y xs in omega arith

two_no_sorted : {X : Type 0} (p : X → Bool) (xs : List X) (i j : ℕ) (x y : X) → i < j → slice_get xs i ≡ Some x → slice_get xs j ≡ Some y → p x ≡ false → p y ≡ false → count_by p xs + 2 ≤ length xs
two_no_sorted p [] i j x y less at_x at_y px py = cc
two_no_sorted p (z ∷ xs) i zero x y less at_x at_y px py = absurd (omega arith)
two_no_sorted p (z ∷ xs) zero (suc j) x y less at_x at_y px py = let e = uncounted p z xs (ap p (same_Some z x at_x) ∙ px) in let f = one_no p xs j y at_y py in omega arith
two_no_sorted p (z ∷ xs) (suc i) (suc j) x y less at_x at_y px py = let e = two_no_sorted p xs i j x y (omega arith) at_x at_y px py in let f = at_most_rest p z xs in omega arith

pub two_no : {X : Type 0} (p : X → Bool) (xs : List X) (i j : ℕ) (x y : X) → i ≢ j → slice_get xs i ≡ Some x → slice_get xs j ≡ Some y → p x ≡ false → p y ≡ false → count_by p xs + 2 ≤ length xs
two_no p xs i j x y different at_x at_y px py = elim (cases_lt i j) [
  | inl less ↦ two_no_sorted p xs i j x y less at_x at_y px py
  | inr more ↦ two_no_sorted p xs j i y x (omega arith) at_y at_x py px
]

-- places of those that pass
pub record Passing {X : Type 0} (p : X → Bool) (xs : List X) : Type 0 where
  pub place : ℕ
  pub item : X
  pub at : slice_get xs place ≡ Some item
  pub passes : p item ≡ true

pub find_one : {X : Type 0} (p : X → Bool) (xs : List X) → 1 ≤ count_by p xs → Passing p xs
find_one p [] some = absurd (omega arith)
find_one p (x ∷ xs) some = elim (cases_Bool (p x)) [
  | inl pass ↦ record { place = 0; item = x; at = refl; passes = pass }
  | inr fail ↦ let e = uncounted p x xs fail in let r = find_one p xs (omega arith) in record { place = suc r.place; item = r.item; at = r.at; passes = r.passes }
]

pub record TwoPassing {X : Type 0} (p : X → Bool) (xs : List X) : Type 0 where
  pub one : Passing p xs
  pub other : Passing p xs
  pub apart : one.place ≢ other.place

pub find_two : {X : Type 0} (p : X → Bool) (xs : List X) → 2 ≤ count_by p xs → TwoPassing p xs
find_two p [] some = absurd (omega arith)
find_two p (x ∷ xs) some = elim (cases_Bool (p x)) [
  | inl pass ↦ let e = counted p x xs pass in let r = find_one p xs (omega arith) in
      record { one = record { place = 0; item = x; at = refl; passes = pass }; other = record { place = suc r.place; item = r.item; at = r.at; passes = r.passes }; apart = λ e. absurd (omega arith) }
  | inr fail ↦ let e = uncounted p x xs fail in let r = find_two p xs (omega arith) in
      let a = r.one in let b = r.other in let d = r.apart in
      record { one = record { place = suc a.place; item = a.item; at = a.at; passes = a.passes }; other = record { place = suc b.place; item = b.item; at = b.at; passes = b.passes }; apart = λ e. d (omega arith) }
]

pub all_pass : {X : Type 0} (p : X → Bool) (xs : List X) → list_all p xs ≡ true → (i : ℕ) (x : X) → slice_get xs i ≡ Some x → p x ≡ true
all_pass p [] all i x at = cc
all_pass p (y ∷ xs) all zero x at = ap p (sym (same_Some y x at)) ∙ first (p y) (list_all p xs) all
  where
    first : (s t : Bool) → (s && t) ≡ true → s ≡ true
    first true t e = refl
    first false t e = cc
all_pass p (y ∷ xs) all (suc i) x at = all_pass p xs (second (p y) (list_all p xs) all) i x at
  where
    second : (s t : Bool) → (s && t) ≡ true → t ≡ true
    second true t e = e
    second false t e = cc
