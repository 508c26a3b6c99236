-- Facts on lists that the lists of a molecule want.
use Rattle.std.proofs.Common.{◌≡◌, ℕ, zero, suc, ◌-◌, ◌<◌, ◌≤◌, List, [], ◌∷◌, ◌++◌, Option, Some, None, length, reverse, get_or, slice_get, slice_set, subst, sym, ap, arith, refl, ◌⊎◌, inl, inr}
use Rattle.std.specs.List.{All}
use Rattle.std.proofs.lemmas.List.{reverse-append, length-reverse, get_or-reverse}
use Rattle.std.proofs.Math.ListN.{length-set}

pub reverse_push : {A : Type 0} (xs : List A) (x : A) → reverse (xs ++ x ∷ []) ≡ x ∷ reverse xs
reverse_push xs x = reverse-append xs (x ∷ [])

pub reverse_cons : {A : Type 0} (x : A) (xs : List A) → reverse (x ∷ xs) ≡ reverse xs ++ x ∷ []
reverse_cons x xs = reverse-append (x ∷ []) xs

pub All-reverse : {X : Type 0} (P : X → Type 0) (xs : List X) → All P xs → All P (reverse xs)
All-reverse P xs all = λ k d h.
    let n : k < length xs = omega (arith, length-reverse xs, h) in
    let before : length xs - 1 - k < length xs = omega arith in
    subst P (sym (get_or-reverse xs k d n)) (all (length xs - 1 - k) d before)

pub All-head : {X : Type 0} (P : X → Type 0) (x : X) (xs : List X) → All P (x ∷ xs) → P x
All-head P x xs all = all 0 x (omega arith)

pub All-tail : {X : Type 0} (P : X → Type 0) (x : X) (xs : List X) → All P (x ∷ xs) → All P xs
All-tail P x xs all = λ k d h. all (suc k) d (omega arith)

pub slice_get-append_left : {A : Type 0} (xs ys : List A) (i : ℕ) → i < length xs → slice_get (xs ++ ys) i ≡ slice_get xs i
slice_get-append_left [] ys i h = absurd (omega arith)
slice_get-append_left (x ∷ xs) ys zero h = refl
slice_get-append_left (x ∷ xs) ys (suc i) h = slice_get-append_left xs ys i (omega arith)

pub slice_get-append_seam : {A : Type 0} (xs : List A) (y : A) (i : ℕ) → i ≡ length xs → slice_get (xs ++ y ∷ []) i ≡ Some y
slice_get-append_seam [] y zero e = refl
slice_get-append_seam [] y (suc i) e = absurd (omega arith)
slice_get-append_seam (x ∷ xs) y zero e = absurd (omega arith)
slice_get-append_seam (x ∷ xs) y (suc i) e = slice_get-append_seam xs y i (omega arith)

pub slice_get-append_past : {A : Type 0} (xs : List A) (y z : A) (i : ℕ) → length xs ≤ i → slice_get (xs ++ y ∷ []) i ≡ Some z → (i ≡ length xs) × (z ≡ y)
slice_get-append_past [] y z zero h e = (refl, cc)
slice_get-append_past [] y z (suc i) h e = cc
slice_get-append_past (x ∷ xs) y z zero h e = absurd (omega arith)
slice_get-append_past (x ∷ xs) y z (suc i) h e =
    let found : (i ≡ length xs) × (z ≡ y) = slice_get-append_past xs y z i (omega arith) e in
    (let at = found.0 in omega arith, found.1)

-- a value that is there was there before `None` was added
pub slice_get-push_none : {A : Type 0} (xs : List (Option A)) (i : ℕ) (y : A) → slice_get (xs ++ None ∷ []) i ≡ Some (Some y) → slice_get xs i ≡ Some (Some y)
slice_get-push_none [] zero y e = cc
slice_get-push_none [] (suc i) y e = cc
slice_get-push_none (x ∷ xs) zero y e = e
slice_get-push_none (x ∷ xs) (suc i) y e = slice_get-push_none xs i y e

-- a value of a changed list is the new one at its place, or was there before
pub slice_get-slice_set : {A : Type 0} (xs : List A) (i k : ℕ) (y z : A) → slice_get (slice_set xs i y) k ≡ Some z → ((k ≡ i) × (z ≡ y)) ⊎ (slice_get xs k ≡ Some z)
slice_get-slice_set [] i k y z e = inr e
slice_get-slice_set (x ∷ xs) zero zero y z e = inl (refl, cc)
slice_get-slice_set (x ∷ xs) zero (suc k) y z e = inr e
slice_get-slice_set (x ∷ xs) (suc i) zero y z e = inr e
slice_get-slice_set (x ∷ xs) (suc i) (suc k) y z e = elim (slice_get-slice_set xs i k y z e) [
  | inl here ↦ inl (ap (λ (n : ℕ). suc n) here.0, here.1)
  | inr there ↦ inr there
]

pub length-slice_set : {A : Type 0} (xs : List A) (i : ℕ) (y : A) → length (slice_set xs i y) ≡ length xs
length-slice_set xs i y = length-set xs i y

-- a list of four
pub four_of : {A : Type 0} (xs : List A) (d : A) → length xs ≡ 4 → xs ≡ get_or xs 0 d ∷ get_or xs 1 d ∷ get_or xs 2 d ∷ get_or xs 3 d ∷ []
four_of [] d e = absurd (omega arith)
four_of (a ∷ []) d e = absurd (omega arith)
four_of (a ∷ b ∷ []) d e = absurd (omega arith)
four_of (a ∷ b ∷ c ∷ []) d e = absurd (omega arith)
four_of (a ∷ b ∷ c ∷ x ∷ []) d e = refl
four_of (a ∷ b ∷ c ∷ x ∷ y ∷ ys) d e = absurd (omega arith)
