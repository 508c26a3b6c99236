-- A count of so many columns has at most so many digits.
use Rattle.std.proofs.Common.{arith, ◌≡◌, ℕ, zero, suc, ◌+◌, ◌*◌, ◌-◌, ◌^◌, ◌≤◌, ◌<◌, ◌==◌, ◌&&◌, List, [], ◌∷◌, length, Bool, true, false, Option, Some, None, refl, sym, subst, if◌then◌else◌, ℤ}
use Rattle.std.specs.Prelude.{nat_lt, option_and_then, unsigned_abs, ⊤}
use Rattle.std.specs.List.{list_all}
use Rattle.std.specs.Char.{is_ascii_digit}
use Rattle.std.proofs.lemmas.Bool.Decides.{nat_tests}
use Rattle.std.proofs.Math.Nat.{pow-suc, pow-le-pow_right}
use Rattle.mc_digits.specs.Fields.{is_blank, most_digits}
use Rattle.mc_digits.specs.Fronts.{skip_blanks, signed_value, sign_front, digits_front, counted, count_signed, count_behind, count_of}

ten_times : (a b : ℕ) → suc a + b ≡ a + suc b
ten_times a b = omega arith

digit_below : (b : ℕ) → is_ascii_digit b ≡ true → b - 48 < 10
digit_below b is = grind (arith, nat_tests)

one_digit : (value p d : ℕ) → value < p → d < 10 → value * 10 + d < p * 10
one_digit value p d less small = omega arith

pub grown : (value m n : ℕ) → m ≤ n → value < 10 ^ m → value < 10 ^ n
grown value m n le less =
    let ten : 0 < 10 = omega arith in
    let grows : 10 ^ m ≤ 10 ^ n = pow-le-pow_right {n = 10} ten {i = m} {j = n} le in
    through value (10 ^ m) (10 ^ n) less grows
  where
    through : (a b c : ℕ) → a < b → b ≤ c → a < c
    through a b c l le = omega arith

-- the value of digits that were read, and none otherwise
abbrev IsBelow : ℕ → Option (ℕ × ℕ × List ℕ) → Type 0
IsBelow limit None = ⊤
IsBelow limit (Some digits) = digits.0 < limit

front_small : (count value a : ℕ) (text : List ℕ) → value < 10 ^ a → IsBelow (10 ^ (a + length text)) (digits_front count value text)
front_small count value a [] less = grown value a (a + 0) (let e : a ≤ a + 0 = omega arith in e) less
front_small count value a (b ∷ text) less =
    by_test (is_ascii_digit b) (count == most_digits) refl
    (λ digit. subst (λ (x : ℕ). IsBelow (10 ^ x) (digits_front (count + 1) (value * 10 + (b - 48)) text)) (ten_times a (length text))
    (front_small (count + 1) (value * 10 + (b - 48)) (suc a) text (subst (λ (x : ℕ). value * 10 + (b - 48) < x) (sym (pow-suc 10 a)) (one_digit value (10 ^ a) (b - 48) less (digit_below b digit)))))
    (grown value a (a + suc (length text)) (let n : ℕ = length text in let e : a ≤ a + suc n = omega arith in e) less)
  where
    by_test : (s t : Bool) → is_ascii_digit b ≡ s
        → (is_ascii_digit b ≡ true → IsBelow (10 ^ (a + suc (length text))) (digits_front (count + 1) (value * 10 + (b - 48)) text))
        → value < 10 ^ (a + suc (length text))
        → IsBelow (10 ^ (a + suc (length text))) (if s then (if t then None else digits_front (count + 1) (value * 10 + (b - 48)) text) else Some (value, count, b ∷ text))
    by_test true true digit later small = tt
    by_test true false digit later small = later digit
    by_test false t digit later small = small

-- the amount of a number, where there is one
abbrev pub HasAtMost : ℕ → Option ℤ → Type 0
HasAtMost digits None = ⊤
HasAtMost digits (Some n) = unsigned_abs n < 10 ^ digits

same_amount : (negative : Bool) (m : ℕ) → unsigned_abs (signed_value negative m) ≡ m
same_amount true zero = refl
same_amount true (suc m) = refl
same_amount false m = refl

counted_small : (n : ℕ) (negative : Bool) (digits : Option (ℕ × ℕ × List ℕ)) → IsBelow (10 ^ n) digits → HasAtMost n (option_and_then (λ d. counted negative d) digits)
counted_small n negative None below = tt
counted_small n negative (Some (value, count, rest)) below = by_test (nat_lt 0 count && list_all is_blank rest)
  where
    by_test : (t : Bool) → HasAtMost n (if t then Some (signed_value negative value) else None)
    by_test true = subst (λ (x : ℕ). x < 10 ^ n) (sym (same_amount negative value)) below
    by_test false = tt

looser : (m n : ℕ) (number : Option ℤ) → m ≤ n → HasAtMost m number → HasAtMost n number
looser m n None le small = tt
looser m n (Some z) le small = grown (unsigned_abs z) m n le small

abbrev sign_by : Bool → Bool → ℕ → List ℕ → Bool × List ℕ
sign_by s t b text = if s then (true, text) else if t then (false, text) else (false, b ∷ text)

behind_sign : (b : ℕ) (text : List ℕ) → length (sign_front (b ∷ text)).1 ≤ suc (length text)
behind_sign b text = by_test (b == 45) (b == 43)
  where
    by_test : (s t : Bool) → length (sign_by s t b text).1 ≤ suc (length text)
    by_test true t = let n : ℕ = length text in let e : n ≤ suc n = omega arith in e
    by_test false true = let n : ℕ = length text in let e : n ≤ suc n = omega arith in e
    by_test false false = let n : ℕ = length text in let e : suc n ≤ suc n = omega arith in e

behind_blanks : (text : List ℕ) → length (skip_blanks text) ≤ length text
behind_blanks [] = omega arith
behind_blanks (b ∷ text) = by_test (behind_blanks text) (is_blank b)
  where
    by_test : length (skip_blanks text) ≤ length text → (t : Bool) → length (if t then skip_blanks text else b ∷ text) ≤ suc (length text)
    by_test le true = let m : ℕ = length (skip_blanks text) in let n : ℕ = length text in let l : m ≤ n = le in let e : m ≤ suc n = omega arith in e
    by_test le false = let n : ℕ = length text in let e : suc n ≤ suc n = omega arith in e

signed_small : (sign : Bool × List ℕ) (n : ℕ) → length sign.1 ≤ n → HasAtMost n (count_signed sign)
signed_small sign n le = counted_small n sign.0 (digits_front 0 0 sign.1) (wider (digits_front 0 0 sign.1) (front_small 0 0 0 sign.1 (let e : 0 < 10 ^ 0 = omega arith in e)))
  where
    wider : (digits : Option (ℕ × ℕ × List ℕ)) → IsBelow (10 ^ (0 + length sign.1)) digits → IsBelow (10 ^ n) digits
    wider None below = tt
    wider (Some d) below = grown d.0 (0 + length sign.1) n (let k : ℕ = length sign.1 in let l : k ≤ n = le in let e : 0 + k ≤ n = omega arith in e) below

behind_small : (text : List ℕ) (n : ℕ) → length text ≤ n → HasAtMost n (count_behind text)
behind_small [] n le = grown 0 0 n (let e : 0 ≤ n = omega arith in e) (let e : 0 < 10 ^ 0 = omega arith in e)
behind_small (b ∷ text) n le = signed_small (sign_front (b ∷ text)) n (let m : ℕ = length (sign_front (b ∷ text)).1 in let k : ℕ = length text in let s : m ≤ suc k = behind_sign b text in let l : suc k ≤ n = le in let e : m ≤ n = omega arith in e)

pub count_small : (text : List ℕ) (n : ℕ) → length text ≤ n → HasAtMost n (count_of text)
count_small text n le = behind_small (skip_blanks text) n (let m : ℕ = length (skip_blanks text) in let k : ℕ = length text in let s : m ≤ k = behind_blanks text in let l : k ≤ n = le in let e : m ≤ n = omega arith in e)

pub fits_u32 : (n digits : ℕ) → digits ≤ 9 → n < 10 ^ digits → n < 4294967296
fits_u32 n digits few small = let h : n < 10 ^ 9 = grown n digits 9 few small in omega arith
