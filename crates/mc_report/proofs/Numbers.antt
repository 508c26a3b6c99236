-- A number without leading zeros is found at the front of a text, and nothing else is.
use Rattle.std.proofs.Common.{arith, ◌≡◌, ◌∙◌, ◌<◌, ◌≤◌, ◌+◌, ◌-◌, ◌*◌, ◌^◌, ◌==◌, nat_lt, ℕ, zero, suc, Bool, true, false, if◌then◌else◌, List, [], ◌∷◌, ◌++◌, length, get_or, refl, ap, sym, subst}
use Rattle.std.specs.Prelude.{Option, Some, None, ◌↔◌, decimal}
use Rattle.std.proofs.lemmas.Bool.Decides.{nat_tests}
use Rattle.std.proofs.lemmas.Fmt.{decimal_is_IsNumeral, decimal_digit, first_decimal, decimal-digits_value}
use Rattle.std.proofs.lemmas.Str.Parse.{numerals_by_value, tells_digits}
use Rattle.std.specs.Char.{digit_value, is_ascii_digit}
use Rattle.std.specs.Str.Parse.{AllDigits, digits_value, digits_value_after}
use Rattle.std.proofs.lemmas.Option.{some_pair_parts}
use Rattle.std.proofs.lemmas.Bool.{cond-true, cond-false, ltb-false}
use Rattle.mc_base.proofs.Digits.{digit_is, is_digit}
use Rattle.mc_base.specs.Digits.{starts_digit}
use Rattle.mc_report.specs.Fronts.{digits_front, number_front}

-- a number at the front that isn't above the most
pub record IsNumber (most n : ℕ) (tail text : List ℕ) : Type 0 where
  pub joined : text ≡ decimal n ++ tail
  pub within : n ≤ most
  pub stops : starts_digit tail ≡ false

-- ---- what is found is there

-- digits behind those of a value
record Run (most value n : ℕ) (tail text : List ℕ) : Type 0 where
  digits : List ℕ
  joined : text ≡ digits ++ tail
  all : AllDigits 10 digits
  writes : n ≡ digits_value_after 10 value digits
  within : n ≤ most
  stops : starts_digit tail ≡ false

run_at : (most value n : ℕ) (tail text : List ℕ) → value ≤ most → digits_front most value text ≡ Some (n, tail) → Run most value n tail text
run_at most value n tail [] fits is =
    let same : (value ≡ n) × ([] ≡ tail) = some_pair_parts value n [] tail is in
    record { digits = []; joined = same.1; all = tt; writes = sym same.0; within = subst (λ k. k ≤ most) same.0 fits; stops = subst (λ t. starts_digit t ≡ false) same.1 refl }
run_at most value n tail (b ∷ text) fits is = by_digit (is_ascii_digit b) refl is (λ small found. run_at most (value * 10 + (b - 48)) n tail text small found)
  where
    by_size : (t : Bool) → is_ascii_digit b ≡ true → nat_lt most (value * 10 + (b - 48)) ≡ t → (if t then None else digits_front most (value * 10 + (b - 48)) text) ≡ Some (n, tail)
        → (value * 10 + (b - 48) ≤ most → digits_front most (value * 10 + (b - 48)) text ≡ Some (n, tail) → Run most (value * 10 + (b - 48)) n tail text) → Run most value n tail (b ∷ text)
    by_size true digit above found later = cc
    by_size false digit within found later =
        let small : value * 10 + (b - 48) ≤ most = ltb-false most (value * 10 + (b - 48)) within in
        let run = later small found in
        record {
          digits = b ∷ run.digits;
          joined = ap (λ t. b ∷ t) run.joined;
          all = ((digit_is b digit).0, run.all);
          writes = run.writes ∙ ap (λ d. digits_value_after 10 (value * 10 + d) run.digits) (digit_is b digit).1;
          within = run.within;
          stops = run.stops;
        }

    by_digit : (t : Bool) → is_ascii_digit b ≡ t
        → (if t then (if nat_lt most (value * 10 + (b - 48)) then None else digits_front most (value * 10 + (b - 48)) text) else Some (value, b ∷ text)) ≡ Some (n, tail)
        → (value * 10 + (b - 48) ≤ most → digits_front most (value * 10 + (b - 48)) text ≡ Some (n, tail) → Run most (value * 10 + (b - 48)) n tail text) → Run most value n tail (b ∷ text)
    by_digit true digit found later = by_size (nat_lt most (value * 10 + (b - 48))) digit refl found later
    by_digit false other found later =
        let same : (value ≡ n) × (b ∷ text ≡ tail) = some_pair_parts value n (b ∷ text) tail found in
        record { digits = []; joined = same.1; all = tt; writes = sym same.0; within = subst (λ k. k ≤ most) same.0 fits; stops = subst (λ t. starts_digit t ≡ false) same.1 other }

number_sound : (most n : ℕ) (tail text : List ℕ) → most < 2 ^ 64 → number_front most text ≡ Some (n, tail) → IsNumber most n tail text
number_sound most n tail [] fits is = cc
number_sound most n tail (b ∷ text) fits is = by_zero (b == 48) refl is
  where
    from_run : Run most 0 n tail (b ∷ text) → (b == 48) ≡ false → is_ascii_digit b ≡ true → IsNumber most n tail (b ∷ text)
    from_run run other digit = record {
      joined = run.joined ∙ ap (λ t. t ++ tail) (sym (ap decimal run.writes ∙ decimal-digits_value (numerals_by_value _ tells_digits) run.digits run.all (some run.digits run.joined) (no_zero run.digits run.joined) (small run.writes run.within)));
      within = run.within;
      stops = run.stops;
    }
      where
        some : (digits : List ℕ) → b ∷ text ≡ digits ++ tail → 0 < length digits
        some [] e = absurd (starts e)
          where
            starts : b ∷ text ≡ tail → ⊥
            starts e = let stop = run.stops in let starts_tail : starts_digit (b ∷ text) ≡ false = subst (λ t. starts_digit t ≡ false) (sym e) stop in cc
        some (d ∷ digits) e = omega arith

        no_zero : (digits : List ℕ) → b ∷ text ≡ digits ++ tail → get_or digits 0 0 ≡ 48 → length digits ≡ 1
        no_zero [] e zero_first = cc
        no_zero (d ∷ digits) e zero_first =
            let same : b ≡ 48 = let first : b ≡ d = cc in first ∙ zero_first in
            absurd (differs b other same)
          where
            differs : (b : ℕ) → (b == 48) ≡ false → b ≡ 48 → ⊥
            differs b e is = grind (arith, nat_tests)

        small : {v : ℕ} → n ≡ v → n ≤ most → v < 2 ^ 64
        small {v} e le = omega arith

    by_digit : (t : Bool) → (b == 48) ≡ false → is_ascii_digit b ≡ t → (if t then digits_front most 0 (b ∷ text) else None) ≡ Some (n, tail) → IsNumber most n tail (b ∷ text)
    by_digit true other digit found = from_run (run_at most 0 n tail (b ∷ text) (omega arith) found) other digit
    by_digit false other digit found = cc

    by_next : (t : Bool) → b ≡ 48 → starts_digit text ≡ t → if◌then◌else◌ {A = Option (ℕ × List ℕ)} t None (Some (0, text)) ≡ Some (n, tail) → IsNumber most n tail (b ∷ text)
    by_next true zero_byte next found = cc
    by_next false zero_byte next found =
        let same : (0 ≡ n) × (text ≡ tail) = some_pair_parts 0 n text tail found in
        record {
          joined = ap (λ x. x ∷ text) zero_byte ∙ ap (λ t. 48 ∷ t) same.1 ∙ ap (λ t. t ++ tail) (sym (ap decimal (sym same.0) ∙ decimal_digit 0 (omega arith)));
          within = subst (λ k. k ≤ most) same.0 (omega arith);
          stops = subst (λ t. starts_digit t ≡ false) same.1 next;
        }

    by_zero : (t : Bool) → (b == 48) ≡ t → if◌then◌else◌ {A = Option (ℕ × List ℕ)} t (if starts_digit text then None else Some (0, text)) (if is_ascii_digit b then digits_front most 0 (b ∷ text) else None) ≡ Some (n, tail)
        → IsNumber most n tail (b ∷ text)
    by_zero true e found = by_next (starts_digit text) (same b e) refl found
      where
        same : (b : ℕ) → (b == 48) ≡ true → b ≡ 48
        same b e = grind (arith, nat_tests)
    by_zero false e found = by_digit (is_ascii_digit b) e refl found

-- ---- what is there is found

grows : (v : ℕ) (digits : List ℕ) → v ≤ digits_value_after 10 v digits
grows v [] = omega arith
grows v (d ∷ digits) = let more = grows (v * 10 + digit_value d) digits in omega arith

digits_read : (most v : ℕ) (digits tail : List ℕ) → AllDigits 10 digits → digits_value_after 10 v digits ≤ most → starts_digit tail ≡ false
    → digits_front most v (digits ++ tail) ≡ Some (digits_value_after 10 v digits, tail)
digits_read most v [] [] all within stops = refl
digits_read most v [] (b ∷ tail) all within stops = rw stops refl
digits_read most v (d ∷ digits) tail all within stops =
    let digit : is_ascii_digit d ≡ true = is_digit d all.0 in
    let value : d - 48 ≡ digit_value d = (digit_is d digit).1 in
    let below = grows (v * 10 + digit_value d) digits in
    let same : v * 10 + (d - 48) ≡ v * 10 + digit_value d = ap (λ k. v * 10 + k) value in
    let fits : nat_lt most (v * 10 + (d - 48)) ≡ false = not_above (v * 10 + (d - 48)) most (omega arith) in
    let later = digits_read most (v * 10 + digit_value d) digits tail all.1 within stops in
    cond-true (is_ascii_digit d) _ _ digit ∙ cond-false (nat_lt most (v * 10 + (d - 48))) _ _ fits ∙ ap (λ k. digits_front most k (digits ++ tail)) same ∙ later
  where
    not_above : (n most : ℕ) → n ≤ most → nat_lt most n ≡ false
    not_above n most le = grind (arith, nat_tests)

number_read : (most n : ℕ) (tail text : List ℕ) → most < 2 ^ 64 → IsNumber most n tail text → number_front most text ≡ Some (n, tail)
number_read most n tail text fits number = ap (number_front most) number.joined ∙ by_size n refl
  where
    small : n < 2 ^ 64
    small = let le = number.within in omega arith

    positive : (digits : List ℕ) → 0 < length digits → 48 < get_or digits 0 0 → AllDigits 10 digits → digits_value 10 digits ≡ n → number_front most (digits ++ tail) ≡ Some (n, tail)
    positive [] some first all value = absurd (omega arith)
    positive (d ∷ digits) some first all value =
        let digit : is_ascii_digit d ≡ true = is_digit d all.0 in
        let other : (d == 48) ≡ false = not_zero d first in
        let le : digits_value 10 (d ∷ digits) ≤ most = subst (λ k. k ≤ most) (sym value) number.within in
        cond-false (d == 48) _ _ other ∙ cond-true (is_ascii_digit d) _ _ digit ∙ digits_read most 0 (d ∷ digits) tail all le number.stops ∙ ap (λ k. Some (k, tail)) value
      where
        not_zero : (d : ℕ) → 48 < d → (d == 48) ≡ false
        not_zero d first = grind (arith, nat_tests)

    by_size : (m : ℕ) → n ≡ m → number_front most (decimal n ++ tail) ≡ Some (n, tail)
    by_size zero is =
        let stop : starts_digit tail ≡ false = number.stops in
        let digits : decimal n ≡ 48 ∷ [] = ap decimal is ∙ decimal_digit 0 (omega arith) in
        ap (λ t. number_front most (t ++ tail)) digits ∙ rw stop (ap (λ k. Some (k, tail)) (sym is))
    by_size (suc m) is =
        let numeral = decimal_is_IsNumeral n small in
        positive (decimal n) numeral.0.0 (first_decimal n (omega arith) small) numeral.0.1 numeral.1

-- exactly the number at the front is found
pub number_exact : (most : ℕ) (text : List ℕ) → most < 2 ^ 64 → (n : ℕ) (tail : List ℕ) → (number_front most text ≡ Some (n, tail)) ↔ IsNumber most n tail text
number_exact most text fits n tail = (number_sound most n tail text fits, number_read most n tail text fits)
