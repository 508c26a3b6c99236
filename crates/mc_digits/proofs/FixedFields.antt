-- What a reader of fixed-point fields finds is what the grammar says.
use Rattle.std.proofs.Common.{arith, ◌≡◌, ◌<◌, ◌≤◌, ◌+◌, ◌*◌, ◌==◌, ◌&&◌, ◌||◌, ◌⊎◌, ℕ, zero, suc, Bool, true, false, List, [], ◌∷◌, ◌++◌, length, Option, Some, None, refl, sym, ap, subst, ◌∙◌, inl, inr, if◌then◌else◌, nat_lt}
use Rattle.std.proofs.lemmas.Bool.{cases_Bool, eqb-true, and_parts}
use Rattle.std.proofs.lemmas.Bool.Decides.{nat_tests}
use Rattle.std.proofs.lemmas.List.{append-nil}
use Rattle.std.specs.Prelude.{ℤ, option_and_then}
use Rattle.std.specs.Char.{is_ascii_digit}
use Rattle.std.specs.List.{list_all}
use Rattle.std.specs.Str.Parse.{AllDigits, digits_value}
use Rattle.mc_digits.specs.Fields.{AreBlanks, IsFixed, IsFraction, IsSigned, is_blank, ten_thousandths}
use Rattle.mc_digits.specs.Fronts.{digits_front, fixed_behind, fixed_of, fixed_signed, fraction_front, pointed, sign_front, signed_value, skip_blanks, weighted}
use Rattle.mc_digits.proofs.Fields.{Digits, Sign, all_skipped, begins, blank_stops, blanks_of, digit_begins, digits_cases, digits_of, digits_read, is_some, sign_of, sign_read, skip_all, starts, weighted_read}

-- ---- fractions

fraction_read : (fraction digits trailing : List ℕ) → IsFraction fraction digits → AllDigits 10 digits → AreBlanks trailing
    → fraction_front (fraction ++ trailing) ≡ (ten_thousandths digits, length digits, trailing)
fraction_read fraction digits [] (inl (none, empty)) all blank = rw (none, empty) refl
fraction_read fraction digits (b ∷ bs) (inl (none, empty)) all blank =
    let other : (b == 46) ≡ false = (blank_stops (b ∷ bs) blank).1 in rw (none, empty, other) refl
fraction_read fraction digits trailing (inr is) all blank =
    rw is (weighted_read digits trailing all (blank_stops trailing blank).0)

record Fraction (text : List ℕ) : Type 0 where
  fraction : List ℕ
  digits : List ℕ
  rest : List ℕ
  joined : text ≡ fraction ++ rest
  pointed : IsFraction fraction digits
  all : AllDigits 10 digits
  read : fraction_front text ≡ (ten_thousandths digits, length digits, rest)

fraction_of : (text : List ℕ) → Fraction text
fraction_of [] = record { fraction = []; digits = []; rest = []; joined = refl; pointed = inl (refl, refl); all = tt; read = refl }
fraction_of (b ∷ bs) =
    elim (cases_Bool (b == 46)) [
      | inl point ↦
          let d = digits_of bs in record {
            fraction = b ∷ d.digits;
            digits = d.digits;
            rest = d.rest;
            joined = ap (λ t. b ∷ t) d.joined;
            pointed = inr (ap (λ x. x ∷ d.digits) (eqb-true b 46 point));
            all = d.all;
            read = rw point (ap (λ t. weighted 1000 0 0 t) d.joined ∙ weighted_read d.digits d.rest d.all d.stops);
          }
      | inr other ↦ record {
        fraction = [];
        digits = [];
        rest = b ∷ bs;
        joined = refl;
        pointed = inl (refl, refl);
        all = tt;
        read = rw other refl;
      }
    ]

-- ---- from the grammar to the answer

some_behind : (text : List ℕ) → 0 < length text → fixed_behind text ≡ fixed_signed (sign_front text)
some_behind [] some = absurd (omega arith)
some_behind (b ∷ bs) some = refl

-- a digit or a point stands at the front
body_begins : (whole fraction digits trailing : List ℕ) → AllDigits 10 whole → IsFraction fraction digits → 0 < length whole + length digits
    → starts begins (whole ++ (fraction ++ trailing)) ≡ true
body_begins [] fraction digits trailing all (inl (none, empty)) some = absurd (let e = ap length empty in omega arith)
body_begins [] fraction digits trailing all (inr is) some = rw is refl
body_begins (d ∷ ds) fraction digits trailing all pointed some = digit_begins (d ∷ ds) (fraction ++ trailing) all (omega arith)

point_stops : (fraction digits trailing : List ℕ) → IsFraction fraction digits → AreBlanks trailing → starts is_ascii_digit (fraction ++ trailing) ≡ false
point_stops fraction digits trailing (inl (none, empty)) blank = rw none (blank_stops trailing blank).0
point_stops fraction digits trailing (inr is) blank = rw is refl

some_of_either : (m n : ℕ) → 0 < m + n → (nat_lt 0 m || nat_lt 0 n) ≡ true
some_of_either zero n some = is_some n (omega arith)
some_of_either (suc m) n some = let first : nat_lt 0 (suc m) ≡ true = is_some (suc m) (omega arith) in rw first refl

pub fixed_read : (value : ℤ) (field : List ℕ) → IsFixed value field → fixed_of field ≡ Some value
fixed_read value field (inl (blank, nothing)) = rw (all_skipped field blank, nothing) refl
fixed_read value field (inr spelled) =
    let whole = spelled.whole in
    let digits = spelled.digits in
    let trailing = spelled.trailing in
    let behind : List ℕ = spelled.fraction ++ trailing in
    let body : List ℕ = whole ++ behind in
    let amount : ℕ = digits_value 10 whole * 10000 + ten_thousandths digits in
    let first : starts begins body ≡ true = body_begins whole spelled.fraction digits trailing spelled.whole_digits spelled.pointed spelled.some in
    let stop = point_stops spelled.fraction digits trailing spelled.pointed spelled.trailing_blank in
    let read : digits_front 0 0 body ≡ Some (digits_value 10 whole, 0 + length whole, behind) =
    digits_read 0 0 whole behind spelled.whole_digits stop (let few = spelled.few in omega arith) in
    let number : 0 + length whole ≡ length whole = omega arith in
    let part = fraction_read spelled.fraction digits trailing spelled.pointed spelled.fraction_digits spelled.trailing_blank in
    let some : (nat_lt 0 (length whole) || nat_lt 0 (length digits)) ≡ true = some_of_either (length whole) (length digits) spelled.some in
    let ends : list_all is_blank trailing ≡ true = spelled.trailing_blank in
    let s = sign_read spelled.sign body amount value first spelled.signed in
    ap fixed_of spelled.joined
    ∙ ap fixed_behind (skip_all spelled.leading (spelled.sign ++ body) spelled.leading_blank s.3)
    ∙ some_behind (spelled.sign ++ body) s.4
    ∙ ap fixed_signed s.1
    ∙ ap (λ o. option_and_then (λ w. pointed s.0 w (fraction_front w.2)) o) (read ∙ ap (λ n. Some (digits_value 10 whole, n, behind)) number)
    ∙ ap (λ f. pointed s.0 (digits_value 10 whole, length whole, behind) f) part
    ∙ rw (some, ends) (ap (λ v. Some v) s.2)

-- ---- from the answer to the grammar

pointed_some : (negative : Bool) (whole fraction : ℕ × ℕ × List ℕ) (value : ℤ) → pointed negative whole fraction ≡ Some value
    → (0 < whole.1 + fraction.1) × AreBlanks fraction.2 × (signed_value negative (whole.0 * 10000 + fraction.0) ≡ value)
pointed_some negative whole fraction value is =
    elim ((nat_lt 0 whole.1 || nat_lt 0 fraction.1) && list_all is_blank fraction.2) as
    (λ t. ((nat_lt 0 whole.1 || nat_lt 0 fraction.1) && list_all is_blank fraction.2) ≡ t
    → ◌≡◌ {A = Option ℤ} (if t then Some (signed_value negative (whole.0 * 10000 + fraction.0)) else None) (Some value)
    → (0 < whole.1 + fraction.1) × AreBlanks fraction.2 × (signed_value negative (whole.0 * 10000 + fraction.0) ≡ value)) [
      | true ↦ λ tests found.
          let both = and_parts (nat_lt 0 whole.1 || nat_lt 0 fraction.1) (list_all is_blank fraction.2) tests in
          (above whole.1 fraction.1 both.0, both.1, cc)
      | false ↦ λ tests found. cc
    ] refl is
  where
    above : (m n : ℕ) → (nat_lt 0 m || nat_lt 0 n) ≡ true → 0 < m + n
    above m n some = grind (arith, nat_tests)

fixed_from : (leading text : List ℕ) (value : ℤ) → AreBlanks leading → fixed_behind text ≡ Some value → IsFixed value (leading ++ text)
fixed_from leading [] value blank is = inl (subst AreBlanks (sym (append-nil leading)) blank, cc)
fixed_from leading (b ∷ bs) value blank is = found (digits_cases (sign_front (b ∷ bs)).1 digits)
  where
    negative : Bool
    negative = (sign_front (b ∷ bs)).0

    digits : Digits (sign_front (b ∷ bs)).1
    digits = digits_of (sign_front (b ∷ bs)).1

    part : (d : Digits (sign_front (b ∷ bs)).1) (s : Sign (b ∷ bs)) (f : Fraction d.rest) → length d.digits ≤ 12
        → pointed (sign_front (b ∷ bs)).0 (digits_value 10 d.digits, length d.digits, d.rest) (fraction_front d.rest) ≡ Some value → IsFixed value (leading ++ b ∷ bs)
    part d s f few answer =
        let at = pointed_some (sign_front (b ∷ bs)).0 (digits_value 10 d.digits, length d.digits, d.rest) (ten_thousandths f.digits, length f.digits, f.rest) value
        (ap (λ x. pointed (sign_front (b ∷ bs)).0 (digits_value 10 d.digits, length d.digits, d.rest) x) (sym f.read) ∙ answer) in
        inr (record {
          leading = leading;
          sign = s.sign;
          whole = d.digits;
          fraction = f.fraction;
          digits = f.digits;
          trailing = f.rest;
          joined = ap (λ t. leading ++ t) (s.joined ∙ ap (λ t. s.sign ++ t) (d.joined ∙ ap (λ t. d.digits ++ t) f.joined));
          leading_blank = blank;
          trailing_blank = at.1;
          whole_digits = d.all;
          fraction_digits = f.all;
          pointed = f.pointed;
          some = at.0;
          few = few;
          signed = subst (λ v. IsSigned s.sign (digits_value 10 d.digits * 10000 + ten_thousandths f.digits) v) at.2
              (s.signed (digits_value 10 d.digits * 10000 + ten_thousandths f.digits));
        })

    answered : (o : Option (ℕ × ℕ × List ℕ)) → digits_front 0 0 (sign_front (b ∷ bs)).1 ≡ o
        → option_and_then (λ w. pointed (sign_front (b ∷ bs)).0 w (fraction_front w.2)) o ≡ Some value
    answered o same = ap (λ x. option_and_then (λ w. pointed (sign_front (b ∷ bs)).0 w (fraction_front w.2)) x) (sym same) ∙ is

    found : ((length digits.digits ≤ 12) × (digits_front 0 0 (sign_front (b ∷ bs)).1 ≡ Some (digits_value 10 digits.digits, length digits.digits, digits.rest)))
        ⊎ (digits_front 0 0 (sign_front (b ∷ bs)).1 ≡ None) → IsFixed value (leading ++ b ∷ bs)
    found (inl (few, read)) = part digits (sign_of (b ∷ bs)) (fraction_of digits.rest) few (answered _ read)
    found (inr none) = let no_answer = answered None none in cc

pub fixed_sound : (value : ℤ) (field : List ℕ) → fixed_of field ≡ Some value → IsFixed value field
fixed_sound value field is =
    let blanks = blanks_of field in
    subst (λ t. IsFixed value t) (sym blanks.joined) (fixed_from blanks.blanks (skip_blanks field) value blanks.all is)
