-- What a reader of fields finds is what the grammar says.
use Rattle.std.proofs.Common.{arith, ◌≡◌, ◌<◌, ◌≤◌, ◌+◌, ◌-◌, ◌*◌, ◌==◌, ◌&&◌, ◌||◌, ◌⊎◌, ℕ, suc, Bool, true, false, List, [], ◌∷◌, ◌++◌, length, Option, Some, None, refl, sym, ap, subst, ◌∙◌, inl, inr, if◌then◌else◌, nat_lt}
use Rattle.std.proofs.lemmas.Bool.{cases_Bool, cases_lt, eqb-true, and_parts, cond_both}
use Rattle.std.proofs.lemmas.Bool.Decides.{nat_tests}
use Rattle.std.proofs.lemmas.List.{append-nil}
use Rattle.std.specs.Prelude.{ℤ, option_and_then}
use Rattle.std.specs.Char.{digit_value, is_ascii_digit}
use Rattle.std.specs.List.{list_all}
use Rattle.std.specs.Str.Parse.{AllDigits, digits_value, digits_value_after}
use Rattle.mc_base.proofs.Digits.{digit_is, is_digit}
use Rattle.mc_digits.specs.Fields.{AreBlanks, IsCount, IsSigned, is_blank, ten_thousandths}
use Rattle.mc_digits.specs.Fronts.{count_behind, count_of, count_signed, counted, digits_front, sign_front, signed_value, skip_blanks, weighted}

-- ---- digits

-- a test of the first byte
abbrev pub starts : (ℕ → Bool) → List ℕ → Bool
starts test [] = false
starts test (b ∷ bs) = test b

-- the digits at the front, and what is behind them
pub record Digits (text : List ℕ) : Type 0 where
  pub digits : List ℕ
  pub rest : List ℕ
  pub joined : text ≡ digits ++ rest
  pub all : AllDigits 10 digits
  pub stops : starts is_ascii_digit rest ≡ false

pub digits_of : (text : List ℕ) → Digits text
digits_of [] = record { digits = []; rest = []; joined = refl; all = tt; stops = refl }
digits_of (b ∷ bs) =
    elim (cases_Bool (is_ascii_digit b)) [
      | inl digit ↦ let later = digits_of bs in
          record { digits = b ∷ later.digits; rest = later.rest; joined = ap (λ t. b ∷ t) later.joined; all = ((digit_is b digit).0, later.all); stops = later.stops }
      | inr other ↦ record { digits = []; rest = b ∷ bs; joined = refl; all = tt; stops = other }
    ]

pub digits_read : (count value : ℕ) (digits rest : List ℕ) → AllDigits 10 digits → starts is_ascii_digit rest ≡ false → count + length digits ≤ 12
    → digits_front count value (digits ++ rest) ≡ Some (digits_value_after 10 value digits, count + length digits, rest)
digits_read count value [] [] all stops few = ap (λ n. Some (value, n, [])) (let e : count ≡ count + 0 = omega arith in e)
digits_read count value [] (b ∷ bs) all stops few = rw stops (ap (λ n. Some (value, n, b ∷ bs)) (let e : count ≡ count + 0 = omega arith in e))
digits_read count value (d ∷ ds) rest all stops few =
    let digit : is_ascii_digit d ≡ true = is_digit d all.0 in
    let room : (count == 12) ≡ false = below_twelve count (omega arith) in
    let amount : d - 48 ≡ digit_value d = (digit_is d digit).1 in
    let number : count + 1 + length ds ≡ count + suc (length ds) = omega arith in
    rw (digit, room)
    (digits_read (count + 1) (value * 10 + (d - 48)) ds rest all.1 stops (omega arith)
    ∙ ap (λ n. Some (digits_value_after 10 (value * 10 + (d - 48)) ds, n, rest)) number
    ∙ ap (λ x. Some (digits_value_after 10 (value * 10 + x) ds, count + suc (length ds), rest)) amount)
  where
    below_twelve : (n : ℕ) → n < 12 → (n == 12) ≡ false
    below_twelve n small = grind (arith, nat_tests)

digits_many : (count value : ℕ) (digits rest : List ℕ) → AllDigits 10 digits → count ≤ 12 → 12 < count + length digits
    → digits_front count value (digits ++ rest) ≡ None
digits_many count value [] rest all few many = absurd (omega arith)
digits_many count value (d ∷ ds) rest all few many =
    let digit : is_ascii_digit d ≡ true = is_digit d all.0 in
    elim (cases_Bool (count == 12)) [
      | inl full ↦ rw (digit, full) refl
      | inr room ↦
          let other : count < 12 = not_full count few room in
          rw (digit, room) (digits_many (count + 1) (value * 10 + (d - 48)) ds rest all.1 (omega arith) (omega arith))
    ]
  where
    not_full : (n : ℕ) → n ≤ 12 → (n == 12) ≡ false → n < 12
    not_full n small other = grind (arith, nat_tests)

-- ---- blanks

pub record Blanks (text : List ℕ) : Type 0 where
  pub blanks : List ℕ
  pub joined : text ≡ blanks ++ skip_blanks text
  pub all : AreBlanks blanks
  pub stops : starts is_blank (skip_blanks text) ≡ false

abbrev Cut : ℕ → List ℕ → Bool → Type 0
Cut b bs t = (blanks : List ℕ) × (b ∷ bs ≡ blanks ++ (if t then skip_blanks bs else b ∷ bs)) × AreBlanks blanks
    × (starts is_blank (if t then skip_blanks bs else b ∷ bs) ≡ false)

pub blanks_of : (text : List ℕ) → Blanks text
blanks_of [] = record { blanks = []; joined = refl; all = refl; stops = refl }
blanks_of (b ∷ bs) =
    let later = blanks_of bs in
    let cut : Cut b bs (is_blank b) = elim (is_blank b) as (λ t. is_blank b ≡ t → Cut b bs t) [
      | true ↦ λ blank. (b ∷ later.blanks, ap (λ t. b ∷ t) later.joined, rw (blank, later.all) refl, later.stops)
      | false ↦ λ other. ([], refl, refl, other)
    ] refl in
    record { blanks = cut.0; joined = cut.1; all = cut.2; stops = cut.3 }

pub skip_all : (blanks rest : List ℕ) → AreBlanks blanks → starts is_blank rest ≡ false → skip_blanks (blanks ++ rest) ≡ rest
skip_all [] [] all stops = refl
skip_all [] (b ∷ bs) all stops = rw stops refl
skip_all (b ∷ bs) rest all stops =
    let both = and_parts (is_blank b) (list_all is_blank bs) all in
    let blank : is_blank b ≡ true = both.0 in
    rw blank (skip_all bs rest both.1 stops)

-- a field of blanks alone
pub all_skipped : (blanks : List ℕ) → AreBlanks blanks → skip_blanks blanks ≡ []
all_skipped [] all = refl
all_skipped (b ∷ bs) all =
    let both = and_parts (is_blank b) (list_all is_blank bs) all in
    let blank : is_blank b ≡ true = both.0 in
    rw blank (all_skipped bs both.1)

-- blanks begin with no digit and no point
pub blank_stops : (text : List ℕ) → AreBlanks text → (starts is_ascii_digit text ≡ false) × (starts (λ b. b == 46) text ≡ false)
blank_stops [] all = (refl, refl)
blank_stops (b ∷ bs) all = (not_digit b (and_parts (is_blank b) (list_all is_blank bs) all).0, not_point b (and_parts (is_blank b) (list_all is_blank bs) all).0)
  where
    not_digit : (c : ℕ) → is_blank c ≡ true → is_ascii_digit c ≡ false
    not_digit c is = grind (arith, nat_tests)

    not_point : (c : ℕ) → is_blank c ≡ true → (c == 46) ≡ false
    not_point c is = grind (arith, nat_tests)

-- ---- signs

pub record Sign (text : List ℕ) : Type 0 where
  pub sign : List ℕ
  pub joined : text ≡ sign ++ (sign_front text).1
  pub signed : (amount : ℕ) → IsSigned sign amount (signed_value (sign_front text).0 amount)

abbrev Signs : List ℕ → Bool × List ℕ → Type 0
Signs text front = (sign : List ℕ) × (text ≡ sign ++ front.1) × ((amount : ℕ) → IsSigned sign amount (signed_value front.0 amount))

pub sign_of : (text : List ℕ) → Sign text
sign_of [] = record { sign = []; joined = refl; signed = λ amount. inl (inl refl, refl) }
sign_of (b ∷ bs) =
    let found : Signs (b ∷ bs) (sign_front (b ∷ bs)) =
    cond_both (b == 45) (true, bs) _ (Signs (b ∷ bs))
    (λ t. (b ∷ [], refl, λ amount. inr (ap (λ x. x ∷ []) (eqb-true b 45 t), refl)))
    (λ _. cond_both (b == 43) (false, bs) (false, b ∷ bs) (Signs (b ∷ bs))
    (λ t. (b ∷ [], refl, λ amount. inl (inr (ap (λ x. x ∷ []) (eqb-true b 43 t)), refl)))
    (λ _. ([], refl, λ amount. inl (inl refl, refl)))) in
    record { sign = found.0; joined = found.1; signed = found.2 }

-- the first byte behind a sign: a digit or a point
abbrev pub begins : ℕ → Bool
begins b = is_ascii_digit b || b == 46

not_sign : (b : ℕ) → begins b ≡ true → ((b == 45) ≡ false) × ((b == 43) ≡ false) × (is_blank b ≡ false)
not_sign b is = (grind (arith, nat_tests), grind (arith, nat_tests), grind (arith, nat_tests))

-- a sign is read, with its value
pub sign_read : (sign text : List ℕ) (amount : ℕ) (value : ℤ) → starts begins text ≡ true → IsSigned sign amount value
    → (negative : Bool) × (sign_front (sign ++ text) ≡ (negative, text)) × (signed_value negative amount ≡ value)
    × (starts is_blank (sign ++ text) ≡ false) × (0 < length (sign ++ text))
sign_read sign [] amount value first signed = cc
sign_read sign (b ∷ bs) amount value first (inl (inl none, is)) =
    let n = not_sign b first in
    let minus : (b == 45) ≡ false = n.0 in
    let plus : (b == 43) ≡ false = n.1 in
    let blank : is_blank b ≡ false = n.2 in
    (false, rw (none, minus, plus) refl, sym is, rw (none, blank) refl, rw none (omega arith))
sign_read sign (b ∷ bs) amount value first (inl (inr plus, is)) = (false, rw plus refl, sym is, rw plus refl, rw plus (omega arith))
sign_read sign (b ∷ bs) amount value first (inr (minus, is)) = (true, rw minus refl, sym is, rw minus refl, rw minus (omega arith))

-- ---- counts

some_behind : (text : List ℕ) → 0 < length text → count_behind text ≡ count_signed (sign_front text)
some_behind [] some = absurd (omega arith)
some_behind (b ∷ bs) some = refl

pub digit_begins : (digits rest : List ℕ) → AllDigits 10 digits → 0 < length digits → starts begins (digits ++ rest) ≡ true
digit_begins [] rest all some = absurd (omega arith)
digit_begins (d ∷ ds) rest all some = let digit : is_ascii_digit d ≡ true = is_digit d all.0 in rw digit refl

pub is_some : (n : ℕ) → 0 < n → nat_lt 0 n ≡ true
is_some n some = grind (arith, nat_tests)

pub count_read : (value : ℤ) (field : List ℕ) → IsCount value field → count_of field ≡ Some value
count_read value field (inl (blank, nothing)) = rw (all_skipped field blank, nothing) refl
count_read value field (inr spelled) =
    let digits = spelled.digits in
    let trailing = spelled.trailing in
    let body : List ℕ = digits ++ trailing in
    let first : starts begins body ≡ true = digit_begins digits trailing spelled.all_digits spelled.some in
    let stop = (blank_stops trailing spelled.trailing_blank).0 in
    let read : digits_front 0 0 body ≡ Some (digits_value 10 digits, 0 + length digits, trailing) =
    digits_read 0 0 digits trailing spelled.all_digits stop (let few = spelled.few in omega arith) in
    let number : 0 + length digits ≡ length digits = omega arith in
    let some : nat_lt 0 (length digits) ≡ true = is_some (length digits) spelled.some in
    let ends : list_all is_blank trailing ≡ true = spelled.trailing_blank in
    let s = sign_read spelled.sign body (digits_value 10 digits) value first spelled.signed in
    ap count_of spelled.joined
    ∙ ap count_behind (skip_all spelled.leading (spelled.sign ++ body) spelled.leading_blank s.3)
    ∙ some_behind (spelled.sign ++ body) s.4
    ∙ ap count_signed s.1
    ∙ ap (λ o. option_and_then (λ d. counted s.0 d) o) (read ∙ ap (λ n. Some (digits_value 10 digits, n, trailing)) number)
    ∙ rw (some, ends) (ap (λ v. Some v) s.2)

counted_some : (negative : Bool) (digits : ℕ × ℕ × List ℕ) (value : ℤ) → counted negative digits ≡ Some value
    → (0 < digits.1) × AreBlanks digits.2 × (signed_value negative digits.0 ≡ value)
counted_some negative digits value is =
    elim (nat_lt 0 digits.1 && list_all is_blank digits.2) as
    (λ t. (nat_lt 0 digits.1 && list_all is_blank digits.2) ≡ t → ◌≡◌ {A = Option ℤ} (if t then Some (signed_value negative digits.0) else None) (Some value)
    → (0 < digits.1) × AreBlanks digits.2 × (signed_value negative digits.0 ≡ value)) [
      | true ↦ λ tests found.
          let both = and_parts (nat_lt 0 digits.1) (list_all is_blank digits.2) tests in
          (above digits.1 both.0, both.1, cc)
      | false ↦ λ tests found. cc
    ] refl is
  where
    above : (n : ℕ) → nat_lt 0 n ≡ true → 0 < n
    above n some = grind (arith, nat_tests)

-- the digits at the front are read, or they are too many
pub digits_cases : (text : List ℕ) (d : Digits text)
    → ((length d.digits ≤ 12) × (digits_front 0 0 text ≡ Some (digits_value 10 d.digits, length d.digits, d.rest))) ⊎ (digits_front 0 0 text ≡ None)
digits_cases text d =
    elim (cases_lt 12 (length d.digits)) [
      | inl many ↦ inr (ap (λ t. digits_front 0 0 t) d.joined ∙ digits_many 0 0 d.digits d.rest d.all (omega arith) (omega arith))
      | inr few ↦ inl (
        few,
        ap (λ t. digits_front 0 0 t) d.joined
            ∙ digits_read 0 0 d.digits d.rest d.all d.stops (omega arith)
            ∙ ap (λ n. Some (digits_value 10 d.digits, n, d.rest)) (let e : 0 + length d.digits ≡ length d.digits = omega arith in e),
      )
    ]

count_from : (leading text : List ℕ) (value : ℤ) → AreBlanks leading → count_behind text ≡ Some value → IsCount value (leading ++ text)
count_from leading [] value blank is = inl (subst AreBlanks (sym (append-nil leading)) blank, cc)
count_from leading (b ∷ bs) value blank is = found (digits_cases (sign_front (b ∷ bs)).1 digits)
  where
    signs : Sign (b ∷ bs)
    signs = sign_of (b ∷ bs)

    digits : Digits (sign_front (b ∷ bs)).1
    digits = digits_of (sign_front (b ∷ bs)).1

    whole : (d : Digits (sign_front (b ∷ bs)).1) (s : Sign (b ∷ bs)) → length d.digits ≤ 12
        → counted (sign_front (b ∷ bs)).0 (digits_value 10 d.digits, length d.digits, d.rest) ≡ Some value → IsCount value (leading ++ b ∷ bs)
    whole d s few answer =
        let at = counted_some (sign_front (b ∷ bs)).0 (digits_value 10 d.digits, length d.digits, d.rest) value answer in
        inr (record {
          leading = leading;
          sign = s.sign;
          digits = d.digits;
          trailing = d.rest;
          joined = ap (λ t. leading ++ t) (s.joined ∙ ap (λ t. s.sign ++ t) d.joined);
          leading_blank = blank;
          trailing_blank = at.1;
          all_digits = d.all;
          some = at.0;
          few = few;
          signed = subst (λ v. IsSigned s.sign (digits_value 10 d.digits) v) at.2 (s.signed (digits_value 10 d.digits));
        })

    answered : (o : Option (ℕ × ℕ × List ℕ)) → digits_front 0 0 (sign_front (b ∷ bs)).1 ≡ o
        → option_and_then (λ d. counted (sign_front (b ∷ bs)).0 d) o ≡ Some value
    answered o same = ap (λ x. option_and_then (λ d. counted (sign_front (b ∷ bs)).0 d) x) (sym same) ∙ is

    found : ((length digits.digits ≤ 12) × (digits_front 0 0 (sign_front (b ∷ bs)).1 ≡ Some (digits_value 10 digits.digits, length digits.digits, digits.rest)))
        ⊎ (digits_front 0 0 (sign_front (b ∷ bs)).1 ≡ None) → IsCount value (leading ++ b ∷ bs)
    found (inl (few, read)) = whole digits signs few (answered _ read)
    found (inr none) = let no_answer = answered None none in cc

pub count_sound : (value : ℤ) (field : List ℕ) → count_of field ≡ Some value → IsCount value field
count_sound value field is =
    let blanks = blanks_of field in
    subst (λ t. IsCount value t) (sym blanks.joined) (count_from blanks.blanks (skip_blanks field) value blanks.all is)

-- ---- fractions

weighted_past : (value count : ℕ) (digits rest : List ℕ) → AllDigits 10 digits → starts is_ascii_digit rest ≡ false
    → weighted 0 value count (digits ++ rest) ≡ (value, count + length digits, rest)
weighted_past value count [] [] all stops = ap (λ n. (value, n, [])) (let e : count ≡ count + 0 = omega arith in e)
weighted_past value count [] (b ∷ bs) all stops = rw stops (ap (λ n. (value, n, b ∷ bs)) (let e : count ≡ count + 0 = omega arith in e))
weighted_past value count (d ∷ ds) rest all stops =
    let digit : is_ascii_digit d ≡ true = is_digit d all.0 in
    let same : value + (d - 48) * 0 ≡ value = omega arith in
    let number : count + 1 + length ds ≡ count + suc (length ds) = omega arith in
    rw (digit, same) (weighted_past value (count + 1) ds rest all.1 stops ∙ ap (λ n. (value, n, rest)) number)

weighted_stop : (weight value count : ℕ) (rest : List ℕ) → starts is_ascii_digit rest ≡ false → weighted weight value count rest ≡ (value, count, rest)
weighted_stop weight value count [] stops = refl
weighted_stop weight value count (b ∷ bs) stops = rw stops refl

pub weighted_read : (digits rest : List ℕ) → AllDigits 10 digits → starts is_ascii_digit rest ≡ false
    → weighted 1000 0 0 (digits ++ rest) ≡ (ten_thousandths digits, length digits, rest)
weighted_read [] rest all stops = weighted_stop 1000 0 0 rest stops
weighted_read (a ∷ []) rest all stops =
    let is_a : is_ascii_digit a ≡ true = is_digit a all.0 in
    let va = (digit_is a is_a).1 in
    let same : 0 + (a - 48) * 1000 ≡ ten_thousandths (a ∷ []) = omega (arith, va) in
    rw is_a (weighted_stop 100 (0 + (a - 48) * 1000) 1 rest stops ∙ ap (λ v. (v, 1, rest)) same)
weighted_read (a ∷ b ∷ []) rest all stops =
    let is_a : is_ascii_digit a ≡ true = is_digit a all.0 in
    let is_b : is_ascii_digit b ≡ true = is_digit b all.1.0 in
    let va = (digit_is a is_a).1 in
    let vb = (digit_is b is_b).1 in
    let same : 0 + (a - 48) * 1000 + (b - 48) * 100 ≡ ten_thousandths (a ∷ b ∷ []) = omega (arith, va, vb) in
    rw (is_a, is_b) (weighted_stop 10 (0 + (a - 48) * 1000 + (b - 48) * 100) 2 rest stops ∙ ap (λ v. (v, 2, rest)) same)
weighted_read (a ∷ b ∷ c ∷ []) rest all stops =
    let is_a : is_ascii_digit a ≡ true = is_digit a all.0 in
    let is_b : is_ascii_digit b ≡ true = is_digit b all.1.0 in
    let is_c : is_ascii_digit c ≡ true = is_digit c all.1.1.0 in
    let va = (digit_is a is_a).1 in
    let vb = (digit_is b is_b).1 in
    let vc = (digit_is c is_c).1 in
    let same : 0 + (a - 48) * 1000 + (b - 48) * 100 + (c - 48) * 10 ≡ ten_thousandths (a ∷ b ∷ c ∷ []) = omega (arith, va, vb, vc) in
    rw (is_a, is_b, is_c) (weighted_stop 1 (0 + (a - 48) * 1000 + (b - 48) * 100 + (c - 48) * 10) 3 rest stops ∙ ap (λ v. (v, 3, rest)) same)
weighted_read (a ∷ b ∷ c ∷ d ∷ ds) rest all stops =
    let is_a : is_ascii_digit a ≡ true = is_digit a all.0 in
    let is_b : is_ascii_digit b ≡ true = is_digit b all.1.0 in
    let is_c : is_ascii_digit c ≡ true = is_digit c all.1.1.0 in
    let is_d : is_ascii_digit d ≡ true = is_digit d all.1.1.1.0 in
    let va = (digit_is a is_a).1 in
    let vb = (digit_is b is_b).1 in
    let vc = (digit_is c is_c).1 in
    let vd = (digit_is d is_d).1 in
    let same : 0 + (a - 48) * 1000 + (b - 48) * 100 + (c - 48) * 10 + (d - 48) * 1 ≡ ten_thousandths (a ∷ b ∷ c ∷ d ∷ ds) = omega (arith, va, vb, vc, vd) in
    let number : 4 + length ds ≡ length (a ∷ b ∷ c ∷ d ∷ ds) = omega arith in
    rw (is_a, is_b, is_c, is_d)
    (weighted_past (0 + (a - 48) * 1000 + (b - 48) * 100 + (c - 48) * 10 + (d - 48) * 1) 4 ds rest all.1.1.1.1 stops
    ∙ ap (λ v. (v, 4 + length ds, rest)) same ∙ ap (λ n. (ten_thousandths (a ∷ b ∷ c ∷ d ∷ ds), n, rest)) number)
