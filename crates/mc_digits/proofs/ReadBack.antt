-- What is written is read back.
use Rattle.std.proofs.Common.{arith, ◌≡◌, ◌<◌, ◌≤◌, ◌+◌, ◌-◌, ◌*◌, ◌/◌, ◌%◌, ◌^◌, ℕ, zero, suc, [], ◌++◌, length, Some, refl, sym, ap, subst, ◌∙◌, inl, inr}
use Rattle.std.proofs.lemmas.Fmt.{decimal_is_IsNumeral, length-decimal-le}
use Rattle.std.proofs.lemmas.List.{append-nil}
use Rattle.std.proofs.lemmas.Str.{digit_value_digit}
use Rattle.std.specs.Prelude.{ℤ, pos, negsuc, codes, replicate, unsigned_abs}
use Rattle.std.specs.Char.{digit_value}
use Rattle.std.specs.Fmt.{decimal, signed_decimal}
use Rattle.std.specs.Str.Parse.{AllDigits, digits_value}
use Rattle.mc_digits.specs.Fields.{AreBlanks, IsSigned, ten_thousandths}
use Rattle.mc_digits.specs.Fronts.{count_of, fixed_of}
use Rattle.mc_digits.specs.Written.{fixed_text, four_digits, right_aligned, sign_text}
use Rattle.mc_digits.proofs.Fields.{count_read}
use Rattle.mc_digits.proofs.FixedFields.{fixed_read}

spaces_blank : (n : ℕ) → AreBlanks (replicate n 32)
spaces_blank zero = refl
spaces_blank (suc n) = spaces_blank n

-- a number's sign and its amount
signed_so : (n : ℤ) → IsSigned (sign_text n) (unsigned_abs n) n
signed_so (pos n) = inl (inl refl, refl)
signed_so (negsuc n) = inr (refl, refl)

signed_parts : (n : ℤ) → signed_decimal n ≡ sign_text n ++ decimal (unsigned_abs n)
signed_parts (pos n) = refl
signed_parts (negsuc n) = refl

pub count_back : (n : ℤ) (width : ℕ) → unsigned_abs n < 10 ^ 12 → count_of (right_aligned width (signed_decimal n)) ≡ Some n
count_back n width small =
    let amount = unsigned_abs n in
    let fits : unsigned_abs n < 2 ^ 64 = omega arith in
    let numeral = decimal_is_IsNumeral (unsigned_abs n) fits in
    let twelve : 0 < 12 = omega arith in
    let few = length-decimal-le 12 (unsigned_abs n) twelve small fits in
    count_read n (right_aligned width (signed_decimal n)) (inr (record {
      leading = replicate (width - length (signed_decimal n)) 32;
      sign = sign_text n;
      digits = decimal amount;
      trailing = [];
      joined = ap (λ t. replicate (width - length (signed_decimal n)) 32 ++ t)
          (signed_parts n ∙ ap (λ t. sign_text n ++ t) (sym (append-nil (decimal amount))));
      leading_blank = spaces_blank (width - length (signed_decimal n));
      trailing_blank = refl;
      all_digits = numeral.0.1;
      some = numeral.0.0;
      few = few;
      signed = subst (λ k. IsSigned (sign_text n) k n) (sym numeral.1) (signed_so n);
    }))

-- ---- four digits

digit_so : (k : ℕ) → k < 10 → digit_value (48 + k) ≡ k
digit_so k small =
    let range : (48 ≤ 48 + k) × (48 + k ≤ 57) = (omega arith, omega arith) in
    let value : digit_value (48 + k) + 48 ≡ 48 + k = digit_value_digit (48 + k) range in
    omega arith

four_values : (n : ℕ) → n < 10000
    → (digit_value (48 + n / 1000) ≡ n / 1000) × (digit_value (48 + n / 100 % 10) ≡ n / 100 % 10) × (digit_value (48 + n / 10 % 10) ≡ n / 10 % 10) × (digit_value (48 + n % 10) ≡ n % 10)
four_values n small = (digit_so (n / 1000) (omega arith), digit_so (n / 100 % 10) (omega arith), digit_so (n / 10 % 10) (omega arith), digit_so (n % 10) (omega arith))

four_are_digits : (n : ℕ) → n < 10000 → AllDigits 10 (four_digits n)
four_are_digits n small =
    let value = four_values n small in
    let a : n / 1000 < 10 = omega arith in
    let b : n / 100 % 10 < 10 = omega arith in
    let c : n / 10 % 10 < 10 = omega arith in
    let d : n % 10 < 10 = omega arith in
    (subst (λ k. k < 10) (sym value.0) a, (subst (λ k. k < 10) (sym value.1) b, (subst (λ k. k < 10) (sym value.2) c, (subst (λ k. k < 10) (sym value.3) d, tt))))

four_sum : (n : ℕ) → (((0 * 10 + n / 1000) * 10 + n / 100 % 10) * 10 + n / 10 % 10) * 10 + n % 10 ≡ n
four_sum n = omega arith

four_value : (n : ℕ) → n < 10000 → ten_thousandths (four_digits n) ≡ n
four_value n small =
    let value = four_values n small in
    ap (λ x. ((((0 * 10 + x) * 10 + digit_value (48 + n / 100 % 10)) * 10 + digit_value (48 + n / 10 % 10)) * 10 + digit_value (48 + n % 10))) value.0
    ∙ ap (λ x. ((((0 * 10 + n / 1000) * 10 + x) * 10 + digit_value (48 + n / 10 % 10)) * 10 + digit_value (48 + n % 10))) value.1
    ∙ ap (λ x. ((((0 * 10 + n / 1000) * 10 + n / 100 % 10) * 10 + x) * 10 + digit_value (48 + n % 10))) value.2
    ∙ ap (λ x. ((((0 * 10 + n / 1000) * 10 + n / 100 % 10) * 10 + n / 10 % 10) * 10 + x)) value.3
    ∙ four_sum n

pub fixed_back : (n : ℤ) (width : ℕ) → unsigned_abs n < 10 ^ 16 → fixed_of (right_aligned width (fixed_text n)) ≡ Some n
fixed_back n width small =
    let amount = unsigned_abs n in
    let whole_small : unsigned_abs n / 10000 < 10 ^ 12 = omega arith in
    let part_small : unsigned_abs n % 10000 < 10000 = omega arith in
    let fits : unsigned_abs n / 10000 < 2 ^ 64 = omega arith in
    let numeral = decimal_is_IsNumeral (unsigned_abs n / 10000) fits in
    let twelve : 0 < 12 = omega arith in
    let few = length-decimal-le 12 (unsigned_abs n / 10000) twelve whole_small fits in
    let value : digits_value 10 (decimal (unsigned_abs n / 10000)) * 10000 + ten_thousandths (four_digits (unsigned_abs n % 10000)) ≡ unsigned_abs n =
    ap (λ k. k * 10000 + ten_thousandths (four_digits (unsigned_abs n % 10000))) numeral.1
    ∙ ap (λ k. unsigned_abs n / 10000 * 10000 + k) (four_value (unsigned_abs n % 10000) part_small)
    ∙ whole_and_part (unsigned_abs n) in
    fixed_read n (right_aligned width (fixed_text n)) (inr (record {
      leading = replicate (width - length (fixed_text n)) 32;
      sign = sign_text n;
      whole = decimal (amount / 10000);
      fraction = codes "." ++ four_digits (amount % 10000);
      digits = four_digits (amount % 10000);
      trailing = [];
      joined = ap (λ t. replicate (width - length (fixed_text n)) 32 ++ (sign_text n ++ (decimal (amount / 10000) ++ t)))
          (sym (append-nil (codes "." ++ four_digits (amount % 10000))));
      leading_blank = spaces_blank (width - length (fixed_text n));
      trailing_blank = refl;
      whole_digits = numeral.0.1;
      fraction_digits = four_are_digits (amount % 10000) part_small;
      pointed = inr refl;
      some = some_digit (length (decimal (amount / 10000))) numeral.0.0;
      few = few;
      signed = subst (λ k. IsSigned (sign_text n) k n) (sym value) (signed_so n);
    }))
  where
    whole_and_part : (m : ℕ) → m / 10000 * 10000 + m % 10000 ≡ m
    whole_and_part m = omega arith

    some_digit : (k : ℕ) → 0 < k → 0 < k + 4
    some_digit k some = omega arith
