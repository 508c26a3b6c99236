-- What a reader of fields finds, as it computes. `fields_law` says that it is the grammar.
use Rattle.std.specs.Prelude.{ℕ, ◌+◌, ◌-◌, ◌*◌, ◌/◌, ◌==◌, ◌&&◌, ◌||◌, nat_lt, Bool, true, false, if◌then◌else◌, List, [], ◌∷◌, Option, Some, None, option_and_then, ℤ, pos, neg_ℤ}
use Rattle.std.specs.List.{list_all}
use Rattle.std.specs.Char.{is_ascii_digit}
use Rattle.mc_digits.specs.Fields.{is_blank, most_digits}

abbrev pub skip_blanks : List ℕ → List ℕ
skip_blanks [] = []
skip_blanks (b ∷ bs) = if is_blank b then skip_blanks bs else b ∷ bs

-- whether a minus stands at the front, and what is behind the sign
abbrev pub sign_front : List ℕ → Bool × List ℕ
sign_front [] = (false, [])
sign_front (b ∷ bs) = if b == 45 then (true, bs) else if b == 43 then (false, bs) else (false, b ∷ bs)

abbrev pub signed_value : Bool → ℕ → ℤ
signed_value true amount = neg_ℤ (pos amount)
signed_value false amount = pos amount

-- the digits at the front, from their number and value so far: value, number, and what is behind
-- them; none where they are too many
abbrev pub digits_front : ℕ → ℕ → List ℕ → Option (ℕ × ℕ × List ℕ)
digits_front count value [] = Some (value, count, [])
digits_front count value (b ∷ bs) =
    if is_ascii_digit b then
    (if count == most_digits then None else digits_front (count + 1) (value * 10 + (b - 48)) bs)
    else Some (value, count, b ∷ bs)

-- a whole number with this sign, where there is one
abbrev pub counted : Bool → ℕ × ℕ × List ℕ → Option ℤ
counted negative digits =
    if nat_lt 0 digits.1 && list_all is_blank digits.2 then Some (signed_value negative digits.0) else None

abbrev pub count_signed : Bool × List ℕ → Option ℤ
count_signed sign = option_and_then (λ digits. counted sign.0 digits) (digits_front 0 0 sign.1)

abbrev pub count_behind : List ℕ → Option ℤ
count_behind [] = Some (pos 0)
count_behind (b ∷ bs) = count_signed (sign_front (b ∷ bs))

-- the count that a field writes
abbrev pub count_of : List ℕ → Option ℤ
count_of field = count_behind (skip_blanks field)

-- the digits behind a point, from the weight of the next one: value, number, and what is behind them
abbrev pub weighted : ℕ → ℕ → ℕ → List ℕ → ℕ × ℕ × List ℕ
weighted weight value count [] = (value, count, [])
weighted weight value count (b ∷ bs) =
    if is_ascii_digit b then weighted (weight / 10) (value + (b - 48) * weight) (count + 1) bs else (value, count, b ∷ bs)

abbrev pub fraction_front : List ℕ → ℕ × ℕ × List ℕ
fraction_front [] = (0, 0, [])
fraction_front (b ∷ bs) = if b == 46 then weighted 1000 0 0 bs else (0, 0, b ∷ bs)

abbrev pub pointed : Bool → ℕ × ℕ × List ℕ → ℕ × ℕ × List ℕ → Option ℤ
pointed negative whole fraction =
    if (nat_lt 0 whole.1 || nat_lt 0 fraction.1) && list_all is_blank fraction.2 then Some (signed_value negative (whole.0 * 10000 + fraction.0)) else None

abbrev pub fixed_signed : Bool × List ℕ → Option ℤ
fixed_signed sign = option_and_then (λ whole. pointed sign.0 whole (fraction_front whole.2)) (digits_front 0 0 sign.1)

abbrev pub fixed_behind : List ℕ → Option ℤ
fixed_behind [] = Some (pos 0)
fixed_behind (b ∷ bs) = fixed_signed (sign_front (b ∷ bs))

-- the number of ten-thousandths that a field writes
abbrev pub fixed_of : List ℕ → Option ℤ
fixed_of field = fixed_behind (skip_blanks field)
