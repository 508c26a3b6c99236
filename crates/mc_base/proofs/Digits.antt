-- A digit and its value.
use Rattle.std.proofs.Common.{arith, ◌≡◌, ◌<◌, ◌≤◌, ◌+◌, ◌-◌, ℕ, true}
use Rattle.std.proofs.lemmas.Bool.Decides.{nat_tests}
use Rattle.std.proofs.lemmas.Str.{digit_value_digit}
use Rattle.std.specs.Char.{digit_value, is_ascii_digit}

pub digit_is : (b : ℕ) → is_ascii_digit b ≡ true → (digit_value b < 10) × (b - 48 ≡ digit_value b)
digit_is b is =
    let range : (48 ≤ b) × (b ≤ 57) = grind arith in
    let value : digit_value b + 48 ≡ b = digit_value_digit b range in
    (omega arith, omega arith)

pub is_digit : (b : ℕ) → digit_value b < 10 → is_ascii_digit b ≡ true
is_digit b small = grind (arith, nat_tests)
