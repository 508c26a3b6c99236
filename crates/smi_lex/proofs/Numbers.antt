-- What a run of digits at the front writes.
use Rattle.std.proofs.Common.{arith, ◌≡◌, ◌+◌, ◌-◌, ◌*◌, ℕ, true, false, List, [], ◌∷◌, ◌++◌, refl, ap, ◌∙◌, if◌then◌else◌}
use Rattle.std.specs.Char.{digit_value, is_ascii_digit}
use Rattle.std.specs.Str.Parse.{AllDigits, digits_value_after}
use Rattle.mc_base.proofs.Digits.{digit_is, is_digit}
use Rattle.mc_base.specs.Digits.{starts_digit}
use Rattle.smi_lex.specs.Grammar.{held}
use Rattle.smi_lex.specs.Fronts.{number_front}

-- a value that can't be held doesn't come back
pub held_step : (n held_n d : ℕ) → held_n ≡ held n → held (held_n * 10 + d) ≡ held (n * 10 + d)
held_step n held_n d is = omega arith

-- the digits at the front, and what they write behind those of n
pub record Run (n value : ℕ) (text rest : List ℕ) : Type 0 where
  pub digits : List ℕ
  pub joined : text ≡ digits ++ rest
  pub all : AllDigits 10 digits
  pub writes : value ≡ held (digits_value_after 10 n digits)

run_step : (n v b : ℕ) (bs : List ℕ) → is_ascii_digit b ≡ true
    → Run (n * 10 + digit_value b) (number_front v bs).0 bs (number_front v bs).1
    → Run n (number_front v bs).0 (b ∷ bs) (number_front v bs).1
run_step n v b bs is run = record {
  digits = b ∷ run.digits;
  joined = ap (λ t. b ∷ t) run.joined;
  all = ((digit_is b is).0, run.all);
  writes = run.writes;
}

pub number_run : (n v : ℕ) (text : List ℕ) → v ≡ held n → Run n (number_front v text).0 text (number_front v text).1
number_run n v [] is = record { digits = []; joined = refl; all = tt; writes = is }
number_run n v (b ∷ bs) is =
    elim (is_ascii_digit b) as
    (λ t. is_ascii_digit b ≡ t →
    Run n (if t then number_front (held (v * 10 + (b - 48))) bs else (v, b ∷ bs)).0 (b ∷ bs) (if t then number_front (held (v * 10 + (b - 48))) bs else (v, b ∷ bs)).1) [
      | true ↦ λ digit.
          let value : b - 48 ≡ digit_value b = (digit_is b digit).1 in
          let step : held (v * 10 + (b - 48)) ≡ held (n * 10 + digit_value b) =
          held_step n v (b - 48) is ∙ ap (λ d. held (n * 10 + d)) value in
          run_step n (held (v * 10 + (b - 48))) b bs digit (number_run (n * 10 + digit_value b) (held (v * 10 + (b - 48))) bs step)
      | false ↦ λ other. record { digits = []; joined = refl; all = tt; writes = is }
    ] refl

-- digits with no digit behind them are read to their end
pub number_read : (n v : ℕ) (digits rest : List ℕ) → v ≡ held n → AllDigits 10 digits → starts_digit rest ≡ false
    → number_front v (digits ++ rest) ≡ (held (digits_value_after 10 n digits), rest)
number_read n v [] [] is all stop = ap (λ x. (x, [])) is
number_read n v [] (b ∷ bs) is all stop = rw stop (ap (λ x. (x, b ∷ bs)) is)
number_read n v (b ∷ bs) rest is all stop =
    let digit : is_ascii_digit b ≡ true = is_digit b all.0 in
    let value : b - 48 ≡ digit_value b = (digit_is b digit).1 in
    let step : held (v * 10 + (b - 48)) ≡ held (n * 10 + digit_value b) =
    held_step n v (b - 48) is ∙ ap (λ d. held (n * 10 + d)) value in
    rw digit (number_read (n * 10 + digit_value b) (held (v * 10 + (b - 48))) bs rest step all.1 stop)
