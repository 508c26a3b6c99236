-- The numbers of a field of a CTfile: its grammar and its values (this project's own).
use Rattle.std.specs.Prelude.{◌≡◌, ℕ, ◌+◌, ◌*◌, ◌<◌, ◌≤◌, ◌==◌, ◌||◌, ◌⊎◌, Bool, List, [], ◌++◌, length, take, codes, ℤ, pos, neg_ℤ, IsTrue}
use Rattle.std.specs.List.{list_all}
use Rattle.std.specs.Str.Parse.{AllDigits, digits_value}

-- a space or a tab
abbrev pub is_blank : ℕ → Bool
is_blank b = b == 32 || b == 9

abbrev pub AreBlanks : List ℕ → Type 0
AreBlanks text = IsTrue (list_all is_blank text)

-- no sign or `+` is positive, `-` negative
abbrev pub IsSigned : List ℕ → ℕ → ℤ → Type 0
IsSigned sign amount value =
    (((sign ≡ []) ⊎ (sign ≡ codes "+")) × (value ≡ pos amount)) ⊎ ((sign ≡ codes "-") × (value ≡ neg_ℤ (pos amount)))

-- the most digits before a point
abbrev pub most_digits : ℕ
most_digits = 12

-- blanks, a sign or none, 1 to 12 digits, blanks
pub record SpellsCount (value : ℤ) (field : List ℕ) : Type 0 where
  pub leading : List ℕ
  pub sign : List ℕ
  pub digits : List ℕ
  pub trailing : List ℕ
  pub joined : field ≡ leading ++ (sign ++ (digits ++ trailing))
  pub leading_blank : AreBlanks leading
  pub trailing_blank : AreBlanks trailing
  pub all_digits : AllDigits 10 digits
  pub some : 0 < length digits
  pub few : length digits ≤ most_digits
  pub signed : IsSigned sign (digits_value 10 digits) value

-- a field of blanks is 0
abbrev pub IsCount : ℤ → List ℕ → Type 0
IsCount value field = (AreBlanks field × (value ≡ pos 0)) ⊎ SpellsCount value field

-- the ten-thousandths that digits behind a point write; further digits are cut
abbrev pub ten_thousandths : List ℕ → ℕ
ten_thousandths digits = digits_value 10 (take 4 (digits ++ codes "0000"))

-- nothing, or a point and digits
abbrev pub IsFraction : List ℕ → List ℕ → Type 0
IsFraction text digits = ((text ≡ []) × (digits ≡ [])) ⊎ (text ≡ codes "." ++ digits)

-- blanks, a sign or none, at most 12 digits, a point and digits or none, one digit at least, blanks
pub record SpellsFixed (value : ℤ) (field : List ℕ) : Type 0 where
  pub leading : List ℕ
  pub sign : List ℕ
  pub whole : List ℕ
  pub fraction : List ℕ
  pub digits : List ℕ
  pub trailing : List ℕ
  pub joined : field ≡ leading ++ (sign ++ (whole ++ (fraction ++ trailing)))
  pub leading_blank : AreBlanks leading
  pub trailing_blank : AreBlanks trailing
  pub whole_digits : AllDigits 10 whole
  pub fraction_digits : AllDigits 10 digits
  pub pointed : IsFraction fraction digits
  pub some : 0 < length whole + length digits
  pub few : length whole ≤ most_digits
  pub signed : IsSigned sign (digits_value 10 whole * 10000 + ten_thousandths digits) value

-- a field of blanks is 0; the value is in ten-thousandths
abbrev pub IsFixed : ℤ → List ℕ → Type 0
IsFixed value field = (AreBlanks field × (value ≡ pos 0)) ⊎ SpellsFixed value field
