-- The numbers of words: digits of any number, and a sign only where a rule gives one (CTfile formats, V3000 connection
-- table). A number above 2^32 stands as 2^32, which is beyond every index and every limit (this project's own).
use Rattle.std.specs.Prelude.{ℕ, ◌+◌, ◌-◌, ◌*◌, ◌==◌, Bool, nat_le, nat_lt, if◌then◌else◌, List, [], ◌∷◌, length, min, Option, Some, None, ℤ, pos, negsuc, int_le}
use Rattle.std.specs.Char.{is_ascii_digit}
use Rattle.mc_digits.specs.Fronts.{sign_front, signed_value}
use Rattle.ct_v3000.specs.declared.number.Grammar.{Grammar}
use Rattle.ct_v3000.specs.declared.number.Grammar.TheVariants.{Any, Unsigned, Signed, Valence, Configuration}

abbrev pub held : ℕ → ℕ
held n = min n 4294967296

-- the number of digits, behind those whose value this is
abbrev pub digits_from : ℕ → List ℕ → Option ℕ
digits_from value [] = Some value
digits_from value (b ∷ text) = if is_ascii_digit b then digits_from (held (value * 10 + (b - 48))) text else None

-- digits alone, and at least one
unfoldable pub unsigned_of : List ℕ → Option ℕ
unsigned_of text = if nat_lt 0 (length text) then digits_from 0 text else None

abbrev pub with_sign : Bool → Option ℕ → Option ℤ
with_sign negative None = None
with_sign negative (Some n) = Some (signed_value negative n)

-- a sign or none, and digits
unfoldable pub signed_of : List ℕ → Option ℤ
signed_of text = with_sign (sign_front text).0 (unsigned_of (sign_front text).1)

abbrev pub as_number : Option ℕ → Option ℤ
as_number None = None
as_number (Some n) = Some (pos n)

abbrev pub at_most : ℕ → Option ℕ → Option ℤ
at_most most None = None
at_most most (Some n) = if nat_le n most then Some (pos n) else None

-- behind a minus only 1 may stand
abbrev pub minus_one : Option ℕ → Option ℤ
minus_one None = None
minus_one (Some n) = if n == 1 then Some (negsuc 0) else None

abbrev pub valence_of : List ℕ → Option ℤ
valence_of [] = None
valence_of (b ∷ text) = if b == 45 then minus_one (unsigned_of text) else at_most 14 (unsigned_of (b ∷ text))

-- a value as its grammar reads it; of a value that may be anything nothing is read
unfoldable pub value_of : Grammar → List ℕ → Option ℤ
value_of Any text = Some (pos 0)
value_of Unsigned text = as_number (unsigned_of text)
value_of Signed text = signed_of text
value_of Valence text = valence_of text
value_of Configuration text = at_most 3 (unsigned_of text)

abbrev pub or_none : Option ℕ → ℕ
or_none None = 0
or_none (Some n) = n

-- ---- numbers that a table can hold; others stand as the greatest or the least of them

abbrev pub held_amount : ℕ → ℕ
held_amount n = min n 4294967295

abbrev pub held_charge : ℤ → ℤ
held_charge n = if int_le n (pos 2147483647) then (if int_le (negsuc 2147483647) n then n else negsuc 2147483647) else pos 2147483647
