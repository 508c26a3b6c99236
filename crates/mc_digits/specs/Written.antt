-- The numbers of a CTfile as they are written (this project's own).
use Rattle.std.specs.Prelude.{ℕ, ◌+◌, ◌-◌, ◌/◌, ◌%◌, List, [], ◌∷◌, ◌++◌, length, replicate, codes, ℤ, pos, negsuc, unsigned_abs, decimal}

-- blanks before a text, up to this many bytes in all
abbrev pub right_aligned : ℕ → List ℕ → List ℕ
right_aligned width text = replicate (width - length text) 32 ++ text

-- the four digits of a number below 10,000
abbrev pub four_digits : ℕ → List ℕ
four_digits n = (48 + n / 1000) ∷ (48 + n / 100 % 10) ∷ (48 + n / 10 % 10) ∷ (48 + n % 10) ∷ []

-- a minus before a negative number
abbrev pub sign_text : ℤ → List ℕ
sign_text (pos n) = []
sign_text (negsuc n) = codes "-"

-- a number of ten-thousandths without its sign: the whole part, a point and four digits
abbrev pub fixed_amount : ℕ → List ℕ
fixed_amount n = decimal (n / 10000) ++ (codes "." ++ four_digits (n % 10000))

abbrev pub fixed_text : ℤ → List ℕ
fixed_text n = sign_text n ++ fixed_amount (unsigned_abs n)
