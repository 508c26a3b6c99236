-- Each part of a bracket is read to its end, whatever a bracket has behind it.
use Rattle.std.proofs.Common.{arith, ◌≡◌, ◌+◌, ◌-◌, ◌*◌, ◌==◌, ◌||◌, ℕ, Bool, true, false, List, [], ◌∷◌, ◌++◌, Option, Some, None, refl, sym, ap, ◌∙◌, inl, inr}
use Rattle.std.proofs.lemmas.Bool.{or_right, cond-true}
use Rattle.std.proofs.lemmas.Bool.Decides.{nat_tests}
use Rattle.std.specs.Prelude.{ℤ}
use Rattle.std.specs.Char.{is_ascii_digit}
use Rattle.std.specs.Str.Parse.{IsNumeral, digits_value}
use Rattle.mc_base.proofs.Digits.{digit_is, is_digit}
use Rattle.mc_base.specs.Digits.{starts_digit}
use Rattle.smi_lex.specs.Grammar.{held, SpellsAmount, SpellsCharge, SpellsChiral, SpellsClass, SpellsHydrogens, WritesDigits}
use Rattle.smi_lex.specs.Fronts.{amount, charge_front, chiral_front, class_front, class_number, hydrogens_front, number_front}
use Rattle.smi_lex.proofs.Numbers.{number_read}

-- the bytes that stand behind a charge, behind the hydrogens, behind the chirality and behind the symbol
abbrev pub behind_charge : ℕ → Bool
behind_charge b = b == 58 || b == 93

abbrev pub behind_hydrogens : ℕ → Bool
behind_hydrogens b = b == 43 || (b == 45 || behind_charge b)

abbrev pub behind_chiral : ℕ → Bool
behind_chiral b = b == 72 || behind_hydrogens b

abbrev pub behind_symbol_byte : ℕ → Bool
behind_symbol_byte b = b == 64 || behind_chiral b

-- the first byte is one of these
abbrev pub First : (ℕ → Bool) → List ℕ → Type 0
First is [] = ⊥
First is (b ∷ bs) = is b ≡ true

-- ---- classes

class_number_read : (digits rest : List ℕ) (value : ℕ) → IsNumeral 10 digits → value ≡ held (digits_value 10 digits)
    → class_number (digits ++ 93 ∷ rest) ≡ Some (value, 93 ∷ rest)
class_number_read [] rest value numeral is = absurd (omega (arith, numeral.0))
class_number_read (d ∷ ds) rest value numeral is =
    cond-true (starts_digit (d ∷ ds ++ 93 ∷ rest)) (Some (number_front 0 (d ∷ ds ++ 93 ∷ rest))) None (is_digit d numeral.1.0)
    ∙ ap Some (number_read 0 0 (d ∷ ds) (93 ∷ rest) refl numeral.1 refl)
    ∙ ap (λ x. Some (x, 93 ∷ rest)) (sym is)

pub class_read : (class : ℕ) (text rest : List ℕ) → SpellsClass class text → class_front (text ++ 93 ∷ rest) ≡ Some (class, 93 ∷ rest)
class_read class text rest (inl (empty, zero)) = rw (empty, zero) refl
class_read class text rest (inr (digits, joined, number)) = rw joined (class_number_read digits rest class number.0 number.1)

pub class_first : (class : ℕ) (text rest : List ℕ) → SpellsClass class text → First behind_charge (text ++ 93 ∷ rest)
class_first class text rest (inl (empty, zero)) = rw empty refl
class_first class text rest (inr (digits, joined, number)) = rw joined refl

-- ---- charges

not_sign : (b : ℕ) → behind_charge b ≡ true → ((b == 43) ≡ false) × ((b == 45) ≡ false) × (is_ascii_digit b ≡ false)
not_sign b is = (grind (arith, nat_tests), grind (arith, nat_tests), grind (arith, nat_tests))

digit_not : (d n : ℕ) → is_ascii_digit d ≡ true → is_ascii_digit n ≡ false → (d == n) ≡ false
digit_not d n is other = grind (arith, nat_tests)

-- an amount, without its sign
pub record Amount (sign number : ℕ) (text rest : List ℕ) : Type 0 where
  pub behind : List ℕ
  pub joined : text ≡ sign ∷ behind
  pub read : amount sign (behind ++ rest) ≡ (number, rest)

amount_digits : (sign number : ℕ) (digits : List ℕ) (b : ℕ) (bs : List ℕ) → is_ascii_digit sign ≡ false → is_ascii_digit b ≡ false
    → WritesDigits 1 2 number digits → amount sign (digits ++ b ∷ bs) ≡ (number, b ∷ bs)
amount_digits sign number [] b bs sign_not stop writes = absurd (let e = writes.enough in omega arith)
amount_digits sign number (d ∷ []) b bs sign_not stop writes =
    let digit : is_ascii_digit d ≡ true = is_digit d writes.numeral.1.0 in
    let other : (d == sign) ≡ false = digit_not d sign digit sign_not in
    let value : d - 48 ≡ number = omega (arith, writes.value, (digit_is d digit).1) in
    rw (other, digit, stop) (ap (λ x. (x, b ∷ bs)) value)
amount_digits sign number (d ∷ e ∷ []) b bs sign_not stop writes =
    let digit : is_ascii_digit d ≡ true = is_digit d writes.numeral.1.0 in
    let digit_e : is_ascii_digit e ≡ true = is_digit e writes.numeral.1.1.0 in
    let other : (d == sign) ≡ false = digit_not d sign digit sign_not in
    let value : (d - 48) * 10 + (e - 48) ≡ number = omega (arith, writes.value, (digit_is d digit).1, (digit_is e digit_e).1) in
    rw (other, digit, digit_e) (ap (λ x. (x, b ∷ bs)) value)
amount_digits sign number (d ∷ e ∷ f ∷ fs) b bs sign_not stop writes = absurd (let few = writes.few in omega arith)

amount_read : (sign number : ℕ) (text : List ℕ) (b : ℕ) (bs : List ℕ) → is_ascii_digit sign ≡ false → (b == sign) ≡ false → is_ascii_digit b ≡ false
    → SpellsAmount (sign ∷ []) number text → Amount sign number text (b ∷ bs)
amount_read sign number text b bs sign_not other stop (inl (alone, one)) =
    record { behind = []; joined = alone; read = rw (other, stop, one) refl }
amount_read sign number text b bs sign_not other stop (inr (inl (twice, two))) =
    record { behind = sign ∷ []; joined = twice; read = cond-true (sign == sign) (2, b ∷ bs) _ (grind (arith, nat_tests)) ∙ ap (λ x. (x, b ∷ bs)) (sym two) }
amount_read sign number text b bs sign_not other stop (inr (inr (digits, joined, writes))) =
    record { behind = digits; joined = joined; read = amount_digits sign number digits b bs sign_not stop writes }

pub charge_read : (charge : ℤ) (text rest : List ℕ) → First behind_charge rest → SpellsCharge charge text → charge_front (text ++ rest) ≡ (charge, rest)
charge_read charge text [] first spelled = absurd first
charge_read charge text (b ∷ bs) first (inl (empty, zero)) =
    let n = not_sign b first in let plus = n.0 in let minus = n.1 in rw (empty, zero, plus, minus) refl
charge_read charge text (b ∷ bs) first (inr (inl (number, is, spelled))) =
    let n = not_sign b first in
    let a = amount_read 43 number text b bs refl n.0 n.2 spelled in
    rw (a.joined, is, a.read) refl
charge_read charge text (b ∷ bs) first (inr (inr (number, is, spelled))) =
    let n = not_sign b first in
    let a = amount_read 45 number text b bs refl n.1 n.2 spelled in
    rw (a.joined, is, a.read) refl

amount_first : (sign number : ℕ) (text rest : List ℕ) → SpellsAmount (sign ∷ []) number text → (behind : List ℕ) × (text ++ rest ≡ sign ∷ behind)
amount_first sign number text rest (inl (alone, one)) = (rest, ap (λ t. t ++ rest) alone)
amount_first sign number text rest (inr (inl (twice, two))) = (sign ∷ rest, ap (λ t. t ++ rest) twice)
amount_first sign number text rest (inr (inr (digits, joined, writes))) = (digits ++ rest, ap (λ t. t ++ rest) joined)

weaker : (is also : ℕ → Bool) (rest : List ℕ) → ((b : ℕ) → is b ≡ true → also b ≡ true) → First is rest → First also rest
weaker is also [] each first = first
weaker is also (b ∷ bs) each first = each b first

pub charge_first : (charge : ℤ) (text rest : List ℕ) → First behind_charge rest → SpellsCharge charge text → First behind_hydrogens (text ++ rest)
charge_first charge text rest first (inl (empty, zero)) =
    rw empty (weaker behind_charge behind_hydrogens rest (λ b is. or_right (b == 43) _ (or_right (b == 45) _ is)) first)
charge_first charge text rest first (inr (inl (number, is, spelled))) =
    let at = amount_first 43 number text rest spelled in rw at.1 refl
charge_first charge text rest first (inr (inr (number, is, spelled))) =
    let at = amount_first 45 number text rest spelled in rw at.1 refl

-- ---- hydrogens

not_count : (b : ℕ) → behind_hydrogens b ≡ true → ((b == 72) ≡ false) × (is_ascii_digit b ≡ false)
not_count b is = (grind (arith, nat_tests), grind (arith, nat_tests))

hydrogen_digits : (number : ℕ) (digits : List ℕ) (b : ℕ) (bs : List ℕ) → WritesDigits 1 1 number digits
    → hydrogens_front (72 ∷ digits ++ b ∷ bs) ≡ (number, b ∷ bs)
hydrogen_digits number [] b bs writes = absurd (let e = writes.enough in omega arith)
hydrogen_digits number (d ∷ []) b bs writes =
    let digit : is_ascii_digit d ≡ true = is_digit d writes.numeral.1.0 in
    let value : d - 48 ≡ number = omega (arith, writes.value, (digit_is d digit).1) in
    rw digit (ap (λ x. (x, b ∷ bs)) value)
hydrogen_digits number (d ∷ e ∷ es) b bs writes = absurd (let few = writes.few in omega arith)

pub hydrogens_read : (number : ℕ) (text rest : List ℕ) → First behind_hydrogens rest → SpellsHydrogens number text
    → hydrogens_front (text ++ rest) ≡ (number, rest)
hydrogens_read number text [] first spelled = absurd first
hydrogens_read number text (b ∷ bs) first (inl (empty, zero)) =
    let n = not_count b first in let other = n.0 in rw (empty, zero, other) refl
hydrogens_read number text (b ∷ bs) first (inr (inl (alone, one))) =
    let n = not_count b first in let stop = n.1 in rw (alone, one, stop) refl
hydrogens_read number text (b ∷ bs) first (inr (inr (digits, joined, writes))) =
    rw joined (hydrogen_digits number digits b bs writes)

pub hydrogens_first : (number : ℕ) (text rest : List ℕ) → First behind_hydrogens rest → SpellsHydrogens number text → First behind_chiral (text ++ rest)
hydrogens_first number text rest first (inl (empty, zero)) =
    rw empty (weaker behind_hydrogens behind_chiral rest (λ b is. or_right (b == 72) _ is) first)
hydrogens_first number text rest first (inr (inl (alone, one))) = rw alone refl
hydrogens_first number text rest first (inr (inr (digits, joined, writes))) = rw joined refl

-- ---- chirality

not_class : (b : ℕ) → behind_chiral b ≡ true → ((b == 64) ≡ false) × ((b == 84) ≡ false)
not_class b is = (grind (arith, nat_tests), grind (arith, nat_tests))

pub chiral_read : (chiral : Option Bool) (text rest : List ℕ) → First behind_chiral rest → SpellsChiral chiral text
    → chiral_front (text ++ rest) ≡ (chiral, rest)
chiral_read chiral text [] first spelled = absurd first
chiral_read None text (b ∷ bs) first empty = let n = not_class b first in let other = n.0 in rw (empty, other) refl
chiral_read (Some true) text (b ∷ bs) first (inl at) =
    let n = not_class b first in let other = n.0 in let letter = n.1 in rw (at, other, letter) refl
chiral_read (Some true) text (b ∷ bs) first (inr th1) = rw th1 refl
chiral_read (Some false) text (b ∷ bs) first (inl twice) = rw twice refl
chiral_read (Some false) text (b ∷ bs) first (inr th2) = rw th2 refl

pub chiral_first : (chiral : Option Bool) (text rest : List ℕ) → First behind_chiral rest → SpellsChiral chiral text
    → First behind_symbol_byte (text ++ rest)
chiral_first None text rest first empty =
    rw empty (weaker behind_chiral behind_symbol_byte rest (λ b is. or_right (b == 64) _ is) first)
chiral_first (Some true) text rest first (inl at) = rw at refl
chiral_first (Some true) text rest first (inr th1) = rw th1 refl
chiral_first (Some false) text rest first (inl twice) = rw twice refl
chiral_first (Some false) text rest first (inr th2) = rw th2 refl
