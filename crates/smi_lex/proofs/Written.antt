-- A written text is read back: the token at its front, and then the tokens of what is behind it.
use Rattle.std.proofs.Common.{arith, ◌≡◌, ◌<◌, ◌≤◌, ◌+◌, ◌/◌, ◌%◌, ◌^◌, ℕ, false, List, [], ◌∷◌, ◌++◌, length, Some, refl, sym, ap, ◌∙◌, inl, inr, length-append}
use Rattle.std.proofs.lemmas.Fmt.{decimal_is_IsNumeral, decimal_nonempty, decimal_step, length-decimal-le}
use Rattle.std.specs.Prelude.{codes}
use Rattle.std.specs.Fmt.{decimal}
use Rattle.std.specs.Str.Parse.{IsNumeral, digits_value}
use Rattle.smi_lex.specs.declared.token.TokenKind.{TokenKind}
use Rattle.smi_lex.specs.Grammar.{held, Spells, SpellsAmount, SpellsClass, SpellsHydrogens, SpellsIsotope, SpellsRing, WritesDigits}
use Rattle.smi_lex.specs.Fronts.{token_front}
use Rattle.smi_lex.specs.Tokens.{kinds, unread}
use Rattle.smi_lex.proofs.Steps.{kinds_step, unread_step}
use Rattle.smi_lex.proofs.TokenRead.{Found, next_is, token_read}

-- what is behind a token doesn't make a longer one of it: behind a bare C stands no l, behind a bare B no r
abbrev pub EndsBefore : List ℕ → List ℕ → Type 0
EndsBefore text rest =
    (text ≡ codes "C" → next_is 108 rest ≡ false) × (text ≡ codes "B" → next_is 114 rest ≡ false)

-- the token that is spelled is the one that is found
pub token_written : (kind : TokenKind) (text rest : List ℕ) → Spells kind text → EndsBefore text rest
    → token_front (text ++ rest) ≡ Some (kind, rest)
token_written kind text rest spelled ends = found (token_read kind text rest spelled)
  where
    found : Found kind text rest → token_front (text ++ rest) ≡ Some (kind, rest)
    found (inl read) = read
    found (inr (other, behind, read, less, inl (carbon, goes_on))) = let stops = ends.0 carbon in cc
    found (inr (other, behind, read, less, inr (boron, goes_on))) = let stops = ends.1 boron in cc

-- a text with a spelled token at its front
pub kinds_written : (kind : TokenKind) (text rest : List ℕ) → Spells kind text → EndsBefore text rest
    → kinds (text ++ rest) ≡ kind ∷ kinds rest
kinds_written kind text rest spelled ends = kinds_step (text ++ rest) kind rest (token_written kind text rest spelled ends)

pub unread_written : (kind : TokenKind) (text rest : List ℕ) → Spells kind text → EndsBefore text rest
    → unread (text ++ rest) ≡ unread rest
unread_written kind text rest spelled ends = unread_step (text ++ rest) kind rest (token_written kind text rest spelled ends)

-- ---- decimal numbers in a token

-- a number as it is written, with its digits
pub writes_decimal : (least most n : ℕ) → least ≤ 1 → 0 < most → n < 10 ^ most → n < 2 ^ 64 → WritesDigits least most n (decimal n)
writes_decimal least most n low some few fits =
    let numeral = decimal_is_IsNumeral n fits in
    let first = numeral.0.0 in
    record {
      numeral = numeral.0;
      enough = one_at_least (length (decimal n)) first;
      few = length-decimal-le most n some few fits;
      value = sym numeral.1;
    }
  where
    one_at_least : (k : ℕ) → 0 < k → least ≤ k
    one_at_least k more = omega arith

held_small : (n : ℕ) → n ≤ 4294967295 → n ≡ held n
held_small n small = omega arith

-- an isotope and a class, as they are written
number_written : (n : ℕ) → n ≤ 4294967295 → IsNumeral 10 (decimal n) × (n ≡ held (digits_value 10 (decimal n)))
number_written n small =
    let fits : n < 2 ^ 64 = omega arith in
    let numeral = decimal_is_IsNumeral n fits in
    (numeral.0, held_small n small ∙ ap held (sym numeral.1))

pub isotope_written : (n : ℕ) → n ≤ 4294967295 → SpellsIsotope n (decimal n)
isotope_written n small = inr (number_written n small)

pub class_written : (n : ℕ) → n ≤ 4294967295 → SpellsClass n (codes ":" ++ decimal n)
class_written n small = inr (decimal n, refl, number_written n small)

pub amount_written : (sign : List ℕ) (n : ℕ) → n < 100 → SpellsAmount sign n (sign ++ decimal n)
amount_written sign n small =
    inr (inr (decimal n, refl, writes_decimal 1 2 n (omega arith) (omega arith) (omega arith) (omega arith)))

pub hydrogens_written : (n : ℕ) → n < 10 → SpellsHydrogens n (codes "H" ++ decimal n)
hydrogens_written n small =
    inr (inr (decimal n, refl, writes_decimal 1 1 n (omega arith) (omega arith) (omega arith) (omega arith)))

-- a ring number of one digit
pub ring_written : (n : ℕ) → n < 10 → SpellsRing n (decimal n)
ring_written n small = inl (writes_decimal 1 1 n (omega arith) (omega arith) (omega arith) (omega arith))

-- a ring number of two digits
pub ring_percent_written : (n : ℕ) → 10 ≤ n → n < 100 → SpellsRing n (codes "%" ++ decimal n)
ring_percent_written n large small =
    let fits : n < 2 ^ 64 = omega arith in
    let numeral = decimal_is_IsNumeral n fits in
    let tens : n / 10 < 2 ^ 64 = omega arith in
    let first = decimal_nonempty (n / 10) tens in
    let size : length (decimal n) ≡ length (decimal (n / 10)) + 1 =
    ap length (decimal_step n large fits) ∙ length-append (decimal (n / 10)) ((48 + n % 10) ∷ []) in
    inr (
      decimal n,
      refl,
      record {
        numeral = numeral.0;
        enough = two_at_least (length (decimal n)) (length (decimal (n / 10))) size first;
        few = length-decimal-le 2 n (omega arith) (omega arith) fits;
        value = sym numeral.1;
      },
    )
  where
    two_at_least : (k j : ℕ) → k ≡ j + 1 → 0 < j → 2 ≤ k
    two_at_least k j is more = omega arith
