-- What a lexer finds at the front of a text, as it computes: a value, and the text behind it.
-- `tokens_law` says that this is the reading by the longest tokens.
use Rattle.std.specs.Prelude.{ℕ, ◌+◌, ◌-◌, ◌*◌, ◌==◌, ◌||◌, ◌&&◌, Bool, true, false, if◌then◌else◌, List, [], ◌∷◌, Option, Some, None, option_map, option_and_then, ℤ, pos, neg_ℤ}
use Rattle.std.specs.Option.{option_or}
use Rattle.std.specs.Char.{is_ascii_digit}
use Rattle.mc_base.specs.declared.kind.Kind.{Kind}
use Rattle.mc_base.specs.declared.kind.Kind.TheVariants.{BadToken, Wildcard, OtherChirality}
use Rattle.mc_base.specs.Digits.{starts_digit}
use Rattle.mc_elements.specs.declared.element.Element.{Element}
use Rattle.mc_elements.specs.declared.element.Element.TheVariants.{B, C, N, O, F, P, S, Cl, As, Se, Br, I}
use Rattle.mc_elements.specs.Elements.{element_of}
use Rattle.smi_lex.specs.declared.symbol.Symbol.{Symbol}
use Rattle.smi_lex.specs.declared.token.BondMark.{BondMark}
use Rattle.smi_lex.specs.declared.token.BondMark.TheVariants.{Single, Double, Triple, Quadruple, Aromatic, Slash, Backslash}
use Rattle.smi_lex.specs.declared.token.TokenKind.{TokenKind}
use Rattle.smi_lex.specs.declared.token.TokenKind.TheVariants.{Bare, Bracket, Bond, Ring, Enter, Leave, Dot}
use Rattle.smi_lex.specs.Grammar.{held}

-- the number whose digits stand at the front, from its value so far
abbrev pub number_front : ℕ → List ℕ → ℕ × List ℕ
number_front value [] = (value, [])
number_front value (b ∷ bs) =
    if is_ascii_digit b then number_front (held (value * 10 + (b - 48))) bs else (value, b ∷ bs)

-- the elements whose symbol may stand in lower case
abbrev pub lower_letter : ℕ → Option Element
lower_letter b =
    if b == 99 then Some C else
    if b == 110 then Some N else
    if b == 111 then Some O else
    if b == 115 then Some S else
    if b == 112 then Some P else
    if b == 98 then Some B else None

abbrev pub lower_pair : ℕ → ℕ → Option Element
lower_pair a b =
    if a == 115 && b == 101 then Some Se else
    if a == 97 && b == 115 then Some As else None

-- a symbol, where there is an element
abbrev pub in_case : Bool → Option Element → Option Symbol
in_case lower element = option_map (λ e. record { element = e; lower = lower }) element

abbrev pub symbol_letter : ℕ → Option Symbol
symbol_letter a = option_or (in_case false (element_of (a ∷ []))) (in_case true (lower_letter a))

abbrev pub symbol_pair : ℕ → ℕ → Option Symbol
symbol_pair a b = option_or (in_case false (element_of (a ∷ b ∷ []))) (in_case true (lower_pair a b))

-- a value, where there is one, and the text behind it
abbrev pub before : {A : Type 0} → List ℕ → Option A → Option (A × List ℕ)
before rest found = option_map (λ x. (x, rest)) found

-- the symbol of a bracket atom; two letters are taken where they are a symbol
abbrev pub symbol_front : List ℕ → Option (Symbol × List ℕ)
symbol_front [] = None
symbol_front (a ∷ []) = before [] (symbol_letter a)
symbol_front (a ∷ b ∷ bs) = option_or (before bs (symbol_pair a b)) (before (b ∷ bs) (symbol_letter a))

-- the first and the second class of tetrahedral centres behind `@`
abbrev pub class_digit : List ℕ → List ℕ → Option Bool × List ℕ
class_digit text [] = (Some true, text)
class_digit text (b ∷ bs) =
    if b == 49 then (Some true, bs) else
    if b == 50 then (Some false, bs) else (Some true, text)

abbrev pub class_letter : List ℕ → List ℕ → Option Bool × List ℕ
class_letter text [] = (Some true, text)
class_letter text (b ∷ bs) = if b == 72 then class_digit text bs else (Some true, text)

abbrev pub chirality : List ℕ → Option Bool × List ℕ
chirality [] = (Some true, [])
chirality (b ∷ bs) =
    if b == 64 then (Some false, bs) else
    if b == 84 then class_letter (b ∷ bs) bs else (Some true, b ∷ bs)

abbrev pub chiral_front : List ℕ → Option Bool × List ℕ
chiral_front [] = (None, [])
chiral_front (b ∷ bs) = if b == 64 then chirality bs else (None, b ∷ bs)

-- the hydrogens behind `H`
abbrev pub hydrogen_count : List ℕ → ℕ × List ℕ
hydrogen_count [] = (1, [])
hydrogen_count (b ∷ bs) = if is_ascii_digit b then (b - 48, bs) else (1, b ∷ bs)

abbrev pub hydrogens_front : List ℕ → ℕ × List ℕ
hydrogens_front [] = (0, [])
hydrogens_front (b ∷ bs) = if b == 72 then hydrogen_count bs else (0, b ∷ bs)

-- the amount of a charge behind its sign
abbrev pub second_digit : ℕ → List ℕ → ℕ × List ℕ
second_digit tens [] = (tens, [])
second_digit tens (b ∷ bs) = if is_ascii_digit b then (tens * 10 + (b - 48), bs) else (tens, b ∷ bs)

abbrev pub amount : ℕ → List ℕ → ℕ × List ℕ
amount sign [] = (1, [])
amount sign (b ∷ bs) =
    if b == sign then (2, bs) else
    if is_ascii_digit b then second_digit (b - 48) bs else (1, b ∷ bs)

abbrev pub charge_front : List ℕ → ℤ × List ℕ
charge_front [] = (pos 0, [])
charge_front (b ∷ bs) =
    if b == 43 then (pos (amount 43 bs).0, (amount 43 bs).1) else
    if b == 45 then (neg_ℤ (pos (amount 45 bs).0), (amount 45 bs).1) else (pos 0, b ∷ bs)

-- a class, or none; a `:` without digits is no class
abbrev pub class_number : List ℕ → Option (ℕ × List ℕ)
class_number bs = if starts_digit bs then Some (number_front 0 bs) else None

abbrev pub class_front : List ℕ → Option (ℕ × List ℕ)
class_front [] = Some (0, [])
class_front (b ∷ bs) = if b == 58 then class_number bs else Some (0, b ∷ bs)

-- the text behind `]`
abbrev pub closing : TokenKind → List ℕ → Option (TokenKind × List ℕ)
closing kind [] = None
closing kind (b ∷ bs) = if b == 93 then Some (kind, bs) else None

-- a bracket behind its symbol
abbrev pub behind_symbol : ℕ → Symbol → List ℕ → Option (TokenKind × List ℕ)
behind_symbol isotope symbol text =
    let chiral = chiral_front text in
    let hydrogens = hydrogens_front chiral.1 in
    let charge = charge_front hydrogens.1 in
    option_and_then
    (λ class. closing (Bracket symbol.element symbol.lower isotope chiral.0 hydrogens.0 charge.0 class.0) class.1)
    (class_front charge.1)

-- a bracket behind its isotope
abbrev pub behind_isotope : ℕ × List ℕ → Option (TokenKind × List ℕ)
behind_isotope isotope = option_and_then (λ symbol. behind_symbol isotope.0 symbol.0 symbol.1) (symbol_front isotope.1)

-- a bracket behind its `[`
abbrev pub bracket_front : List ℕ → Option (TokenKind × List ℕ)
bracket_front text = behind_isotope (number_front 0 text)

abbrev pub bracket_if : Bool → List ℕ → Option (TokenKind × List ℕ)
bracket_if false text = None
bracket_if true text = bracket_front text

-- the two digits of a ring number behind `%`
abbrev pub two_digits : List ℕ → Option (TokenKind × List ℕ)
two_digits [] = None
two_digits (a ∷ []) = None
two_digits (a ∷ b ∷ bs) =
    if is_ascii_digit a && is_ascii_digit b then Some (Ring ((a - 48) * 10 + (b - 48)), bs) else None

abbrev pub percent_if : Bool → List ℕ → Option (TokenKind × List ℕ)
percent_if false text = None
percent_if true text = two_digits text

-- a bare atom of two letters where the second one follows, and else of one
abbrev pub one_or_two_letters : ℕ → Element → Element → List ℕ → TokenKind × List ℕ
one_or_two_letters second two one [] = (Bare one false, [])
one_or_two_letters second two one (b ∷ bs) =
    if b == second then (Bare two false, bs) else (Bare one false, b ∷ bs)

abbrev pub letters_if : Bool → ℕ → Element → Element → List ℕ → Option (TokenKind × List ℕ)
letters_if false second two one text = None
letters_if true second two one text = Some (one_or_two_letters second two one text)

-- tokens of one byte that begin no other token
abbrev pub bare_upper : ℕ → Option Element
bare_upper b =
    if b == 78 then Some N else
    if b == 79 then Some O else
    if b == 70 then Some F else
    if b == 83 then Some S else
    if b == 80 then Some P else
    if b == 73 then Some I else None

abbrev pub bond_mark : ℕ → Option BondMark
bond_mark b =
    if b == 61 then Some Double else
    if b == 45 then Some Single else
    if b == 35 then Some Triple else
    if b == 47 then Some Slash else
    if b == 92 then Some Backslash else
    if b == 58 then Some Aromatic else
    if b == 36 then Some Quadruple else None

abbrev pub punctuation : ℕ → Option TokenKind
punctuation b =
    if b == 40 then Some Enter else
    if b == 41 then Some Leave else
    if b == 46 then Some Dot else None

abbrev pub digit : ℕ → Option TokenKind
digit b = if is_ascii_digit b then Some (Ring (b - 48)) else None

abbrev pub byte_kind : ℕ → Option TokenKind
byte_kind b =
    option_or (option_map (λ e. Bare e false) (bare_upper b))
    (option_or (option_map (λ e. Bare e true) (lower_letter b))
    (option_or (punctuation b)
    (option_or (digit b) (option_map (λ m. Bond m) (bond_mark b)))))

-- the token at the front of a text, and the text behind it
abbrev pub token_front : List ℕ → Option (TokenKind × List ℕ)
token_front [] = None
token_front (b ∷ bs) =
    option_or (letters_if (b == 67) 108 Cl C bs)
    (option_or (letters_if (b == 66) 114 Br B bs)
    (option_or (before bs (byte_kind b))
    (option_or (percent_if (b == 37) bs) (bracket_if (b == 91) bs))))

-- `*` or another class of chirality, where no token begins
abbrev pub starts_wildcard : List ℕ → Bool
starts_wildcard [] = false
starts_wildcard (b ∷ bs) = b == 42

abbrev pub is_other_letters : ℕ → ℕ → Bool
is_other_letters a b =
    (a == 65 && b == 76) || (a == 83 && b == 80) || (a == 84 && b == 66) || (a == 79 && b == 72)

abbrev pub is_other_class : List ℕ → Bool
is_other_class (a ∷ b ∷ c ∷ bs) = a == 64 && is_other_letters b c
is_other_class _ = false

abbrev pub starts_other_class : Option (Symbol × List ℕ) → Bool
starts_other_class None = false
starts_other_class (Some symbol) = is_other_class symbol.1

-- the cause behind the `[` and the isotope of a bracket
abbrev pub bracket_cause : List ℕ → Kind
bracket_cause text =
    if starts_wildcard text then Wildcard else
    if starts_other_class (symbol_front text) then OtherChirality else BadToken

abbrev pub cause : List ℕ → Kind
cause [] = BadToken
cause (b ∷ bs) =
    if b == 42 then Wildcard else
    if b == 91 then bracket_cause (number_front 0 bs).1 else BadToken
