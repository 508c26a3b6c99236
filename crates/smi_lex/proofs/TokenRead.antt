-- A spelled token is found at the front of a text, but where a longer one begins there.
use Rattle.std.proofs.Common.{arith, ◌≡◌, ◌<◌, ◌≤◌, ◌+◌, ◌-◌, ◌*◌, ◌==◌, ◌&&◌, ◌⊎◌, ℕ, zero, suc, Bool, true, false, List, [], ◌∷◌, ◌++◌, length, Option, Some, None, refl, sym, ap, subst, ◌∙◌, inl, inr, append_assoc}
use Rattle.std.proofs.lemmas.Bool.{cases_Bool, and_right}
use Rattle.std.proofs.lemmas.Bool.Decides.{nat_tests}
use Rattle.std.specs.Prelude.{ℤ, codes}
use Rattle.std.specs.Char.{is_ascii_digit, is_ascii_lowercase, is_ascii_uppercase}
use Rattle.mc_base.proofs.Digits.{digit_is, is_digit}
use Rattle.mc_base.specs.Digits.{starts_digit}
use Rattle.mc_elements.specs.declared.element.Element.{Element}
use Rattle.mc_elements.specs.declared.element.Element.TheVariants.{B, C, N, O, F, P, S, Cl, As, Se, Br, I}
use Rattle.mc_elements.specs.Elements.{element_of, is_symbol_text}
use Rattle.mc_elements.proofs.Symbols.{element_of-symbol, is_symbol_text-symbol, no_element_of}
use Rattle.smi_lex.specs.declared.symbol.Symbol.{Symbol}
use Rattle.smi_lex.specs.declared.token.BondMark.{BondMark}
use Rattle.smi_lex.specs.declared.token.BondMark.TheVariants.{Single, Double, Triple, Quadruple, Aromatic, Slash, Backslash}
use Rattle.smi_lex.specs.declared.token.TokenKind.{TokenKind}
use Rattle.smi_lex.specs.declared.token.TokenKind.TheVariants.{Bare, Bracket, Bond, Ring, Enter, Leave, Dot}
use Rattle.smi_lex.specs.Grammar.{lower_symbol, mark_text, may_be_bare, Spells, SpellsBracket, SpellsIsotope, SpellsSymbol, WritesDigits}
use Rattle.smi_lex.specs.Fronts.{bracket_front, lower_letter, lower_pair, number_front, symbol_front, symbol_letter, symbol_pair, token_front, two_digits}
use Rattle.smi_lex.proofs.Numbers.{number_read}
use Rattle.smi_lex.proofs.Complete.{First, behind_symbol_byte, charge_first, charge_read, chiral_first, chiral_read, class_first, class_read, hydrogens_first, hydrogens_read}

-- ---- symbols

-- what isn't letters of a symbol names no element
pub no_element : (text : List ℕ) → is_symbol_text text ≡ false → element_of text ≡ None
no_element text other =
    no_element_of text (λ e is. let letters : is_symbol_text text ≡ true = ap is_symbol_text (sym is) ∙ is_symbol_text-symbol e in cc)

not_letter : (b : ℕ) → behind_symbol_byte b ≡ true
    → (is_ascii_lowercase b ≡ false) × ((b == 101) ≡ false) × ((b == 115) ≡ false) × (is_ascii_digit b ≡ false)
not_letter b is = (grind (arith, nat_tests), grind (arith, nat_tests), grind (arith, nat_tests), grind (arith, nat_tests))

-- a byte that isn't a letter ends a symbol
no_pair : (a b : ℕ) → behind_symbol_byte b ≡ true → symbol_pair a b ≡ None
no_pair a b stop =
    let n = not_letter b stop in
    let upper : element_of (a ∷ b ∷ []) ≡ None = no_element (a ∷ b ∷ []) (and_right (is_ascii_uppercase a) (is_ascii_lowercase b) n.0) in
    let se : (a == 115 && b == 101) ≡ false = and_right (a == 115) (b == 101) n.1 in
    let as_ : (a == 97 && b == 115) ≡ false = and_right (a == 97) (b == 115) n.2 in
    rw (upper, se, as_) refl

letter_read : (a b : ℕ) (bs : List ℕ) (found : Symbol) → behind_symbol_byte b ≡ true → symbol_letter a ≡ Some found
    → symbol_front (a ∷ b ∷ bs) ≡ Some (found, b ∷ bs)
letter_read a b bs found stop is = let none = no_pair a b stop in rw (none, is) refl

upper_read : (e : Element) (text : List ℕ) (b : ℕ) (bs : List ℕ) → behind_symbol_byte b ≡ true → is_symbol_text text ≡ true → element_of text ≡ Some e
    → symbol_front (text ++ b ∷ bs) ≡ Some (record { element = e; lower = false }, b ∷ bs)
upper_read e [] b bs stop letters named = cc
upper_read e (a ∷ []) b bs stop letters named = letter_read a b bs (record { element = e; lower = false }) stop (rw named refl)
upper_read e (a ∷ c ∷ []) b bs stop letters named = rw named refl
upper_read e (a ∷ c ∷ d ∷ ds) b bs stop letters named = cc

lower_one : (e : Element) (a b : ℕ) (bs : List ℕ) → behind_symbol_byte b ≡ true → is_ascii_uppercase a ≡ false → lower_letter a ≡ Some e
    → symbol_front (a ∷ b ∷ bs) ≡ Some (record { element = e; lower = true }, b ∷ bs)
lower_one e a b bs stop low named =
    let none : element_of (a ∷ []) ≡ None = no_element (a ∷ []) low in
    letter_read a b bs (record { element = e; lower = true }) stop (rw (none, named) refl)

lower_two : (e : Element) (a b : ℕ) (bs : List ℕ) → is_ascii_uppercase a ≡ false → lower_pair a b ≡ Some e
    → symbol_front (a ∷ b ∷ bs) ≡ Some (record { element = e; lower = true }, bs)
lower_two e a b bs low named =
    let none : element_of (a ∷ b ∷ []) ≡ None = no_element (a ∷ b ∷ []) (rw low refl) in
    rw (none, named) refl

-- the text of a lower-case symbol
pub named_so : {s text : List ℕ} → ◌≡◌ {A = Option (List ℕ)} (Some s) (Some text) → text ≡ s
named_so is = cc

lower_read : (e : Element) (text : List ℕ) (b : ℕ) (bs : List ℕ) → behind_symbol_byte b ≡ true → lower_symbol e ≡ Some text
    → symbol_front (text ++ b ∷ bs) ≡ Some (record { element = e; lower = true }, b ∷ bs)
lower_read B text b bs stop is = rw (named_so is) (lower_one B 98 b bs stop refl refl)
lower_read C text b bs stop is = rw (named_so is) (lower_one C 99 b bs stop refl refl)
lower_read N text b bs stop is = rw (named_so is) (lower_one N 110 b bs stop refl refl)
lower_read O text b bs stop is = rw (named_so is) (lower_one O 111 b bs stop refl refl)
lower_read P text b bs stop is = rw (named_so is) (lower_one P 112 b bs stop refl refl)
lower_read S text b bs stop is = rw (named_so is) (lower_one S 115 b bs stop refl refl)
lower_read Se text b bs stop is = rw (named_so is) (lower_two Se 115 101 (b ∷ bs) refl refl)
lower_read As text b bs stop is = rw (named_so is) (lower_two As 97 115 (b ∷ bs) refl refl)
lower_read _ text b bs stop is = cc

pub symbol_read : (e : Element) (lower : Bool) (text rest : List ℕ) → First behind_symbol_byte rest → SpellsSymbol e lower text
    → symbol_front (text ++ rest) ≡ Some (record { element = e; lower = lower }, rest)
symbol_read e lower text [] first spelled = absurd first
symbol_read e false text (b ∷ bs) first spelled =
    let letters : is_symbol_text text ≡ true = ap is_symbol_text spelled ∙ is_symbol_text-symbol e in
    let named : element_of text ≡ Some e = ap element_of spelled ∙ element_of-symbol e in
    upper_read e text b bs first letters named
symbol_read e true text (b ∷ bs) first spelled = lower_read e text b bs first spelled

upper_not_digit : (a : ℕ) → is_ascii_uppercase a ≡ true → is_ascii_digit a ≡ false
upper_not_digit a is = grind (arith, nat_tests)

letters_first : (text rest : List ℕ) → is_symbol_text text ≡ true → starts_digit (text ++ rest) ≡ false
letters_first [] rest is = cc
letters_first (a ∷ []) rest is = upper_not_digit a is
letters_first (a ∷ b ∷ []) rest is = upper_not_digit a (first_true (is_ascii_uppercase a) (is_ascii_lowercase b) is)
  where
    first_true : (s t : Bool) → (s && t) ≡ true → s ≡ true
    first_true true t is = refl
    first_true false t is = cc
letters_first (a ∷ b ∷ c ∷ cs) rest is = cc

-- no digit begins a symbol
lower_first : (e : Element) (text rest : List ℕ) → lower_symbol e ≡ Some text → starts_digit (text ++ rest) ≡ false
lower_first B text rest is = rw (named_so is) refl
lower_first C text rest is = rw (named_so is) refl
lower_first N text rest is = rw (named_so is) refl
lower_first O text rest is = rw (named_so is) refl
lower_first P text rest is = rw (named_so is) refl
lower_first S text rest is = rw (named_so is) refl
lower_first Se text rest is = rw (named_so is) refl
lower_first As text rest is = rw (named_so is) refl
lower_first _ text rest is = cc

pub symbol_first : (e : Element) (lower : Bool) (text rest : List ℕ) → SpellsSymbol e lower text → starts_digit (text ++ rest) ≡ false
symbol_first e false text rest spelled =
    letters_first text rest (ap is_symbol_text spelled ∙ is_symbol_text-symbol e)
symbol_first e true text rest spelled = lower_first e text rest spelled

-- ---- brackets

pub isotope_read : (isotope : ℕ) (text rest : List ℕ) → starts_digit rest ≡ false → SpellsIsotope isotope text
    → number_front 0 (text ++ rest) ≡ (isotope, rest)
isotope_read isotope text rest stop (inl (empty, none)) =
    rw (empty, none) (number_read 0 0 [] rest refl tt stop)
isotope_read isotope text rest stop (inr (numeral, is)) =
    number_read 0 0 text rest refl numeral.1 stop ∙ ap (λ x. (x, rest)) (sym is)

bracket_tail : (i s c h q k rest : List ℕ)
    → (i ++ (s ++ (c ++ (h ++ (q ++ (k ++ 93 ∷ [])))))) ++ rest ≡ i ++ (s ++ (c ++ (h ++ (q ++ (k ++ 93 ∷ rest)))))
bracket_tail i s c h q k rest = simp append_assoc

pub bracket_read : (e : Element) (lower : Bool) (isotope : ℕ) (chiral : Option Bool) (hydrogens : ℕ) (charge : ℤ) (class : ℕ) (text rest : List ℕ)
    → SpellsBracket e lower isotope chiral hydrogens charge class text
    → (behind : List ℕ) × (text ≡ 91 ∷ behind) × (bracket_front (behind ++ rest) ≡ Some (Bracket e lower isotope chiral hydrogens charge class, rest))
bracket_read e lower isotope chiral hydrogens charge class text rest spelled =
    let i = spelled.isotope_text in
    let s = spelled.symbol_text in
    let c = spelled.chiral_text in
    let h = spelled.hydrogens_text in
    let q = spelled.charge_text in
    let k = spelled.class_text in
    let t6 : List ℕ = k ++ 93 ∷ rest in
    let t5 : List ℕ = q ++ t6 in
    let t4 : List ℕ = h ++ t5 in
    let t3 : List ℕ = c ++ t4 in
    let t2 : List ℕ = s ++ t3 in
    let first6 = class_first class k rest spelled.class_spelled in
    let first5 = charge_first charge q t6 first6 spelled.charge_spelled in
    let first4 = hydrogens_first hydrogens h t5 first5 spelled.hydrogens_spelled in
    let first3 = chiral_first chiral c t4 first4 spelled.chiral_spelled in
    let stop2 = symbol_first e lower s t3 spelled.symbol_spelled in
    let read1 = isotope_read isotope i t2 stop2 spelled.isotope_spelled in
    let read2 = symbol_read e lower s t3 first3 spelled.symbol_spelled in
    let read3 = chiral_read chiral c t4 first4 spelled.chiral_spelled in
    let read4 = hydrogens_read hydrogens h t5 first5 spelled.hydrogens_spelled in
    let read5 = charge_read charge q t6 first6 spelled.charge_spelled in
    let read6 = class_read class k rest spelled.class_spelled in
    let inside : List ℕ = i ++ (s ++ (c ++ (h ++ (q ++ (k ++ codes "]"))))) in
    (inside, spelled.joined, rw (bracket_tail i s c h q k rest, read1, read2, read3, read4, read5, read6) refl)

-- ---- tokens

-- the next byte is this one
abbrev pub next_is : ℕ → List ℕ → Bool
next_is byte [] = false
next_is byte (b ∷ bs) = b == byte

-- a bare C before an l, or a bare B before an r
abbrev pub GoesOn : List ℕ → List ℕ → Type 0
GoesOn text rest =
    ((text ≡ codes "C") × (next_is 108 rest ≡ true)) ⊎ ((text ≡ codes "B") × (next_is 114 rest ≡ true))

-- the token is found at the front, or a longer one is
abbrev pub Found : TokenKind → List ℕ → List ℕ → Type 0
Found kind text rest =
    (token_front (text ++ rest) ≡ Some (kind, rest))
    ⊎ ((other : TokenKind) × (behind : List ℕ) × (token_front (text ++ rest) ≡ Some (other, behind)) × (length behind < length rest) × GoesOn text rest)

-- a letter that begins a symbol of two letters
chlorine_or_carbon : (rest : List ℕ) → Found (Bare C false) (67 ∷ []) rest
chlorine_or_carbon [] = inl refl
chlorine_or_carbon (b ∷ bs) =
    elim (cases_Bool (b == 108)) [
      | inl is ↦ inr (Bare Cl false, bs, rw is refl, omega arith, inl (refl, is))
      | inr other ↦ inl (rw other refl)
    ]

bromine_or_boron : (rest : List ℕ) → Found (Bare B false) (66 ∷ []) rest
bromine_or_boron [] = inl refl
bromine_or_boron (b ∷ bs) =
    elim (cases_Bool (b == 114)) [
      | inl is ↦ inr (Bare Br false, bs, rw is refl, omega arith, inr (refl, is))
      | inr other ↦ inl (rw other refl)
    ]

in_text : (kind : TokenKind) (s text rest : List ℕ) → text ≡ s → Found kind s rest → Found kind text rest
in_text kind s text rest is found = subst (λ t. Found kind t rest) (sym is) found

bare_read : (e : Element) (lower : Bool) (text rest : List ℕ) → may_be_bare e lower ≡ true → SpellsSymbol e lower text → Found (Bare e lower) text rest
bare_read B false text rest may is = in_text (Bare B false) (codes "B") text rest is (bromine_or_boron rest)
bare_read B true text rest may is = in_text (Bare B true) (codes "b") text rest (named_so is) (inl refl)
bare_read C false text rest may is = in_text (Bare C false) (codes "C") text rest is (chlorine_or_carbon rest)
bare_read C true text rest may is = in_text (Bare C true) (codes "c") text rest (named_so is) (inl refl)
bare_read N false text rest may is = in_text (Bare N false) (codes "N") text rest is (inl refl)
bare_read N true text rest may is = in_text (Bare N true) (codes "n") text rest (named_so is) (inl refl)
bare_read O false text rest may is = in_text (Bare O false) (codes "O") text rest is (inl refl)
bare_read O true text rest may is = in_text (Bare O true) (codes "o") text rest (named_so is) (inl refl)
bare_read P false text rest may is = in_text (Bare P false) (codes "P") text rest is (inl refl)
bare_read P true text rest may is = in_text (Bare P true) (codes "p") text rest (named_so is) (inl refl)
bare_read S false text rest may is = in_text (Bare S false) (codes "S") text rest is (inl refl)
bare_read S true text rest may is = in_text (Bare S true) (codes "s") text rest (named_so is) (inl refl)
bare_read F false text rest may is = in_text (Bare F false) (codes "F") text rest is (inl refl)
bare_read F true text rest may is = cc
bare_read Cl false text rest may is = in_text (Bare Cl false) (codes "Cl") text rest is (inl refl)
bare_read Cl true text rest may is = cc
bare_read Br false text rest may is = in_text (Bare Br false) (codes "Br") text rest is (inl refl)
bare_read Br true text rest may is = cc
bare_read I false text rest may is = in_text (Bare I false) (codes "I") text rest is (inl refl)
bare_read I true text rest may is = cc
bare_read _ lower text rest may is = cc

-- what holds of each digit holds of a byte that is one
each_digit : (Holds : ℕ → Type 0) → Holds 48 → Holds 49 → Holds 50 → Holds 51 → Holds 52 → Holds 53 → Holds 54 → Holds 55 → Holds 56 → Holds 57 → (k : ℕ) → k < 10 → Holds (48 + k)
each_digit Holds p0 p1 p2 p3 p4 p5 p6 p7 p8 p9 zero small = p0
each_digit Holds p0 p1 p2 p3 p4 p5 p6 p7 p8 p9 (suc zero) small = p1
each_digit Holds p0 p1 p2 p3 p4 p5 p6 p7 p8 p9 (suc (suc zero)) small = p2
each_digit Holds p0 p1 p2 p3 p4 p5 p6 p7 p8 p9 (suc (suc (suc zero))) small = p3
each_digit Holds p0 p1 p2 p3 p4 p5 p6 p7 p8 p9 (suc (suc (suc (suc zero)))) small = p4
each_digit Holds p0 p1 p2 p3 p4 p5 p6 p7 p8 p9 (suc (suc (suc (suc (suc zero))))) small = p5
each_digit Holds p0 p1 p2 p3 p4 p5 p6 p7 p8 p9 (suc (suc (suc (suc (suc (suc zero)))))) small = p6
each_digit Holds p0 p1 p2 p3 p4 p5 p6 p7 p8 p9 (suc (suc (suc (suc (suc (suc (suc zero))))))) small = p7
each_digit Holds p0 p1 p2 p3 p4 p5 p6 p7 p8 p9 (suc (suc (suc (suc (suc (suc (suc (suc zero)))))))) small = p8
each_digit Holds p0 p1 p2 p3 p4 p5 p6 p7 p8 p9 (suc (suc (suc (suc (suc (suc (suc (suc (suc zero))))))))) small = p9
each_digit Holds p0 p1 p2 p3 p4 p5 p6 p7 p8 p9 (suc (suc (suc (suc (suc (suc (suc (suc (suc (suc k)))))))))) small = absurd (omega arith)

digit_token : (d : ℕ) (rest : List ℕ) → is_ascii_digit d ≡ true → token_front (d ∷ rest) ≡ Some (Ring (d - 48), rest)
digit_token d rest is =
    let range : (48 ≤ d) × (d ≤ 57) = grind arith in
    let back : 48 + (d - 48) ≡ d = omega arith in
    subst (λ b. token_front (b ∷ rest) ≡ Some (Ring (b - 48), rest)) back
    (each_digit (λ b. token_front (b ∷ rest) ≡ Some (Ring (b - 48), rest)) refl refl refl refl refl refl refl refl refl refl (d - 48) (omega arith))

ring_digit : (number : ℕ) (digits rest : List ℕ) → WritesDigits 1 1 number digits → token_front (digits ++ rest) ≡ Some (Ring number, rest)
ring_digit number [] rest writes = absurd (let e = writes.enough in omega arith)
ring_digit number (d ∷ []) rest writes =
    let digit : is_ascii_digit d ≡ true = is_digit d writes.numeral.1.0 in
    let value : d - 48 ≡ number = omega (arith, writes.value, (digit_is d digit).1) in
    digit_token d rest digit ∙ ap (λ x. Some (Ring x, rest)) value
ring_digit number (d ∷ e ∷ es) rest writes = absurd (let few = writes.few in omega arith)

ring_percent : (number : ℕ) (digits rest : List ℕ) → WritesDigits 2 2 number digits → two_digits (digits ++ rest) ≡ Some (Ring number, rest)
ring_percent number [] rest writes = absurd (let e = writes.enough in omega arith)
ring_percent number (d ∷ []) rest writes = absurd (let e = writes.enough in omega arith)
ring_percent number (d ∷ e ∷ []) rest writes =
    let digit : is_ascii_digit d ≡ true = is_digit d writes.numeral.1.0 in
    let digit_e : is_ascii_digit e ≡ true = is_digit e writes.numeral.1.1.0 in
    let value : (d - 48) * 10 + (e - 48) ≡ number = omega (arith, writes.value, (digit_is d digit).1, (digit_is e digit_e).1) in
    rw (digit, digit_e) (ap (λ x. Some (Ring x, rest)) value)
ring_percent number (d ∷ e ∷ f ∷ fs) rest writes = absurd (let few = writes.few in omega arith)

bond_read : (mark : BondMark) (rest : List ℕ) → token_front (mark_text mark ++ rest) ≡ Some (Bond mark, rest)
bond_read Single rest = refl
bond_read Double rest = refl
bond_read Triple rest = refl
bond_read Quadruple rest = refl
bond_read Aromatic rest = refl
bond_read Slash rest = refl
bond_read Backslash rest = refl

pub token_read : (kind : TokenKind) (text rest : List ℕ) → Spells kind text → Found kind text rest
token_read (Bare e lower) text rest (may, spelled) = bare_read e lower text rest may spelled
token_read (Bracket e lower isotope chiral hydrogens charge class) text rest spelled =
    let at = bracket_read e lower isotope chiral hydrogens charge class text rest spelled in
    inl (subst (λ t. token_front (t ++ rest) ≡ Some (Bracket e lower isotope chiral hydrogens charge class, rest)) (sym at.1) at.2)
token_read (Bond mark) text rest spelled = in_text (Bond mark) (mark_text mark) text rest spelled (inl (bond_read mark rest))
token_read (Ring number) text rest (inl writes) = inl (ring_digit number text rest writes)
token_read (Ring number) text rest (inr (digits, joined, writes)) =
    in_text (Ring number) (37 ∷ digits) text rest joined (inl (rw (ring_percent number digits rest writes) refl))
token_read Enter text rest spelled = in_text Enter (codes "(") text rest spelled (inl refl)
token_read Leave text rest spelled = in_text Leave (codes ")") text rest spelled (inl refl)
token_read Dot text rest spelled = in_text Dot (codes ".") text rest spelled (inl refl)
