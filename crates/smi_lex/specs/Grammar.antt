-- How each token of a SMILES text is spelled (OpenSMILES 1.0, section 2, the grammar).
use Rattle.std.specs.Prelude.{◌≡◌, ℕ, ◌≤◌, ◌⊎◌, Bool, true, false, not, min, List, [], ◌++◌, length, codes, Option, Some, None, ℤ, pos, neg_ℤ, IsTrue}
use Rattle.std.specs.Str.Parse.{IsNumeral, digits_value}
use Rattle.mc_elements.specs.declared.element.Element.{Element}
use Rattle.mc_elements.specs.declared.element.Element.TheVariants.{B, C, N, O, F, P, S, Cl, As, Se, Br, I}
use Rattle.mc_elements.specs.Elements.{symbol}
use Rattle.smi_lex.specs.declared.token.BondMark.{BondMark}
use Rattle.smi_lex.specs.declared.token.BondMark.TheVariants.{Single, Double, Triple, Quadruple, Aromatic, Slash, Backslash}
use Rattle.smi_lex.specs.declared.token.TokenKind.{TokenKind}
use Rattle.smi_lex.specs.declared.token.TokenKind.TheVariants.{Bare, Bracket, Bond, Ring, Enter, Leave, Dot}

-- the bond symbols
abbrev pub mark_text : BondMark → List ℕ
mark_text Single = codes "-"
mark_text Double = codes "="
mark_text Triple = codes "#"
mark_text Quadruple = codes "$"
mark_text Aromatic = codes ":"
mark_text Slash = codes "/"
mark_text Backslash = codes "\\"

-- the symbols that may stand in lower case
abbrev pub lower_symbol : Element → Option (List ℕ)
lower_symbol B = Some (codes "b")
lower_symbol C = Some (codes "c")
lower_symbol N = Some (codes "n")
lower_symbol O = Some (codes "o")
lower_symbol P = Some (codes "p")
lower_symbol S = Some (codes "s")
lower_symbol Se = Some (codes "se")
lower_symbol As = Some (codes "as")
lower_symbol _ = None

-- the symbol of an element, in its own case or in lower case
abbrev pub SpellsSymbol : Element → Bool → List ℕ → Type 0
SpellsSymbol element false text = text ≡ symbol element
SpellsSymbol element true text = lower_symbol element ≡ Some text

-- the atoms that may stand without brackets, in upper and in lower case
abbrev pub may_be_bare : Element → Bool → Bool
may_be_bare B lower = true
may_be_bare C lower = true
may_be_bare N lower = true
may_be_bare O lower = true
may_be_bare P lower = true
may_be_bare S lower = true
may_be_bare F lower = not lower
may_be_bare Cl lower = not lower
may_be_bare Br lower = not lower
may_be_bare I lower = not lower
may_be_bare _ lower = false

-- a number as a token holds it: one that 32 bits can't hold stands as their greatest
abbrev pub held : ℕ → ℕ
held number = min number 4294967295

-- no digits, or an isotope
abbrev pub SpellsIsotope : ℕ → List ℕ → Type 0
SpellsIsotope isotope text =
    ((text ≡ []) × (isotope ≡ 0)) ⊎ (IsNumeral 10 text × (isotope ≡ held (digits_value 10 text)))

-- `@` and `@TH1` are anticlockwise, `@@` and `@TH2` clockwise
abbrev pub SpellsChiral : Option Bool → List ℕ → Type 0
SpellsChiral None text = text ≡ []
SpellsChiral (Some true) text = (text ≡ codes "@") ⊎ (text ≡ codes "@TH1")
SpellsChiral (Some false) text = (text ≡ codes "@@") ⊎ (text ≡ codes "@TH2")

-- so many digits, which write this number
pub record WritesDigits (least most number : ℕ) (digits : List ℕ) : Type 0 where
  pub numeral : IsNumeral 10 digits
  pub enough : least ≤ length digits
  pub few : length digits ≤ most
  pub value : number ≡ digits_value 10 digits

-- a letter or a sign, and digits behind it
abbrev pub Follows : List ℕ → List ℕ → (List ℕ → Type 0) → Type 0
Follows mark text Are = (digits : List ℕ) × (text ≡ mark ++ digits) × Are digits

-- no hydrogens, `H`, or `H` and a digit
abbrev pub SpellsHydrogens : ℕ → List ℕ → Type 0
SpellsHydrogens hydrogens text =
    ((text ≡ []) × (hydrogens ≡ 0))
    ⊎ (((text ≡ codes "H") × (hydrogens ≡ 1)) ⊎ Follows (codes "H") text (WritesDigits 1 1 hydrogens))

-- one sign, two equal signs, or a sign and one or two digits
abbrev pub SpellsAmount : List ℕ → ℕ → List ℕ → Type 0
SpellsAmount sign amount text =
    ((text ≡ sign) × (amount ≡ 1))
    ⊎ (((text ≡ sign ++ sign) × (amount ≡ 2)) ⊎ Follows sign text (WritesDigits 1 2 amount))

-- no charge, or an amount behind `+` or `-`
abbrev pub SpellsCharge : ℤ → List ℕ → Type 0
SpellsCharge charge text =
    ((text ≡ []) × (charge ≡ pos 0))
    ⊎ (((amount : ℕ) × (charge ≡ pos amount) × SpellsAmount (codes "+") amount text)
    ⊎ ((amount : ℕ) × (charge ≡ neg_ℤ (pos amount)) × SpellsAmount (codes "-") amount text))

-- no class, or `:` and digits
abbrev pub SpellsClass : ℕ → List ℕ → Type 0
SpellsClass class text =
    ((text ≡ []) × (class ≡ 0))
    ⊎ Follows (codes ":") text (λ digits. IsNumeral 10 digits × (class ≡ held (digits_value 10 digits)))

-- `[`, isotope, symbol, chirality, hydrogens, charge, class, `]`
pub record SpellsBracket
    (element : Element) (lower : Bool) (isotope : ℕ) (chiral : Option Bool) (hydrogens : ℕ) (charge : ℤ) (class : ℕ) (text : List ℕ) : Type 0 where
  pub isotope_text : List ℕ
  pub symbol_text : List ℕ
  pub chiral_text : List ℕ
  pub hydrogens_text : List ℕ
  pub charge_text : List ℕ
  pub class_text : List ℕ
  pub isotope_spelled : SpellsIsotope isotope isotope_text
  pub symbol_spelled : SpellsSymbol element lower symbol_text
  pub chiral_spelled : SpellsChiral chiral chiral_text
  pub hydrogens_spelled : SpellsHydrogens hydrogens hydrogens_text
  pub charge_spelled : SpellsCharge charge charge_text
  pub class_spelled : SpellsClass class class_text
  pub joined : text ≡ codes "[" ++ (isotope_text ++ (symbol_text ++ (chiral_text ++ (hydrogens_text ++ (charge_text ++ (class_text ++ codes "]"))))))

-- a digit, or `%` and two digits
abbrev pub SpellsRing : ℕ → List ℕ → Type 0
SpellsRing number text = WritesDigits 1 1 number text ⊎ Follows (codes "%") text (WritesDigits 2 2 number)

-- a token of this kind may be spelled so
abbrev pub Spells : TokenKind → List ℕ → Type 0
Spells (Bare element lower) text = IsTrue (may_be_bare element lower) × SpellsSymbol element lower text
Spells (Bracket element lower isotope chiral hydrogens charge class) text =
    SpellsBracket element lower isotope chiral hydrogens charge class text
Spells (Bond mark) text = text ≡ mark_text mark
Spells (Ring number) text = SpellsRing number text
Spells Enter text = text ≡ codes "("
Spells Leave text = text ≡ codes ")"
Spells Dot text = text ≡ codes "."
