-- The reading of a SMILES text: the tokens that joined give it, each the longest that begins at its
-- byte. Places count from 0 here.
use Rattle.std.specs.Prelude.{◌≡◌, ℕ, Bool, ◌<◌, ◌≤◌, ◌⊎◌, List, [], ◌∷◌, ◌++◌, length, slice_range, codes}
use Rattle.mc_base.specs.declared.kind.Kind.{Kind}
use Rattle.mc_base.specs.declared.kind.Kind.TheVariants.{BadToken, Wildcard, OtherChirality}
use Rattle.mc_elements.specs.declared.element.Element.{Element}
use Rattle.smi_lex.specs.declared.token.TokenKind.{TokenKind}
use Rattle.smi_lex.specs.declared.token.Token.{Token}
use Rattle.smi_lex.specs.Grammar.{Spells, SpellsIsotope, SpellsSymbol}

-- the token stands in the text, and none that begins with it is longer
pub record IsTokenOf (text : List ℕ) (token : Token) : Type 0 where
  pub within : token.span.to ≤ length text
  pub spelled : Spells token.kind (slice_range text token.span.from token.span.to)
  pub longest : (kind : TokenKind) (to : ℕ) → token.span.to < to → to ≤ length text
      → Spells kind (slice_range text token.span.from to) → ⊥

-- no token begins at this place
abbrev pub NoTokenBegins : List ℕ → ℕ → Type 0
NoTokenBegins text at = (kind : TokenKind) (to : ℕ) → to ≤ length text → Spells kind (slice_range text at to) → ⊥

-- from one place to another the text is these tokens
abbrev pub IsReading : List ℕ → ℕ → List Token → ℕ → Type 0
IsReading text from [] to = from ≡ to
IsReading text from (token ∷ tokens) to =
    (token.span.from ≡ from) × IsTokenOf text token × IsReading text token.span.to tokens to

-- some front of the text is so
abbrev pub Begins : (List ℕ → Type 0) → List ℕ → Type 0
Begins P text = (front : List ℕ) × (rest : List ℕ) × (text ≡ front ++ rest) × P front

-- a bracket that is opened, and an isotope or none
abbrev pub OpensBracket : List ℕ → Type 0
OpensBracket text = (isotope : ℕ) × (digits : List ℕ) × (text ≡ codes "[" ++ digits) × SpellsIsotope isotope digits

-- the classes of chirality that aren't tetrahedral
abbrev pub IsOtherClass : List ℕ → Type 0
IsOtherClass text = (text ≡ codes "@AL") ⊎ ((text ≡ codes "@SP") ⊎ ((text ≡ codes "@TB") ⊎ (text ≡ codes "@OH")))

-- `*`, or a bracket that begins with it
abbrev pub IsWildcard : List ℕ → Type 0
IsWildcard text = (opening : List ℕ) × (text ≡ opening ++ codes "*") × ((opening ≡ []) ⊎ OpensBracket opening)

-- a bracket that begins with a symbol and another class of chirality
abbrev pub IsOtherChirality : List ℕ → Type 0
IsOtherChirality text =
    (opening : List ℕ) × (element : Element) × (lower : Bool) × (letters : List ℕ) × (class : List ℕ)
    × (text ≡ opening ++ (letters ++ class)) × OpensBracket opening × SpellsSymbol element lower letters × IsOtherClass class

-- why no token begins where this text is left
abbrev pub IsCause : Kind → List ℕ → Type 0
IsCause Wildcard text = Begins IsWildcard text
IsCause OtherChirality text = Begins IsOtherChirality text
IsCause BadToken text = (Begins IsWildcard text → ⊥) × (Begins IsOtherChirality text → ⊥)
IsCause _ text = ⊥
