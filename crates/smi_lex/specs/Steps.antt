-- What a lexer's answer says.
use Rattle.std.specs.Prelude.{◌≡◌, ℕ, ◌<◌, List, ◌∷◌, length, drop}
use Rattle.mc_base.specs.declared.kind.Kind.{Kind}
use Rattle.smi_lex.specs.declared.token.Token.{Token}
use Rattle.smi_lex.specs.declared.token.LexStep.{LexStep}
use Rattle.smi_lex.specs.declared.token.LexStep.TheVariants as step
use Rattle.smi_lex.specs.Fronts.{cause}
use Rattle.smi_lex.specs.Reading.{IsCause, IsTokenOf, NoTokenBegins}
use Rattle.smi_lex.specs.Tokens.{kinds, tokens_from, unread}

-- of a token
abbrev pub IfToken : LexStep → (Token → Type 0) → Type 0
IfToken (step.Token token) Holds = Holds token
IfToken step.End Holds = Unit {0}
IfToken (step.Refused kind byte) Holds = Unit {0}

-- of a refusal: its kind and its byte
abbrev pub IfRefused : LexStep → (Kind → ℕ → Type 0) → Type 0
IfRefused (step.Token token) Holds = Unit {0}
IfRefused step.End Holds = Unit {0}
IfRefused (step.Refused kind byte) Holds = Holds kind byte

-- of an answer that isn't a token
abbrev pub UnlessToken : LexStep → Type 0 → Type 0
UnlessToken (step.Token token) holds = Unit {0}
UnlessToken step.End holds = holds
UnlessToken (step.Refused kind byte) holds = holds

abbrev pub IsRefused : LexStep → Type 0
IsRefused (step.Token token) = ⊥
IsRefused step.End = ⊥
IsRefused (step.Refused kind byte) = Unit {0}

-- the token is the longest that begins at this place, and the tokens behind it are those that follow
pub record StandsAt (text : List ℕ) (at : ℕ) (token : Token) : Type 0 where
  pub longest : IsTokenOf text token
  pub begins : token.span.from ≡ at
  pub reads : tokens_from at 0 (drop at text) ≡ token ∷ tokens_from token.span.to 0 (drop token.span.to text)
  pub kinds_read : kinds (drop at text) ≡ token.kind ∷ kinds (drop token.span.to text)
  pub left : unread (drop at text) ≡ unread (drop token.span.to text)

-- no token begins at this place, for this cause, and nothing is read from there on
pub record StopsAt (text : List ℕ) (at : ℕ) (kind : Kind) : Type 0 where
  pub inside : at < length text
  pub none : NoTokenBegins text at
  pub why : IsCause kind (drop at text)
  pub left : unread (drop at text) ≡ drop at text
  pub found : kind ≡ cause (drop at text)
