-- The tokens of a text up to the first byte at which none begins, as they compute.
use Rattle.std.specs.Prelude.{ℕ, zero, suc, ◌+◌, ◌-◌, List, [], ◌∷◌, length, drop, Option, Some, None}
use Rattle.smi_lex.specs.declared.token.Token.{Token}
use Rattle.smi_lex.specs.declared.token.TokenKind.{TokenKind}
use Rattle.smi_lex.specs.Fronts.{token_front}

-- how many bytes of a token stand behind its first one
abbrev pub further : List ℕ → Option (TokenKind × List ℕ) → ℕ
further bs None = 0
further bs (Some found) = length bs - length found.1

abbrev pub with_kind : Option (TokenKind × List ℕ) → List TokenKind → List TokenKind
with_kind None later = []
with_kind (Some found) later = found.0 ∷ later

-- the kinds of the tokens, behind so many bytes
abbrev pub kinds_from : ℕ → List ℕ → List TokenKind
kinds_from past [] = []
kinds_from (suc past) (b ∷ bs) = kinds_from past bs
kinds_from zero (b ∷ bs) = with_kind (token_front (b ∷ bs)) (kinds_from (further bs (token_front (b ∷ bs))) bs)

-- the kinds of the tokens of a text
abbrev pub kinds : List ℕ → List TokenKind
kinds text = kinds_from 0 text

-- a token that begins at this place, with so many further bytes
abbrev pub token_at : ℕ → ℕ → TokenKind → Token
token_at at more kind = record { kind = kind; span = record { from = at; to = at + more + 1 } }

abbrev pub with_token : ℕ → List ℕ → Option (TokenKind × List ℕ) → List Token → List Token
with_token at bs None later = []
with_token at bs (Some found) later = token_at at (further bs (Some found)) found.0 ∷ later

-- the tokens of a text that begins at this place, behind so many bytes
abbrev pub tokens_from : ℕ → ℕ → List ℕ → List Token
tokens_from at past [] = []
tokens_from at (suc past) (b ∷ bs) = tokens_from (at + 1) past bs
tokens_from at zero (b ∷ bs) =
    with_token at bs (token_front (b ∷ bs)) (tokens_from (at + 1) (further bs (token_front (b ∷ bs))) bs)

-- the tokens of a text
abbrev pub tokens : List ℕ → List Token
tokens text = tokens_from 0 0 text

abbrev pub or_stop : Option (TokenKind × List ℕ) → List ℕ → List ℕ → List ℕ
or_stop None text later = text
or_stop (Some found) text later = later

-- what is left of a text where no token begins, behind so many bytes
abbrev pub unread_from : ℕ → List ℕ → List ℕ
unread_from past [] = []
unread_from (suc past) (b ∷ bs) = unread_from past bs
unread_from zero (b ∷ bs) =
    or_stop (token_front (b ∷ bs)) (b ∷ bs) (unread_from (further bs (token_front (b ∷ bs))) bs)

-- what is left of a text from the first byte on at which no token begins; nothing of one that is read
abbrev pub unread : List ℕ → List ℕ
unread text = unread_from 0 text

-- a text, and the place in it where a lexer stands
pub record Cursor : Type 0 where
  pub text : List ℕ
  pub at : ℕ

-- what is before a lexer
abbrev pub left : Cursor → List ℕ
left cursor = drop cursor.at cursor.text

-- the tokens that are still to come
abbrev pub tokens_left : Cursor → List Token
tokens_left cursor = tokens_from cursor.at 0 (left cursor)
