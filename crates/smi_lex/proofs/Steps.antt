-- The tokens of a text, one at a time: the token at its front, and then the tokens of what is behind it.
use Rattle.std.proofs.Common.{arith, ◌≡◌, ◌<◌, ◌≤◌, ◌+◌, ◌-◌, ℕ, zero, suc, List, [], ◌∷◌, ◌++◌, length, drop, Some, None, refl, ap, ◌∙◌, length-append}
use Rattle.smi_lex.specs.declared.token.TokenKind.{TokenKind}
use Rattle.smi_lex.specs.Fronts.{token_front}
use Rattle.smi_lex.specs.Tokens.{further, kinds, kinds_from, or_stop, tokens_from, unread, unread_from, with_kind, with_token}
use Rattle.smi_lex.proofs.Longest.{Split, drop_front, split}

tokens_skip : (at n : ℕ) (bs : List ℕ) → tokens_from at n bs ≡ tokens_from (at + n) 0 (drop n bs)
tokens_skip at zero [] = refl
tokens_skip at zero (b ∷ bs) = ap (λ k. tokens_from k 0 (b ∷ bs)) (let e : at ≡ at + 0 = omega arith in e)
tokens_skip at (suc n) [] = refl
tokens_skip at (suc n) (b ∷ bs) =
    tokens_skip (at + 1) n bs ∙ ap (λ k. tokens_from k 0 (drop n bs)) (let e : at + 1 + n ≡ at + suc n = omega arith in e)

kinds_skip : (n : ℕ) (bs : List ℕ) → kinds_from n bs ≡ kinds_from 0 (drop n bs)
kinds_skip zero [] = refl
kinds_skip zero (b ∷ bs) = refl
kinds_skip (suc n) [] = refl
kinds_skip (suc n) (b ∷ bs) = kinds_skip n bs

unread_skip : (n : ℕ) (bs : List ℕ) → unread_from n bs ≡ unread_from 0 (drop n bs)
unread_skip zero [] = refl
unread_skip zero (b ∷ bs) = refl
unread_skip (suc n) [] = refl
unread_skip (suc n) (b ∷ bs) = unread_skip n bs

-- a token's further bytes, and what is behind them
record Behind (bs rest : List ℕ) : Type 0 where
  short : length rest ≤ length bs
  dropped : drop (length bs - length rest) bs ≡ rest

behind : (b : ℕ) (bs : List ℕ) (kind : TokenKind) (rest : List ℕ) → token_front (b ∷ bs) ≡ Some (kind, rest) → Behind bs rest
behind b bs kind rest is = by_front cut.front cut.joined cut.some
  where
    cut : Split kind (b ∷ bs) rest
    cut = split (b ∷ bs) kind rest is

    by_front : (front : List ℕ) → b ∷ bs ≡ front ++ rest → 0 < length front → Behind bs rest
    by_front [] joined some = absurd (omega arith)
    by_front (f ∷ fs) joined some =
        let tail : bs ≡ fs ++ rest = cc in
        let size : length bs ≡ length fs + length rest = ap length tail ∙ length-append fs rest in
        record {
          short = omega arith;
          dropped = ap (λ t. drop (length bs - length rest) t) tail ∙ drop_front (length bs - length rest) fs rest (omega arith);
        }

-- the kinds of a text with this token at its front
pub kinds_step : (text : List ℕ) (kind : TokenKind) (rest : List ℕ) → token_front text ≡ Some (kind, rest) → kinds text ≡ kind ∷ kinds rest
kinds_step [] kind rest is = cc
kinds_step (b ∷ bs) kind rest is =
    let at = behind b bs kind rest is in
    ap (λ o. with_kind o (kinds_from (further bs o) bs)) is
    ∙ ap (λ ks. kind ∷ ks) (kinds_skip (length bs - length rest) bs ∙ ap (λ t. kinds_from 0 t) at.dropped)

-- what is left of a text is what is left behind its first token
pub unread_step : (text : List ℕ) (kind : TokenKind) (rest : List ℕ) → token_front text ≡ Some (kind, rest) → unread text ≡ unread rest
unread_step [] kind rest is = cc
unread_step (b ∷ bs) kind rest is =
    let at = behind b bs kind rest is in
    ap (λ o. or_stop o (b ∷ bs) (unread_from (further bs o) bs)) is
    ∙ unread_skip (length bs - length rest) bs ∙ ap (λ t. unread_from 0 t) at.dropped

-- the tokens of a text that begins at this place
pub tokens_step : (at to : ℕ) (text : List ℕ) (kind : TokenKind) (rest : List ℕ) → token_front text ≡ Some (kind, rest)
    → to + length rest ≡ at + length text
    → tokens_from at 0 text ≡ record { kind = kind; span = record { from = at; to = to } } ∷ tokens_from to 0 rest
tokens_step at to [] kind rest is place = cc
tokens_step at to (b ∷ bs) kind rest is place =
    let found = behind b bs kind rest is in
    let short : length rest ≤ length bs = found.short in
    let here : at + (length bs - length rest) + 1 ≡ to = omega arith in
    let there : at + 1 + (length bs - length rest) ≡ to = omega arith in
    ap (λ o. with_token at bs o (tokens_from (at + 1) (further bs o) bs)) is
    ∙ ap (λ n. record { kind = kind; span = record { from = at; to = n } } ∷ tokens_from (at + 1) (length bs - length rest) bs) here
    ∙ ap (λ ts. record { kind = kind; span = record { from = at; to = to } } ∷ ts)
    (tokens_skip (at + 1) (length bs - length rest) bs
    ∙ ap (λ n. tokens_from n 0 (drop (length bs - length rest) bs)) there
    ∙ ap (λ t. tokens_from to 0 t) found.dropped)

-- where no token begins, nothing is read
pub unread_stop : (text : List ℕ) → token_front text ≡ None → unread text ≡ text
unread_stop [] is = refl
unread_stop (b ∷ bs) is = ap (λ o. or_stop o (b ∷ bs) (unread_from (further bs o) bs)) is

pub tokens_stop : (at : ℕ) (text : List ℕ) → token_front text ≡ None → tokens_from at 0 text ≡ []
tokens_stop at [] is = refl
tokens_stop at (b ∷ bs) is = ap (λ o. with_token at bs o (tokens_from (at + 1) (further bs o) bs)) is

pub kinds_stop : (text : List ℕ) → token_front text ≡ None → kinds text ≡ []
kinds_stop [] is = refl
kinds_stop (b ∷ bs) is = ap (λ o. with_kind o (kinds_from (further bs o) bs)) is
