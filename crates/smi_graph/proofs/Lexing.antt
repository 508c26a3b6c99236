-- The end of the tokens that are read.
use Rattle.std.proofs.Common.{arith, ◌≡◌, ◌∙◌, ℕ, ◌≤◌, ◌<◌, List, [], ◌∷◌, length, drop, Option, Some, None, refl, ap, sym, subst}
use Rattle.std.proofs.Math.Seq.{drop-length}
use Rattle.mc_base.specs.declared.kind.Kind.{Kind}
use Rattle.smi_lex.specs.declared.token.Token.{Token}
use Rattle.smi_lex.specs.declared.token.TokenKind.{TokenKind}
use Rattle.smi_lex.specs.Fronts.{token_front}
use Rattle.smi_lex.specs.Reading.{NoTokenBegins}
use Rattle.smi_lex.specs.Steps.{StandsAt, StopsAt}
use Rattle.smi_lex.specs.Tokens.{tokens, tokens_from}
use Rattle.smi_lex.proofs.Steps.{tokens_stop}
use Rattle.smi_lex.proofs.Stepping.{some_begins}

-- where no token begins, nothing more is read
pub none_left : (text : List ℕ) (at : ℕ) → at ≤ length text → NoTokenBegins text at → tokens_from at 0 (drop at text) ≡ []
none_left text at inside none = tokens_stop at (drop at text) (by_front (token_front (drop at text)) refl)
  where
    by_front : (o : Option (TokenKind × List ℕ)) → token_front (drop at text) ≡ o → token_front (drop at text) ≡ None
    by_front None e = e
    by_front (Some found) e = absurd (some_begins text at found.0 found.1 inside e none)

pub all_read : (text : List ℕ) (at : ℕ) → at ≡ length text → tokens_from at 0 (drop at text) ≡ []
all_read text at e = ap (tokens_from at 0) (ap (λ (n : ℕ). drop n text) e ∙ drop-length text)

-- where the lexer of a text stops, no token is ahead
pub none_where_stopped : (text own : List ℕ) (at : ℕ) (kind : Kind) → own ≡ text → StopsAt own at kind → tokens_from at 0 (drop at text) ≡ []
none_where_stopped text own at kind is stops =
    let inside : at < length text = subst (λ (x : List ℕ). at < length x) is stops.inside in
    none_left text at (omega arith) (subst (λ (x : List ℕ). NoTokenBegins x at) is stops.none)

-- the token at which the lexer of a text stands is the next of those that are ahead
pub next_ahead : (text own : List ℕ) (at passed : ℕ) (t : Token) → own ≡ text → StandsAt own at t → tokens_from at 0 (drop at text) ≡ drop passed (tokens text)
    → drop passed (tokens text) ≡ t ∷ tokens_from t.span.to 0 (drop t.span.to text)
next_ahead text own at passed t is stands ahead = sym ahead ∙ subst (λ (x : List ℕ). tokens_from at 0 (drop at x) ≡ t ∷ tokens_from t.span.to 0 (drop t.span.to x)) is stands.reads
