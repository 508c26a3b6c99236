-- One step of a lexer.
use Rattle.std.proofs.Common.{arith, ◌≡◌, ◌<◌, ◌≤◌, ◌+◌, ◌-◌, ℕ, List, length, drop, Some, None, refl, sym, ap, subst, ◌∙◌, ◌∷◌, ◌==◌, ◌≢◌, false, length-drop}
use Rattle.std.proofs.lemmas.Bool.Decides.{nat_tests}
use Rattle.std.proofs.Math.Seq.{drop-append_seam}
use Rattle.mc_base.specs.declared.kind.Kind.{Kind}
use Rattle.smi_lex.specs.declared.token.TokenKind.{TokenKind}
use Rattle.smi_lex.specs.Fronts.{cause, token_front}
use Rattle.smi_lex.specs.Reading.{NoTokenBegins}
use Rattle.smi_lex.specs.Steps.{StandsAt, StopsAt}
use Rattle.smi_lex.specs.Tokens.{kinds, tokens_from, unread}
use Rattle.smi_lex.proofs.Causes.{cause_is}
use Rattle.smi_lex.proofs.Longest.{is_token_of, no_token, split}
use Rattle.smi_lex.proofs.Steps.{kinds_step, tokens_step, unread_step, unread_stop}
use Rattle.std.proofs.lemmas.List.{drop-drop}

-- what is behind a token is no longer than the text
pub behind_short : (text : List ℕ) (at : ℕ) (kind : TokenKind) (rest : List ℕ) → token_front (drop at text) ≡ Some (kind, rest) → length rest ≤ length text
behind_short text at kind rest is =
    let whole = (split (drop at text) kind rest is).whole in
    let size : length (drop at text) ≡ length text - at = length-drop at text in
    omega arith

-- what a token is, and where it ends
record Ends (text : List ℕ) (at : ℕ) (rest : List ℕ) : Type 0 where
  place : length text - length rest + length rest ≡ length text
  beside : length text - length rest + length rest ≡ at + length (drop at text)
  behind : drop (length text - length rest) text ≡ rest

ends : (text : List ℕ) (at : ℕ) (kind : TokenKind) (rest : List ℕ) → at ≤ length text → token_front (drop at text) ≡ Some (kind, rest) → Ends text at rest
ends text at kind rest inside is =
    let cut = split (drop at text) kind rest is in
    let whole = cut.whole in
    let size : length (drop at text) ≡ length text - at = length-drop at text in
    let further : length text - length rest ≡ at + length cut.front = omega arith in
    record {
      place = omega arith;
      beside = omega arith;
      behind =
          ap (λ n. drop n text) further ∙ sym (drop-drop (length cut.front) at text)
          ∙ ap (λ t. drop (length cut.front) t) cut.joined ∙ drop-append_seam cut.front rest;
    }

pub stands_at : (text : List ℕ) (at : ℕ) (kind : TokenKind) (rest : List ℕ) → at ≤ length text → token_front (drop at text) ≡ Some (kind, rest)
    → StandsAt text at (record { kind = kind; span = record { from = at; to = length text - length rest } })
stands_at text at kind rest inside is =
    let end = ends text at kind rest inside is in
    let to = length text - length rest in
    record {
      longest = is_token_of text at to kind rest inside is end.place;
      begins = refl;
      reads = tokens_step at to (drop at text) kind rest is end.beside
          ∙ ap (λ t. record { kind = kind; span = record { from = at; to = to } } ∷ tokens_from to 0 t) (sym end.behind);
      kinds_read = kinds_step (drop at text) kind rest is ∙ ap (λ t. kind ∷ kinds t) (sym end.behind);
      left = unread_step (drop at text) kind rest is ∙ ap unread (sym end.behind);
    }

-- where something is left, the place is inside the text
pub inside_of : (text : List ℕ) (at : ℕ) → (length (drop at text) == 0) ≡ false → at < length text
inside_of text at some =
    let size : length (drop at text) ≡ length text - at = length-drop at text in
    let some' : length (drop at text) ≢ 0 = grind (arith, nat_tests) in
    omega arith

pub stops_at : (text : List ℕ) (at : ℕ) → at < length text → token_front (drop at text) ≡ None → StopsAt text at (cause (drop at text))
stops_at text at inside is = record {
  inside = inside;
  none = no_token text at is;
  why = cause_is (drop at text);
  left = unread_stop (drop at text) is;
  found = refl;
}

-- the same where what is left has a name
pub stopped_at : (text rest : List ℕ) (at : ℕ) (kind : Kind) → rest ≡ drop at text → false ≡ (length rest == 0)
    → None ≡ token_front rest → kind ≡ cause rest → StopsAt text at kind
stopped_at text rest at kind is some none why =
    let inside = inside_of text at (ap (λ t. length t == 0) (sym is) ∙ sym some) in
    let nothing : token_front (drop at text) ≡ None = ap token_front (sym is) ∙ sym none in
    subst (λ (k : Kind). StopsAt text at k) (ap cause (sym is) ∙ sym why) (stops_at text at inside nothing)

-- where a token begins, it isn't so that none does
pub some_begins : (text : List ℕ) (at : ℕ) (kind : TokenKind) (rest : List ℕ) → at ≤ length text → token_front (drop at text) ≡ Some (kind, rest)
    → NoTokenBegins text at → ⊥
some_begins text at kind rest inside is none =
    let stands = stands_at text at kind rest inside is in
    none kind (length text - length rest) stands.longest.within stands.longest.spelled
