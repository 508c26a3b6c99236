-- The tokens that compute are the reading of the text, and the only one.
use Rattle.std.proofs.Common.{arith, ◌≡◌, ◌<◌, ◌≤◌, ◌+◌, ◌-◌, ℕ, zero, suc, List, [], ◌∷◌, length, take, drop, map, Some, None, refl, sym, ap, subst, ◌∙◌, inl, inr, length-drop}
use Rattle.std.proofs.lemmas.List.{drop-drop, take-append-drop}
use Rattle.std.proofs.Math.ListN.{drop_of_length-le}
use Rattle.std.proofs.lemmas.Bool.{cases_lt}
use Rattle.smi_lex.specs.declared.token.Token.{Token}
use Rattle.smi_lex.specs.declared.token.TokenKind.{TokenKind}
use Rattle.smi_lex.specs.Grammar.{Spells}
use Rattle.smi_lex.specs.Fronts.{token_front}
use Rattle.smi_lex.specs.Reading.{IsReading, IsTokenOf, NoTokenBegins}
use Rattle.smi_lex.specs.Tokens.{kinds, tokens_from, unread}
use Rattle.smi_lex.proofs.Longest.{no_token, not_empty, split, take_front}
use Rattle.smi_lex.proofs.Steps.{kinds_stop, tokens_step, tokens_stop, unread_stop}
use Rattle.smi_lex.proofs.Stepping.{stands_at}
use Rattle.smi_lex.proofs.TokenRead.{Found, token_read}

-- what is known of the tokens from a place on
pub record ReadsFrom (text : List ℕ) (at : ℕ) : Type 0 where
  pub reading : IsReading text at (tokens_from at 0 (drop at text)) (length text - length (unread (drop at text)))
  pub rest : drop (length text - length (unread (drop at text))) text ≡ unread (drop at text)
  pub stops : token_front (unread (drop at text)) ≡ None
  pub same_kinds : map (λ t. t.kind) (tokens_from at 0 (drop at text)) ≡ kinds (drop at text)

at_stop : (text : List ℕ) (at : ℕ) → at ≤ length text → token_front (drop at text) ≡ None → ReadsFrom text at
at_stop text at inside is =
    let left : unread (drop at text) ≡ drop at text = unread_stop (drop at text) is in
    let none : tokens_from at 0 (drop at text) ≡ [] = tokens_stop at (drop at text) is in
    let size : length (drop at text) ≡ length text - at = length-drop at text in
    let place : at ≡ length text - length (unread (drop at text)) =
    (let e : at ≡ length text - length (drop at text) = omega arith in e) ∙ ap (λ t. length text - length t) (sym left) in
    record {
      reading = subst (λ ts. IsReading text at ts (length text - length (unread (drop at text)))) (sym none) place;
      rest = ap (λ n. drop n text) (sym place) ∙ sym left;
      stops = ap token_front left ∙ is;
      same_kinds = ap (λ ts. map (λ t. t.kind) ts) none ∙ sym (kinds_stop (drop at text) is);
    }

at_token : (text : List ℕ) (at : ℕ) (kind : TokenKind) (rest : List ℕ) → at ≤ length text → token_front (drop at text) ≡ Some (kind, rest)
    → ReadsFrom text (length text - length rest) → ReadsFrom text at
at_token text at kind rest inside is later =
    let stands = stands_at text at kind rest inside is in
    let to = length text - length rest in
    let left : unread (drop at text) ≡ unread (drop to text) = stands.left in
    let token : Token = record { kind = kind; span = record { from = at; to = to } } in
    let reading : IsReading text at (token ∷ tokens_from to 0 (drop to text)) (length text - length (unread (drop to text))) =
    (refl, stands.longest, later.reading) in
    record {
      reading = subst (λ ts. IsReading text at ts (length text - length (unread (drop at text)))) (sym stands.reads)
          (subst (λ t. IsReading text at (token ∷ tokens_from to 0 (drop to text)) (length text - length t)) (sym left) reading);
      rest = ap (λ t. drop (length text - length t) text) left ∙ later.rest ∙ sym left;
      stops = ap token_front left ∙ later.stops;
      same_kinds = ap (λ ts. map (λ t. t.kind) ts) stands.reads ∙ ap (λ ks. kind ∷ ks) later.same_kinds ∙ sym stands.kinds_read;
    }

-- by the number of bytes that are left
reads_within : (most : ℕ) (text : List ℕ) (at : ℕ) → at ≤ length text → length text - at ≤ most → ReadsFrom text at
reads_within zero text at inside few =
    at_stop text at inside (ap token_front (drop_of_length-le text (let e : length text ≤ at = omega arith in e)))
reads_within (suc n) text at inside few =
    elim (token_front (drop at text)) as (λ o. token_front (drop at text) ≡ o → ReadsFrom text at) [
      | None ↦ λ is. at_stop text at inside is
      | Some found ↦ λ is.
          let cut = split (drop at text) found.0 found.1 is in
          let whole = cut.whole in
          let some = cut.some in
          let size : length (drop at text) ≡ length text - at = length-drop at text in
          let short : length found.1 ≤ length text = omega arith in
          let further : length text - (length text - length found.1) ≤ n = omega arith in
          at_token text at found.0 found.1 inside is
          (reads_within n text (length text - length found.1) (omega arith) further)
    ] refl

pub reads_from : (text : List ℕ) (at : ℕ) → at ≤ length text → ReadsFrom text at
reads_from text at inside = reads_within (length text) text at inside (omega arith)

-- the longest token is the one that is found
pub longest_found : (text : List ℕ) (token : Token) → IsTokenOf text token
    → token_front (drop token.span.from text) ≡ Some (token.kind, drop (token.span.to - token.span.from) (drop token.span.from text))
longest_found text token is = found (token_read token.kind front behind is.spelled)
  where
    from : ℕ
    from = token.span.from

    front : List ℕ
    front = take (token.span.to - token.span.from) (drop token.span.from text)

    behind : List ℕ
    behind = drop (token.span.to - token.span.from) (drop token.span.from text)

    found : Found token.kind (take (token.span.to - token.span.from) (drop token.span.from text)) (drop (token.span.to - token.span.from) (drop token.span.from text))
        → token_front (drop token.span.from text) ≡ Some (token.kind, drop (token.span.to - token.span.from) (drop token.span.from text))
    found (inl read) = ap token_front (sym (take-append-drop (token.span.to - token.span.from) (drop token.span.from text))) ∙ read
    found (inr (other, rest, read, less, why)) =
        let read' : token_front (drop token.span.from text) ≡ Some (other, rest) =
        ap token_front (sym (take-append-drop (token.span.to - token.span.from) (drop token.span.from text))) ∙ read in
        let cut = split (drop token.span.from text) other rest read' in
        let whole = cut.whole in
        let some = cut.some in
        let within = is.within in
        let size : length (drop token.span.from text) ≡ length text - token.span.from = length-drop token.span.from text in
        let left : length (drop (token.span.to - token.span.from) (drop token.span.from text)) ≡ length (drop token.span.from text) - (token.span.to - token.span.from) =
        length-drop (token.span.to - token.span.from) (drop token.span.from text) in
        let end : length text - length rest - token.span.from ≡ length cut.front = omega arith in
        let text_of : take (length text - length rest - token.span.from) (drop token.span.from text) ≡ cut.front =
        ap (λ t. take (length text - length rest - token.span.from) t) cut.joined
        ∙ take_front (length text - length rest - token.span.from) cut.front rest end in
        absurd (is.longest other (length text - length rest) (omega arith) (omega arith)
        (subst (λ t. Spells other t) (sym text_of) cut.spelled))

-- a token has a byte
token_bytes : (text : List ℕ) (token : Token) → IsTokenOf text token → token.span.from < token.span.to
token_bytes text token is =
    let some = not_empty token.kind (take (token.span.to - token.span.from) (drop token.span.from text)) is.spelled in
    elim (cases_lt token.span.from token.span.to) [
      | inl more ↦ more
      | inr less ↦
          let none : token.span.to - token.span.from ≡ 0 = omega arith in
          let empty : length (take (token.span.to - token.span.from) (drop token.span.from text)) ≡ 0 =
          ap (λ n. length (take n (drop token.span.from text))) none in
          absurd (omega arith)
    ]

-- where no token begins, none is found
none_begins : (text : List ℕ) (at : ℕ) → at ≤ length text → NoTokenBegins text at → token_front (drop at text) ≡ None
none_begins text at inside none = elim (token_front (drop at text)) as (λ o. token_front (drop at text) ≡ o → token_front (drop at text) ≡ None) [
  | None ↦ λ is. is
  | Some found ↦ λ is.
      let stands = stands_at text at found.0 found.1 inside is in
      absurd (none found.0 (length text - length found.1) stands.longest.within stands.longest.spelled)
] refl

-- tokens up to a place at which none begins are those of the text
pub only_front : (text : List ℕ) (at end : ℕ) (ts : List Token) → at ≤ length text → end ≤ length text → IsReading text at ts end → NoTokenBegins text end
    → ts ≡ tokens_from at 0 (drop at text)
only_front text at end [] inside within here none =
    sym (tokens_stop at (drop at text) (none_begins text at inside (subst (λ n. NoTokenBegins text n) (sym here) none)))
only_front text at end (token ∷ ts) inside within (begins, is, later) none =
    let to = token.span.to in
    let more = token_bytes text token is in
    let behind : List ℕ = drop (to - token.span.from) (drop token.span.from text) in
    let found : token_front (drop token.span.from text) ≡ Some (token.kind, behind) = longest_found text token is in
    let size : length (drop token.span.from text) ≡ length text - token.span.from = length-drop token.span.from text in
    let left : length behind ≡ length (drop token.span.from text) - (to - token.span.from) = length-drop (to - token.span.from) (drop token.span.from text) in
    let same : behind ≡ drop to text =
    drop-drop (to - token.span.from) token.span.from text ∙ ap (λ n. drop n text) (let e : token.span.from + (to - token.span.from) ≡ to = omega arith in e) in
    let others : ts ≡ tokens_from to 0 (drop to text) = only_front text to end ts is.within within later none in
    let ends = is.within in
    let step : tokens_from token.span.from 0 (drop token.span.from text) ≡ record { kind = token.kind; span = record { from = token.span.from; to = to } } ∷ tokens_from to 0 behind =
    tokens_step token.span.from to (drop token.span.from text) token.kind behind found (omega arith) in
    ap (λ us. token ∷ us) others ∙ ap (λ t. token ∷ tokens_from to 0 t) (sym same) ∙ sym step ∙ ap (λ n. tokens_from n 0 (drop n text)) begins

-- none begins at the end
none_at_end : (text : List ℕ) → NoTokenBegins text (length text)
none_at_end text = no_token text (length text) (ap token_front (drop_of_length-le text (let e : length text ≤ length text = omega arith in e)))

pub only_reading : (text : List ℕ) (ts : List Token) → IsReading text 0 ts (length text) → ts ≡ tokens_from 0 0 text
only_reading text ts is = only_front text 0 (length text) ts (omega arith) (omega arith) is (none_at_end text)

-- what is spelled by one text is one kind
pub one_kind : (kind other : TokenKind) (text : List ℕ) → Spells kind text → Spells other text → kind ≡ other
one_kind kind other text first second = same (token_read kind text [] first) (token_read other text [] second)
  where
    same : Found kind text [] → Found other text [] → kind ≡ other
    same (inl a) (inl b) =
        let both : ◌≡◌ {A = TokenKind × List ℕ} (kind, []) (other, []) = cc in ap (λ (p : TokenKind × List ℕ). p.0) both
    same (inr (k, r, found, less, why)) b = absurd (omega arith)
    same a (inr (k, r, found, less, why)) = absurd (omega arith)
