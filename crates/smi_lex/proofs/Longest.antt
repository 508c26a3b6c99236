-- What is found at the front of a text is the longest token that begins there.
use Rattle.std.proofs.Common.{arith, ◌≡◌, ◌<◌, ◌≤◌, ◌+◌, ◌-◌, ℕ, List, [], ◌∷◌, ◌++◌, length, take, drop, Option, Some, None, sym, ap, subst, ◌∙◌, inl, inr, length-append, length-drop}
use Rattle.std.proofs.lemmas.List.{take-append-drop}
use Rattle.std.proofs.Math.Seq.{drop-append_seam, take-append_seam}
use Rattle.smi_lex.specs.declared.token.TokenKind.{TokenKind}
use Rattle.smi_lex.specs.Grammar.{Spells}
use Rattle.smi_lex.specs.Fronts.{token_front}
use Rattle.smi_lex.specs.Reading.{IsTokenOf, NoTokenBegins}
use Rattle.smi_lex.proofs.TokenSound.{token_sound}
use Rattle.smi_lex.proofs.TokenRead.{Found, token_read}

-- two answers are one
same_answer : {A : Type 0} (x y : A) (r t : List ℕ) → ◌≡◌ {A = Option (A × List ℕ)} (Some (x, r)) (Some (y, t)) → (x ≡ y) × (r ≡ t)
same_answer {A} x y r t is =
    let same : ◌≡◌ {A = A × List ℕ} (x, r) (y, t) = cc in
    (ap (λ (p : A × List ℕ). p.0) same, ap (λ (p : A × List ℕ). p.1) same)

-- no spelled front is longer than the one that is found
pub none_longer : (text : List ℕ) (kind : TokenKind) (rest : List ℕ) → token_front text ≡ Some (kind, rest)
    → (other : TokenKind) (front behind : List ℕ) → text ≡ front ++ behind → Spells other front → length rest ≤ length behind
none_longer text kind rest is other front behind joined spelled =
    at_most (token_read other front behind spelled)
  where
    is' : token_front (front ++ behind) ≡ Some (kind, rest)
    is' = ap token_front (sym joined) ∙ is

    at_most : Found other front behind → length rest ≤ length behind
    at_most (inl found) = let e = ap length (same_answer kind other rest behind (sym is' ∙ found)).1 in omega arith
    at_most (inr (longer, shorter, found, less, why)) =
        let e = ap length (same_answer kind longer rest shorter (sym is' ∙ found)).1 in omega arith

-- where nothing is found, no front is spelled
pub none_spelled : (text : List ℕ) → token_front text ≡ None
    → (other : TokenKind) (front behind : List ℕ) → text ≡ front ++ behind → Spells other front → ⊥
none_spelled text is other front behind joined spelled =
    contradiction (token_read other front behind spelled)
  where
    is' : token_front (front ++ behind) ≡ None
    is' = ap token_front (sym joined) ∙ is

    contradiction : Found other front behind → ⊥
    contradiction (inl found) = cc
    contradiction (inr (longer, shorter, found, less, why)) = cc

-- no token is empty
pub not_empty : (kind : TokenKind) (text : List ℕ) → Spells kind text → 0 < length text
not_empty kind [] spelled = absurd (contradiction (token_read kind [] [] spelled))
  where
    contradiction : Found kind [] [] → ⊥
    contradiction (inl found) = cc
    contradiction (inr (longer, shorter, found, less, why)) = omega arith
not_empty kind (b ∷ bs) spelled = omega arith

-- what is found is some bytes of the text, and the text behind them
pub record Split (kind : TokenKind) (text rest : List ℕ) : Type 0 where
  pub front : List ℕ
  pub joined : text ≡ front ++ rest
  pub spelled : Spells kind front
  pub some : 0 < length front
  pub whole : length front + length rest ≡ length text

pub split : (text : List ℕ) (kind : TokenKind) (rest : List ℕ) → token_front text ≡ Some (kind, rest) → Split kind text rest
split text kind rest is =
    let at = token_sound text kind rest is in record {
      front = at.front;
      joined = at.joined;
      spelled = at.spelled;
      some = not_empty kind at.front at.spelled;
      whole = sym (length-append at.front rest) ∙ ap length (sym at.joined);
    }

pub take_front : (n : ℕ) (xs ys : List ℕ) → n ≡ length xs → take n (xs ++ ys) ≡ xs
take_front n xs ys is = ap (λ k. take k (xs ++ ys)) is ∙ take-append_seam xs ys

pub drop_front : (n : ℕ) (xs ys : List ℕ) → n ≡ length xs → drop n (xs ++ ys) ≡ ys
drop_front n xs ys is = ap (λ k. drop k (xs ++ ys)) is ∙ drop-append_seam xs ys

-- the token that is found where the text goes on so
pub is_token_of : (text : List ℕ) (at to : ℕ) (kind : TokenKind) (rest : List ℕ) → at ≤ length text
    → token_front (drop at text) ≡ Some (kind, rest) → to + length rest ≡ length text
    → IsTokenOf text (record { kind = kind; span = record { from = at; to = to } })
is_token_of text at to kind rest inside is place =
    let cut = split (drop at text) kind rest is in
    let size : length (drop at text) + at ≡ length text = simp length-drop (omega arith) in
    let whole = cut.whole in
    record {
      within = omega arith;
      spelled = subst (λ t. Spells kind t)
          (sym (ap (λ t. take (to - at) t) cut.joined ∙ take_front (to - at) cut.front rest (omega arith))) cut.spelled;
      longest = λ other end later ends spelled.
          let most : length rest ≤ length (drop (end - at) (drop at text)) =
          none_longer (drop at text) kind rest is other (take (end - at) (drop at text)) (drop (end - at) (drop at text))
          (sym (take-append-drop (end - at) (drop at text))) spelled in
          let left_over : length (drop (end - at) (drop at text)) ≡ length (drop at text) - (end - at) = length-drop (end - at) (drop at text) in
          omega arith;
    }

pub no_token : (text : List ℕ) (at : ℕ) → token_front (drop at text) ≡ None → NoTokenBegins text at
no_token text at is kind to ends spelled =
    none_spelled (drop at text) is kind (take (to - at) (drop at text)) (drop (to - at) (drop at text))
    (sym (take-append-drop (to - at) (drop at text))) spelled
