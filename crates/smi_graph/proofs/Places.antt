-- Later tokens stand at later bytes.
use Rattle.std.proofs.Common.{arith, ◌≡◌, ◌∙◌, ℕ, zero, suc, ◌+◌, ◌-◌, ◌≤◌, ◌<◌, List, [], ◌∷◌, length, drop, get_or, map, Option, Some, None, refl, ap}
use Rattle.smi_lex.specs.declared.token.Token.{Token}
use Rattle.smi_lex.specs.declared.token.TokenKind.{TokenKind}
use Rattle.smi_lex.specs.Fronts.{token_front}
use Rattle.smi_lex.specs.Tokens.{further, with_token, tokens_from, tokens}
use Rattle.smi_graph.specs.Rules.{byte_place}
use Rattle.smi_graph.proofs.Ahead.{next_of, none_ahead}

abbrev froms : List Token → List ℕ
froms ts = map (λ token. token.span.from) ts

-- the first byte of token i, and `end` where there is none
abbrev begin : List Token → ℕ → ℕ → ℕ
begin ts i end = get_or (froms ts) i end

low : (bs : List ℕ) (past at i end : ℕ) → end ≡ at + length bs → at ≤ begin (tokens_from at past bs) i end
low [] past at i end e = omega arith
low (b ∷ bs) (suc past) at i end e = let h = low bs past (at + 1) i end (omega arith) in omega arith
low (b ∷ bs) zero at i end e = by_token (token_front (b ∷ bs)) i (λ past k. low bs past (at + 1) k end (omega arith))
  where
    by_token : (o : Option (TokenKind × List ℕ)) (i : ℕ) → ((past k : ℕ) → at + 1 ≤ begin (tokens_from (at + 1) past bs) k end)
        → at ≤ begin (with_token at bs o (tokens_from (at + 1) (further bs o) bs)) i end
    by_token None i above = omega arith
    by_token (Some found) zero above = omega arith
    by_token (Some found) (suc i) above = let h = above (length bs - length found.1) i in omega arith

rise : (bs : List ℕ) (past at i j end : ℕ) → end ≡ at + length bs → i ≤ j → begin (tokens_from at past bs) i end ≤ begin (tokens_from at past bs) j end
rise [] past at i j end e le = omega arith
rise (b ∷ bs) (suc past) at i j end e le = rise bs past (at + 1) i j end (omega arith) le
rise (b ∷ bs) zero at i j end e le = by_token (token_front (b ∷ bs)) i j le (λ past k l less. rise bs past (at + 1) k l end (omega arith) less)
  where
    by_token : (o : Option (TokenKind × List ℕ)) (i j : ℕ) → i ≤ j
        → ((past k l : ℕ) → k ≤ l → begin (tokens_from (at + 1) past bs) k end ≤ begin (tokens_from (at + 1) past bs) l end)
        → begin (with_token at bs o (tokens_from (at + 1) (further bs o) bs)) i end ≤ begin (with_token at bs o (tokens_from (at + 1) (further bs o) bs)) j end
    by_token None i j le later = omega arith
    by_token (Some found) zero zero le later = omega arith
    by_token (Some found) zero (suc j) le later = let h = low bs (length bs - length found.1) (at + 1) j end (omega arith) in omega arith
    by_token (Some found) (suc i) zero le later = absurd (omega arith)
    by_token (Some found) (suc i) (suc j) le later = later (length bs - length found.1) i j (omega arith)

pub places_rise : (text : List ℕ) (i j : ℕ) → i ≤ j → byte_place text i ≤ byte_place text j
places_rise text i j le = let h = rise text 0 0 i j (length text) (omega arith) le in omega arith

high : (bs : List ℕ) (past at i end : ℕ) → end ≡ at + length bs → begin (tokens_from at past bs) i end ≤ end
high [] past at i end e = omega arith
high (b ∷ bs) (suc past) at i end e = high bs past (at + 1) i end (omega arith)
high (b ∷ bs) zero at i end e = by_token (token_front (b ∷ bs)) i (λ past k. high bs past (at + 1) k end (omega arith))
  where
    by_token : (o : Option (TokenKind × List ℕ)) (i : ℕ) → ((past k : ℕ) → begin (tokens_from (at + 1) past bs) k end ≤ end)
        → begin (with_token at bs o (tokens_from (at + 1) (further bs o) bs)) i end ≤ end
    by_token None i below = omega arith
    by_token (Some found) zero below = omega arith
    by_token (Some found) (suc i) below = below (length bs - length found.1) i

begin_is : (ts : List Token) (i end : ℕ) (d : Token) → i < length ts → begin ts i end ≡ (get_or ts i d).span.from
begin_is [] i end d less = absurd (omega arith)
begin_is (x ∷ ts) zero end d less = refl
begin_is (x ∷ ts) (suc i) end d less = begin_is ts i end d (omega arith)

-- the byte of the token that is the next of those ahead
pub place_ahead : (text : List ℕ) (i : ℕ) (t : Token) (later : List Token) → drop i (tokens text) ≡ t ∷ later → byte_place text i ≡ t.span.from + 1
place_ahead text i t later ahead =
    let next = next_of (tokens text) i t later ahead in
    ap (λ (n : ℕ). n + 1) (begin_is (tokens text) i (length text) t next.within ∙ ap (λ (x : Token). x.span.from) (next.here t))

begin_past : (ts : List Token) (i end : ℕ) → length ts ≤ i → begin ts i end ≡ end
begin_past [] i end past = refl
begin_past (t ∷ ts) zero end past = absurd (omega arith)
begin_past (t ∷ ts) (suc i) end past = begin_past ts i end (omega arith)

-- behind all tokens stands the end of the text
pub place_behind : (text : List ℕ) (passed i : ℕ) → passed ≤ i → drop passed (tokens text) ≡ [] → byte_place text i ≡ length text + 1
place_behind text passed i le none =
    let few = none_ahead (tokens text) passed none in
    ap (λ (n : ℕ). n + 1) (begin_past (tokens text) i (length text) (omega arith))

-- a token has a byte at least
same_token : (a b : Token) (xs ys : List Token) → a ∷ xs ≡ b ∷ ys → a ≡ b
same_token a b xs ys h = cc

no_token : (a : Token) (xs : List Token) → [] ≡ a ∷ xs → ⊥
no_token a xs h = cc

pub moves_on : (at : ℕ) (bs : List ℕ) (t : Token) (ts : List Token) → tokens_from at 0 bs ≡ t ∷ ts → at < t.span.to
moves_on at [] t ts h = absurd (no_token t ts h)
moves_on at (b ∷ bs) t ts h = by_token (token_front (b ∷ bs)) h
  where
    by_token : (o : Option (TokenKind × List ℕ)) → with_token at bs o (tokens_from (at + 1) (further bs o) bs) ≡ t ∷ ts → at < t.span.to
    by_token None h = absurd (no_token t ts h)
    by_token (Some found) h =
        let same = same_token _ t _ ts h in
        let e : at + (length bs - length found.1) + 1 ≡ t.span.to = ap (λ (x : Token). x.span.to) same in omega arith
