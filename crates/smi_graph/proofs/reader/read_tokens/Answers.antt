use Rattle.std.proofs.Common.{arith, ◌≡◌, ◌∙◌, ℕ, ◌≤◌, List, length, sym, ap, refl, subst, drop}
use Rattle.smi_lex.specs.Steps.{StopsAt}
use Rattle.smi_lex.specs.Tokens.{Cursor, tokens, tokens_from, unread}
use Rattle.smi_graph.proofs.Ahead.{next_of, none_ahead}
use Rattle.smi_graph.proofs.Lexing.{all_read, next_ahead}
use Rattle.smi_graph.proofs.Lifting.{shows_stop}
use Rattle.smi_graph.proofs.Places.{moves_on}
use Rattle.smi_graph.proofs.reader.read_tokens.Goals as goal

pub loop-token-init : goal.loop-token-init
loop-token-init c =
    let at : c.new-lexer.result.at ≡ 0 = ap (λ (cursor : Cursor). cursor.at) c.new-lexer.ensures in
    let none = c.in_ok-reader.ensures.tokens in
    record {
      text = ap (λ (cursor : Cursor). cursor.text) c.new-lexer.ensures;
      inside = omega arith;
      ahead = ap (λ (n : ℕ). tokens_from n 0 (drop n c.args.text.now)) at ∙ sym (ap (λ (n : ℕ). drop n (tokens c.args.text.now)) none);
      rest = ap (λ (n : ℕ). unread (drop n c.args.text.now)) at;
      few = omega arith;
      has = c.in_ok-reader.ensures.has (tokens c.args.text.now);
      bounded = c.in_ok-reader.ensures.bounded;
    }

pub loop-token-preserved : goal.loop-token-preserved
loop-token-preserved c =
    let (stands, moved) = c.in-Token.ensures.token in
    let text = c.loop-token.invariant.text in
    let passed : ℕ = c.loop-token.reader.structure.tokens in
    let ahead = next_ahead c.args.text.now c.loop-token.lexer.text c.loop-token.lexer.at passed c.in-Token.token text stands c.loop-token.invariant.ahead in
    let next = next_of (tokens c.args.text.now) passed c.in-Token.token _ ahead in
    let at : c.next.new.self.at ≡ c.in-Token.token.span.to = ap (λ (cursor : Cursor). cursor.at) moved in
    let on = moves_on c.loop-token.lexer.at (drop c.loop-token.lexer.at c.loop-token.lexer.text) c.in-Token.token _ stands.reads in
    let more = c.in_ok-read-in-Token.ensures.tokens in
    let within = subst (λ (x : List ℕ). c.in-Token.token.span.to ≤ length x) text stands.longest.within in
    let left = subst (λ (x : List ℕ). unread (drop c.loop-token.lexer.at x) ≡ unread (drop c.in-Token.token.span.to x)) text stands.left in
    record {
      text = ap (λ (cursor : Cursor). cursor.text) moved ∙ text;
      inside = omega arith;
      ahead = ap (λ (n : ℕ). tokens_from n 0 (drop n c.args.text.now)) at ∙ (sym next.behind ∙ ap (λ (n : ℕ). drop n (tokens c.args.text.now)) (sym more));
      rest = ap (λ (n : ℕ). unread (drop n c.args.text.now)) at ∙ (sym left ∙ c.loop-token.invariant.rest);
      few = let few = c.loop-token.invariant.few in omega arith;
      has = c.in_ok-read-in-Token.ensures.has (tokens c.args.text.now) _ ahead c.loop-token.invariant.has;
      bounded = c.in_ok-read-in-Token.ensures.bounded;
    }

pub returns-in-End-clause-all : goal.returns-in-End-clause-all
returns-in-End-clause-all c =
    let end = c.in-End.ensures.end.0 refl ∙ ap (λ (x : List ℕ). length x) c.loop-token.invariant.text in
    let few = none_ahead (tokens c.args.text.now) c.loop-token.reader.structure.tokens (sym c.loop-token.invariant.ahead ∙ all_read c.args.text.now c.loop-token.lexer.at end) in
    let within = c.loop-token.invariant.has.within in
    omega arith

pub returns-in-Refused-clause-err : goal.returns-in-Refused-clause-err
returns-in-Refused-clause-err c =
    let (stops, byte) = c.in-Refused.ensures.refused in
    let here : StopsAt c.args.text.now c.loop-token.lexer.at c.in-Refused.kind = subst (λ (x : List ℕ). StopsAt x c.loop-token.lexer.at c.in-Refused.kind) c.loop-token.invariant.text stops in
    rw (c.at.ensures, byte) (shows_stop c.args.text.now c.loop-token.lexer.at c.in-Refused.kind here c.loop-token.invariant.rest)
