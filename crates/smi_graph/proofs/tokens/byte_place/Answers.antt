use Rattle.std.proofs.Common.{arith, ◌≡◌, ◌∙◌, ℕ, ◌≤◌, List, length, sym, ap, refl, subst, drop, inl, inr}
use Rattle.std.proofs.lemmas.Bool.{cases_lt}
use Rattle.smi_lex.specs.Tokens.{Cursor, tokens, tokens_from}
use Rattle.smi_graph.specs.Rules.{byte_place}
use Rattle.smi_graph.proofs.Ahead.{next_of}
use Rattle.smi_graph.proofs.Lexing.{all_read, next_ahead, none_where_stopped}
use Rattle.smi_graph.proofs.Places.{moves_on, place_ahead, place_behind}
use Rattle.smi_graph.proofs.tokens.byte_place.Goals as goal

pub returns-then-passed-i : goal.returns-then-passed-i
returns-then-passed-i c =
    let ahead = next_ahead c.args.text.now c.loop-token.lexer.text c.loop-token.lexer.at c.loop-token.passed c.in-Token.token c.loop-token.invariant.text c.in-Token.ensures.token.0 c.loop-token.invariant.ahead in
    sym (place_ahead c.args.text.now c.loop-token.passed c.in-Token.token _ ahead) ∙ ap (byte_place c.args.text.now) c.if-passed-i.true

pub loop-token-preserved : goal.loop-token-preserved
loop-token-preserved c =
    let (stands, moved) = c.in-Token.ensures.token in
    let ahead = next_ahead c.args.text.now c.loop-token.lexer.text c.loop-token.lexer.at c.loop-token.passed c.in-Token.token c.loop-token.invariant.text stands c.loop-token.invariant.ahead in
    let next = next_of (tokens c.args.text.now) c.loop-token.passed c.in-Token.token _ ahead in
    let at : c.next.new.self.at ≡ c.in-Token.token.span.to = ap (λ (cursor : Cursor). cursor.at) moved in
    let on = moves_on c.loop-token.lexer.at (drop c.loop-token.lexer.at c.loop-token.lexer.text) c.in-Token.token _ stands.reads in
    record {
      text = ap (λ (cursor : Cursor). cursor.text) moved ∙ c.loop-token.invariant.text;
      inside = let within = subst (λ (x : List ℕ). c.in-Token.token.span.to ≤ length x) c.loop-token.invariant.text stands.longest.within in omega arith;
      ahead = ap (λ (n : ℕ). tokens_from n 0 (drop n c.args.text.now)) at ∙ sym next.behind;
      passed = elim (cases_lt c.loop-token.passed c.args.i) [
        | inl less ↦ omega arith
        | inr more ↦ let few = c.loop-token.invariant.passed in absurd (c.if-passed-i.false (omega arith))
      ];
      few = let few = c.loop-token.invariant.few in omega arith;
    }

pub returns-in-End : goal.returns-in-End
returns-in-End c = sym (place_behind c.args.text.now c.loop-token.passed c.args.i c.loop-token.invariant.passed (sym c.loop-token.invariant.ahead ∙ all_read c.args.text.now c.loop-token.lexer.at (c.in-End.ensures.end.0 refl ∙ ap (λ (x : List ℕ). length x) c.loop-token.invariant.text)))

pub returns-in-Refused : goal.returns-in-Refused
returns-in-Refused c =
    let none = none_where_stopped c.args.text.now c.loop-token.lexer.text c.loop-token.lexer.at c.in-Refused.field-0 c.loop-token.invariant.text c.in-Refused.ensures.refused.0 in
    sym (place_behind c.args.text.now c.loop-token.passed c.args.i c.loop-token.invariant.passed (sym c.loop-token.invariant.ahead ∙ none))
