use Rattle.std.proofs.Common.{◌≡◌, ◌≤◌, ◌-◌, drop, length}
use Rattle.smi_lex.specs.Tokens.{tokens, tokens_from}
use Rattle.smi_graph.proofs.tokens.byte_place.Given as goal

abbrev pub invariant-loop-token : goal.invariant-loop-token
invariant-loop-token l = record {
  text : l.lexer.text ≡ l.text;
  inside : l.lexer.at ≤ length l.text;
  ahead : tokens_from l.lexer.at 0 (drop l.lexer.at l.text) ≡ drop l.passed (tokens l.text);
  passed : l.passed ≤ l.i;
  few : l.passed ≤ l.lexer.at;
}

abbrev pub decreases-loop-token : goal.decreases-loop-token
decreases-loop-token l = length l.text - l.lexer.at
