use Rattle.std.proofs.Common.{◌≡◌, ◌≤◌, ◌-◌, drop, length}
use Rattle.smi_lex.specs.Tokens.{tokens, tokens_from, unread}
use Rattle.smi_graph.specs.Reading.{HasRead, IsBounded}
use Rattle.smi_graph.proofs.reader.read_tokens.Given as goal

abbrev pub invariant-loop-token : goal.invariant-loop-token
invariant-loop-token l = record {
  text : l.lexer.text ≡ l.text;
  inside : l.lexer.at ≤ length l.text;
  ahead : tokens_from l.lexer.at 0 (drop l.lexer.at l.text) ≡ drop l.reader.structure.tokens (tokens l.text);
  rest : unread (drop l.lexer.at l.text) ≡ unread l.text;
  few : l.reader.structure.tokens ≤ l.lexer.at;
  has : HasRead (tokens l.text) l.reader;
  bounded : IsBounded l.reader.structure;
}

abbrev pub decreases-loop-token : goal.decreases-loop-token
decreases-loop-token l = length l.text - l.lexer.at
