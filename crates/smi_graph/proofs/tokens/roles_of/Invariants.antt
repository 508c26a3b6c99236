use Rattle.std.proofs.Common.{◌≡◌, ◌++◌, ◌≤◌, ◌-◌, drop, length}
use Rattle.smi_lex.specs.Tokens.{tokens_from}
use Rattle.smi_graph.specs.Roles.{roles}
use Rattle.smi_graph.specs.Rules.{roles_in}
use Rattle.smi_graph.proofs.tokens.roles_of.Given as goal

abbrev pub invariant-loop-token : goal.invariant-loop-token
invariant-loop-token l = record {
  text : l.lexer.text ≡ l.text;
  inside : l.lexer.at ≤ length l.text;
  roles : l.found.items ++ roles (tokens_from l.lexer.at 0 (drop l.lexer.at l.text)) ≡ roles_in l.text;
  few : length l.found.items ≤ l.lexer.at;
}

abbrev pub decreases-loop-token : goal.decreases-loop-token
decreases-loop-token l = length l.text - l.lexer.at
