use Rattle.std.proofs.Common.{◌∙◌, ◌++◌, sym, ap, List}
use Rattle.std.proofs.lemmas.List.{append-nil}
use Rattle.smi_lex.specs.declared.token.Token.{Token}
use Rattle.smi_graph.specs.Roles.{roles}
use Rattle.smi_graph.proofs.Lexing.{none_where_stopped}
use Rattle.smi_graph.proofs.tokens.roles_of.Goals as goal

pub returns-in-Refused-clause-roles : goal.returns-in-Refused-clause-roles
returns-in-Refused-clause-roles c =
    let none = none_where_stopped c.args.text.now c.loop-token.lexer.text c.loop-token.lexer.at c.in-Refused.field-0 c.loop-token.invariant.text c.in-Refused.ensures.refused.0 in
    sym (append-nil c.loop-token.found.items) ∙ (ap (λ (x : List Token). c.loop-token.found.items ++ roles x) (sym none) ∙ c.loop-token.invariant.roles)
