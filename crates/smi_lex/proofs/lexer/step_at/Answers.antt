use Rattle.std.proofs.Common.{refl, sym, ap, ◌∙◌}
use Rattle.smi_lex.specs.Fronts.{token_front}
use Rattle.smi_lex.proofs.Stepping.{behind_short, some_begins, stands_at, stopped_at}
use Rattle.smi_lex.proofs.lexer.step_at.Goals as goal

pub overflow_sub-to : goal.overflow_sub-to
overflow_sub-to c =
    behind_short c.args.text.now c.args.place c.in-Some.kind c.in-Some.behind.now
    (sym (c.in-Some.ensures ∙ ap token_front c.text_from-rest.ensures))

pub returns-in-Some-clause-token : goal.returns-in-Some-clause-token
returns-in-Some-clause-token c =
    stands_at c.args.text.now c.args.place c.in-Some.kind c.in-Some.behind.now c.requires.inside
    (sym (c.in-Some.ensures ∙ ap token_front c.text_from-rest.ensures))

pub returns-in-Some-clause-refuses : goal.returns-in-Some-clause-refuses
returns-in-Some-clause-refuses c = (
  λ none. absurd none,
  λ both. some_begins c.args.text.now c.args.place c.in-Some.kind c.in-Some.behind.now c.requires.inside
      (sym (c.in-Some.ensures ∙ ap token_front c.text_from-rest.ensures)) both.1,
)

pub returns-in-None-clause-refused : goal.returns-in-None-clause-refused
returns-in-None-clause-refused c = (
  stopped_at c.args.text.now c.text_from-rest.result.now c.args.place c.cause.result
      c.text_from-rest.ensures c.if-is_empty.ensures c.in-None.ensures c.cause.ensures,
  refl,
)

pub returns-in-None-clause-refuses : goal.returns-in-None-clause-refuses
returns-in-None-clause-refuses c =
    let stops = stopped_at c.args.text.now c.text_from-rest.result.now c.args.place c.cause.result
    c.text_from-rest.ensures c.if-is_empty.ensures c.in-None.ensures c.cause.ensures in
    (λ _. (stops.inside, stops.none), λ _. tt)
