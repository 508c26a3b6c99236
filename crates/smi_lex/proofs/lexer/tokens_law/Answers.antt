use Rattle.std.proofs.Common.{arith, ap, ◌∙◌}
use Rattle.smi_lex.specs.Fronts.{token_front}
use Rattle.smi_lex.proofs.Longest.{no_token}
use Rattle.smi_lex.proofs.Reading.{one_kind, only_front, only_reading, reads_from}
use Rattle.smi_lex.proofs.lexer.tokens_law.Goals as goal

pub returns-clause-reading : goal.returns-clause-reading
returns-clause-reading c = λ text. (reads_from text 0 (omega arith)).reading

pub returns-clause-rest : goal.returns-clause-rest
returns-clause-rest c = λ text. (reads_from text 0 (omega arith)).rest

pub returns-clause-stops : goal.returns-clause-stops
returns-clause-stops c = λ text.
    let reads = reads_from text 0 (omega arith) in
    no_token text _ (ap token_front reads.rest ∙ reads.stops)

pub returns-clause-only : goal.returns-clause-only
returns-clause-only c = λ text others is. only_reading text others is

pub returns-clause-only_front : goal.returns-clause-only_front
returns-clause-only_front c = λ text others end within is none. only_front text 0 end others (omega arith) within is none

pub returns-clause-kinds : goal.returns-clause-kinds
returns-clause-kinds c = λ text. (reads_from text 0 (omega arith)).same_kinds

pub returns-clause-one_kind : goal.returns-clause-one_kind
returns-clause-one_kind c = one_kind
