use Rattle.mc_convert.proofs.Answering.{table_written}
use Rattle.mc_convert.proofs.answer.table_answer.Goals as goal

pub returns-clause-answer : goal.returns-clause-answer
returns-clause-answer c =
    table_written c.args.to c.args.k c.args.given.now c.args.mol.now c.args.name.now c.as_slice.result.now c.args.headers c.in_ok-answer.answer c.requires.given c.requires.read c.as_slice.ensures c.in_ok-answer.ensures
