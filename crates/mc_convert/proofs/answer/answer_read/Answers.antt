use Rattle.std.proofs.Common.{subst}
use Rattle.mc_convert.specs.declared.record_read.RecordRead.{RecordRead}
use Rattle.mc_convert.specs.Findings.{IsReadAs}
use Rattle.mc_convert.specs.Records.{record_of}
use Rattle.mc_convert.proofs.Answering.{is_refused, is_shown, is_written, none_shown}
use Rattle.mc_convert.proofs.answer.answer_read.Goals as goal

pub returns-in_ok-answer-in-Stands-clause-answer : goal.returns-in_ok-answer-in-Stands-clause-answer
returns-in_ok-answer-in-Stands-clause-answer c =
    is_written c.args.to c.args.k c.args.given.now c.in-Stands.mol c.in-Stands.skeleton c.in-Stands.name c.name_of.result.now c.in_ok-answer-in-Stands.answer c.requires.given
    (subst (λ (read : RecordRead). IsReadAs (record_of c.args.given.now) read) c.in-Stands.is c.requires.read) c.name_of.ensures c.in_ok-answer-in-Stands.ensures

pub returns-in_ok-answer-in-Stands-clause-refused : goal.returns-in_ok-answer-in-Stands-clause-refused
returns-in_ok-answer-in-Stands-clause-refused c =
    none_shown c.args.to c.args.k (record_of c.args.given.now) c.in-Stands.mol c.in-Stands.skeleton c.in-Stands.name c.name_of.result.now c.in_ok-answer-in-Stands.answer
    (subst (λ (read : RecordRead). IsReadAs (record_of c.args.given.now) read) c.in-Stands.is c.requires.read) c.in_ok-answer-in-Stands.ensures

pub returns-in_ok-answer-in-Refused-clause-answer : goal.returns-in_ok-answer-in-Refused-clause-answer
returns-in_ok-answer-in-Refused-clause-answer c =
    is_refused c.args.to c.args.k (record_of c.args.given.now) c.in-Refused.refusal c.in-Refused.field-1 c.in_ok-answer-in-Refused.answer
    (subst (λ (read : RecordRead). IsReadAs (record_of c.args.given.now) read) c.in-Refused.is c.requires.read) c.in_ok-answer-in-Refused.ensures

pub returns-in_ok-answer-in-Refused-clause-refused : goal.returns-in_ok-answer-in-Refused-clause-refused
returns-in_ok-answer-in-Refused-clause-refused c =
    is_shown c.args.to c.args.k (record_of c.args.given.now) c.in-Refused.refusal c.in-Refused.field-1 c.in_ok-answer-in-Refused.answer
    (subst (λ (read : RecordRead). IsReadAs (record_of c.args.given.now) read) c.in-Refused.is c.requires.read) c.in_ok-answer-in-Refused.ensures
