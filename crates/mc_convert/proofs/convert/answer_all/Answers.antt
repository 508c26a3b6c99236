use Rattle.std.proofs.Common.{arith, ◌+◌, false, refl, sym, subst}
use Rattle.std.specs.Prelude.{◌↔◌, IsTrue, Ok, Err}
use Rattle.mc_io.specs.LineReader.{LineReader, ahead, Reading, fresh}
use Rattle.mc_convert.specs.declared.status.Halt.TheVariants.{NoMemory, WriteFault}
use Rattle.mc_convert.specs.Answers.{Reply, IsAnswer}
use Rattle.mc_convert.specs.Readers.{found}
use Rattle.mc_convert.specs.Records.{Record}
use Rattle.mc_convert.specs.Runs.{IsShown}
use Rattle.mc_convert.specs.Statuses.{halt_of}
use Rattle.mc_convert.proofs.ReaderSteps.{is_within, reading_none, rose_later}
use Rattle.mc_convert.proofs.Limits.{limit_kept, limit_read, taken_by_one}
use Rattle.mc_convert.proofs.Ended.{Served, holds_at, served_none, served_on}
use Rattle.mc_convert.proofs.Running.{nothing_held, stepped, gives_at, stopped_between, read_stopped, stopped_within, less_within}
use Rattle.mc_convert.proofs.Stops.{err_is}
use Rattle.mc_convert.proofs.convert.answer_all.Goals as goal

pub returns-in_err-lines-clause-ran : goal.returns-in_err-lines-clause-ran
returns-in_err-lines-clause-ran g c = rw (err_is c.from_residual.result NoMemory c.from_residual.ensures.1) (nothing_held c.args.formats (g.S.Source.inputs c.args.source.now 0).left (g.K.Sink.outputs c.args.sink.now), tt)

pub returns-in_err-lines-clause-taken : goal.returns-in_err-lines-clause-taken
returns-in_err-lines-clause-taken g c = rw (err_is c.from_residual.result NoMemory c.from_residual.ensures.1) (taken_by_one g.S.Source.LIMIT _ (fresh 0) (g.S.Source.inputs c.args.source.now) (g.S.Source.inputs c.args.source.now) (reading_none (fresh 0) (g.S.Source.inputs c.args.source.now 0))
    (limit_kept g.S.Source.LIMIT 0 (λ e. absurd cc) (omega arith)))

pub loop-lines-init : goal.loop-lines-init
loop-lines-init g c =
    let P : LineReader → Type 0 = λ r. Reading (fresh 0) r (g.S.Source.inputs c.args.source.now 0) (g.S.Source.inputs c.args.source.now 0) in
    let Q : LineReader → Type 0 = λ r. Served c.args.formats 0 false (g.S.Source.inputs c.args.source.now 0).left (ahead r (g.S.Source.inputs c.args.source.now 0).left) (g.K.Sink.outputs c.args.sink.now) (g.K.Sink.outputs c.args.sink.now) r (g.S.Source.inputs c.args.source.now 0) (g.S.Source.inputs c.args.source.now 0) in record {
      goes_on = rw c.in_ok-lines.ensures tt;
      within = rw c.in_ok-lines.ensures (omega arith);
      input = rw c.in_ok-lines.ensures refl;
      numbered = omega arith;
      few = rw c.in_ok-lines.ensures (omega arith);
      reading = subst P (sym c.in_ok-lines.ensures) (reading_none (fresh 0) (g.S.Source.inputs c.args.source.now 0));
      others = λ i other. refl;
      later = omega arith;
      served = subst Q (sym c.in_ok-lines.ensures) (served_none c.args.formats (g.S.Source.inputs c.args.source.now 0).left (g.K.Sink.outputs c.args.sink.now) (g.S.Source.inputs c.args.source.now 0));
    }

pub returns-in_err-passed-clause-ran : goal.returns-in_err-passed-clause-ran
returns-in_err-passed-clause-ran g c =
    let inv = c.loop-lines.invariant in
    let step = c.in_err-passed.ensures in
    let stop = c.in_err-passed.field-0.0 in
    let s = stepped g.S.Source.LIMIT (Err stop) c.loop-lines.lines c.next_record.new.lines (g.S.Source.inputs c.args.source.now) (g.S.Source.inputs c.loop-lines.source) (g.S.Source.inputs c.next_record.new.source)
    inv.input inv.reading inv.others step.reading step.ended step.others in
    rw (err_is c.from_residual-in_err-passed.result (halt_of stop) c.from_residual-in_err-passed.ensures.1)
    (stopped_between c.args.formats _ _ _ _ _ _ inv.served.progress, read_stopped c.args.formats stop g.S.Source.LIMIT c.next_record.new.lines (g.S.Source.inputs c.args.source.now 0) (g.S.Source.inputs c.loop-lines.source 0) (g.S.Source.inputs c.next_record.new.source 0) (g.K.Sink.outputs c.args.sink.now) (g.K.Sink.outputs c.loop-lines.sink) inv.reading.takes.later s.ended)

pub returns-in_err-passed-clause-taken : goal.returns-in_err-passed-clause-taken
returns-in_err-passed-clause-taken g c =
    let inv = c.loop-lines.invariant in
    let step = c.in_err-passed.ensures in
    let stop = c.in_err-passed.field-0.0 in
    let s = stepped g.S.Source.LIMIT (Err stop) c.loop-lines.lines c.next_record.new.lines (g.S.Source.inputs c.args.source.now) (g.S.Source.inputs c.loop-lines.source) (g.S.Source.inputs c.next_record.new.source)
    inv.input inv.reading inv.others step.reading step.ended step.others in
    rw (err_is c.from_residual-in_err-passed.result (halt_of stop) c.from_residual-in_err-passed.ensures.1)
    (taken_by_one g.S.Source.LIMIT _ c.next_record.new.lines (g.S.Source.inputs c.args.source.now) (g.S.Source.inputs c.next_record.new.source) s.reading
    (limit_read stop g.S.Source.LIMIT c.next_record.new.lines (g.S.Source.inputs c.loop-lines.source 0) (g.S.Source.inputs c.next_record.new.source 0) s.ended))

pub returns-clause-taken : goal.returns-clause-taken
returns-clause-taken g c =
    let inv = c.loop-lines.invariant in
    let step = c.in_ok-passed.ensures in
    let s = stepped g.S.Source.LIMIT (Ok c.in_ok-passed.field-0) c.loop-lines.lines c.next_record.new.lines (g.S.Source.inputs c.args.source.now) (g.S.Source.inputs c.loop-lines.source) (g.S.Source.inputs c.next_record.new.source)
    inv.input inv.reading inv.others step.reading step.ended step.others in
    let within = is_within g.S.Source.LIMIT c.in_ok-passed.field-0 c.next_record.new.lines (g.S.Source.inputs c.loop-lines.source 0) (g.S.Source.inputs c.next_record.new.source 0) s.ended in
    taken_by_one g.S.Source.LIMIT _ c.next_record.new.lines (g.S.Source.inputs c.args.source.now) (g.S.Source.inputs c.next_record.new.source) s.reading (limit_kept g.S.Source.LIMIT c.next_record.new.lines.taken (λ e. absurd cc) within)

pub returns-in_err-answer-clause-ran : goal.returns-in_err-answer-clause-ran
returns-in_err-answer-clause-ran g c = rw (err_is c.from_residual-in_err-answer.result NoMemory c.from_residual-in_err-answer.ensures.1) (stopped_between c.args.formats _ _ _ _ _ _ c.loop-lines.invariant.served.progress, tt)

pub returns-in_err-answer-clause-taken : goal.returns-in_err-answer-clause-taken
returns-in_err-answer-clause-taken g c =
    let inv = c.loop-lines.invariant in
    let step = c.in_ok-passed.ensures in
    let s = stepped g.S.Source.LIMIT (Ok c.in_ok-passed.field-0) c.loop-lines.lines c.next_record.new.lines (g.S.Source.inputs c.args.source.now) (g.S.Source.inputs c.loop-lines.source) (g.S.Source.inputs c.next_record.new.source)
    inv.input inv.reading inv.others step.reading step.ended step.others in
    let within = is_within g.S.Source.LIMIT c.in_ok-passed.field-0 c.next_record.new.lines (g.S.Source.inputs c.loop-lines.source 0) (g.S.Source.inputs c.next_record.new.source 0) s.ended in
    rw (err_is c.from_residual-in_err-answer.result NoMemory c.from_residual-in_err-answer.ensures.1)
    (taken_by_one g.S.Source.LIMIT _ c.next_record.new.lines (g.S.Source.inputs c.args.source.now) (g.S.Source.inputs c.next_record.new.source) s.reading (limit_kept g.S.Source.LIMIT c.next_record.new.lines.taken (λ e. absurd cc) within))

pub returns-in_err-put_answer-clause-ran : goal.returns-in_err-put_answer-clause-ran
returns-in_err-put_answer-clause-ran g c =
    let inv = c.loop-lines.invariant in
    let step = c.in_ok-passed.ensures in
    let given : Record = found c.in-Some.passed c.next_record.new.lines.text in
    let gives = rw c.in-Some.is at (gives_at c.args.formats.from (Ok c.in_ok-passed.field-0) c.loop-lines.lines c.next_record.new.lines (g.S.Source.inputs c.loop-lines.source) (g.S.Source.inputs c.next_record.new.source) inv.input step.record) in
    let reply : Reply = record { out = c.in_ok-answer.answer.out; report = c.in_ok-answer.answer.report } in
    let answer = subst (λ (x : Record). IsAnswer c.args.formats.to (c.loop-lines.number + 1) x reply) c.record_in.ensures.record c.in_ok-answer.ensures.answer in
    let caused = c.in_err-put_answer.ensures.cause in
    rw (err_is c.from_residual-in_err-put_answer.result WriteFault c.from_residual-in_err-put_answer.ensures.1) (
      stopped_within c.args.formats c.loop-lines.number (c.loop-lines.number + 1) c.loop-lines.some_refused (g.S.Source.inputs c.args.source.now 0).left (ahead c.loop-lines.lines (g.S.Source.inputs c.loop-lines.source 0).left) (ahead c.next_record.new.lines (g.S.Source.inputs c.next_record.new.source 0).left) (g.K.Sink.outputs c.args.sink.now) (g.K.Sink.outputs c.loop-lines.sink) (g.K.Sink.outputs c.put_answer.new.sink) given reply inv.served.progress gives refl answer c.in_err-put_answer.ensures.part,
      (rose_later (g.K.Sink.outputs c.args.sink.now).faults (g.K.Sink.outputs c.loop-lines.sink).faults (g.K.Sink.outputs c.put_answer.new.sink).faults inv.later caused.failed, less_within c.args.formats c.loop-lines.number (c.loop-lines.number + 1) c.loop-lines.some_refused (g.S.Source.inputs c.args.source.now 0).left (ahead c.loop-lines.lines (g.S.Source.inputs c.loop-lines.source 0).left) (ahead c.next_record.new.lines (g.S.Source.inputs c.next_record.new.source 0).left) (g.K.Sink.outputs c.args.sink.now) (g.K.Sink.outputs c.loop-lines.sink) (g.K.Sink.outputs c.put_answer.new.sink) given reply inv.served.progress gives answer c.in_err-put_answer.ensures.part),
    )

pub returns-in_err-put_answer-clause-taken : goal.returns-in_err-put_answer-clause-taken
returns-in_err-put_answer-clause-taken g c =
    let inv = c.loop-lines.invariant in
    let step = c.in_ok-passed.ensures in
    let s = stepped g.S.Source.LIMIT (Ok c.in_ok-passed.field-0) c.loop-lines.lines c.next_record.new.lines (g.S.Source.inputs c.args.source.now) (g.S.Source.inputs c.loop-lines.source) (g.S.Source.inputs c.next_record.new.source)
    inv.input inv.reading inv.others step.reading step.ended step.others in
    let within = is_within g.S.Source.LIMIT c.in_ok-passed.field-0 c.next_record.new.lines (g.S.Source.inputs c.loop-lines.source 0) (g.S.Source.inputs c.next_record.new.source 0) s.ended in
    rw (err_is c.from_residual-in_err-put_answer.result WriteFault c.from_residual-in_err-put_answer.ensures.1)
    (taken_by_one g.S.Source.LIMIT _ c.next_record.new.lines (g.S.Source.inputs c.args.source.now) (g.S.Source.inputs c.next_record.new.source) s.reading (limit_kept g.S.Source.LIMIT c.next_record.new.lines.taken (λ e. absurd cc) within))

pub returns-in_err-passed-clause-holds : goal.returns-in_err-passed-clause-holds
returns-in_err-passed-clause-holds g c =
    let inv = c.loop-lines.invariant in
    let stop = c.in_err-passed.field-0.0 in
    rw (err_is c.from_residual-in_err-passed.result (halt_of stop) c.from_residual-in_err-passed.ensures.1)
    (holds_at c.args.formats g.S.Source.LIMIT stop c.loop-lines.number c.loop-lines.some_refused (g.S.Source.inputs c.args.source.now 0).left (ahead c.loop-lines.lines (g.S.Source.inputs c.loop-lines.source 0).left) (g.K.Sink.outputs c.args.sink.now) (g.K.Sink.outputs c.loop-lines.sink) c.loop-lines.lines c.next_record.new.lines (g.S.Source.inputs c.args.source.now 0) (g.S.Source.inputs c.loop-lines.source) (g.S.Source.inputs c.next_record.new.source) inv.served inv.within inv.input c.in_err-passed.ensures.ends)

pub returns-in_err-lines-clause-holds : goal.returns-in_err-lines-clause-holds
returns-in_err-lines-clause-holds g c = rw (err_is c.from_residual.result NoMemory c.from_residual.ensures.1) tt

pub returns-in_err-answer-clause-holds : goal.returns-in_err-answer-clause-holds
returns-in_err-answer-clause-holds g c = rw (err_is c.from_residual-in_err-answer.result NoMemory c.from_residual-in_err-answer.ensures.1) tt

pub returns-in_err-put_answer-clause-holds : goal.returns-in_err-put_answer-clause-holds
returns-in_err-put_answer-clause-holds g c = rw (err_is c.from_residual-in_err-put_answer.result WriteFault c.from_residual-in_err-put_answer.ensures.1) tt

pub loop-lines-preserved : goal.loop-lines-preserved
loop-lines-preserved g c =
    let inv = c.loop-lines.invariant in
    let step = c.in_ok-passed.ensures in
    let s = stepped g.S.Source.LIMIT (Ok c.in_ok-passed.field-0) c.loop-lines.lines c.next_record.new.lines (g.S.Source.inputs c.args.source.now) (g.S.Source.inputs c.loop-lines.source) (g.S.Source.inputs c.next_record.new.source)
    inv.input inv.reading inv.others step.reading step.ended step.others in
    let given : Record = found c.in-Some.passed c.next_record.new.lines.text in
    let gives = rw c.in-Some.is at (gives_at c.args.formats.from (Ok c.in_ok-passed.field-0) c.loop-lines.lines c.next_record.new.lines (g.S.Source.inputs c.loop-lines.source) (g.S.Source.inputs c.next_record.new.source) inv.input step.record) in
    let reply : Reply = record { out = c.in_ok-answer.answer.out; report = c.in_ok-answer.answer.report } in
    let answer = subst (λ (x : Record). IsAnswer c.args.formats.to (c.loop-lines.number + 1) x reply) c.record_in.ensures.record c.in_ok-answer.ensures.answer in
    let shown = subst (λ (x : Record). IsTrue c.in_ok-answer.answer.refused ↔ IsShown c.args.formats.to x) c.record_in.ensures.record c.in_ok-answer.ensures.refused in
    let passed = rw c.in-Some.is at step.passed in
    let low = inv.numbered in record {
      goes_on = step.goes_on;
      within = is_within g.S.Source.LIMIT c.in_ok-passed.field-0 c.next_record.new.lines (g.S.Source.inputs c.loop-lines.source 0) (g.S.Source.inputs c.next_record.new.source 0) s.ended;
      input = s.input;
      numbered = omega arith;
      few = step.few;
      reading = s.reading;
      others = s.others;
      later = (let rose = c.in_ok-put_answer.ensures.cause.later in let old = inv.later in omega arith);
      served = served_on c.args.formats g.S.Source.LIMIT c.loop-lines.number (c.loop-lines.number + 1) c.loop-lines.some_refused c.in_ok-answer.answer.refused (g.S.Source.inputs c.args.source.now 0).left (ahead c.loop-lines.lines (g.S.Source.inputs c.loop-lines.source 0).left) (ahead c.next_record.new.lines (g.S.Source.inputs c.next_record.new.source 0).left) (g.K.Sink.outputs c.args.sink.now) (g.K.Sink.outputs c.loop-lines.sink) (g.K.Sink.outputs c.put_answer.new.sink) c.in-Some.passed reply c.loop-lines.lines c.next_record.new.lines (g.S.Source.inputs c.args.source.now 0) (g.S.Source.inputs c.loop-lines.source) (g.S.Source.inputs c.next_record.new.source) inv.served gives refl answer shown c.in_ok-put_answer.ensures.all inv.input (rw c.in-Some.is at step.ends);
    }
