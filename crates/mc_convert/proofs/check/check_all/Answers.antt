use Rattle.std.proofs.Common.{ℕ, Bool, refl, sym, subst}
use Rattle.std.specs.Prelude.{◌&&◌, not}
use Rattle.mc_io.specs.LineReader.{ahead}
use Rattle.mc_io.specs.Outside.{Input, Outputs}
use Rattle.mc_convert.specs.declared.check_readers.CheckReaders.{CheckReaders}
use Rattle.mc_convert.specs.declared.status.Halt.TheVariants.{NoMemory}
use Rattle.mc_convert.specs.CheckSteps.{Advance, fresh_readers}
use Rattle.mc_convert.specs.CheckRuns.{CheckedAll}
use Rattle.mc_convert.proofs.CheckLifts.{advance_none, advance_trans, all_within, fresh_may}
use Rattle.mc_convert.proofs.Limits.{taken_stopped, taken_whole}
use Rattle.mc_convert.proofs.Checking.{all_ended, nothing_checked, checks_all, checks_true, check_halts_later, rest_stopped, stopped_by}
use Rattle.mc_convert.proofs.Stops.{err_is}
use Rattle.mc_convert.proofs.check.check_all.Goals as goal

-- `_start` is what stood at the call, `_checking` behind the check of all originals, and `_end` behind that of the rest.
pub returns-in_err-readers-clause-ran : goal.returns-in_err-readers-clause-ran
returns-in_err-readers-clause-ran g c =
    let held_start : Outputs = g.K.Sink.outputs c.args.sink.now in
    let originals_start = (g.S.Source.inputs c.args.source.now 0).left in
    let converted_start = (g.S.Source.inputs c.args.source.now 1).left in
    let report_start = (g.S.Source.inputs c.args.source.now 2).left in
    rw (err_is c.from_residual.result NoMemory c.from_residual.ensures.1) (nothing_checked c.args.formats originals_start converted_start report_start held_start, tt)

pub returns-clause-ran : goal.returns-clause-ran
returns-clause-ran g c =
    let told_start : ℕ → Input = g.S.Source.inputs c.args.source.now in
    let told_checking : ℕ → Input = g.S.Source.inputs c.check_originals.new.source in
    let told_end : ℕ → Input = g.S.Source.inputs c.check_rest.new.source in
    let held_start : Outputs = g.K.Sink.outputs c.args.sink.now in
    let held_checking : Outputs = g.K.Sink.outputs c.check_originals.new.sink in
    let held_end : Outputs = g.K.Sink.outputs c.check_rest.new.sink in
    let originals_start = (g.S.Source.inputs c.args.source.now 0).left in
    let converted_start = (g.S.Source.inputs c.args.source.now 1).left in
    let report_start = (g.S.Source.inputs c.args.source.now 2).left in
    let converted_checking = ahead c.check_originals.new.readers.converted (g.S.Source.inputs c.check_originals.new.source 1).left in
    let report_checking = ahead c.check_originals.new.readers.report (g.S.Source.inputs c.check_originals.new.source 2).left in
    let first = c.in_ok-all_true.ensures in
    let began = subst (λ (r : CheckReaders). Advance r c.check_originals.new.readers told_start told_checking) c.in_ok-readers.ensures first.advance in
    let rest = c.in_ok-extra.ensures in
    let advance = advance_trans fresh_readers c.check_originals.new.readers c.check_rest.new.readers told_start told_checking told_end began rest.advance in
    let all_true = c.in_ok-all_true.all_true in
    let extra = c.in_ok-extra.extra in
    let whole : CheckedAll c.args.formats (all_true && not extra) told_start told_end held_start held_end = record {
      ended = all_ended c.check_rest.new.readers told_start told_end advance (rw rest.kept first.ended) rest.ended.0 rest.ended.1;
      all = checks_all c.args.formats all_true extra originals_start converted_start report_start converted_checking report_checking held_start held_checking held_end first.found rest.checked;
      true_is = checks_true c.args.formats all_true extra originals_start converted_start report_start converted_checking report_checking held_start held_checking held_end first.found rest.checked;
    } in
    subst (λ (b : Bool). CheckedAll c.args.formats b told_start told_end held_start held_end) (sym c.is_all_true.ensures) whole

pub returns-in_err-extra-clause-ran : goal.returns-in_err-extra-clause-ran
returns-in_err-extra-clause-ran g c =
    let told_start : ℕ → Input = g.S.Source.inputs c.args.source.now in
    let told_checking : ℕ → Input = g.S.Source.inputs c.check_originals.new.source in
    let told_end : ℕ → Input = g.S.Source.inputs c.check_rest.new.source in
    let held_start : Outputs = g.K.Sink.outputs c.args.sink.now in
    let held_checking : Outputs = g.K.Sink.outputs c.check_originals.new.sink in
    let held_end : Outputs = g.K.Sink.outputs c.check_rest.new.sink in
    let originals_start = (g.S.Source.inputs c.args.source.now 0).left in
    let converted_start = (g.S.Source.inputs c.args.source.now 1).left in
    let report_start = (g.S.Source.inputs c.args.source.now 2).left in
    let converted_checking = ahead c.check_originals.new.readers.converted (g.S.Source.inputs c.check_originals.new.source 1).left in
    let report_checking = ahead c.check_originals.new.readers.report (g.S.Source.inputs c.check_originals.new.source 2).left in
    let first = c.in_ok-all_true.ensures in
    let began = subst (λ (r : CheckReaders). Advance r c.check_originals.new.readers told_start told_checking) c.in_ok-readers.ensures first.advance in
    let halted = c.in_err-extra.ensures in
    let stopped = rest_stopped c.args.formats c.in_err-extra.field-0.0 c.in_ok-all_true.all_true originals_start converted_start report_start converted_checking report_checking held_start held_checking held_end first.found halted.stopped in
    let halts = check_halts_later g.S.Source.LIMIT c.in_err-extra.field-0.0 fresh_readers c.check_originals.new.readers c.check_rest.new.readers told_start told_checking told_end held_start held_checking held_end began first.written.later halted.halts in
    rw (err_is c.from_residual-in_err-extra.result c.in_err-extra.field-0.0 c.from_residual-in_err-extra.ensures.1) (stopped.0, stopped_by c.args.formats g.S.Source.LIMIT c.in_err-extra.field-0.0 c.check_rest.new.readers told_start told_end held_start held_end halts stopped.1)

pub returns-in_err-readers-clause-taken : goal.returns-in_err-readers-clause-taken
returns-in_err-readers-clause-taken g c = rw (err_is c.from_residual.result NoMemory c.from_residual.ensures.1) (taken_stopped g.S.Source.LIMIT NoMemory fresh_readers (g.S.Source.inputs c.args.source.now) (g.S.Source.inputs c.args.source.now) (g.K.Sink.outputs c.args.sink.now) (g.K.Sink.outputs c.args.sink.now)
    (advance_none fresh_readers (g.S.Source.inputs c.args.source.now)) (all_within g.S.Source.LIMIT fresh_readers (fresh_may g.S.Source.LIMIT fresh_readers refl)))

pub returns-clause-taken : goal.returns-clause-taken
returns-clause-taken g c =
    let told_start : ℕ → Input = g.S.Source.inputs c.args.source.now in
    let told_checking : ℕ → Input = g.S.Source.inputs c.check_originals.new.source in
    let told_end : ℕ → Input = g.S.Source.inputs c.check_rest.new.source in
    let first = c.in_ok-all_true.ensures in
    let began = subst (λ (r : CheckReaders). Advance r c.check_originals.new.readers told_start told_checking) c.in_ok-readers.ensures first.advance in
    let rest = c.in_ok-extra.ensures in
    taken_whole g.S.Source.LIMIT c.is_all_true.result c.check_rest.new.readers told_start told_end (advance_trans fresh_readers c.check_originals.new.readers c.check_rest.new.readers told_start told_checking told_end began rest.advance)
    (all_within g.S.Source.LIMIT c.check_rest.new.readers rest.may_read)

pub returns-in_err-extra-clause-taken : goal.returns-in_err-extra-clause-taken
returns-in_err-extra-clause-taken g c =
    let told_start : ℕ → Input = g.S.Source.inputs c.args.source.now in
    let told_checking : ℕ → Input = g.S.Source.inputs c.check_originals.new.source in
    let told_end : ℕ → Input = g.S.Source.inputs c.check_rest.new.source in
    let held_start : Outputs = g.K.Sink.outputs c.args.sink.now in
    let held_checking : Outputs = g.K.Sink.outputs c.check_originals.new.sink in
    let held_end : Outputs = g.K.Sink.outputs c.check_rest.new.sink in
    let first = c.in_ok-all_true.ensures in
    let began = subst (λ (r : CheckReaders). Advance r c.check_originals.new.readers told_start told_checking) c.in_ok-readers.ensures first.advance in
    let halted = c.in_err-extra.ensures in
    let halts = check_halts_later g.S.Source.LIMIT c.in_err-extra.field-0.0 fresh_readers c.check_originals.new.readers c.check_rest.new.readers told_start told_checking told_end held_start held_checking held_end began first.written.later halted.halts in
    rw (err_is c.from_residual-in_err-extra.result c.in_err-extra.field-0.0 c.from_residual-in_err-extra.ensures.1)
    (taken_stopped g.S.Source.LIMIT c.in_err-extra.field-0.0 c.check_rest.new.readers told_start told_end held_start held_end (advance_trans fresh_readers c.check_originals.new.readers c.check_rest.new.readers told_start told_checking told_end began halted.advance) halts)
