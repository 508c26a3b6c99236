use Rattle.std.proofs.Common.{◌+◌, ℕ, None, Some, refl, arith}
use Rattle.std.specs.Prelude.{◌&&◌}
use Rattle.mc_io.specs.Outside.{Input, Outputs}
use Rattle.mc_convert.specs.declared.status.Halt.TheVariants.{WriteFault}
use Rattle.mc_convert.proofs.CheckLifts.{advance_none, advance_trans, fresh_may}
use Rattle.mc_convert.proofs.Checking.{ReadOne, fresh_begun, last_round, no_more, round, round_cut, round_put, written_trans}
use Rattle.mc_convert.proofs.Stops.{err_is}
use Rattle.mc_convert.proofs.check.check_originals.Goals as goal

-- `_start` is what stood at the call, `_before` where a round begins, `_reading` behind the original that is read,
-- `_checking` behind its check, and `_end` behind what is written.
pub loop-lines-init : goal.loop-lines-init
loop-lines-init g c =
    let originals_start = (g.S.Source.inputs c.args.source.now 0).left in
    let converted_start = (g.S.Source.inputs c.args.source.now 1).left in
    let report_start = (g.S.Source.inputs c.args.source.now 2).left in
    record {
      may_read = fresh_may g.S.Source.LIMIT c.args.readers.now c.requires;
      numbered = omega arith;
      few = rw c.requires (omega arith);
      advance = advance_none c.args.readers.now (g.S.Source.inputs c.args.source.now);
      written = record { later = omega arith; report = refl };
      reached = rw c.new-lines.ensures (fresh_begun c.args.formats c.args.readers.now originals_start converted_start report_start (g.K.Sink.outputs c.args.sink.now) c.requires);
    }

pub returns-clause-found : goal.returns-clause-found
returns-clause-found g c =
    let read = c.in_ok-original.ensures in
    let told_start : ℕ → Input = g.S.Source.inputs c.args.source.now in
    let told_before : ℕ → Input = g.S.Source.inputs c.loop-lines.source in
    let told_reading : ℕ → Input = g.S.Source.inputs c.read_original.new.source in
    let one : ReadOne c.args.formats c.loop-lines.readers c.read_original.new.self told_before told_reading None = record { reads = rw (no_more c.in_ok-original.field-0 c.in_default.not-Some) at read.reads; kept = read.kept; others = read.others } in
    last_round c.args.formats c.loop-lines.number c.loop-lines.all_true told_start told_before told_reading c.loop-lines.readers c.read_original.new.self (g.K.Sink.outputs c.args.sink.now) (g.K.Sink.outputs c.loop-lines.sink) (g.K.Sink.outputs c.put_lines.new.sink) c.loop-lines.lines c.put_lines.new.lines
    c.loop-lines.invariant.reached one c.in_ok-put_lines.ensures.put c.in_ok-put_lines.ensures.all

pub returns-in_err-put_lines-clause-some : goal.returns-in_err-put_lines-clause-some
returns-in_err-put_lines-clause-some g c =
    let cut = round_cut c.args.formats c.loop-lines.number c.loop-lines.all_true (g.S.Source.inputs c.args.source.now) (g.S.Source.inputs c.loop-lines.source) c.loop-lines.readers (g.K.Sink.outputs c.args.sink.now) (g.K.Sink.outputs c.loop-lines.sink) (g.K.Sink.outputs c.put_lines.new.sink) c.loop-lines.lines
    c.loop-lines.invariant.reached c.in_err-put_lines.ensures.part in
    rw (err_is c.from_residual-in_err-put_lines.result WriteFault c.from_residual-in_err-put_lines.ensures.1) cut.0

pub returns-in_err-put_lines-clause-less : goal.returns-in_err-put_lines-clause-less
returns-in_err-put_lines-clause-less g c =
    let cut = round_cut c.args.formats c.loop-lines.number c.loop-lines.all_true (g.S.Source.inputs c.args.source.now) (g.S.Source.inputs c.loop-lines.source) c.loop-lines.readers (g.K.Sink.outputs c.args.sink.now) (g.K.Sink.outputs c.loop-lines.sink) (g.K.Sink.outputs c.put_lines.new.sink) c.loop-lines.lines
    c.loop-lines.invariant.reached c.in_err-put_lines.ensures.part in
    rw (err_is c.from_residual-in_err-put_lines.result WriteFault c.from_residual-in_err-put_lines.ensures.1) cut.1

pub returns-in_err-all_true-clause-advance : goal.returns-in_err-all_true-clause-advance
returns-in_err-all_true-clause-advance g c =
    let told_start : ℕ → Input = g.S.Source.inputs c.args.source.now in
    let told_before : ℕ → Input = g.S.Source.inputs c.loop-lines.source in
    let told_reading : ℕ → Input = g.S.Source.inputs c.read_original.new.source in
    let told_checking : ℕ → Input = g.S.Source.inputs c.check_next.new.source in
    advance_trans c.args.readers.now c.read_original.new.self c.check_next.new.readers told_start told_reading told_checking
    (advance_trans c.args.readers.now c.loop-lines.readers c.read_original.new.self told_start told_before told_reading c.loop-lines.invariant.advance c.in_ok-original.ensures.advance) c.in_err-all_true.ensures.advance

pub returns-in_err-put_piece-clause-advance : goal.returns-in_err-put_piece-clause-advance
returns-in_err-put_piece-clause-advance g c =
    let told_start : ℕ → Input = g.S.Source.inputs c.args.source.now in
    let told_before : ℕ → Input = g.S.Source.inputs c.loop-lines.source in
    let told_reading : ℕ → Input = g.S.Source.inputs c.read_original.new.source in
    let told_checking : ℕ → Input = g.S.Source.inputs c.check_next.new.source in
    advance_trans c.args.readers.now c.read_original.new.self c.check_next.new.readers told_start told_reading told_checking
    (advance_trans c.args.readers.now c.loop-lines.readers c.read_original.new.self told_start told_before told_reading c.loop-lines.invariant.advance c.in_ok-original.ensures.advance) c.in_ok-all_true.ensures.advance

pub returns-in_err-put_piece-clause-some : goal.returns-in_err-put_piece-clause-some
returns-in_err-put_piece-clause-some g c =
    let read = c.in_ok-original.ensures in
    let next = c.in_ok-all_true.ensures in
    let told_start : ℕ → Input = g.S.Source.inputs c.args.source.now in
    let told_before : ℕ → Input = g.S.Source.inputs c.loop-lines.source in
    let told_reading : ℕ → Input = g.S.Source.inputs c.read_original.new.source in
    let told_checking : ℕ → Input = g.S.Source.inputs c.check_next.new.source in
    let held_start : Outputs = g.K.Sink.outputs c.args.sink.now in
    let held_before : Outputs = g.K.Sink.outputs c.loop-lines.sink in
    let one : ReadOne c.args.formats c.loop-lines.readers c.read_original.new.self told_before told_reading (Some c.in-Some.original) = record { reads = rw c.in-Some.is at read.reads; kept = read.kept; others = read.others } in
    let reached = round c.args.formats c.loop-lines.number (c.loop-lines.number + 1) c.loop-lines.all_true c.in_ok-all_true.field-0 told_start told_before told_reading told_checking c.loop-lines.readers c.read_original.new.self c.check_next.new.readers held_start held_before c.loop-lines.lines c.check_next.new.lines c.in-Some.original
    c.loop-lines.invariant.reached refl one next.checked next.kept next.left in
    let cut = round_cut c.args.formats (c.loop-lines.number + 1) (c.loop-lines.all_true && c.in_ok-all_true.field-0) told_start told_checking c.check_next.new.readers held_start held_before (g.K.Sink.outputs c.put_piece.new.sink) c.check_next.new.lines reached c.in_err-put_piece.ensures.part in
    rw (err_is c.from_residual-in_err-put_piece.result WriteFault c.from_residual-in_err-put_piece.ensures.1) cut.0

pub returns-in_err-put_piece-clause-less : goal.returns-in_err-put_piece-clause-less
returns-in_err-put_piece-clause-less g c =
    let read = c.in_ok-original.ensures in
    let next = c.in_ok-all_true.ensures in
    let told_start : ℕ → Input = g.S.Source.inputs c.args.source.now in
    let told_before : ℕ → Input = g.S.Source.inputs c.loop-lines.source in
    let told_reading : ℕ → Input = g.S.Source.inputs c.read_original.new.source in
    let told_checking : ℕ → Input = g.S.Source.inputs c.check_next.new.source in
    let held_start : Outputs = g.K.Sink.outputs c.args.sink.now in
    let held_before : Outputs = g.K.Sink.outputs c.loop-lines.sink in
    let one : ReadOne c.args.formats c.loop-lines.readers c.read_original.new.self told_before told_reading (Some c.in-Some.original) = record { reads = rw c.in-Some.is at read.reads; kept = read.kept; others = read.others } in
    let reached = round c.args.formats c.loop-lines.number (c.loop-lines.number + 1) c.loop-lines.all_true c.in_ok-all_true.field-0 told_start told_before told_reading told_checking c.loop-lines.readers c.read_original.new.self c.check_next.new.readers held_start held_before c.loop-lines.lines c.check_next.new.lines c.in-Some.original
    c.loop-lines.invariant.reached refl one next.checked next.kept next.left in
    let cut = round_cut c.args.formats (c.loop-lines.number + 1) (c.loop-lines.all_true && c.in_ok-all_true.field-0) told_start told_checking c.check_next.new.readers held_start held_before (g.K.Sink.outputs c.put_piece.new.sink) c.check_next.new.lines reached c.in_err-put_piece.ensures.part in
    rw (err_is c.from_residual-in_err-put_piece.result WriteFault c.from_residual-in_err-put_piece.ensures.1) cut.1

pub loop-lines-preserved : goal.loop-lines-preserved
loop-lines-preserved g c =
    let inv = c.loop-lines.invariant in
    let read = c.in_ok-original.ensures in
    let next = c.in_ok-all_true.ensures in
    let told_start : ℕ → Input = g.S.Source.inputs c.args.source.now in
    let told_before : ℕ → Input = g.S.Source.inputs c.loop-lines.source in
    let told_reading : ℕ → Input = g.S.Source.inputs c.read_original.new.source in
    let told_checking : ℕ → Input = g.S.Source.inputs c.check_next.new.source in
    let held_start : Outputs = g.K.Sink.outputs c.args.sink.now in
    let held_before : Outputs = g.K.Sink.outputs c.loop-lines.sink in
    let held_end : Outputs = g.K.Sink.outputs c.put_piece.new.sink in
    let one : ReadOne c.args.formats c.loop-lines.readers c.read_original.new.self told_before told_reading (Some c.in-Some.original) = record { reads = rw c.in-Some.is at read.reads; kept = read.kept; others = read.others } in
    let reached = round c.args.formats c.loop-lines.number (c.loop-lines.number + 1) c.loop-lines.all_true c.in_ok-all_true.field-0 told_start told_before told_reading told_checking c.loop-lines.readers c.read_original.new.self c.check_next.new.readers held_start held_before c.loop-lines.lines c.check_next.new.lines c.in-Some.original
    inv.reached refl one next.checked next.kept next.left in
    let passed = read.passed (rw c.in-Some.is refl) in
    let numbered = inv.numbered in
    let few = read.few in
    record {
      may_read = next.may_read;
      numbered = rw next.kept (omega arith);
      few = rw next.kept few;
      advance = advance_trans c.args.readers.now c.read_original.new.self c.check_next.new.readers told_start told_reading told_checking (advance_trans c.args.readers.now c.loop-lines.readers c.read_original.new.self told_start told_before told_reading inv.advance read.advance) next.advance;
      written = written_trans held_start held_before held_end inv.written (record { later = c.in_ok-put_piece.ensures.cause.later; report = c.in_ok-put_piece.ensures.kept });
      reached = round_put c.args.formats (c.loop-lines.number + 1) (c.loop-lines.all_true && c.in_ok-all_true.field-0) told_start told_checking c.check_next.new.readers held_start held_before held_end c.check_next.new.lines c.put_piece.new.lines reached c.in_ok-put_piece.ensures.put;
    }
