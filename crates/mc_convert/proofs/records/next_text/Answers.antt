use Rattle.std.proofs.Common.{arith, ◌∙◌, ℕ, refl, subst}
use Rattle.std.specs.Prelude.{Ok}
use Rattle.mc_io.specs.LineReader.{ahead}
use Rattle.mc_convert.specs.Readers.{GivesLine}
use Rattle.mc_convert.proofs.Ended.{empty_passed_on, next_ended, stop_ended}
use Rattle.mc_convert.proofs.ReaderSteps.{is_within, next_empty, reading_on, same_on}
use Rattle.mc_convert.proofs.Stops.{err_is}
use Rattle.mc_convert.proofs.records.next_text.Goals as goal

pub loop-next-preserved : goal.loop-next-preserved
loop-next-preserved g c =
    let inv = c.loop-next.invariant in
    let step = c.in_ok-next.ensures in
    let before = g.S.Source.inputs c.loop-next.source in
    let after = g.S.Source.inputs c.next_line.new.source in
    let Gives : ℕ → Type 0 = λ i. GivesLine (Ok c.in_ok-next.next) (ahead c.loop-next.lines (before i).left) (ahead c.next_line.new.lines (after i).left) c.next_line.new.lines.text in
    let more = step.passed in
    let low = inv.passed in record {
      goes_on = step.goes_on;
      within = is_within g.S.Source.LIMIT c.in_ok-next.next c.next_line.new.lines (before c.loop-next.lines.input) (after c.loop-next.lines.input) step.ended;
      passed = omega arith;
      input = step.reading.input ∙ inv.input;
      records = next_empty c.in_ok-next.next _ _ _ c.next_line.new.lines.text inv.records (subst Gives inv.input step.line) (c.if-not-is_empty.ensures.empty refl);
      reading = reading_on c.args.lines.now c.loop-next.lines c.next_line.new.lines (g.S.Source.inputs c.args.source.now) before after inv.input inv.reading step.reading;
      ended = empty_passed_on g.S.Source.LIMIT c.in_ok-next.next c.args.lines.now c.loop-next.lines c.next_line.new.lines (g.S.Source.inputs c.args.source.now c.args.lines.now.input) before after inv.input (c.if-not-is_empty.ensures.empty refl) inv.ended step.ends;
      others = same_on c.args.lines.now.input c.loop-next.lines.input (g.S.Source.inputs c.args.source.now) before after inv.input inv.others step.others;
    }

pub returns-then-not-is_empty-clause-ends : goal.returns-then-not-is_empty-clause-ends
returns-then-not-is_empty-clause-ends g c =
    let inv = c.loop-next.invariant in
    let step = c.in_ok-next.ensures in
    next_ended g.S.Source.LIMIT c.in_ok-next.next c.args.lines.now c.loop-next.lines c.next_line.new.lines (g.S.Source.inputs c.args.source.now c.args.lines.now.input) (g.S.Source.inputs c.loop-next.source) (g.S.Source.inputs c.next_line.new.source) inv.input (c.if-not-is_empty.ensures.some refl) inv.ended step.ends

pub returns-in_err-next-clause-ends : goal.returns-in_err-next-clause-ends
returns-in_err-next-clause-ends g c =
    let inv = c.loop-next.invariant in
    let step = c.in_err-next.ensures in
    let stop = c.in_err-next.field-0.0 in
    rw (err_is c.from_residual.result stop c.from_residual.ensures.1)
    (stop_ended g.S.Source.LIMIT stop c.args.lines.now c.loop-next.lines c.next_line.new.lines (g.S.Source.inputs c.args.source.now c.args.lines.now.input) (g.S.Source.inputs c.loop-next.source) (g.S.Source.inputs c.next_line.new.source) inv.input inv.within inv.ended step.ends)
