use Rattle.std.proofs.Common.{arith, rules, ◌≡◌, ◌∙◌, ◌+◌, ◌≤◌, ap, sym, subst, refl, Some, ℕ, length, take, drop}
use Rattle.mc_io.specs.Buffered.{Buffered}
use Rattle.mc_io.specs.FoundLines.{Finds, Stops, text_len}
use Rattle.mc_io.specs.LineReader.{Ends, Gives, LineReader, reader_of, step_of_text}
use Rattle.mc_io.specs.Lines.{IsLineText}
use Rattle.mc_io.specs.declared.line_finding.FoundLine.{FoundLine}
use Rattle.mc_io.specs.declared.lines.LineStep.{LineStep}
use Rattle.mc_io.proofs.LineSteps.{found_ends, has_new, has_passed, next_gives, next_short, next_sound, next_text, stopped_ends, stops_reading}
use Rattle.mc_io.proofs.lines.Lines.next.Goals as goal

pub invariant_of-self : goal.invariant_of-self
invariant_of-self g c =
    let inside = c.self.inside in
    let passed : length c.pass.new.self.held ≡ length (drop inside.line.whole inside.buffer.held) = ap (λ (b : Buffered). length b.held) c.pass.ensures in
    let taken : c.pass.new.self.taken ≡ inside.buffer.taken = ap (λ (b : Buffered). b.taken) c.pass.ensures in
    let few = c.self.invariant.few in
    next_sound c.pass.new.self c.find_line.new.buffer (g.S.Source.inputs c.args.source.now c.pass.new.self.input) (g.S.Source.inputs c.find_line.new.source c.pass.new.self.input) c.in-Ok-Some.line inside.passed (Some c.found_step-step.result)
    (rw c.in-Ok-Some.field-0-is at c.in-Ok-Some.ensures.finds) (omega arith) c.find_line.ensures.room c.in-Ok-Some.ensures.small

pub returns-in-Ok-Some-clause-step : goal.returns-in-Ok-Some-clause-step
returns-in-Ok-Some-clause-step g c =
    let inside = c.self.inside in
    let old = c.pass.new.self in
    let new = c.find_line.new.buffer in
    let line = c.in-Ok-Some.line in
    let x = g.S.Source.inputs c.args.source.now in
    let z = g.S.Source.inputs c.find_line.new.source in
    let p = c.args.self.now in
    let has = has_passed inside.buffer old inside.passed inside.line inside.answer p c.self.view_is c.pass.ensures in
    rw c.found_step-step.ensures (next_gives old new x z line (inside.passed + 1) (Some c.found_step-step.result) p (rw c.in-Ok-Some.field-0-is at c.in-Ok-Some.ensures.finds) has)

pub returns-in-Ok-Some-clause-short : goal.returns-in-Ok-Some-clause-short
returns-in-Ok-Some-clause-short g c = λ gives.
    let finds = rw c.in-Ok-Some.field-0-is at c.in-Ok-Some.ensures.finds in
    next_short c.in-Ok-Some.line (c.self.inside.passed + 1) finds.piece c.find_line.new.buffer.held finds.is (sym c.found_step-step.ensures ∙ gives)

pub returns-in-Ok-Some-clause-text : goal.returns-in-Ok-Some-clause-text
returns-in-Ok-Some-clause-text g c = λ gives.
    let finds = rw c.in-Ok-Some.field-0-is at c.in-Ok-Some.ensures.finds in
    next_text c.in-Ok-Some.line (c.self.inside.passed + 1) finds.piece c.find_line.new.buffer.held finds.clear finds.is (sym c.found_step-step.ensures ∙ gives)

pub returns-in-Ok-Some-clause-ends : goal.returns-in-Ok-Some-clause-ends
returns-in-Ok-Some-clause-ends g c =
    let inside = c.self.inside in
    let old = c.pass.new.self in
    let new = c.find_line.new.buffer in
    let line = c.in-Ok-Some.line in
    let x = g.S.Source.inputs c.args.source.now in
    let z = g.S.Source.inputs c.find_line.new.source in
    let p = c.args.self.now in
    let number = inside.passed + 1 in
    let answer = Some (step_of_text line.text number) in
    let q = reader_of new number line answer in
    let has = has_passed inside.buffer old inside.passed inside.line inside.answer p c.self.view_is c.pass.ensures in
    let ends = found_ends g.S.Source.LIMIT old new (x old.input) (z old.input) line number p q (rw c.in-Ok-Some.field-0-is at c.in-Ok-Some.ensures.finds) has (has_new new number line answer) refl in
    rw c.found_step-step.ensures (subst (λ (i : ℕ). Ends g.S.Source.LIMIT (step_of_text line.text number) p q (x i) (z i)) (sym has.input) ends)

pub returns-in-Err-clause-reading : goal.returns-in-Err-clause-reading
returns-in-Err-clause-reading g c =
    let inside = c.self.inside in
    let old = c.pass.new.self in
    let new = c.find_line.new.buffer in
    let x = g.S.Source.inputs c.args.source.now in
    let z = g.S.Source.inputs c.find_line.new.source in
    let p = c.args.self.now in
    let has = has_passed inside.buffer old inside.passed inside.line inside.answer p c.self.view_is c.pass.ensures in
    let stops = subst (λ (i : ℕ). Stops g.S.Source.LIMIT c.in-Err.stop old new (x i) (z i)) (sym has.input) c.in-Err.ensures.stops in
    stops_reading g.S.Source.LIMIT c.in-Err.stop old new (x p.input) (z p.input) p _ stops has refl refl refl

pub returns-in-Err-clause-ends : goal.returns-in-Err-clause-ends
returns-in-Err-clause-ends g c =
    let inside = c.self.inside in
    let old = c.pass.new.self in
    let new = c.find_line.new.buffer in
    let x = g.S.Source.inputs c.args.source.now in
    let z = g.S.Source.inputs c.find_line.new.source in
    let p = c.args.self.now in
    let has = has_passed inside.buffer old inside.passed inside.line inside.answer p c.self.view_is c.pass.ensures in
    let stops = subst (λ (i : ℕ). Stops g.S.Source.LIMIT c.in-Err.stop old new (x i) (z i)) (sym has.input) c.in-Err.ensures.stops in
    rw c.from-step.ensures (stopped_ends g.S.Source.LIMIT c.in-Err.stop old new (x p.input) (z p.input) p _ stops has refl)
