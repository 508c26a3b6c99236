use Rattle.std.proofs.Common.{arith, ℕ, ◌+◌, List, Some, refl, sym, subst}
use Rattle.mc_base.specs.declared.refusal.Refusal.{Refusal}
use Rattle.mc_base.specs.declared.span.Span.{Span}
use Rattle.ct_sd.specs.declared.records.Answered.TheVariants as last
use Rattle.ct_sd.specs.Faults.{refusal_of}
use Rattle.ct_sd.specs.FoundRecords.{FindsLong, FindsRecord, Stops}
use Rattle.ct_sd.specs.RecordReader.{GivesRecord, GivesRefusal, IsSound, records_of}
use Rattle.ct_sd.proofs.RecordSteps.{few_held, few_passed, gives_record, gives_refusal, has_new, has_passed, record_sound, refused_sound, stops_unread}
use Rattle.ct_sd.proofs.records.Records.next.Goals as goal

pub overflow_add-self : goal.overflow_add-self
overflow_add-self g c =
    let inside = c.self.inside in
    let old = c.pass.new.self in
    let few = few_held inside.buffer old inside.ranges.items inside.whole inside.passed inside.answer c.args.self.now c.self.view_is c.self.invariant c.requires c.pass.ensures in
    let finds = rw c.in-Ok-Record.field-0-is at c.in-Ok-Record.ensures.finds in
    let less = few_passed g.S.Source.LIMIT finds.run c.in-Ok-Record.whole inside.passed old c.find_record.new.buffer (g.S.Source.inputs c.args.source.now old.input) (g.S.Source.inputs c.find_record.new.source old.input) finds.finds few in omega arith

pub returns-in-Ok-Record-clause-few_records : goal.returns-in-Ok-Record-clause-few_records
returns-in-Ok-Record-clause-few_records g c =
    let inside = c.self.inside in
    let old = c.pass.new.self in
    let few = few_held inside.buffer old inside.ranges.items inside.whole inside.passed inside.answer c.args.self.now c.self.view_is c.self.invariant c.requires c.pass.ensures in
    let finds = rw c.in-Ok-Record.field-0-is at c.in-Ok-Record.ensures.finds in
    let less = few_passed g.S.Source.LIMIT finds.run c.in-Ok-Record.whole inside.passed old c.find_record.new.buffer (g.S.Source.inputs c.args.source.now old.input) (g.S.Source.inputs c.find_record.new.source old.input) finds.finds few in omega arith

pub invariant_of-self : goal.invariant_of-self
invariant_of-self g c =
    let inside = c.self.inside in
    let old = c.pass.new.self in
    let few = few_held inside.buffer old inside.ranges.items inside.whole inside.passed inside.answer c.args.self.now c.self.view_is c.self.invariant c.requires c.pass.ensures in
    record_sound g.S.Source.LIMIT c.in-Ok-Record.whole inside.passed old c.find_record.new.buffer (g.S.Source.inputs c.args.source.now old.input) (g.S.Source.inputs c.find_record.new.source old.input) c.find_record.new.ranges.items (Some last.Record)
    (rw c.in-Ok-Record.field-0-is at c.in-Ok-Record.ensures.finds) few c.find_record.ensures.room

pub returns-in-Ok-Record-clause-step : goal.returns-in-Ok-Record-clause-step
returns-in-Ok-Record-clause-step g c =
    let inside = c.self.inside in
    let old = c.pass.new.self in
    let new = c.find_record.new.buffer in
    let ranges = c.find_record.new.ranges.items in
    let whole = c.in-Ok-Record.whole in
    let x = g.S.Source.inputs c.args.source.now in
    let z = g.S.Source.inputs c.find_record.new.source in
    let p = c.args.self.now in
    let q = records_of new ranges whole (inside.passed + 1) (Some last.Record) in
    let has = has_passed inside.buffer old inside.ranges.items inside.whole inside.passed inside.answer p c.self.view_is c.pass.ensures in
    let finds : FindsRecord g.S.Source.LIMIT whole old new (x old.input) (z old.input) ranges = rw c.in-Ok-Record.field-0-is at c.in-Ok-Record.ensures.finds in
    subst (λ (i : ℕ). GivesRecord p q (x i) (z i)) (sym has.input)
    (gives_record g.S.Source.LIMIT whole old new (x old.input) (z old.input) ranges p q finds has (has_new new ranges whole (inside.passed + 1) (Some last.Record)) refl)

pub overflow_add-self-in-Ok-TooLong : goal.overflow_add-self-in-Ok-TooLong
overflow_add-self-in-Ok-TooLong g c =
    let inside = c.self.inside in
    let old = c.pass.new.self in
    let few = few_held inside.buffer old inside.ranges.items inside.whole inside.passed inside.answer c.args.self.now c.self.view_is c.self.invariant c.requires c.pass.ensures in
    let finds = rw c.in-Ok-TooLong.field-0-is at c.in-Ok-TooLong.ensures.finds in
    let less = few_passed g.S.Source.LIMIT finds.run 0 inside.passed old c.find_record.new.buffer (g.S.Source.inputs c.args.source.now old.input) (g.S.Source.inputs c.find_record.new.source old.input) finds.finds few in omega arith

pub returns-in-Ok-TooLong-clause-few_records : goal.returns-in-Ok-TooLong-clause-few_records
returns-in-Ok-TooLong-clause-few_records g c =
    let inside = c.self.inside in
    let old = c.pass.new.self in
    let few = few_held inside.buffer old inside.ranges.items inside.whole inside.passed inside.answer c.args.self.now c.self.view_is c.self.invariant c.requires c.pass.ensures in
    let finds = rw c.in-Ok-TooLong.field-0-is at c.in-Ok-TooLong.ensures.finds in
    let less = few_passed g.S.Source.LIMIT finds.run 0 inside.passed old c.find_record.new.buffer (g.S.Source.inputs c.args.source.now old.input) (g.S.Source.inputs c.find_record.new.source old.input) finds.finds few in omega arith

pub invariant_of-self-in-Ok-TooLong : goal.invariant_of-self-in-Ok-TooLong
invariant_of-self-in-Ok-TooLong g c =
    let inside = c.self.inside in
    let old = c.pass.new.self in
    let new = c.find_record.new.buffer in
    let few = few_held inside.buffer old inside.ranges.items inside.whole inside.passed inside.answer c.args.self.now c.self.view_is c.self.invariant c.requires c.pass.ensures in
    subst (λ (ranges : List Span). IsSound new ranges 0 (inside.passed + 1) (Some last.Refused)) (sym c.clear-in-Ok-TooLong.ensures.items)
    (refused_sound g.S.Source.LIMIT inside.passed c.in-Ok-TooLong.fault old new (g.S.Source.inputs c.args.source.now old.input) (g.S.Source.inputs c.find_record.new.source old.input) (Some last.Refused)
    (rw c.in-Ok-TooLong.field-0-is at c.in-Ok-TooLong.ensures.finds) few c.find_record.ensures.room)

pub returns-in-Ok-TooLong-clause-step : goal.returns-in-Ok-TooLong-clause-step
returns-in-Ok-TooLong-clause-step g c =
    let inside = c.self.inside in
    let old = c.pass.new.self in
    let new = c.find_record.new.buffer in
    let ranges = c.clear-in-Ok-TooLong.new.self.items in
    let fault = c.in-Ok-TooLong.fault in
    let x = g.S.Source.inputs c.args.source.now in
    let z = g.S.Source.inputs c.find_record.new.source in
    let p = c.args.self.now in
    let q = records_of new ranges 0 (inside.passed + 1) (Some last.Refused) in
    let has = has_passed inside.buffer old inside.ranges.items inside.whole inside.passed inside.answer p c.self.view_is c.pass.ensures in
    let finds : FindsLong g.S.Source.LIMIT fault old new (x old.input) (z old.input) = rw c.in-Ok-TooLong.field-0-is at c.in-Ok-TooLong.ensures.finds in
    subst (λ (r : Refusal). GivesRefusal r p q (x p.input) (z p.input)) (sym c.at.ensures)
    (subst (λ (i : ℕ). GivesRefusal (refusal_of fault) p q (x i) (z i)) (sym has.input)
    (gives_refusal g.S.Source.LIMIT fault old new (x old.input) (z old.input) p q finds has (has_new new ranges 0 (inside.passed + 1) (Some last.Refused))))

pub returns-in-Err-clause-unread : goal.returns-in-Err-clause-unread
returns-in-Err-clause-unread g c =
    let inside = c.self.inside in
    let old = c.pass.new.self in
    let new = c.find_record.new.buffer in
    let x = g.S.Source.inputs c.args.source.now in
    let z = g.S.Source.inputs c.find_record.new.source in
    let p = c.args.self.now in
    let has = has_passed inside.buffer old inside.ranges.items inside.whole inside.passed inside.answer p c.self.view_is c.pass.ensures in
    let stops : Stops g.S.Source.LIMIT c.in-Err.stop old new (x p.input) (z p.input) = subst (λ (i : ℕ). Stops g.S.Source.LIMIT c.in-Err.stop old new (x i) (z i)) (sym has.input) c.in-Err.ensures.stops in
    stops_unread g.S.Source.LIMIT c.in-Err.stop old new (x p.input) (z p.input) p stops has
