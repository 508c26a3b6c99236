use Rattle.std.proofs.Common.{◌∙◌, ap, length, drop, ℕ}
use Rattle.ct_sd.specs.declared.record_front.Front.TheVariants.{Record, Nothing}
use Rattle.ct_sd.specs.FoundRecords.{IsFound}
use Rattle.ct_sd.proofs.LongRecords.{found_end, found_record}
use Rattle.ct_sd.proofs.record_finding.find_record.Goals as goal

pub returns-in-Record-clause-finds : goal.returns-in-Record-clause-finds
returns-in-Record-clause-finds g c =
    let old = c.args.buffer.now in
    let new = c.find_front.new.buffer in
    let front : IsFound (Record c.in-Record.whole) new.held new.ended c.find_front.new.ranges.items = rw c.in-Record.is at c.in_ok-whole.ensures.front in
    found_record g.S.Source.LIMIT c.in-Record.whole c.find_front.new.ranges.items old new (g.S.Source.inputs c.args.source.now old.input) (g.S.Source.inputs c.find_front.new.source old.input) c.in_ok-whole.ensures.reaches front

pub returns-in-Nothing-clause-finds : goal.returns-in-Nothing-clause-finds
returns-in-Nothing-clause-finds g c =
    let old = c.args.buffer.now in
    let mid = c.find_front.new.buffer in
    let front : IsFound Nothing mid.held mid.ended c.find_front.new.ranges.items = rw c.in-Nothing.is at c.in_ok-whole.ensures.front in
    found_end g.S.Source.LIMIT old mid c.pass.new.self (g.S.Source.inputs c.args.source.now old.input) (g.S.Source.inputs c.find_front.new.source old.input) c.in_ok-whole.ensures.reaches front.0 front.1
    (c.pass.ensures ∙ ap (λ (n : ℕ). record mid { held = drop n mid.held }) (ap length c.held-len.ensures))
