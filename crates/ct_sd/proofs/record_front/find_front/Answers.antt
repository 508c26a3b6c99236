use Rattle.std.proofs.Common.{◌∙◌, ℕ, ap, refl, subst, Err}
use Rattle.std.proofs.lemmas.Result.{err_from_is_err_and}
use Rattle.mc_io.specs.Buffered.{Reads}
use Rattle.ct_sd.proofs.Finding.{finding_none, finding_on, found_none, none_so_far, room_kept}
use Rattle.ct_sd.proofs.Goings.{goes_stop}
use Rattle.ct_sd.proofs.record_front.find_front.Goals as goal

pub loop-front-init : goal.loop-front-init
loop-front-init g c = record {
  finding = finding_none g.S.Source.LIMIT c.args.buffer.now (g.S.Source.inputs c.args.source.now c.args.buffer.now.input) (record { at = 0; searched = 0 }) c.args.ranges.now.items c.requires.small c.requires.few refl refl c.requires.none;
  input = refl;
  room = c.requires.room;
  others = λ i other. refl;
}

pub loop-front-preserved : goal.loop-front-preserved
loop-front-preserved g c =
    let old = c.args.buffer.now in
    let inv = c.loop-front.invariant in
    let now = c.loop-front.buffer in
    let new = c.read_more.new.self in
    let x = g.S.Source.inputs c.args.source.now old.input in
    let y = g.S.Source.inputs c.loop-front.source in
    let z = g.S.Source.inputs c.read_more.new.source in
    let read = c.in_ok-read_more.ensures in
    let none = found_none g.S.Source.LIMIT old now x (y old.input) c.loop-front.scan c.found.new.scan c.loop-front.ranges.items c.found.new.ranges.items c.held.result.now c.has_ended.result inv.finding c.held.ensures c.has_ended.ensures (rw c.in-Ok-None.field-0-is at c.in-Ok-None.ensures.looks) c.in-Ok-None.ensures.later in
    let reads = subst (λ (i : ℕ). Reads now new (y i) (z i)) inv.input read.read in record {
      finding = finding_on g.S.Source.LIMIT old now new x (y old.input) (z old.input) c.found.new.scan c.found.new.ranges.items none.finding none.all none.going reads read.within read.small;
      input = reads.adds.input ∙ inv.input;
      room = room_kept _ _ _ read.room inv.room none.short;
      others = λ i other. read.others i (λ same. other (same ∙ inv.input)) ∙ inv.others i other;
    }

pub returns-in_err-read_more-clause-stops : goal.returns-in_err-read_more-clause-stops
returns-in_err-read_more-clause-stops g c =
    let old = c.args.buffer.now in
    let inv = c.loop-front.invariant in
    let now = c.loop-front.buffer in
    let x = g.S.Source.inputs c.args.source.now old.input in
    let y = g.S.Source.inputs c.loop-front.source in
    let z = g.S.Source.inputs c.read_more.new.source in
    let none = found_none g.S.Source.LIMIT old now x (y old.input) c.loop-front.scan c.found.new.scan c.loop-front.ranges.items c.found.new.ranges.items c.held.result.now c.has_ended.result inv.finding c.held.ensures c.has_ended.ensures (rw c.in-Ok-None.field-0-is at c.in-Ok-None.ensures.looks) c.in-Ok-None.ensures.later in
    let p = err_from_is_err_and c.from_residual.result c.from_residual.ensures.1 in
    rw (p.1, p.2) (goes_stop g.S.Source.LIMIT c.in_err-read_more.field-0.0 old now c.read_more.new.self x y z none.finding.reaches.goes inv.input none.going (none_so_far g.S.Source.LIMIT old now x (y old.input) c.found.new.scan c.found.new.ranges.items none.finding none.all)
    (λ e. c.read_more.ensures.missed (c.in_err-read_more.was ∙ ap Err e)) (λ e. c.read_more.ensures.unread (c.in_err-read_more.was ∙ ap Err e)) (λ e. c.read_more.ensures.past (c.in_err-read_more.was ∙ ap Err e)))

pub returns-in_err-read_more-clause-room : goal.returns-in_err-read_more-clause-room
returns-in_err-read_more-clause-room g c =
    let old = c.args.buffer.now in
    let inv = c.loop-front.invariant in
    let now = c.loop-front.buffer in
    let x = g.S.Source.inputs c.args.source.now old.input in
    let y = g.S.Source.inputs c.loop-front.source in
    let none = found_none g.S.Source.LIMIT old now x (y old.input) c.loop-front.scan c.found.new.scan c.loop-front.ranges.items c.found.new.ranges.items c.held.result.now c.has_ended.result inv.finding c.held.ensures c.has_ended.ensures (rw c.in-Ok-None.field-0-is at c.in-Ok-None.ensures.looks) c.in-Ok-None.ensures.later in
    room_kept _ _ _ c.read_more.ensures.room inv.room none.short
