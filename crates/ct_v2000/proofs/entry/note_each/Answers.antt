use Rattle.std.proofs.Common.{arith, ◌<◌, ℕ}
use Rattle.ct_v2000.specs.Properties.{entry_kinds}
use Rattle.ct_v2000.proofs.Entries.{shows_more, shows_all}
use Rattle.ct_v2000.proofs.entry.note_each.Goals as goal

pub loop-e-preserved : goal.loop-e-preserved
loop-e-preserved c =
    let e : ℕ = c.loop-e.e in
    let count : ℕ = c.args.count in
    let less : e < count = omega arith in
    record {
      within = omega arith;
      shows = shows_more (entry_kinds c.args.atoms c.args.property) c.args.line.now e count c.args.place c.loop-e.faults.fault c.note_entry.new.faults.fault _ less c.note_entry.ensures c.loop-e.invariant.shows;
    }
