use Rattle.std.proofs.Common.{◌≡◌, ◌≤◌, ◌-◌, if◌then◌else◌, suc}
use Rattle.mc_io.specs.Outside.{SameBut}
use Rattle.ct_sd.specs.FoundRecords.{most_room}
use Rattle.ct_sd.proofs.Finding.{Finding}
use Rattle.ct_sd.proofs.record_front.find_front.Given as goal

abbrev pub invariant-loop-front : goal.invariant-loop-front
invariant-loop-front g l = record {
  finding : Finding g.S.Source.LIMIT l.fn.buffer l.buffer
      (g.S.Source.inputs l.fn.source l.fn.buffer.input)
      (g.S.Source.inputs l.source l.fn.buffer.input) l.scan l.ranges.items;
  input : l.buffer.input ≡ l.fn.buffer.input;
  room : l.buffer.room ≤ most_room;
  others : SameBut l.fn.buffer.input (g.S.Source.inputs l.fn.source) (g.S.Source.inputs l.source);
}

abbrev pub decreases-loop-front : goal.decreases-loop-front
decreases-loop-front g l = if l.buffer.ended then 0 else suc (g.S.Source.LIMIT - l.buffer.taken)
