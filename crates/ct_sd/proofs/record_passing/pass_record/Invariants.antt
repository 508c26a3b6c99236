use Rattle.std.proofs.Common.{◌≡◌, ◌≤◌, ◌+◌, ◌-◌, ◌*◌, if◌then◌else◌, length}
use Rattle.mc_io.specs.Outside.{SameBut}
use Rattle.ct_sd.specs.FoundRecords.{most_room}
use Rattle.ct_sd.proofs.Passings.{IsPassing}
use Rattle.ct_sd.proofs.record_passing.pass_record.Given as goal

abbrev pub invariant-loop-len : goal.invariant-loop-len
invariant-loop-len g l = record {
  passing : IsPassing g.S.Source.LIMIT l.at l.said l.fn.buffer l.buffer
      (g.S.Source.inputs l.fn.source l.fn.buffer.input)
      (g.S.Source.inputs l.source l.fn.buffer.input) l.passing;
  input : l.buffer.input ≡ l.fn.buffer.input;
  room : l.buffer.room ≤ most_room;
  others : SameBut l.fn.buffer.input (g.S.Source.inputs l.fn.source) (g.S.Source.inputs l.source);
}

abbrev pub decreases-loop-len : goal.decreases-loop-len
decreases-loop-len g l = 2 * (g.S.Source.LIMIT - l.buffer.taken) + length l.buffer.held + (if l.buffer.ended then 0 else 1)
