use Rattle.std.proofs.Common.{◌≡◌, ◌<◌, ◌≤◌, ◌^◌, ◌-◌}
use Rattle.mc_io.specs.FoundLines.{most_room}
use Rattle.mc_io.specs.Outside.{SameBut}
use Rattle.mc_io.proofs.LongLines.{Passing}
use Rattle.mc_io.proofs.line_finding.pass_long.Given as goal

abbrev pub invariant-loop-buffer : goal.invariant-loop-buffer
invariant-loop-buffer g l = record {
  passing : Passing g.S.Source.LIMIT l.fn.buffer l.buffer
      (g.S.Source.inputs l.fn.source l.fn.buffer.input)
      (g.S.Source.inputs l.source l.fn.buffer.input) l.returns;
  input : l.buffer.input ≡ l.fn.buffer.input;
  small : l.buffer.taken < 2 ^ 64;
  room : l.buffer.room ≤ most_room;
  others : SameBut l.fn.buffer.input (g.S.Source.inputs l.fn.source) (g.S.Source.inputs l.source);
}

abbrev pub decreases-loop-buffer : goal.decreases-loop-buffer
decreases-loop-buffer g l = g.S.Source.LIMIT - l.buffer.taken
