use Rattle.std.proofs.Common.{◌≡◌, ◌<◌, ◌≤◌, ◌^◌, ◌-◌, if◌then◌else◌, suc}
use Rattle.mc_io.specs.FoundLines.{most_room}
use Rattle.mc_io.specs.Outside.{SameBut}
use Rattle.mc_io.proofs.Fillings.{Searched}
use Rattle.mc_io.proofs.line_finding.find_front.Given as goal

abbrev pub invariant-loop-len : goal.invariant-loop-len
invariant-loop-len g l = record {
  search : Searched g.S.Source.LIMIT l.fn.buffer l.buffer
      (g.S.Source.inputs l.fn.source l.fn.buffer.input)
      (g.S.Source.inputs l.source l.fn.buffer.input) l.searched;
  input : l.buffer.input ≡ l.fn.buffer.input;
  small : l.buffer.taken < 2 ^ 64;
  room : l.buffer.room ≤ most_room;
  others : SameBut l.fn.buffer.input (g.S.Source.inputs l.fn.source) (g.S.Source.inputs l.source);
}

abbrev pub decreases-loop-len : goal.decreases-loop-len
decreases-loop-len g l = if l.buffer.ended then 0 else suc (g.S.Source.LIMIT - l.buffer.taken)
