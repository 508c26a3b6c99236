use Rattle.std.proofs.Common.{◌≡◌, ◌≤◌, ◌<◌, ◌^◌, ◌-◌}
use Rattle.mc_io.specs.Outside.{SameBut}
use Rattle.mc_io.specs.LineReader.{MayGoOn, ahead, Reading, fresh}
use Rattle.mc_convert.proofs.Ended.{Served}
use Rattle.mc_convert.proofs.convert.answer_all.Given as goal

abbrev pub invariant-loop-lines : goal.invariant-loop-lines
invariant-loop-lines g l = record {
  goes_on : MayGoOn l.lines.answer;
  within : l.lines.taken ≤ g.S.Source.LIMIT;
  input : l.lines.input ≡ 0;
  numbered : l.number ≤ l.lines.passed;
  few : l.lines.passed < 2 ^ 64;
  reading : Reading (fresh 0) l.lines
      (g.S.Source.inputs l.initial.source 0)
      (g.S.Source.inputs l.source 0);
  others : SameBut 0
      (g.S.Source.inputs l.initial.source)
      (g.S.Source.inputs l.source);
  later : (g.K.Sink.outputs l.initial.sink).faults ≤ (g.K.Sink.outputs l.sink).faults;
  served : Served l.formats l.number l.some_refused (g.S.Source.inputs l.initial.source 0).left (ahead l.lines (g.S.Source.inputs l.source 0).left)
      (g.K.Sink.outputs l.initial.sink) (g.K.Sink.outputs l.sink) l.lines
      (g.S.Source.inputs l.initial.source 0)
      (g.S.Source.inputs l.source 0);
}

abbrev pub decreases-loop-lines : goal.decreases-loop-lines
decreases-loop-lines g l = 2 ^ 64 - l.lines.passed
