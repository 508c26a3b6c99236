use Rattle.std.proofs.Common.{◌≡◌, ◌≤◌, ◌^◌, [], ◌-◌}
use Rattle.mc_io.specs.Outside.{SameBut}
use Rattle.mc_io.specs.LineReader.{MayGoOn, ahead, Reading}
use Rattle.mc_convert.specs.declared.formats.Origin.TheVariants.{Smi}
use Rattle.mc_convert.specs.Ended.{EndsRecords}
use Rattle.mc_convert.specs.Readers.{TakesRecords}
use Rattle.mc_convert.proofs.records.next_text.Given as goal

abbrev pub invariant-loop-next : goal.invariant-loop-next
invariant-loop-next g l = record {
  goes_on : MayGoOn l.lines.answer;
  within : l.lines.taken ≤ g.S.Source.LIMIT;
  passed : l.initial.lines.passed ≤ l.lines.passed;
  input : l.lines.input ≡ l.initial.lines.input;
  records : TakesRecords Smi (ahead l.initial.lines (g.S.Source.inputs l.initial.source l.initial.lines.input).left) (ahead l.lines (g.S.Source.inputs l.source l.initial.lines.input).left) [];
  reading : Reading l.initial.lines l.lines
      (g.S.Source.inputs l.initial.source l.initial.lines.input)
      (g.S.Source.inputs l.source l.initial.lines.input);
  ended : EndsRecords Smi [] l.initial.lines l.lines
      (g.S.Source.inputs l.initial.source l.initial.lines.input)
      (g.S.Source.inputs l.source l.initial.lines.input);
  others : SameBut l.initial.lines.input
      (g.S.Source.inputs l.initial.source)
      (g.S.Source.inputs l.source);
}

abbrev pub decreases-loop-next : goal.decreases-loop-next
decreases-loop-next g l = 2 ^ 64 - l.lines.passed
