use Rattle.std.proofs.Common.{◌≡◌, ◌≤◌, ◌^◌, ◌-◌}
use Rattle.mc_io.specs.Outside.{SameBut}
use Rattle.mc_io.specs.LineReader.{MayGoOn, Reading}
use Rattle.mc_convert.proofs.left_over.pass_rest.Given as goal

abbrev pub invariant-loop : goal.invariant-loop
invariant-loop g l = record {
  goes_on : MayGoOn l.lines.answer;
  within : l.lines.taken ≤ g.S.Source.LIMIT;
  input : l.lines.input ≡ l.initial.lines.input;
  reading : Reading l.initial.lines l.lines
      (g.S.Source.inputs l.initial.source l.initial.lines.input)
      (g.S.Source.inputs l.source l.initial.lines.input);
  others : SameBut l.initial.lines.input
      (g.S.Source.inputs l.initial.source)
      (g.S.Source.inputs l.source);
}

abbrev pub decreases-loop : goal.decreases-loop
decreases-loop g l = 2 ^ 64 - l.lines.passed
