use Rattle.std.proofs.Common.{◌≤◌, ◌<◌, ◌^◌, ◌-◌}
use Rattle.mc_convert.specs.CheckSteps.{Advance, MayRead}
use Rattle.mc_convert.specs.CheckRuns.{Written}
use Rattle.mc_convert.proofs.Checking.{Reached}
use Rattle.mc_convert.proofs.check.check_originals.Given as goal

abbrev pub invariant-loop-lines : goal.invariant-loop-lines
invariant-loop-lines g l = record {
  may_read : MayRead g.S.Source.LIMIT l.readers;
  numbered : l.number ≤ l.readers.originals.passed;
  few : l.readers.originals.passed < 2 ^ 64;
  advance : Advance l.initial.readers l.readers
      (g.S.Source.inputs l.initial.source)
      (g.S.Source.inputs l.source);
  written : Written (g.K.Sink.outputs l.initial.sink) (g.K.Sink.outputs l.sink);
  reached : Reached l.formats l.number l.all_true
      (g.S.Source.inputs l.initial.source) l.readers
      (g.S.Source.inputs l.source)
      (g.K.Sink.outputs l.initial.sink) (g.K.Sink.outputs l.sink) l.lines;
}

abbrev pub decreases-loop-lines : goal.decreases-loop-lines
decreases-loop-lines g l = 2 ^ 64 - l.readers.originals.passed
