use Rattle.std.proofs.Common.{length, ◌-◌, ◌≤◌, take}
use Rattle.mc_io.specs.Outside.{Gets}
use Rattle.mc_io.proofs.writing.put_all.Given as goal

abbrev pub invariant-loop-at : goal.invariant-loop-at
invariant-loop-at g l = record {
  within : l.at ≤ length l.piece;
  gets : Gets l.output (g.K.Sink.outputs l.initial.sink) (g.K.Sink.outputs l.sink) (take l.at l.piece);
}

abbrev pub decreases-loop-at : goal.decreases-loop-at
decreases-loop-at g l = length l.piece - l.at
