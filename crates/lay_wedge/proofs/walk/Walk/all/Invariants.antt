use Rattle.std.proofs.Common.{None}
use Rattle.lay_wedge.specs.Underway.{ArePlannedBelow, Underway}
use Rattle.lay_wedge.proofs.walk.Walk.all.Given as goal

abbrev pub invariant-loop-k : goal.invariant-loop-k
invariant-loop-k l = record {
  underway : Underway l.mol l.drawing l.self.wedges.items l.self.planned.items None;
  planned : ArePlannedBelow l.mol l.self.planned.items l.k;
}
