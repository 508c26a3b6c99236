use Rattle.std.proofs.Common.{◌≡◌, true, Some, slice_get}
use Rattle.lay_wedge.specs.Underway.{KeepPlanned, Underway, number, waiting}
use Rattle.lay_wedge.proofs.walk.Walk.from.Given as goal

abbrev pub invariant-loop-next : goal.invariant-loop-next
invariant-loop-next l = record {
  underway : Underway l.mol l.drawing l.self.wedges.items l.self.planned.items (number l.next);
  kept : KeepPlanned l.fn.self.planned.items l.self.planned.items;
  start : slice_get l.self.planned.items l.fn.start.0 ≡ Some true;
}

abbrev pub decreases-loop-next : goal.decreases-loop-next
decreases-loop-next l = waiting l.self.planned.items
