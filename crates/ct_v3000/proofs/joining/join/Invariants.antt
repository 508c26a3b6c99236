use Rattle.std.proofs.Common.{◌≡◌, ◌≤◌, ◌+◌, ◌-◌, Some, None}
use Rattle.ct_v3000.specs.Joined.{joined_from}
use Rattle.ct_v3000.specs.Steps.{lines_between}
use Rattle.ct_v3000.proofs.joining.join.Given as goal

abbrev pub invariant-loop-next : goal.invariant-loop-next
invariant-loop-next l = record {
  rising : l.k ≤ l.next;
  within : l.next ≤ l.end;
  same : joined_from (Some (l.k + 1, l.text.items)) (l.next + 1) (lines_between l.next l.end l.given) ≡ joined_from None (l.k + 1) (lines_between l.k l.end l.given);
}

abbrev pub decreases-loop-next : goal.decreases-loop-next
decreases-loop-next l = l.end - l.next
