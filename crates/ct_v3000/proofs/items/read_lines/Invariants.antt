use Rattle.std.proofs.Common.{◌≡◌, ◌≤◌, ◌-◌, Some}
use Rattle.ct_v3000.specs.Blocks.{start}
use Rattle.ct_v3000.specs.Steps.{IsFew, after_items, to_come}
use Rattle.ct_v3000.proofs.items.read_lines.Given as goal

abbrev pub invariant-loop-next : goal.invariant-loop-next
invariant-loop-next l = record {
  header : 4 ≤ l.next.line;
  within : l.next.line ≤ l.end;
  few : IsFew l.next.line l.reading;
  same : after_items (to_come l.given l.end l.next.line (Some l.next.at)) l.reading ≡ after_items (to_come l.given l.end 4 (Some start)) l.initial.reading;
}

abbrev pub decreases-loop-next : goal.decreases-loop-next
decreases-loop-next l = l.end - l.next.line
