use Rattle.std.proofs.Common.{◌≡◌, ◌+◌, ◌≤◌, length, drop}
use Rattle.smi_graph.specs.Order.{unclosed_at}
use Rattle.smi_graph.specs.Firsts.{unmatched, IsFirstFrom}
use Rattle.smi_graph.proofs.unclosed.first_unclosed.Given as goal

abbrev pub invariant-loop-i : goal.invariant-loop-i
invariant-loop-i l = record {
  within : l.i ≤ length l.roles;
  unmatched : l.unmatched ≡ unmatched (drop l.i l.roles);
  few : l.unmatched + l.i ≤ length l.roles;
  first : IsFirstFrom (unclosed_at l.roles) l.i (length l.roles) l.first;
}

abbrev pub decreases-loop-i : goal.decreases-loop-i
decreases-loop-i l = l.i
