use Rattle.std.proofs.Common.{◌≡◌, ◌≤◌, ◌++◌, get_or, length, suc}
use Rattle.std.specs.Prelude.{◌==◌}
use Rattle.smi_mean.specs.RingNumbers.{passing}
use Rattle.smi_write.proofs.order_at.push_children.Given as goal

abbrev pub invariant-loop-at : goal.invariant-loop-at
invariant-loop-at l = record {
  low : l.at ≤ length l.parents;
  list : l.list.items ≡ l.initial.list.items ++ passing (λ j. get_or l.parents j 0 == suc l.rank) l.at;
}
