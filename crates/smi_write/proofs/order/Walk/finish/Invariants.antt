use Rattle.std.proofs.Common.{◌≡◌, ◌<◌, ℕ, [], None}
use Rattle.std.specs.Option.{option_to_list}
use Rattle.std.specs.Prelude.{slice_index_or}
use Rattle.smi_write.specs.Progress.{IsWalkWith, left}
use Rattle.smi_write.proofs.order.Walk.finish.Given as goal

abbrev pub invariant-loop-next : goal.invariant-loop-next
invariant-loop-next l = record {
  walk : IsWalkWith l.mol l.self (option_to_list l.next);
  empty : l.next ≡ None → l.self.stack.items ≡ [];
  kept : (v : ℕ) → 0 < slice_index_or l.initial.self.ranks.items v 0 → 0 < slice_index_or l.self.ranks.items v 0;
}

abbrev pub decreases-loop-next : goal.decreases-loop-next
decreases-loop-next l = left l.mol l.self (option_to_list l.next)
