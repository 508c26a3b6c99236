use Rattle.std.proofs.Common.{◌≡◌, ◌+◌, ◌-◌, ℕ, length, get_or, None}
use Rattle.smi_graph.proofs.ring_table.reach.Given as goal

abbrev pub invariant-loop-ends : goal.invariant-loop-ends
invariant-loop-ends l = (n : ℕ) → get_or l.ends.items n None ≡ get_or l.initial.ends.items n None

abbrev pub decreases-loop-ends : goal.decreases-loop-ends
decreases-loop-ends l = l.number + 1 - length l.ends.items
