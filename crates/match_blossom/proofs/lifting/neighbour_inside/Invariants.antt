use Rattle.std.proofs.Common.{◌≡◌, ℕ, ◌<◌, get_or, false}
use Rattle.match_barrier.specs.Graph.{has}
use Rattle.match_blossom.specs.Pointers.{Points}
use Rattle.match_blossom.proofs.lifting.neighbour_inside.Given as goal

abbrev pub invariant-loop-from : goal.invariant-loop-from
invariant-loop-from l = (part : ℕ → ℕ) → Points l.blossoms.cycle_base.items part → (k : ℕ) → k < l.from-index → has l.cycle (part (get_or l.neighbours k 0)) ≡ false
