use Rattle.std.proofs.Common.{◌≡◌, ℕ, ◌<◌, true, false}
use Rattle.match_barrier.specs.Graph.{has, adjacent}
use Rattle.match_blossom.specs.Pointers.{Points}
use Rattle.match_blossom.proofs.lifting.edge_among_all.Given as goal

abbrev pub invariant-loop-to : goal.invariant-loop-to
invariant-loop-to l = (part : ℕ → ℕ) → Points l.blossoms.cycle_base.items part → (k : ℕ) → k < l.to → part k ≡ l.x → (from : ℕ) → adjacent l.graph k from ≡ true → has l.cycle (part from) ≡ false
