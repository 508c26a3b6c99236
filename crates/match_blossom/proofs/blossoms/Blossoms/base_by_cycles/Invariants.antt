use Rattle.std.proofs.Common.{◌≡◌, ℕ, ◌<◌, length, get_or}
use Rattle.match_blossom.specs.Pointers.{Points}
use Rattle.match_blossom.proofs.blossoms.Blossoms.base_by_cycles.Given as goal

abbrev pub invariant-loop-x : goal.invariant-loop-x
invariant-loop-x l = record {
  below : l.x < length l.self.cycle_base.items;
  same : (part : ℕ → ℕ) → Points l.self.cycle_base.items part → part l.x ≡ part l.u;
}

abbrev pub decreases-loop-x : goal.decreases-loop-x
decreases-loop-x l = get_or l.self.order.items l.x 0
