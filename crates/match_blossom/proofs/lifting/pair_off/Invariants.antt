use Rattle.std.proofs.Common.{◌≡◌, ◌-◌, ◌≤◌, length, drop}
use Rattle.match_blossom.specs.Foldings.{pair_off}
use Rattle.match_blossom.proofs.lifting.pair_off.Given as goal

abbrev pub invariant-loop-k : goal.invariant-loop-k
invariant-loop-k l = (pair_off (drop l.k l.list) l.mates ≡ pair_off l.list l.initial.mates) × (l.k ≤ length l.list)

abbrev pub decreases-loop-k : goal.decreases-loop-k
decreases-loop-k l = length l.list - l.k
