use Rattle.std.proofs.Common.{◌≡◌, take, false}
use Rattle.match_barrier.specs.Graph.{has}
use Rattle.match_blossom.proofs.lifting.place_of.Given as goal

abbrev pub invariant-loop-k : goal.invariant-loop-k
invariant-loop-k l = has (take l.k l.list) l.x ≡ false
