use Rattle.std.proofs.Common.{◌≡◌, ℕ, ◌<◌, get_or, true}
use Rattle.match_barrier.specs.Graph.{adjacent}
use Rattle.match_barrier.proofs.matching.is_perfect.Given as goal

abbrev pub invariant-loop-v : goal.invariant-loop-v
invariant-loop-v l = (k : ℕ) → k < l.v → (adjacent l.graph k (get_or l.mates k 0) ≡ true) × (get_or l.mates (get_or l.mates k 0) 0 ≡ k)
