-- Perfect matchings.
use Rattle.std.specs.Prelude.{◌≡◌, ℕ, ◌<◌, List, length, get_or, true}
use Rattle.match_barrier.specs.Graph.{adjacent}

-- The mate of each node: a neighbour, whose mate is the node itself.
pub record IsPerfect (g : List (List ℕ)) (mates : List ℕ) : Type 0 where
  pub each_node : length mates ≡ length g
  pub neighbour : (v : ℕ) → v < length g → adjacent g v (get_or mates v 0) ≡ true
  pub back : (v : ℕ) → v < length g → get_or mates (get_or mates v 0) 0 ≡ v
