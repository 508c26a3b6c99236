-- The inner nodes as a list.
use Rattle.std.specs.Prelude.{◌≡◌, ℕ, ◌<◌, List, length, true}
use Rattle.match_barrier.specs.Graph.{has, NoRepeats}
use Rattle.match_barrier.specs.Barrier.{count}
use Rattle.match_blossom.specs.declared.tree.Label.{Label}
use Rattle.match_blossom.specs.Labels.{is_inner}

-- The list has the inner nodes below n, each once.
pub record ListsInner (labels : List Label) (n : ℕ) (set : List ℕ) : Type 0 where
  pub members : (v : ℕ) → v < n → has set v ≡ is_inner labels v
  pub below : (v : ℕ) → has set v ≡ true → v < n
  pub size : length set ≡ count n (is_inner labels)
  pub different : NoRepeats set
