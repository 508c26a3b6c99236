-- What the answer for a graph says.
use Rattle.std.specs.Prelude.{ℕ, ◌<◌, List, length}
use Rattle.std.specs.List.{All}
use Rattle.match_barrier.specs.Graph.{NoRepeats}
use Rattle.match_barrier.specs.Matching.{IsPerfect}
use Rattle.match_barrier.specs.Barrier.{IsBarrier}
use Rattle.match_blossom.specs.declared.matcher.Matched.{Matched}
use Rattle.match_blossom.specs.declared.matcher.Matched.TheVariants.{Perfect, Barrier}

-- A set of different nodes in range that leaves more odd parts than it has nodes.
pub record IsBarrierSet (g : List (List ℕ)) (set : List ℕ) : Type 0 where
  pub different : NoRepeats set
  pub in_range : All (λ v. v < length g) set
  pub odd : ℕ
  pub barrier : IsBarrier g set odd

-- The answer is right: a perfect matching, or a barrier.
abbrev pub IsAnswer : List (List ℕ) → Matched → Type 0
IsAnswer g (Perfect mates) = IsPerfect g mates.now
IsAnswer g (Barrier set) = IsBarrierSet g set.now

-- no matching of the graph is perfect
abbrev pub HasNoPerfect : List (List ℕ) → Type 0
HasNoPerfect g = (mates : List ℕ) → IsPerfect g mates → ⊥

abbrev pub SaysBarrier : Matched → Type 0
SaysBarrier (Perfect mates) = ⊥
SaysBarrier (Barrier set) = Unit {0}
