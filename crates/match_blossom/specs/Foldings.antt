-- Folding a cycle into its base, matchings of the graph so folded, and chains.
use Rattle.std.specs.Prelude.{cond, ◌≡◌, ◌≢◌, ℕ, ◌<◌, List, [], ◌∷◌, ◌++◌, length, get_or, set, true, false}
use Rattle.match_barrier.specs.Graph.{adjacent, has, NoRepeats}
use Rattle.match_barrier.specs.Barrier.{is_odd}

-- x is a node of the folded graph
abbrev pub IsLiving : List (List ℕ) → (ℕ → ℕ) → ℕ → Type 0
IsLiving g part x = (x < length g) × (part x ≡ x)

-- an edge of g between the classes of x and y
pub record Touch (g : List (List ℕ)) (part : ℕ → ℕ) (x y : ℕ) : Type 0 where
  pub from : ℕ
  pub to : ℕ
  pub below : from < length g
  pub edge : adjacent g from to ≡ true
  pub from_class : part from ≡ x
  pub to_class : part to ≡ y

-- A matching of the folded graph, with the nodes of the list left out. The mate of a free node is the number of nodes.
pub record IsMatchingBut (g : List (List ℕ)) (part : ℕ → ℕ) (mates : List ℕ) (out : List ℕ) : Type 0 where
  pub each_node : length mates ≡ length g
  pub mate : (v : ℕ) → IsLiving g part v → has out v ≡ false → get_or mates v 0 ≢ length g
      → IsLiving g part (get_or mates v 0) × (has out (get_or mates v 0) ≡ false) × (get_or mates v 0 ≢ v) × (get_or mates (get_or mates v 0) 0 ≡ v) × Touch g part v (get_or mates v 0)

-- each node touches the next
abbrev pub Chain : List (List ℕ) → (ℕ → ℕ) → List ℕ → Type 0
Chain g part [] = Unit {0}
Chain g part (x ∷ []) = Unit {0}
Chain g part (x ∷ y ∷ xs) = Touch g part x y × Chain g part (y ∷ xs)

-- mates the first with the second, the third with the fourth, and so on
abbrev pub pair_off : List ℕ → List ℕ → List ℕ
pair_off [] mates = mates
pair_off (x ∷ []) mates = mates
pair_off (x ∷ y ∷ xs) mates = pair_off xs (set (set mates x y) y x)

-- the class of a node when the cycle has been folded into its base
abbrev pub folded : (ℕ → ℕ) → ℕ → List ℕ → ℕ → ℕ
folded part base cycle u = cond (has (base ∷ cycle) (part u)) base (part u)

-- an odd cycle: the base, and an even number of others
pub record IsCycle (g : List (List ℕ)) (part : ℕ → ℕ) (base : ℕ) (others : List ℕ) : Type 0 where
  pub living : (x : ℕ) → has (base ∷ others) x ≡ true → IsLiving g part x
  pub different : NoRepeats (base ∷ others)
  pub closed : Chain g part (base ∷ others ++ base ∷ [])

-- An edge of g leads from a class of the cycle to the class of x.
pub record Touches (g : List (List ℕ)) (part : ℕ → ℕ) (cycle : List ℕ) (x : ℕ) : Type 0 where
  pub from : ℕ
  pub to : ℕ
  pub edge : adjacent g from to ≡ true
  pub inside : has cycle (part from) ≡ true
  pub outside : part to ≡ x

-- from lies in a class of the cycle, to in that of x
pub record Joins (part : ℕ → ℕ) (cycle : List ℕ) (x from to : ℕ) : Type 0 where
  pub inside : has cycle (part from) ≡ true
  pub outside : part to ≡ x

-- one folding: its cycle
pub record Folding : Type 0 where
  pub base : ℕ
  pub others : List ℕ

-- the classes that foldings led to, the latest first
abbrev pub part_of : List Folding → ℕ → ℕ
part_of [] u = u
part_of (f ∷ earlier) u = folded (part_of earlier) f.base f.others u

-- each of these foldings, the latest first, is one of an odd cycle
abbrev pub Foldings : List (List ℕ) → List Folding → Type 0
Foldings g [] = Unit {0}
Foldings g (f ∷ earlier) = IsCycle g (part_of earlier) f.base f.others × (is_odd (length f.others) ≡ false) × Foldings g earlier

-- what an unfolded matching keeps: who is free is living in the folded graph, and was free
pub record Unfolds (g : List (List ℕ)) (part : ℕ → ℕ) (base : ℕ) (others : List ℕ) (mates after : List ℕ) : Type 0 where
  pub matching : IsMatchingBut g part after []
  pub free : (v : ℕ) → IsLiving g part v → get_or after v 0 ≡ length g → IsLiving g (folded part base others) v × (get_or mates v 0 ≡ length g)

-- Of all foldings some are left, and the others have been taken back; who is free then was living and free before.
pub record IsUnfolding (g : List (List ℕ)) (before : List ℕ) (all : List Folding) (mates : List ℕ) (left : List Folding) : Type 0 where
  pub folded : Foldings g left
  pub matching : IsMatchingBut g (part_of left) mates []
  pub free : (v : ℕ) → IsLiving g (part_of left) v → get_or mates v 0 ≡ length g → IsLiving g (part_of all) v × (get_or before v 0 ≡ length g)

-- a matching of the given graph with one edge more: the root is free no longer, and nobody else became free
pub record Augmented (g : List (List ℕ)) (old mates : List ℕ) (root : ℕ) : Type 0 where
  pub matching : IsMatchingBut g (λ u. u) mates []
  pub free : (v : ℕ) → v < length g → get_or mates v 0 ≡ length g → (v ≢ root) × (get_or old v 0 ≡ length g)
