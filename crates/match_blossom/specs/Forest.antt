-- The alternating tree of a search in arrays.
use Rattle.std.specs.Prelude.{◌≡◌, ℕ, ◌+◌, ◌<◌, ◌≤◌, ◌==◌, ◌⊎◌, ◌&&◌, not, List, [], ◌∷◌, ◌++◌, reverse, length, get_or, set, cond, drop, Bool, true}
use Rattle.match_barrier.specs.Graph.{adjacent, has}
use Rattle.match_barrier.specs.Barrier.{count}
use Rattle.match_blossom.specs.declared.tree.AlternatingTree.{AlternatingTree}
use Rattle.match_blossom.specs.declared.tree.Label.{Label}
use Rattle.match_blossom.specs.declared.tree.Label.TheVariants.{Outside}
use Rattle.match_blossom.specs.declared.cycles.Cycles.{Cycles}
use Rattle.match_blossom.specs.Labels.{at, is_outer, is_inner}
use Rattle.match_blossom.specs.Pointers.{Falls, Points, Leads}
use Rattle.match_blossom.specs.Stack.{foldings_of, Fits}
use Rattle.match_blossom.specs.Foldings.{Folding, Foldings, part_of, folded, IsCycle, IsMatchingBut, Augmented}
use Rattle.match_blossom.specs.Search.{Tree}
use Rattle.match_blossom.specs.Climbing.{Climb}

abbrev pub lives : (ℕ → ℕ) → ℕ → Bool
lives part u = part u == u

-- a living node without label
abbrev pub is_unlabelled : (ℕ → ℕ) → (ℕ → Bool) → (ℕ → Bool) → ℕ → Bool
is_unlabelled part outer inner u = (part u == u) && (not (outer u) && not (inner u))

-- The arrays hold the tree of a search.
pub record IsSearch (g : List (List ℕ)) (mates : List ℕ) (root : ℕ) (labels : List Label) (parent order : List ℕ) (now : ℕ) (foldings : List Folding) : Type 0 where
  pub tree : Tree g mates root (part_of foldings) (is_outer labels) (is_inner labels) (at parent) (at order)
  pub labels_length : length g ≤ length labels
  pub parent_length : length g ≤ length parent
  pub order_length : length g ≤ length order
  pub latest : (x : ℕ) → (is_outer labels x ≡ true) ⊎ (is_inner labels x ≡ true) → at order x < now
  pub few : now + count (length g) (is_unlabelled (part_of foldings) (is_outer labels) (is_inner labels)) ≤ length g
  pub folded : Foldings g foldings

-- x stands in the list at a place of a range
abbrev pub StandsIn : List ℕ → ℕ → ℕ → ℕ → Type 0
StandsIn list from to x = (j : ℕ) × (from ≤ j) × (j < to) × (at list j ≡ x)

-- The queue has the nodes of outer blossoms.
pub record IsQueue (g : List (List ℕ)) (labels : List Label) (part : ℕ → ℕ) (queue : List ℕ) (queued : ℕ) : Type 0 where
  pub below : (k : ℕ) → k < queued → at queue k < length g
  pub outer : (k : ℕ) → k < queued → is_outer labels (part (at queue k)) ≡ true
  pub each : (u : ℕ) → u < length g → is_outer labels (part u) ≡ true → StandsIn queue 0 queued u

-- A node with a label, or that is not its own base, has been touched.
pub record IsTouched (labels : List Label) (base touched : List ℕ) (now : ℕ) : Type 0 where
  pub below : (k : ℕ) → k < now → (at touched k < length labels) × (at touched k < length base)
  pub labelled : (u : ℕ) → (get_or labels u Outside ≡ Outside) ⊎ StandsIn touched 0 now u
  pub pointed : (u : ℕ) → u < length base → (at base u ≡ u) ⊎ StandsIn touched 0 now u

-- There is room for all that may still come.
pub record HasRoom (n : ℕ) (part : ℕ → ℕ) (f : AlternatingTree) : Type 0 where
  pub touched : n ≤ length f.touched.items
  pub queue : n + n ≤ length f.queue.items
  pub queued : f.queued + count n (lives part) ≤ f.now + n
  pub top : count n (lives part) + count n (lives part) ≤ f.cycles.top
  pub top_below : f.cycles.top ≤ length f.cycles.nodes.items
  pub height : count n (lives part) ≤ f.cycles.height
  pub height_below : f.cycles.height ≤ length f.cycles.sizes.items

-- the contracted cycles of a stack, the latest first
abbrev pub stacked : Cycles → List Folding
stacked c = foldings_of (drop c.height c.sizes.items) (drop c.top c.nodes.items)

-- the base of a node's blossom
abbrev pub base_in : AlternatingTree → ℕ → ℕ
base_in f u = part_of (stacked f.cycles) u

pub record IsForest (g : List (List ℕ)) (mates : List ℕ) (f : AlternatingTree) : Type 0 where
  pub search : IsSearch g mates f.root f.labels.items f.parent.items f.blossoms.order.items f.now (stacked f.cycles)
  pub falls : Falls f.blossoms.base.items f.blossoms.order.items
  pub points : Points f.blossoms.base.items (part_of (stacked f.cycles))
  pub cycle_falls : Falls f.blossoms.cycle_base.items f.blossoms.order.items
  pub leads : Leads (length f.blossoms.cycle_base.items) (at f.blossoms.cycle_base.items) (stacked f.cycles)
  pub base_length : length g ≤ length f.blossoms.base.items
  pub cycle_length : length g ≤ length f.blossoms.cycle_base.items
  pub fits : Fits (drop f.cycles.height f.cycles.sizes.items) (drop f.cycles.top f.cycles.nodes.items)
  pub queue : IsQueue g f.labels.items (part_of (stacked f.cycles)) f.queue.items f.queued
  pub touched : IsTouched f.labels.items f.blossoms.base.items f.touched.items f.now
  pub cycle_touched : IsTouched f.labels.items f.blossoms.cycle_base.items f.touched.items f.now
  pub room : HasRoom (length g) (part_of (stacked f.cycles)) f

-- The arrays have kept their lengths.
pub record KeepsLengths (old new : AlternatingTree) : Type 0 where
  pub labels : length new.labels.items ≡ length old.labels.items
  pub parent : length new.parent.items ≡ length old.parent.items
  pub base : length new.blossoms.base.items ≡ length old.blossoms.base.items
  pub cycle_base : length new.blossoms.cycle_base.items ≡ length old.blossoms.cycle_base.items
  pub order : length new.blossoms.order.items ≡ length old.blossoms.order.items
  pub touched : length new.touched.items ≡ length old.touched.items
  pub queue : length new.queue.items ≡ length old.queue.items
  pub nodes : length new.cycles.nodes.items ≡ length old.cycles.nodes.items
  pub sizes : length new.cycles.sizes.items ≡ length old.cycles.sizes.items

-- The others have been made part of the blossom of a base.
pub record IsAbsorbed (old new : AlternatingTree) (base from : ℕ) (others : List ℕ) : Type 0 where
  pub root : new.root ≡ old.root
  pub now : new.now ≡ old.now
  pub parent : new.parent ≡ old.parent
  pub touched : new.touched ≡ old.touched
  pub order : new.blossoms.order ≡ old.blossoms.order
  pub pointers : (u : ℕ) → at new.blossoms.base.items u ≡ cond (has others u) base (at old.blossoms.base.items u)
  pub base_length : length new.blossoms.base.items ≡ length old.blossoms.base.items
  pub cycle_pointers : (u : ℕ) → at new.blossoms.cycle_base.items u ≡ cond (has others u) base (at old.blossoms.cycle_base.items u)
  pub cycle_length : length new.blossoms.cycle_base.items ≡ length old.blossoms.cycle_base.items
  pub cleared : (u : ℕ) → get_or new.labels.items u Outside ≡ cond (has others u) Outside (get_or old.labels.items u Outside)
  pub labels_length : length new.labels.items ≡ length old.labels.items
  pub queue_length : length new.queue.items ≡ length old.queue.items
  pub queue : (k : ℕ) → k < old.queued → at new.queue.items k ≡ at old.queue.items k
  pub low : old.queued ≤ new.queued
  pub high : new.queued ≤ old.queued + length others
  pub queued : (k : ℕ) → old.queued ≤ k → k < new.queued → (has others (at new.queue.items k) ≡ true) × (is_inner old.labels.items (at new.queue.items k) ≡ true)
  pub each : (u : ℕ) → has others u ≡ true → is_inner old.labels.items u ≡ true → StandsIn new.queue.items old.queued new.queued u
  pub nodes : drop new.cycles.top new.cycles.nodes.items ≡ base ∷ drop from old.cycles.nodes.items
  pub top : new.cycles.top + 1 ≡ from
  pub nodes_length : length new.cycles.nodes.items ≡ length old.cycles.nodes.items
  pub height : new.cycles.height + 1 ≡ old.cycles.height
  pub sizes : new.cycles.sizes.items ≡ set old.cycles.sizes.items new.cycles.height (length others + 1)

-- Room for n nodes, with no tree in it.
pub record IsClean (n : ℕ) (f : AlternatingTree) : Type 0 where
  pub labels_length : length f.labels.items ≡ n
  pub parent_length : length f.parent.items ≡ n
  pub base_length : length f.blossoms.base.items ≡ n
  pub cycle_length : length f.blossoms.cycle_base.items ≡ n
  pub order_length : length f.blossoms.order.items ≡ n
  pub touched_length : length f.touched.items ≡ n
  pub queue_length : length f.queue.items ≡ n + n
  pub nodes_length : length f.cycles.nodes.items ≡ n + n
  pub sizes_length : length f.cycles.sizes.items ≡ n
  pub top : f.cycles.top ≡ n + n
  pub height : f.cycles.height ≡ n
  pub labels : (u : ℕ) → get_or f.labels.items u Outside ≡ Outside
  pub base : (u : ℕ) → u < n → at f.blossoms.base.items u ≡ u
  pub cycle_base : (u : ℕ) → u < n → at f.blossoms.cycle_base.items u ≡ u

-- An odd cycle whose blossom is matched, or free.
pub record IsLiftable (g : List (List ℕ)) (base cycle mates : List ℕ) : Type 0 where
  pub part : ℕ → ℕ
  pub points : Points base part
  pub is : IsCycle g part (get_or cycle 0 0) (drop 1 cycle)
  pub matching : IsMatchingBut g (folded part (get_or cycle 0 0) (drop 1 cycle)) mates []

-- An edge from an outer class to another class that is not inner.
abbrev pub is_open : (ℕ → ℕ) → List Label → ℕ → ℕ → Bool
is_open part labels u v = is_outer labels (part u) && (not (part v == part u) && not (is_inner labels (part v)))

-- Two ways up the tree, from a to x and from b to y, that have not met.
pub record IsClimbing (mates : List ℕ) (part parent : ℕ → ℕ) (outer inner : ℕ → Bool) (order : ℕ → ℕ) (a b x y : ℕ) (first second : List ℕ) : Type 0 where
  pub first_way : Climb mates part parent outer inner order a first x
  pub second_way : Climb mates part parent outer inner order b second y
  pub first_outer : outer x ≡ true
  pub second_outer : outer y ≡ true
  pub first_behind : (z : ℕ) → has first z ≡ true → outer z ≡ true → order y < order z
  pub second_behind : (z : ℕ) → has second z ≡ true → outer z ≡ true → order x < order z
  pub apart : (z : ℕ) → has first z ≡ true → has second z ≡ true → ⊥

-- the same of the tree in arrays
abbrev pub TreeClimb : List ℕ → AlternatingTree → ℕ → List ℕ → ℕ → Type 0
TreeClimb mates f a way x = Climb mates (part_of (stacked f.cycles)) (at f.parent.items) (is_outer f.labels.items) (is_inner f.labels.items) (at f.blossoms.order.items) a way x

abbrev pub TreeClimbs : List ℕ → AlternatingTree → ℕ → ℕ → ℕ → ℕ → List ℕ → List ℕ → Type 0
TreeClimbs mates f a b x y first second = IsClimbing mates (part_of (stacked f.cycles)) (at f.parent.items) (is_outer f.labels.items) (is_inner f.labels.items) (at f.blossoms.order.items) a b x y first second

-- A part of the way up from a node to a base has been written before a place of the stack, and the way from x on is left.
pub record IsPushing (mates : List ℕ) (f : AlternatingTree) (bottom top : ℕ) (old new : List ℕ) (from x base : ℕ) : Type 0 where
  pub done : List ℕ
  pub left : List ℕ
  pub whole : TreeClimb mates f from (done ++ left) base
  pub way : TreeClimb mates f x left base
  pub pushed : drop top new ≡ reverse done ++ drop bottom old
  pub top_is : top + length done ≡ bottom
  pub room : length left ≤ top

-- Neither end of the edge from u to v need be looked at again, or one of them waits in the queue.
abbrev pub IsSettled : AlternatingTree → ℕ → ℕ → ℕ → Type 0
IsSettled f head u v = (base_in f v ≡ base_in f u) ⊎ ((is_inner f.labels.items (base_in f v) ≡ true) ⊎ (StandsIn f.queue.items head f.queued v ⊎ StandsIn f.queue.items head f.queued u))

-- The edges of the nodes before a place of the queue are settled.
abbrev pub IsScanned : List (List ℕ) → AlternatingTree → ℕ → Type 0
IsScanned g f head = (k : ℕ) → k < head → (v : ℕ) → adjacent g (at f.queue.items k) v ≡ true → IsSettled f head (at f.queue.items k) v

-- What a step leaves: one class stays one, an inner node stays inner or comes into the queue, and the queue goes on.
pub record GoesOn (g : List (List ℕ)) (old new : AlternatingTree) : Type 0 where
  pub root : new.root ≡ old.root
  pub lengths : KeepsLengths old new
  pub queue : (k : ℕ) → k < old.queued → at new.queue.items k ≡ at old.queue.items k
  pub queued : old.queued ≤ new.queued
  pub one : (u v : ℕ) → u < length g → v < length g → base_in old u ≡ base_in old v → base_in new u ≡ base_in new v
  pub inner : (v : ℕ) → v < length g → is_inner old.labels.items (base_in old v) ≡ true → (is_inner new.labels.items (base_in new v) ≡ true) ⊎ StandsIn new.queue.items old.queued new.queued v

-- A step along an edge has settled it.
pub record IsStep (g : List (List ℕ)) (mates : List ℕ) (old new : AlternatingTree) (u v : ℕ) : Type 0 where
  pub forest : IsForest g mates new
  pub goes_on : GoesOn g old new
  pub closed : (base_in new v ≡ base_in new u) ⊎ (is_inner new.labels.items (base_in new v) ≡ true)

-- The root has been mated. What was touched is still known.
pub record HasAugmented (g : List (List ℕ)) (mates after : List ℕ) (old new : AlternatingTree) : Type 0 where
  pub augmented : Augmented g mates after old.root
  pub touched : IsTouched new.labels.items new.blossoms.base.items new.touched.items new.now
  pub cycle_touched : IsTouched new.labels.items new.blossoms.cycle_base.items new.touched.items new.now
  pub now : new.now ≤ length new.touched.items
  pub lengths : KeepsLengths old new
