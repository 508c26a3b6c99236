-- The state of a search when no edge is left: each node stands in the class of a living node.
use Rattle.std.specs.Prelude.{◌≡◌, ◌≢◌, ℕ, ◌+◌, ◌<◌, ◌≤◌, ◌==◌, ◌⊎◌, ◌&&◌, not, List, [], length, get_or, Bool, true, false}
use Rattle.match_barrier.specs.Graph.{adjacent, has}
use Rattle.match_barrier.specs.Barrier.{count, is_odd}
use Rattle.match_blossom.specs.Foldings.{IsLiving, Touch, IsMatchingBut, IsCycle}

-- the number of nodes that stand in the class of o
abbrev pub class_size : ℕ → (ℕ → ℕ) → ℕ → ℕ
class_size n part o = count n (λ u. part u == o)

-- No edge is left to scan: set holds the living inner nodes.
pub record Stuck (g : List (List ℕ)) (set : List ℕ) (part : ℕ → ℕ) (outer inner : ℕ → Bool) : Type 0 where
  pub members : (v : ℕ) → v < length g → has set v ≡ inner v
  pub size : length set ≡ count (length g) inner
  pub inner_alone : (u : ℕ) → u < length g → inner (part u) ≡ true → part u ≡ u
  pub inner_living : (v : ℕ) → inner v ≡ true → part v ≡ v
  pub not_both : (v : ℕ) → outer v ≡ true → inner v ≡ false
  pub odd_classes : (o : ℕ) → o < length g → outer o ≡ true → is_odd (class_size (length g) part o) ≡ true
  pub closed : (u v : ℕ) → adjacent g u v ≡ true → outer (part u) ≡ true → (part v ≡ part u) ⊎ (inner (part v) ≡ true)
  pub one_more : count (length g) outer ≡ count (length g) inner + 1

-- The tree of a search from a root, in the folded graph.
pub record Tree (g : List (List ℕ)) (mates : List ℕ) (root : ℕ) (part : ℕ → ℕ) (outer inner : ℕ → Bool) (parent order : ℕ → ℕ) : Type 0 where
  pub matching : IsMatchingBut g part mates []
  pub part_below : (u : ℕ) → u < length g → part u < length g
  pub part_part : (u : ℕ) → u < length g → part (part u) ≡ part u
  pub outer_living : (v : ℕ) → outer v ≡ true → IsLiving g part v
  pub inner_living : (v : ℕ) → inner v ≡ true → IsLiving g part v
  pub not_both : (v : ℕ) → outer v ≡ true → inner v ≡ false
  pub alone : (v : ℕ) → v < length g → outer (part v) ≡ false → part v ≡ v
  pub root_outer : outer root ≡ true
  pub root_free : get_or mates root 0 ≡ length g
  pub outer_mate : (v : ℕ) → outer v ≡ true → v ≢ root → inner (get_or mates v 0) ≡ true
  pub inner_mate : (v : ℕ) → inner v ≡ true → outer (get_or mates v 0) ≡ true
  pub parent_edge : (v : ℕ) → inner v ≡ true → adjacent g v (parent v) ≡ true
  pub parent_outer : (v : ℕ) → inner v ≡ true → outer (part (parent v)) ≡ true
  pub order_parent : (v : ℕ) → inner v ≡ true → order (part (parent v)) < order v
  pub order_mate : (v : ℕ) → inner v ≡ true → order v < order (get_or mates v 0)
  pub root_first : (x : ℕ) → outer x ≡ true → order root ≤ order x
  pub order_one : (x y : ℕ) → outer x ≡ true → outer y ≡ true → order x ≡ order y → x ≡ y
  pub odd_classes : (o : ℕ) → outer o ≡ true → is_odd (class_size (length g) part o) ≡ true

-- A cycle of the tree that may be folded: its base is the first of it in the order, and the others are mated among themselves.
pub record IsFoldable (g : List (List ℕ)) (mates : List ℕ) (root : ℕ) (part : ℕ → ℕ) (outer inner : ℕ → Bool) (order : ℕ → ℕ) (base : ℕ) (others : List ℕ) : Type 0 where
  pub cycle : IsCycle g part base others
  pub even : is_odd (length others) ≡ false
  pub base_outer : outer base ≡ true
  pub not_root : has others root ≡ false
  pub labelled : (x : ℕ) → has others x ≡ true → (outer x ≡ true) ⊎ (inner x ≡ true)
  pub first : (x : ℕ) → has others x ≡ true → order base < order x
  pub mated : (x : ℕ) → has others x ≡ true → has others (get_or mates x 0) ≡ true
  pub mates_back : (x : ℕ) → has others x ≡ true → get_or mates x 0 < length g

-- the labels that are left when the others have been folded away
abbrev pub without : List ℕ → (ℕ → Bool) → ℕ → Bool
without others label v = label v && not (has others v)

-- An edge leads from an outer class to a node v without label, whose mate is w: v becomes inner, w outer.
pub record Grown (g : List (List ℕ)) (mates : List ℕ) (part : ℕ → ℕ) (outer inner outer' inner' : ℕ → Bool) (parent order parent' order' : ℕ → ℕ) (p v w now : ℕ) : Type 0 where
  pub edge : adjacent g v p ≡ true
  pub from_outer : outer (part p) ≡ true
  pub below : v < length g
  pub no_outer : outer (part v) ≡ false
  pub no_inner : inner (part v) ≡ false
  pub mate : get_or mates v 0 ≡ w
  pub mate_below : w < length g
  pub latest : (x : ℕ) → (outer x ≡ true) ⊎ (inner x ≡ true) → order x < now
  pub outer_new : outer' w ≡ true
  pub outer_old : (x : ℕ) → x ≢ w → outer' x ≡ outer x
  pub inner_new : inner' v ≡ true
  pub inner_old : (x : ℕ) → x ≢ v → inner' x ≡ inner x
  pub parent_new : parent' v ≡ p
  pub parent_old : (x : ℕ) → x ≢ v → parent' x ≡ parent x
  pub order_inner : order' v ≡ now
  pub order_outer : order' w ≡ now + 1
  pub order_old : (x : ℕ) → x ≢ v → x ≢ w → order' x ≡ order x

-- While the path from y to the root is being turned: x is to be mated with y. What lies at or before y in the order is as it was.
pub record Turning (g : List (List ℕ)) (old mates : List ℕ) (part : ℕ → ℕ) (outer inner : ℕ → Bool) (order : ℕ → ℕ) (v x y : ℕ) : Type 0 where
  pub matching : IsMatchingBut g part mates []
  pub x_living : IsLiving g part x
  pub x_free : get_or mates x 0 ≡ length g
  pub y_outer : outer y ≡ true
  pub touch : Touch g part x y
  pub x_later : (outer x ≡ true) ⊎ (inner x ≡ true) → order y < order x
  pub kept : (z : ℕ) → (outer z ≡ true) ⊎ (inner z ≡ true) → order z ≤ order y → get_or mates z 0 ≡ get_or old z 0
  pub free : (z : ℕ) → z < length g → get_or mates z 0 ≡ length g → (z ≡ x) ⊎ ((z ≢ v) × (get_or old z 0 ≡ length g))

-- the matching with one edge more: v and the root are free no longer
pub record Turned (g : List (List ℕ)) (old mates : List ℕ) (part : ℕ → ℕ) (root v : ℕ) : Type 0 where
  pub matching : IsMatchingBut g part mates []
  pub free : (z : ℕ) → z < length g → get_or mates z 0 ≡ length g → (z ≢ v) × (z ≢ root) × (get_or old z 0 ≡ length g)
