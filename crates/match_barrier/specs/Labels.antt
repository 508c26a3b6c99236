-- Labels while the parts are being named, and the stack of the flood that lowers them.
use Rattle.std.specs.Prelude.{◌≡◌, ◌⊎◌, ℕ, ◌+◌, ◌<◌, ◌≤◌, ◌==◌, nat_lt, List, length, get_or, Bool, true, ◌&&◌}
use Rattle.match_barrier.specs.Graph.{adjacent, has}
use Rattle.match_barrier.specs.Barrier.{IsLeft, Joined, count, is_odd}

-- A node that is taken away has the number of nodes as its label, any other a node that it is joined to and that is no greater.
pub record Labels (g : List (List ℕ)) (set : List ℕ) (labels : List ℕ) : Type 0 where
  pub each_node : length labels ≡ length g
  pub taken : (v : ℕ) → v < length g → has set v ≡ true → get_or labels v 0 ≡ length g
  pub joined : (v : ℕ) → IsLeft g set v → Joined g set v (get_or labels v 0)
  pub below : (v : ℕ) → IsLeft g set v → get_or labels v 0 ≤ v

-- no neighbour of v that is left has a greater label
abbrev pub IsSettled : List (List ℕ) → List ℕ → ℕ → Type 0
IsSettled g labels v = (w : ℕ) → adjacent g v w ≡ true → get_or labels w 0 < length g → get_or labels w 0 ≤ get_or labels v 0

-- v stands on the stack of this height
abbrev pub IsWaiting : List ℕ → ℕ → ℕ → Type 0
IsWaiting stack height v = (k : ℕ) × (k < height) × (get_or stack k 0 ≡ v)

-- how many labels are greater than root
abbrev pub count_above : ℕ → List ℕ → ℕ → ℕ
count_above n labels root = count n (λ v. nat_lt root (get_or labels v 0))

-- the label of v has become root, and was greater
abbrev pub IsLowered : ℕ → ℕ → List ℕ → List ℕ → ℕ → Type 0
IsLowered n root old new v = (get_or new v 0 ≡ root) × (root < get_or old v 0) × (get_or old v 0 < n)

-- Some labels were lowered to root, and their nodes pushed to the stack; all else is as it was.
pub record Lowers (g : List (List ℕ)) (root : ℕ) (old new stack pushed : List ℕ) (height top : ℕ) : Type 0 where
  pub each_node : length new ≡ length g
  pub stack_length : length pushed ≡ length g
  pub labels : (set : List ℕ) → Labels g set old → Labels g set new
  pub balance : top + count_above (length g) new root ≡ height + count_above (length g) old root
  pub lowered : (u : ℕ) → u < length g → (get_or new u 0 ≡ get_or old u 0) ⊎ (IsLowered (length g) root old new u × IsWaiting pushed top u)
  pub kept : (k : ℕ) → k < height → get_or pushed k 0 ≡ get_or stack k 0
  pub higher : height ≤ top
  pub waiting : (k : ℕ) → height ≤ k → k < top → (get_or pushed k 0 < length g) × (get_or new (get_or pushed k 0) 0 ≡ root)

-- The part of root is being filled: each node with its label waits on the stack, or is settled.
pub record Filling (g : List (List ℕ)) (root : ℕ) (old new stack : List ℕ) (height : ℕ) : Type 0 where
  pub each_node : length new ≡ length g
  pub stack_length : length stack ≡ length g
  pub labels : (set : List ℕ) → Labels g set old → Labels g set new
  pub room : height + count_above (length g) new root ≤ length g
  pub lowered : (u : ℕ) → u < length g → (get_or new u 0 ≡ get_or old u 0) ⊎ IsLowered (length g) root old new u
  pub waiting : (k : ℕ) → k < height → (get_or stack k 0 < length g) × (get_or new (get_or stack k 0) 0 ≡ root)
  pub settled : (v : ℕ) → v < length g → get_or new v 0 ≡ root → IsWaiting stack height v ⊎ IsSettled g new v

-- The parts with names below root are filled, any other node that is left is its own label.
pub record Flooded (g : List (List ℕ)) (labels : List ℕ) (root : ℕ) : Type 0 where
  pub each_node : length labels ≡ length g
  pub own : (v : ℕ) → v < length g → root ≤ get_or labels v 0 → get_or labels v 0 < length g → get_or labels v 0 ≡ v
  pub settled : (v : ℕ) → v < length g → get_or labels v 0 < root → IsSettled g labels v

abbrev pub size_of_label : List ℕ → ℕ → ℕ → ℕ
size_of_label labels n r = count n (λ v. get_or labels v 0 == r)

-- r is its own label, and that of an odd number of nodes
abbrev pub is_odd_label : List ℕ → ℕ → Bool
is_odd_label labels r = (get_or labels r 0 == r) && is_odd (size_of_label labels (length labels) r)
