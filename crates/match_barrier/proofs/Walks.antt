-- Walks that avoid a set, and the names of parts.
use Rattle.std.proofs.Common.{◌≡◌, ℕ, ◌≤◌, List, [], ◌∷◌, ◌++◌, true, refl, ap, sym, ◌∙◌, arith, subst}
use Rattle.match_barrier.specs.Graph.{adjacent, IsGraph}
use Rattle.match_barrier.specs.Barrier.{IsLeft, Walk, Joined, NamesParts}

pub joined_self : (g : List (List ℕ)) (s : List ℕ) (u : ℕ) → Joined g s u u
joined_self g s u = ([], refl)

pub walk_append : (g : List (List ℕ)) (s : List ℕ) (u : ℕ) (ws : List ℕ) (v : ℕ) (xs : List ℕ) (w : ℕ) → Walk g s u ws v → Walk g s v xs w → Walk g s u (ws ++ xs) w
walk_append g s u [] v xs w first second = subst (λ (x : ℕ). Walk g s x xs w) (sym first) second
walk_append g s u (x ∷ ws) v xs w first second = (first.0, first.1, walk_append g s x ws v xs w first.2 second)

pub joined_trans : (g : List (List ℕ)) (s : List ℕ) (u v w : ℕ) → Joined g s u v → Joined g s v w → Joined g s u w
joined_trans g s u v w first second = (first.0 ++ second.0, walk_append g s u first.0 v second.0 w first.1 second.1)

pub joined_step : (g : List (List ℕ)) (s : List ℕ) (u v : ℕ) → adjacent g u v ≡ true → IsLeft g s v → Joined g s u v
joined_step g s u v edge left = (v ∷ [], (edge, left, refl))

pub joined_sym : (g : List (List ℕ)) (s : List ℕ) → IsGraph g → (u : ℕ) (ws : List ℕ) (v : ℕ) → IsLeft g s u → Walk g s u ws v → Joined g s v u
joined_sym g s is u [] v left walk = ([], sym walk)
joined_sym g s is u (w ∷ ws) v left walk =
    joined_trans g s v w u (joined_sym g s is w ws v walk.1 walk.2) (joined_step g s w u (is.symmetric w u ∙ walk.0) left)

pub walk_left : (g : List (List ℕ)) (s : List ℕ) (u : ℕ) (ws : List ℕ) (v : ℕ) → IsLeft g s u → Walk g s u ws v → IsLeft g s v
walk_left g s u [] v left walk = subst (λ (x : ℕ). IsLeft g s x) walk left
walk_left g s u (w ∷ ws) v left walk = walk_left g s w ws v walk.1 walk.2

antisym : (a b : ℕ) → a ≤ b → b ≤ a → a ≡ b
antisym a b h k = omega arith

-- Nodes that are joined have one name.
pub same_name : (g : List (List ℕ)) (s : List ℕ) (name : ℕ → ℕ) → IsGraph g → NamesParts g s name → (u v : ℕ) → IsLeft g s u → Joined g s u v → name u ≡ name v
same_name g s name is names u v left joined =
    let left' : IsLeft g s v = walk_left g s u joined.0 v left joined.1 in
    let back : Joined g s v u = joined_sym g s is u joined.0 v left joined.1 in
    antisym (name u) (name v)
    (names.least u (name v) left (joined_trans g s u v (name v) joined (names.joined v left')))
    (names.least v (name u) left' (joined_trans g s v u (name u) back (names.joined u left)))

-- A name is a node that is left, and its own name.
pub name_left : (g : List (List ℕ)) (s : List ℕ) (name : ℕ → ℕ) → NamesParts g s name → (v : ℕ) → IsLeft g s v → IsLeft g s (name v)
name_left g s name names v left = let j = names.joined v left in walk_left g s v j.0 (name v) left j.1

pub name_name : (g : List (List ℕ)) (s : List ℕ) (name : ℕ → ℕ) → IsGraph g → NamesParts g s name → (v : ℕ) → IsLeft g s v → name (name v) ≡ name v
name_name g s name is names v left = sym (same_name g s name is names v (name v) left (names.joined v left))

-- There is one naming.
pub one_naming : (g : List (List ℕ)) (s : List ℕ) (name other : ℕ → ℕ) → NamesParts g s name → NamesParts g s other → (v : ℕ) → IsLeft g s v → name v ≡ other v
one_naming g s name other names others v left =
    antisym (name v) (other v) (names.least v (other v) left (others.joined v left)) (others.least v (name v) left (names.joined v left))

-- A label that is equal along each edge is equal along each walk.
pub label_along : (g : List (List ℕ)) (s : List ℕ) (label : ℕ → ℕ) → ((u v : ℕ) → IsLeft g s u → IsLeft g s v → adjacent g u v ≡ true → label u ≡ label v) → (u : ℕ) (ws : List ℕ) (v : ℕ) → IsLeft g s u → Walk g s u ws v → label u ≡ label v
label_along g s label edge u [] v left walk = ap label walk
label_along g s label edge u (w ∷ ws) v left walk = edge u w left walk.1 walk.0 ∙ label_along g s label edge w ws v walk.1 walk.2

-- A label that joins each node to a node no greater, and is equal along each edge, names the parts.
pub names_of_labels : (g : List (List ℕ)) (s : List ℕ) (label : ℕ → ℕ)
    → ((v : ℕ) → IsLeft g s v → Joined g s v (label v)) → ((v : ℕ) → IsLeft g s v → label v ≤ v)
    → ((u v : ℕ) → IsLeft g s u → IsLeft g s v → adjacent g u v ≡ true → label u ≡ label v)
    → NamesParts g s label
names_of_labels g s label joined below edge = record {
  joined = joined;
  least = λ v w left walk.
      let e : label v ≡ label w = label_along g s label edge v walk.0 w left walk.1 in
      let b : label w ≤ w = below w (walk_left g s v walk.0 w left walk.1) in omega arith;
}
