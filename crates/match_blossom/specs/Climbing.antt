-- The way from an outer node up to an outer node behind which it stands in the tree.
use Rattle.std.specs.Prelude.{◌≡◌, ℕ, List, [], ◌∷◌, get_or, Bool, true}

-- the nodes from a up to base, without the base: an outer node, its mate, the part of its parent, and so on
abbrev pub Climb : List ℕ → (ℕ → ℕ) → (ℕ → ℕ) → (ℕ → Bool) → (ℕ → Bool) → (ℕ → ℕ) → ℕ → List ℕ → ℕ → Type 0
Climb mates part parent outer inner order a [] base = a ≡ base
Climb mates part parent outer inner order a (x ∷ []) base = ⊥
Climb mates part parent outer inner order a (x ∷ w ∷ xs) base =
    (x ≡ a) × (w ≡ get_or mates a 0) × (outer a ≡ true) × (inner w ≡ true) × Climb mates part parent outer inner order (part (parent w)) xs base
