-- The stack of contracted cycles in arrays.
use Rattle.std.specs.Prelude.{ℕ, ◌<◌, ◌≤◌, List, [], ◌∷◌, length, get_or, drop, take}
use Rattle.match_blossom.specs.Foldings.{Folding}

-- a cycle, its base first
abbrev pub folding_of : List ℕ → Folding
folding_of cycle = record { base = get_or cycle 0 0; others = drop 1 cycle }

-- the cycles, the latest first: their sizes, and their nodes, one cycle behind the other
abbrev pub foldings_of : List ℕ → List ℕ → List Folding
foldings_of [] nodes = []
foldings_of (size ∷ sizes) nodes = folding_of (take size nodes) ∷ foldings_of sizes (drop size nodes)

-- the cycles have nodes, all within the list
abbrev pub Fits : List ℕ → List ℕ → Type 0
Fits [] nodes = Unit {0}
Fits (size ∷ sizes) nodes = (0 < size) × (size ≤ length nodes) × Fits sizes (drop size nodes)
