-- A graph: for each node the list of its neighbours. The nodes are the numbers below the length.
use Rattle.std.specs.Prelude.{◌≡◌, ◌⊎◌, ℕ, ◌<◌, ◌==◌, List, [], ◌∷◌, ◌++◌, length, get_or, set, Bool, true, false}
use Rattle.std.specs.List.{list_any}

-- whether a list has the number x
abbrev pub has : List ℕ → ℕ → Bool
has xs x = list_any (λ y. y == x) xs

abbrev pub neighbours_of : List (List ℕ) → ℕ → List ℕ
neighbours_of g u = get_or g u []

abbrev pub adjacent : List (List ℕ) → ℕ → ℕ → Bool
adjacent g u v = has (neighbours_of g u) v

-- no number twice
abbrev pub NoRepeats : List ℕ → Type 0
NoRepeats [] = Unit {0}
NoRepeats (x ∷ xs) = (has xs x ≡ false) × NoRepeats xs

pub record IsGraph (g : List (List ℕ)) : Type 0 where
  pub in_range : (u v : ℕ) → adjacent g u v ≡ true → v < length g
  pub symmetric : (u v : ℕ) → adjacent g u v ≡ adjacent g v u
  pub loop_free : (u : ℕ) → adjacent g u u ≡ false
  pub no_repeats : (u : ℕ) → NoRepeats (neighbours_of g u)

-- a and b are the two nodes u and v
abbrev pub IsEdge : ℕ → ℕ → ℕ → ℕ → Type 0
IsEdge u v a b = (a ≡ u) × (b ≡ v) ⊎ (a ≡ v) × (b ≡ u)

-- g with the edge between u and v
abbrev pub with_edge : List (List ℕ) → ℕ → ℕ → List (List ℕ)
with_edge g u v = let h : List (List ℕ) = set g u (neighbours_of g u ++ v ∷ []) in set h v (neighbours_of h v ++ u ∷ [])
