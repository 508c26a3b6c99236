-- Pointers that lead to the base of a node's blossom.
use Rattle.std.specs.Prelude.{◌≡◌, ◌≢◌, ℕ, ◌<◌, cond, List, [], ◌∷◌, length, true}
use Rattle.match_barrier.specs.Graph.{has}
use Rattle.match_blossom.specs.Labels.{at}
use Rattle.match_blossom.specs.Foldings.{Folding}

-- Each pointer leads to a node that is earlier in the order, or to the node itself.
pub record Falls (base order : List ℕ) : Type 0 where
  pub below : (u : ℕ) → u < length base → at base u < length base
  pub lower : (u : ℕ) → u < length base → at base u ≢ u → at order (at base u) < at order u

-- A pointer of a node below n stays in the class, and the base of a class alone points to itself.
pub record PointsTo (n : ℕ) (point part : ℕ → ℕ) : Type 0 where
  pub same : (u : ℕ) → u < n → part (point u) ≡ part u
  pub own : (u : ℕ) → u < n → point u ≡ u → part u ≡ u
  pub living : (u : ℕ) → u < n → part u ≡ u → point u ≡ u

abbrev pub Points : List ℕ → (ℕ → ℕ) → Type 0
Points base part = PointsTo (length base) (at base) part

-- the pointers in which each of the others points to itself
abbrev pub release : List ℕ → (ℕ → ℕ) → ℕ → ℕ
release others point u = cond (has others u) u (point u)

-- The others of each folding point to its base, once those of the later ones have been released.
abbrev pub Leads : ℕ → (ℕ → ℕ) → List Folding → Type 0
Leads n point [] = (u : ℕ) → u < n → point u ≡ u
Leads n point (f ∷ earlier) = ((u : ℕ) → u < n → has f.others u ≡ true → point u ≡ f.base) × Leads n (release f.others point) earlier
