-- Where the edge of a blossom ends, for each node that is or was a base.
use Rattle.std.specs.Prelude.{◌≡◌, ◌≢◌, ◌⊎◌, ℕ, ◌<◌, List, length}
use Rattle.match_blossom.specs.Labels.{at}

-- each of n nodes is the end of its own edge
pub record AreOwn (n : ℕ) (ends below : List ℕ) : Type 0 where
  pub ends_length : length ends ≡ n
  pub below_length : length below ≡ n
  pub own : (c : ℕ) → c < n → at ends c ≡ c

-- A node is its own end, or its end is that of the node below it, which points to it.
abbrev pub IsNoted : List ℕ → List ℕ → List ℕ → ℕ → Type 0
IsNoted point ends below c = (at ends c ≡ c) ⊎ ((at below c < length point) × (at point (at below c) ≡ c) × (at below c ≢ c) × (at ends (at below c) ≡ at ends c))

pub record AreNoted (point ends below : List ℕ) : Type 0 where
  pub ends_length : length ends ≡ length point
  pub below_length : length below ≡ length point
  pub each : (c : ℕ) → c < length point → IsNoted point ends below c

-- While the way up from a node is noted: it has been noted up to x.
pub record AreNotedTo (point ends below : List ℕ) (u x : ℕ) : Type 0 where
  pub ends_length : length ends ≡ length point
  pub below_length : length below ≡ length point
  pub within : x < length point
  pub end : at ends x ≡ u
  pub each : (c : ℕ) → c < length point → (c ≡ x) ⊎ (c ≢ at point x) → IsNoted point ends below c

-- The cycle of a base has been expanded: the node below the base may be its own base by now.
pub record AreNotedBut (point ends below : List ℕ) (base : ℕ) : Type 0 where
  pub ends_length : length ends ≡ length point
  pub below_length : length below ≡ length point
  pub within : base < length point
  pub own : at point base ≡ base
  pub each : (c : ℕ) → c < length point → c ≢ base → IsNoted point ends below c
  pub at_base : (at ends base ≡ base) ⊎ ((at below base < length point) × ((at point (at below base) ≡ base) ⊎ (at point (at below base) ≡ at below base)) × (at below base ≢ base) × (at ends (at below base) ≡ at ends base))
