-- What holds in the middle of a level of a search from u that doesn't step from u to v.
use Rattle.std.specs.Prelude.{◌≡◌, ℕ, suc, ◌+◌, ◌<◌, ◌≤◌, ◌⊎◌, ◌++◌, List, [], ◌∷◌, Option, Some, None, length, slice_get, slice_set}
use Rattle.mc_base.specs.declared.ids.AtomId.{AtomId}
use Rattle.mc_mol.specs.declared.parts.Bond.{Bond}
use Rattle.mc_mol.specs.Numbered.{Mark, Holds}
use Rattle.mc_rings.specs.Distances.{MarkWithin, Step, From}

-- The current atoms are those of the level. Every atom nearer than the level has numbered its neighbours, and the next
-- atoms are those that the current ones have numbered so far.
pub record Between (bonds : List Bond) (u v atoms level : ℕ) (current : List AtomId) (marks : List (Option ℕ)) (next : List AtomId) : Type 0 where
  pub count : length marks ≡ atoms
  pub start : Mark marks u 0
  pub low : (a d : ℕ) → Mark marks a d → d ≤ suc level
  pub zero_is : (a : ℕ) → Mark marks a 0 → a ≡ u
  pub down : (a d : ℕ) → Mark marks a (suc d) → From bonds u v marks a d
  pub onward : (x y d : ℕ) → Mark marks x d → d < level → Step bonds u v x y → MarkWithin marks y (suc d)
  pub here : (a : ℕ) → Mark marks a level → Holds current a
  pub now : (a : ℕ) → Holds current a → Mark marks a level
  pub behind : (a : ℕ) → Mark marks a (suc level) → Holds next a
  pub ahead : (a : ℕ) → Holds next a → Mark marks a (suc level)

-- an atom has numbered its neighbours
abbrev pub Explored : List Bond → ℕ → ℕ → ℕ → List (Option ℕ) → ℕ → Type 0
Explored bonds u v level marks x = (y : ℕ) → Step bonds u v x y → MarkWithin marks y (suc level)

-- an atom that had a number keeps it, and one that had none gets this one and is noted
abbrev pub Reaches : List (Option ℕ) → List AtomId → List (Option ℕ) → List AtomId → AtomId → ℕ → Type 0
Reaches marks next new more atom number =
    (((d : ℕ) × (Mark marks atom.0 d)) × (new ≡ marks) × (more ≡ next))
    ⊎ ((slice_get marks atom.0 ≡ Some None) × (new ≡ slice_set marks atom.0 (Some number)) × (more ≡ next ++ atom ∷ []))

-- the level is explored: what holds of its middle still holds, and each of its atoms has numbered its neighbours
pub record LevelDone (bonds : List Bond) (u v atoms level : ℕ) (current : List AtomId) (marks : List (Option ℕ)) (next : List AtomId) : Type 0 where
  pub between : Between bonds u v atoms level current marks next
  pub explored : (x : ℕ) → Mark marks x level → Explored bonds u v level marks x

-- the same with one atom explored
pub record AtomDone (bonds : List Bond) (u v atoms level : ℕ) (current : List AtomId) (x : ℕ) (marks : List (Option ℕ)) (next : List AtomId) : Type 0 where
  pub between : Between bonds u v atoms level current marks next
  pub explored : Explored bonds u v level marks x
