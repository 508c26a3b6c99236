-- Numbers of steps from an end of a bond, where the bond itself isn't used.
use Rattle.std.specs.Prelude.{◌≡◌, ℕ, suc, ◌<◌, ◌≤◌, true, List, Option, Some, None, slice_get}
use Rattle.mc_mol.specs.declared.parts.Bond.{Bond}
use Rattle.mc_mol.specs.Molecule.{are_joined}
use Rattle.mc_mol.specs.Numbered.{Mark}

-- atom a has a number, of at most this
abbrev pub MarkWithin : List (Option ℕ) → ℕ → ℕ → Type 0
MarkWithin marks a most = (d : ℕ) × (Mark marks a d) × (d ≤ most)

-- a step between joined atoms other than from u to v
pub record Step (bonds : List Bond) (u v x y : ℕ) : Type 0 where
  pub joined : are_joined bonds x y ≡ true
  pub not_barred : x ≡ u → y ≡ v → ⊥

-- from an atom with a number one less there is a step to this one
pub record From (bonds : List Bond) (u v : ℕ) (marks : List (Option ℕ)) (a d : ℕ) : Type 0 where
  pub before : ℕ
  pub marked : Mark marks before d
  pub step : Step bonds u v before a

-- Each number is the least number of steps from u. All atoms nearer than the level are followed; where v has no number all
-- atoms with one are, so that the others can't be reached.
pub record AreDistances (bonds : List Bond) (u v : ℕ) (marks : List (Option ℕ)) : Type 0 where
  pub level : ℕ
  pub start : Mark marks u 0
  pub low : (a d : ℕ) → Mark marks a d → d ≤ level
  pub zero_is : (a : ℕ) → Mark marks a 0 → a ≡ u
  pub down : (a d : ℕ) → Mark marks a (suc d) → From bonds u v marks a d
  pub onward : (x y d : ℕ) → Mark marks x d → d < level → Step bonds u v x y → MarkWithin marks y (suc d)
  pub further : slice_get marks v ≡ Some None → (x y d : ℕ) → Mark marks x d → Step bonds u v x y → MarkWithin marks y (suc d)
