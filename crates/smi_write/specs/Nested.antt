-- Nested parents: what makes branches of a written order (this project's own).
use Rattle.std.specs.Prelude.{◌+◌, ◌≤◌, ◌<◌, ◌⊎◌, ℕ, List, length, get_or}

-- The parents of the atoms from number k on: each is the rank of an earlier atom, from 1, or 0. No later atom's parent
-- lies strictly between an atom's parent and the atom.
pub record IsNested (k : ℕ) (parents : List ℕ) : Type 0 where
  pub earlier : (i : ℕ) → i < length parents → get_or parents i 0 < k + i
  pub nested : (i j : ℕ) → i ≤ j → j < length parents → (get_or parents j 0 ≤ get_or parents i 0) ⊎ (k + i ≤ get_or parents j 0)
