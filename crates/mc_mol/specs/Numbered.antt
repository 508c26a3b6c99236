-- Atoms that have a number, in a list with one entry for each atom (this project's own).
use Rattle.std.specs.Prelude.{◌≡◌, ℕ, ◌+◌, List, [], ◌∷◌, Option, Some, None, slice_get}
use Rattle.mc_base.specs.declared.ids.AtomId.{AtomId}

-- atom a has the number d
abbrev pub Mark : List (Option ℕ) → ℕ → ℕ → Type 0
Mark marks a d = slice_get marks a ≡ Some (Some d)

-- the atom is in the list
abbrev pub Holds : List AtomId → ℕ → Type 0
Holds atoms a = (i : ℕ) × (slice_get atoms i ≡ Some (record { 0 = a }))

-- how many atoms have no number yet
abbrev pub unmarked : List (Option ℕ) → ℕ
unmarked [] = 0
unmarked (None ∷ marks) = unmarked marks + 1
unmarked (Some d ∷ marks) = unmarked marks

-- numbers that are given stay
abbrev pub Keeps : List (Option ℕ) → List (Option ℕ) → Type 0
Keeps old new = (a d : ℕ) → Mark old a d → Mark new a d
