-- The connected parts of a molecule, and its independent rings (this project's own).
use Rattle.std.specs.Prelude.{ℕ, zero, suc, ◌+◌, ◌-◌, Bool, false, not, ◌&&◌, ◌||◌, List, [], ◌∷◌, ◌==◌, length, if◌then◌else◌}
use Rattle.mc_mol.specs.declared.parts.Bond.{Bond}

-- Some path of bonds leads from one atom to the other: one that leaves the first of these bonds out, or one that
-- crosses it.
abbrev pub are_connected : List Bond → ℕ → ℕ → Bool
are_connected [] u v = u == v
are_connected (bond ∷ bonds) u v =
    are_connected bonds u v
    || ((are_connected bonds u bond.first.0 && are_connected bonds bond.second.0 v)
    || (are_connected bonds u bond.second.0 && are_connected bonds bond.first.0 v))

abbrev pub some_below : (ℕ → Bool) → ℕ → Bool
some_below p zero = false
some_below p (suc n) = some_below p n || p n

-- how many numbers below n pass
abbrev pub count_below : (ℕ → Bool) → ℕ → ℕ
count_below p zero = 0
count_below p (suc n) = count_below p n + (if p n then 1 else 0)

-- the first atom of a connected part: no earlier atom is connected to it
abbrev pub begins_part : List Bond → ℕ → Bool
begins_part bonds u = not (some_below (λ v. are_connected bonds v u) u)

-- how many connected parts so many atoms have
abbrev pub part_count : List Bond → ℕ → ℕ
part_count bonds atoms = count_below (begins_part bonds) atoms

-- bonds less atoms plus connected parts
abbrev pub independent_rings : List Bond → ℕ → ℕ
independent_rings bonds atoms = (length bonds + part_count bonds atoms) - atoms
