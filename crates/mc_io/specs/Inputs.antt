-- Inputs in memory.
use Rattle.std.specs.Prelude.{ℕ, false, List, [], Option, Some, None, drop, Vec, get_or, slice_get}
use Rattle.std.specs.declared.alloc.Global.{Global}
use Rattle.mc_io.specs.declared.taking.Taking.{Taking}

abbrev pub items_of : Option (Vec ℕ Global) → List ℕ
items_of None = []
items_of (Some v) = v.items

-- the bytes of an input; an input past the list has none
abbrev pub bytes_at : List (Vec ℕ Global) → ℕ → List ℕ
bytes_at contents i = items_of (slice_get contents i)

-- how an input is before its first read
abbrev pub untaken : Taking
untaken = record { at = 0; taken = 0; ended = false }

-- how far an input has been taken
abbrev pub taking_at : List Taking → ℕ → Taking
taking_at takings i = get_or takings i untaken

-- what is left of an input
abbrev pub left_at : List (Vec ℕ Global) → List Taking → ℕ → List ℕ
left_at contents takings i = drop (taking_at takings i).at (bytes_at contents i)
