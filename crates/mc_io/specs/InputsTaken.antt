-- What inputs in memory tell.
use Rattle.std.specs.Prelude.{ℕ, Bool, List, Some, length, min}
use Rattle.mc_io.specs.declared.inputs.Inputs.{Inputs}
use Rattle.mc_io.specs.Inputs.{left_at, taking_at}
use Rattle.mc_io.specs.Outside.{Input}

-- what is left of an input
abbrev pub left_of : Inputs → ℕ → List ℕ
left_of inputs i = left_at inputs.contents.items inputs.takings i

-- how many bytes of an input have been taken
abbrev pub taken_of : Inputs → ℕ → ℕ
taken_of inputs i = (taking_at inputs.takings i).taken

-- whether the last read of an input gave its end
abbrev pub ended_of : Inputs → ℕ → Bool
ended_of inputs i = (taking_at inputs.takings i).ended

-- what is told of an input of which so many reads have failed
abbrev pub told_of : Inputs → ℕ → ℕ → Input
told_of inputs faults i = record { left = Some (left_of inputs i); faults = faults; taken = taken_of inputs i; ended = ended_of inputs i }

-- how many bytes a read gives at most
abbrev pub piece_of : Inputs → ℕ
piece_of inputs = inputs.piece

-- how many bytes a read gives that has room for so many: all that are left, but no more than the room and the piece
abbrev pub given_of : Inputs → ℕ → ℕ → ℕ
given_of inputs i room = min (min (length (left_of inputs i)) room) (piece_of inputs)
