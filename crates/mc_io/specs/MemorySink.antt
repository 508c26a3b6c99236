-- What a sink in memory tells.
use Rattle.std.specs.Prelude.{ℕ, List, Option, Some, None, min, slice_get}
use Rattle.mc_io.specs.declared.room.Room.{Room}
use Rattle.mc_io.specs.Outside.{Outputs}
use Rattle.mc_io.specs.Rooms.{held_of, room_left_of}
use Rattle.mc_io.specs.declared.memory_sink.MemorySink.{MemorySink}

abbrev pub held_in : Option Room → Option (List ℕ)
held_in None = None
held_in (Some r) = Some (held_of r)

-- what an output holds
abbrev pub held : MemorySink → ℕ → Option (List ℕ)
held s o = held_in (slice_get s.outputs o)

abbrev pub left_in : Option Room → ℕ
left_in None = 0
left_in (Some r) = room_left_of r

-- how many bytes an output has room left for
abbrev pub room_left : MemorySink → ℕ → ℕ
room_left s o = left_in (slice_get s.outputs o)

-- what is told of the outputs
abbrev pub outputs_of : MemorySink → Outputs
outputs_of s = record { held = held s; faults = s.faults }

-- how many bytes a write takes at most
abbrev pub greatest_piece : MemorySink → ℕ
greatest_piece s = s.piece

-- the numbers of the calls that fail
abbrev pub failing_calls : MemorySink → List ℕ
failing_calls s = s.failing.numbers.items

-- how many calls were made
abbrev pub calls_made : MemorySink → ℕ
calls_made s = s.failing.made

-- how many bytes a write takes of a piece of so many: all, but no more than the sink takes at a write and has room for
abbrev pub accepted : MemorySink → ℕ → ℕ → ℕ
accepted s o count = min (min count s.piece) (room_left s o)
