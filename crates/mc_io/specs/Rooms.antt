-- Room for the bytes of an output.
use Rattle.std.specs.Prelude.{ℕ, ◌-◌, List, length}
use Rattle.mc_io.specs.declared.room.Room.{Room}

-- the bytes that stand there
abbrev pub held_of : Room → List ℕ
held_of r = r.held.items

-- how many bytes more it has room for
abbrev pub room_left_of : Room → ℕ
room_left_of r = r.size - length r.held.items
