-- What a reader keeps of the ring numbers that are open behind the tokens so far.
use Rattle.std.specs.Prelude.{◌≡◌, ◌<◌, ◌≤◌, ℕ, List, Option, Some, None, get_or, nat_lt, if◌then◌else◌}
use Rattle.smi_graph.specs.declared.ring_table.RingEnd.{RingEnd}
use Rattle.smi_graph.specs.declared.ring_table.RingTable.{RingTable}
use Rattle.smi_graph.specs.declared.role.Role.{Role}
use Rattle.smi_graph.specs.Bonds.{open_end}

-- where a ring number is open behind one more of it
abbrev pub turned : Option RingEnd → RingEnd → Option RingEnd
turned None here = Some here
turned (Some other) here = None

-- the lesser of two tokens, where there are any
abbrev pub lesser : Option ℕ → Option RingEnd → Option ℕ
lesser first None = first
lesser None (Some end) = Some end.token
lesser (Some first) (Some end) = Some (if nat_lt end.token first then end.token else first)

-- the first token of the ends of the numbers below this one, or none where there are none
abbrev pub IsFirstEnd : List (Option RingEnd) → ℕ → Option ℕ → Type 0
IsFirstEnd ends below None = (n : ℕ) → n < below → get_or ends n None ≡ None
IsFirstEnd ends below (Some token) =
    ((n : ℕ) × (end : RingEnd) × (get_or ends n None ≡ Some end) × (end.token ≡ token))
    × ((n : ℕ) (end : RingEnd) → n < below → get_or ends n None ≡ Some end → token ≤ end.token)

-- the first token whose ring number stays open behind these tokens, or none where none does
abbrev pub IsFirstOpen : List Role → Option ℕ → Type 0
IsFirstOpen before None = (n : ℕ) → open_end n before ≡ None
IsFirstOpen before (Some token) =
    ((n : ℕ) × (end : RingEnd) × (open_end n before ≡ Some end) × (end.token ≡ token))
    × ((n : ℕ) (end : RingEnd) → open_end n before ≡ Some end → token ≤ end.token)

-- the table has each number that is open behind these tokens
abbrev pub HoldsEnds : RingTable → List Role → Type 0
HoldsEnds table before = (n : ℕ) → get_or table.ends.items n None ≡ open_end n before
