-- Places that a map can carry.
use Rattle.std.specs.Prelude.{ℕ, ◌<◌, List, Option, Some, None, Contains, ⊤}
use Rattle.mc_mol.specs.declared.parts.Slot.{Slot}
use Rattle.mc_mol.specs.declared.parts.Slot.TheVariants.{At, Rest}

-- a place whose atom has an entry
abbrev pub HasEntry : ℕ → Slot → Type 0
HasEntry count (At a) = a.0 < count
HasEntry count Rest = ⊤

-- the places of a centre, where it is one
abbrev pub HaveEntries : ℕ → Option (List Slot) → Type 0
HaveEntries count None = ⊤
HaveEntries count (Some places) = (slot : Slot) → Contains places slot → HasEntry count slot
