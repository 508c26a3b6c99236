-- How the places of a centre are kept (this project's own).
use Rattle.std.specs.Prelude.{◌<◌, ◌^◌, List, Option, Some, None, map}
use Rattle.mc_mol.specs.declared.centres.ShortSlot.{ShortSlot}
use Rattle.mc_mol.specs.declared.centres.ShortSlot.TheVariants as short
use Rattle.mc_mol.specs.declared.parts.Slot.{Slot}
use Rattle.mc_mol.specs.declared.parts.Slot.TheVariants.{At, Rest}

-- the place that is kept
abbrev pub slot_of : ShortSlot → Slot
slot_of (short.At number) = At (record { 0 = number })
slot_of short.Rest = Rest

abbrev pub slots_of : Option (List ShortSlot) → Option (List Slot)
slots_of None = None
slots_of (Some places) = Some (map slot_of places)

-- the number of an atom has 16 bits
abbrev pub HasSmallNumber : Slot → Type 0
HasSmallNumber (At atom) = atom.0 < 2 ^ 16
HasSmallNumber Rest = Unit {0}
