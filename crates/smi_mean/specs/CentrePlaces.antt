-- The places of a centre: OpenSMILES 1.0, section 3.9.2 (tetrahedral centres). That a centre with three neighbours and no
-- hydrogen has a further place, where the hydrogen would stand, is this project's own.
use Rattle.std.specs.Option.{option_to_list}
use Rattle.std.specs.Prelude.{◌≡◌, ◌≤◌, ◌⊎◌, ℕ, ◌+◌, Bool, true, false, ◌||◌, List, [], ◌∷◌, ◌++◌, Option, Some, None, ◌==◌, nat_lt, length, map, reverse}
use Rattle.mc_mol.specs.declared.parts.Slot.{Slot}
use Rattle.mc_mol.specs.declared.parts.Slot.TheVariants.{At, Rest}
use Rattle.smi_graph.specs.declared.role.Role.{Role}
use Rattle.smi_graph.specs.TextOrder.{predecessor_of, ring_partners, followers}

abbrev pub atom_slot : ℕ → Slot
atom_slot v = At (record { 0 = v })

abbrev pub rest_if : Bool → List Slot
rest_if true = Rest ∷ []
rest_if false = []

-- with so many hydrogens and neighbours one place is the rest
abbrev pub has_rest : ℕ → ℕ → Bool
has_rest hydrogens neighbours = nat_lt 0 hydrogens || neighbours == 3

-- the predecessor; the rest, where there is a hydrogen, or three neighbours and none; and the other neighbours
abbrev pub place_list : Option ℕ → List ℕ → ℕ → List Slot
place_list before others hydrogens =
    map atom_slot (option_to_list before)
    ++ (rest_if (has_rest hydrogens (length (option_to_list before) + length others)) ++ map atom_slot others)

-- the places of atom a of a text, which has so many hydrogens
abbrev pub places : List Role → ℕ → ℕ → List Slot
places ks a hydrogens = place_list (predecessor_of a (reverse ks)) (ring_partners a [] ks ++ followers a (reverse ks)) hydrogens

-- the same by the list of neighbours, of which the first is the predecessor or there is none
abbrev pub places_by : Bool → List ℕ → ℕ → List Slot
places_by true [] hydrogens = place_list None [] hydrogens
places_by true (x ∷ xs) hydrogens = place_list (Some x) xs hydrogens
places_by false xs hydrogens = place_list None xs hydrogens

-- four neighbours and no hydrogen, or three and at most one: then there are four places
abbrev pub Fits : ℕ → ℕ → Type 0
Fits neighbours hydrogens = ((neighbours ≡ 4) × (hydrogens ≡ 0)) ⊎ ((neighbours ≡ 3) × (hydrogens ≤ 1))

-- the last two exchanged
abbrev pub exchanged : List Slot → List Slot
exchanged [] = []
exchanged (x ∷ []) = x ∷ []
exchanged (x ∷ y ∷ []) = y ∷ x ∷ []
exchanged (x ∷ y ∷ z ∷ zs) = x ∷ exchanged (y ∷ z ∷ zs)

-- `@` takes a list of places as it stands, and `@@` exchanges its last two
abbrev pub said : Bool → List Slot → List Slot
said true list = list
said false list = exchanged list

-- the list of a centre, where the atom has a mark
abbrev pub centre_of : Option Bool → List Slot → Option (List Slot)
centre_of None list = None
centre_of (Some mark) list = Some (said mark list)
