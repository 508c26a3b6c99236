-- The order in which the neighbours of an atom stand in a text: OpenSMILES 1.0, section 3.9.2 (tetrahedral centres).
-- `before` is always the list of the tokens before a place, the latest first; `ks` are the tokens from there on.
use Rattle.std.specs.Option.{option_to_list}
use Rattle.std.specs.Prelude.{ℕ, suc, ◌-◌, Bool, true, false, List, [], ◌∷◌, ◌++◌, Option, Some, None, ◌==◌, reverse, is_some, if◌then◌else◌}
use Rattle.smi_graph.specs.declared.ring_table.RingEnd.{RingEnd}
use Rattle.smi_graph.specs.declared.role.Role.{Role}
use Rattle.smi_graph.specs.declared.role.Role.TheVariants.{Atom, Bond, Ring, Enter, Leave, Dot}
use Rattle.smi_graph.specs.Bonds.{atom_count, predecessor, open_end}

-- the predecessor of atom a
abbrev pub predecessor_of : ℕ → List Role → Option ℕ
predecessor_of a [] = None
predecessor_of a (Atom lower ∷ before) = if atom_count before == a then predecessor before else predecessor_of a before
predecessor_of a (Bond mark ∷ before) = predecessor_of a before
predecessor_of a (Ring number ∷ before) = predecessor_of a before
predecessor_of a (Enter ∷ before) = predecessor_of a before
predecessor_of a (Leave ∷ before) = predecessor_of a before
predecessor_of a (Dot ∷ before) = predecessor_of a before

-- atom v, where its predecessor is atom a
abbrev pub if_behind : ℕ → Option ℕ → ℕ → List ℕ
if_behind a None v = []
if_behind a (Some p) v = if p == a then v ∷ [] else []

-- the atoms whose predecessor is atom a, in the order of the text: its branches and the next atom
abbrev pub followers : ℕ → List Role → List ℕ
followers a [] = []
followers a (Atom lower ∷ before) = followers a before ++ if_behind a (predecessor before) (atom_count before)
followers a (Bond mark ∷ before) = followers a before
followers a (Ring number ∷ before) = followers a before
followers a (Enter ∷ before) = followers a before
followers a (Leave ∷ before) = followers a before
followers a (Dot ∷ before) = followers a before

-- the atom beside which a ring number stands next, behind so many atoms
abbrev pub next_end : ℕ → ℕ → List Role → Option ℕ
next_end n atoms [] = None
next_end n atoms (Ring number ∷ ks) = if number == n then Some (atoms - 1) else next_end n atoms ks
next_end n atoms (Atom lower ∷ ks) = next_end n (suc atoms) ks
next_end n atoms (Bond mark ∷ ks) = next_end n atoms ks
next_end n atoms (Enter ∷ ks) = next_end n atoms ks
next_end n atoms (Leave ∷ ks) = next_end n atoms ks
next_end n atoms (Dot ∷ ks) = next_end n atoms ks

-- The partner of a ring number: a closing number has the one that is open, and an opening number the next equal one.
abbrev pub partner : Option RingEnd → Option ℕ → Option ℕ
partner (Some end) next = Some end.atom
partner None next = next

abbrev pub list_if : Bool → Option ℕ → List ℕ
list_if true o = option_to_list o
list_if false o = []

-- the ring partners of atom a by the tokens from a place on, in the order in which their numbers stand at the atom
abbrev pub ring_partners : ℕ → List Role → List Role → List ℕ
ring_partners a before [] = []
ring_partners a before (Ring number ∷ ks) =
    list_if (atom_count before - 1 == a) (partner (open_end number before) (next_end number (atom_count before) ks)) ++ ring_partners a (Ring number ∷ before) ks
ring_partners a before (Atom lower ∷ ks) = ring_partners a (Atom lower ∷ before) ks
ring_partners a before (Bond mark ∷ ks) = ring_partners a (Bond mark ∷ before) ks
ring_partners a before (Enter ∷ ks) = ring_partners a (Enter ∷ before) ks
ring_partners a before (Leave ∷ ks) = ring_partners a (Leave ∷ before) ks
ring_partners a before (Dot ∷ ks) = ring_partners a (Dot ∷ before) ks

-- the neighbours of atom a of a text: its predecessor, its ring partners, and its branches and the next atom
abbrev pub neighbours : ℕ → List Role → List ℕ
neighbours a ks = option_to_list (predecessor_of a (reverse ks)) ++ (ring_partners a [] ks ++ followers a (reverse ks))

-- whether the first of them is its predecessor
abbrev pub has_predecessor : ℕ → List Role → Bool
has_predecessor a ks = is_some (predecessor_of a (reverse ks))
