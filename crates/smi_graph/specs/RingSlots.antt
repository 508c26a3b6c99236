-- What a reader keeps of the neighbours of an atom in one pass: a ring number that opens gets a slot, and the one that closes
-- it fills the slot.
use Rattle.std.specs.Option.{option_to_list}
use Rattle.std.specs.Prelude.{◌≡◌, ◌<◌, length, ℕ, ◌+◌, ◌-◌, ◌⊎◌, Bool, true, false, List, [], ◌∷◌, ◌++◌, Option, Some, None, ◌==◌, map, get_or, is_some, slice_get, slice_index_or, slice_set, Vec, if◌then◌else◌}
use Rattle.std.proofs.Common.{inl, inr}
use Rattle.std.specs.declared.alloc.Global.{Global}
use Rattle.smallvec.specs.SmallVec.{SmallVec}
use Rattle.mc_base.specs.declared.ids.AtomId.{AtomId}
use Rattle.smi_graph.specs.declared.atom_lists.AtomLists.{AtomLists}
use Rattle.smi_graph.specs.declared.ring_table.RingEnd.{RingEnd}
use Rattle.smi_graph.specs.declared.role.Role.{Role}
use Rattle.smi_graph.specs.declared.role.Role.TheVariants.{Atom, Bond, Ring, Enter, Leave, Dot}
use Rattle.smi_graph.specs.declared.text_bond.TextBond.{TextBond}
use Rattle.smi_graph.specs.Bonds.{atom_count, predecessor, open_end}
use Rattle.smi_graph.specs.TextOrder.{predecessor_of, if_behind, list_if, next_end}

-- the partner's atom on the left; on the right an open number, whose partner isn't read yet
abbrev pub RingSlot : Type 0
RingSlot = ℕ ⊎ ℕ

-- an open number's slot gets the atom beside which the number closes
abbrev pub fill_one : ℕ → ℕ → RingSlot → RingSlot
fill_one n v (inl u) = inl u
fill_one n v (inr m) = if m == n then inl v else inr m

abbrev pub filled : ℕ → ℕ → List RingSlot → List RingSlot
filled n v [] = []
filled n v (s ∷ ss) = fill_one n v s ∷ filled n v ss

abbrev pub slot_if : Bool → RingSlot → List RingSlot
slot_if true s = s ∷ []
slot_if false s = []

-- One more ring number at atom `here`: a closing one fills the slot that was kept for its partner, and has a slot of its
-- own; an opening one has an open slot.
abbrev pub turn_slots : Option RingEnd → ℕ → ℕ → ℕ → List RingSlot → List RingSlot
turn_slots None n here a ss = ss ++ slot_if (here == a) (inr n)
turn_slots (Some end) n here a ss = filled n here ss ++ slot_if (here == a) (inl end.atom)

-- the slots of atom a behind these tokens, the latest first
abbrev pub slots : ℕ → List Role → List RingSlot
slots a [] = []
slots a (Ring number ∷ before) = turn_slots (open_end number before) number (atom_count before - 1) a (slots a before)
slots a (Atom lower ∷ before) = slots a before
slots a (Bond mark ∷ before) = slots a before
slots a (Enter ∷ before) = slots a before
slots a (Leave ∷ before) = slots a before
slots a (Dot ∷ before) = slots a before

-- the partner that a slot gets by the tokens to come, behind so many atoms
abbrev pub slot_atom : ℕ → List Role → RingSlot → List ℕ
slot_atom atoms ks (inl u) = u ∷ []
slot_atom atoms ks (inr n) = option_to_list (next_end n atoms ks)

abbrev pub slot_atoms : ℕ → List Role → List RingSlot → List ℕ
slot_atoms atoms ks [] = []
slot_atoms atoms ks (s ∷ ss) = slot_atom atoms ks s ++ slot_atoms atoms ks ss

abbrev pub known : List ℕ → List RingSlot
known [] = []
known (u ∷ us) = inl u ∷ known us

-- The one list that a reader may keep of an atom, as the tokens come: its predecessor, the slots of its ring numbers, and
-- the atoms whose predecessor it is.
abbrev pub entries : ℕ → List Role → List RingSlot
entries a [] = []
entries a (Atom lower ∷ before) =
    entries a before ++ known (list_if (atom_count before == a) (predecessor before) ++ if_behind a (predecessor before) (atom_count before))
entries a (Ring number ∷ before) = turn_slots (open_end number before) number (atom_count before - 1) a (entries a before)
entries a (Bond mark ∷ before) = entries a before
entries a (Enter ∷ before) = entries a before
entries a (Leave ∷ before) = entries a before
entries a (Dot ∷ before) = entries a before

-- where a ring number that stood last has its slot in the list of its atom
abbrev pub latest_slot : ℕ → List Role → ℕ
latest_slot n [] = 0
latest_slot n (Ring number ∷ before) = if number == n then length (entries (atom_count before - 1) before) else latest_slot n before
latest_slot n (Atom lower ∷ before) = latest_slot n before
latest_slot n (Bond mark ∷ before) = latest_slot n before
latest_slot n (Enter ∷ before) = latest_slot n before
latest_slot n (Leave ∷ before) = latest_slot n before
latest_slot n (Dot ∷ before) = latest_slot n before

-- What is held of them

abbrev pub atom_id : ℕ → AtomId
atom_id a = record { 0 = a }

-- a slot that waits for its partner holds atom 0
abbrev pub raw : RingSlot → AtomId
raw (inl u) = atom_id u
raw (inr n) = atom_id 0

-- the lists of the atoms behind these tokens, the latest first, and the one of the next atom
abbrev pub HoldsLists : List (SmallVec AtomId) → List Role → Type 0
HoldsLists lists before = (a : ℕ) (d : SmallVec AtomId) → a < length lists → (slice_index_or lists a d).items ≡ map raw (entries a before)

abbrev pub lists_in : List (SmallVec AtomId) → List (List AtomId)
lists_in lists = map (λ (list : SmallVec AtomId). list.items) lists

-- a list for each atom behind these tokens
pub record AreEntries (before : List Role) (lists : List (List AtomId)) : Type 0 where
  pub count : length lists ≡ atom_count before
  pub each : (a : ℕ) → a < atom_count before → slice_get lists a ≡ Some (map raw (entries a before))

pub record HoldsNeighbours (held : AtomLists) (before : List Role) : Type 0 where
  pub count : length held.lists.items ≡ atom_count before + 1
  pub lists : HoldsLists held.lists.items before
  pub led_count : length held.led.items ≡ atom_count before
  pub led : (a : ℕ) → a < atom_count before → get_or held.led.items a false ≡ is_some (predecessor_of a before)
  pub slots : (n : ℕ) → get_or held.slots.items n 0 ≡ latest_slot n before

-- An element is added at one place of these lists, or set in one of them.

abbrev pub ids_if : Bool → AtomId → List AtomId
ids_if true u = u ∷ []
ids_if false u = []

abbrev pub IsPushed : ℕ → AtomId → List (SmallVec AtomId) → List (SmallVec AtomId) → Type 0
IsPushed a u old new = (k : ℕ) (d : SmallVec AtomId) → k < length old → (slice_index_or new k d).items ≡ (slice_index_or old k d).items ++ ids_if (a == k) u

abbrev pub set_if : Bool → ℕ → AtomId → List AtomId → List AtomId
set_if true i u us = slice_set us i u
set_if false i u us = us

abbrev pub IsFilled : ℕ → ℕ → AtomId → List (SmallVec AtomId) → List (SmallVec AtomId) → Type 0
IsFilled a i u old new = (k : ℕ) (d : SmallVec AtomId) → k < length old → (slice_index_or new k d).items ≡ set_if (a == k) i u (slice_index_or old k d).items

-- what the bond between an atom and its predecessor adds at an atom
abbrev pub joined_at : ℕ → Option TextBond → List AtomId
joined_at k None = []
joined_at k (Some b) = ids_if (b.second.0 == k) b.first ++ ids_if (b.first.0 == k) b.second

abbrev pub AreJoined : Option TextBond → List (SmallVec AtomId) → List (SmallVec AtomId) → Type 0
AreJoined bond old new = (k : ℕ) (d : SmallVec AtomId) → k < length old → (slice_index_or new k d).items ≡ (slice_index_or old k d).items ++ joined_at k bond
