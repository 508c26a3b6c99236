-- Worked examples of wedges.
use Rattle.std.proofs.Common.{◌≡◌, ℕ, true, false, List, [], ◌∷◌, refl}
use Rattle.std.specs.Prelude.{pos, negsuc, get_or}
use Rattle.ct_sd.specs.declared.table.DrawMark.{DrawMark}
use Rattle.ct_sd.specs.declared.table.DrawMark.TheVariants.{Plain, Up, Down, Wavy}
use Rattle.mc_base.specs.declared.ids.AtomId.{AtomId}
use Rattle.mc_mol.specs.declared.parts.HalfEdge.{HalfEdge}
use Rattle.mc_mol.specs.declared.parts.Slot.{Slot}
use Rattle.mc_mol.specs.declared.parts.Slot.TheVariants.{At, Rest}
use Rattle.ct_geometry.specs.Drawn.{ray_of}
use Rattle.ct_geometry.specs.Turns.{Vector}
use Rattle.ct_geometry.specs.Wedges.{met_from, reading, wedge_list, is_middle_one, coincide, wedge_in_the_middle, contradict}
use Rattle.ct_geometry.specs.declared.wedge_read.WedgeRead.TheVariants as read

-- an atom with bonds 0, 1, .. to atoms 1, 2, ..
abbrev half : ℕ → ℕ → HalfEdge
half k to = record { bond = record { 0 = k }; to = record { 0 = to }; twin = 0 }

abbrev at_atom : ℕ → Slot
at_atom k = At (record { 0 = k })

abbrev three : List HalfEdge
three = half 0 1 ∷ half 1 2 ∷ half 2 3 ∷ []

abbrev four : List HalfEdge
four = half 0 1 ∷ half 1 2 ∷ half 2 3 ∷ half 3 4 ∷ []

-- the marks of bonds 0, 1 and 2; the others have none
abbrev marked : DrawMark → DrawMark → DrawMark → ℕ → DrawMark
marked a b c k = get_or (a ∷ b ∷ c ∷ []) k Plain

-- an atom with neighbours in the north-west, the north and the north-east: the gap is below
abbrev above : AtomId → Vector
above c = ray_of (record { x = pos 0; y = pos 0 } ∷ record { x = negsuc 0; y = pos 1 } ∷ record { x = pos 0; y = pos 1 } ∷ record { x = pos 1; y = pos 1 } ∷ []) 0 c.0

-- from the north-west the rest is met before the north-east and the north
up_at_the_first : reading true (marked Up Plain Plain) three above ≡ read.Centre (at_atom 1 ∷ Rest ∷ at_atom 3 ∷ at_atom 2 ∷ [])
unfolding wedge_list is_middle_one coincide wedge_in_the_middle contradict
up_at_the_first = refl

down_at_the_first : reading true (marked Down Plain Plain) three above ≡ read.Centre (at_atom 1 ∷ Rest ∷ at_atom 2 ∷ at_atom 3 ∷ [])
unfolding wedge_list is_middle_one coincide wedge_in_the_middle contradict
down_at_the_first = refl

up_at_the_last : reading true (marked Plain Plain Up) three above ≡ read.Centre (at_atom 3 ∷ at_atom 2 ∷ at_atom 1 ∷ Rest ∷ [])
unfolding wedge_list is_middle_one coincide wedge_in_the_middle contradict
up_at_the_last = refl

up_in_the_middle : reading true (marked Plain Up Plain) three above ≡ read.Ambiguous
unfolding wedge_list is_middle_one coincide wedge_in_the_middle contradict
up_in_the_middle = refl

-- two wedges that say one hand, and two that don't
up_and_up : reading true (marked Up Plain Up) three above ≡ read.Centre (at_atom 1 ∷ Rest ∷ at_atom 3 ∷ at_atom 2 ∷ [])
unfolding wedge_list is_middle_one coincide wedge_in_the_middle contradict
up_and_up = refl

up_and_down : reading true (marked Up Plain Down) three above ≡ read.Ambiguous
unfolding wedge_list is_middle_one coincide wedge_in_the_middle contradict
up_and_down = refl

-- no wedge, a wavy bond beside a wedge, and an atom that may be no centre
no_wedge : reading true (marked Plain Plain Plain) three above ≡ read.None
no_wedge = refl

wavy : reading true (marked Up Wavy Plain) three above ≡ read.None
wavy = refl

no_centre : reading false (marked Up Plain Plain) three above ≡ read.None
no_centre = refl

-- L-alanine: nitrogen in the south-west by an up bond, carbon in the north and in the south-east
abbrev round : AtomId → Vector
round c = ray_of (record { x = pos 0; y = pos 0 } ∷ record { x = negsuc 0; y = negsuc 0 } ∷ record { x = pos 0; y = pos 1 } ∷ record { x = pos 1; y = negsuc 0 } ∷ []) 0 c.0

up_with_no_gap : reading true (marked Up Plain Plain) three round ≡ read.Centre (Rest ∷ at_atom 1 ∷ at_atom 2 ∷ at_atom 3 ∷ [])
unfolding wedge_list is_middle_one coincide wedge_in_the_middle contradict
up_with_no_gap = refl

-- a T: a gap of exactly half a turn is one, so its foot may not carry the wedge
abbrev tee : AtomId → Vector
tee c = ray_of (record { x = pos 0; y = pos 0 } ∷ record { x = pos 1; y = pos 0 } ∷ record { x = pos 0; y = negsuc 0 } ∷ record { x = negsuc 0; y = pos 0 } ∷ []) 0 c.0

foot_of_a_t : reading true (marked Plain Up Plain) three tee ≡ read.Ambiguous
unfolding wedge_list is_middle_one coincide wedge_in_the_middle contradict
foot_of_a_t = refl

arm_of_a_t : reading true (marked Up Plain Plain) three tee ≡ read.Centre (at_atom 1 ∷ Rest ∷ at_atom 3 ∷ at_atom 2 ∷ [])
unfolding wedge_list is_middle_one coincide wedge_in_the_middle contradict
arm_of_a_t = refl

-- neighbours in the east, the north, the west and the south
abbrev cross : AtomId → Vector
cross c = ray_of (record { x = pos 0; y = pos 0 } ∷ record { x = pos 1; y = pos 0 } ∷ record { x = pos 0; y = pos 1 } ∷ record { x = negsuc 0; y = pos 0 } ∷ record { x = pos 0; y = negsuc 0 } ∷ []) 0 c.0

up_of_four : reading true (marked Plain Up Plain) four cross ≡ read.Centre (at_atom 2 ∷ at_atom 3 ∷ at_atom 4 ∷ at_atom 1 ∷ [])
unfolding wedge_list is_middle_one coincide wedge_in_the_middle contradict
up_of_four = refl

down_of_four : reading true (marked Plain Down Plain) four cross ≡ read.Centre (at_atom 2 ∷ at_atom 3 ∷ at_atom 1 ∷ at_atom 4 ∷ [])
unfolding wedge_list is_middle_one coincide wedge_in_the_middle contradict
down_of_four = refl

-- of four neighbours a wedge beside an up one is a down one
beside_up_of_four : reading true (marked Up Down Plain) four cross ≡ read.Centre (at_atom 1 ∷ at_atom 2 ∷ at_atom 3 ∷ at_atom 4 ∷ [])
unfolding wedge_list is_middle_one coincide wedge_in_the_middle contradict
beside_up_of_four = refl

-- two neighbours in the north
abbrev one_behind_another : AtomId → Vector
one_behind_another c = ray_of (record { x = pos 0; y = pos 0 } ∷ record { x = pos 0; y = pos 1 } ∷ record { x = pos 0; y = pos 2 } ∷ record { x = pos 1; y = negsuc 0 } ∷ []) 0 c.0

one_direction : reading true (marked Plain Plain Up) three one_behind_another ≡ read.Ambiguous
unfolding wedge_list is_middle_one coincide wedge_in_the_middle contradict
one_direction = refl

-- a neighbour in the atom's own place
abbrev on_the_atom : AtomId → Vector
on_the_atom c = ray_of (record { x = pos 0; y = pos 0 } ∷ record { x = pos 0; y = pos 0 } ∷ record { x = pos 0; y = pos 2 } ∷ record { x = pos 1; y = negsuc 0 } ∷ []) 0 c.0

own_place : reading true (marked Plain Plain Up) three on_the_atom ≡ read.Ambiguous
unfolding wedge_list is_middle_one coincide wedge_in_the_middle contradict
own_place = refl

-- from the east the north is met first, then the west, which is opposite, and then the south
met : met_from cross (pos 1, pos 0) (record { 0 = 4 } ∷ record { 0 = 3 } ∷ record { 0 = 2 } ∷ []) ≡ record { 0 = 2 } ∷ record { 0 = 3 } ∷ record { 0 = 4 } ∷ []
met = refl
