-- Worked examples of the definitions.
use Rattle.std.proofs.Common.{◌≡◌, true, false, refl}
use Rattle.std.specs.Prelude.{pos, negsuc}
use Rattle.ct_geometry.specs.Turns.{Negative, Null, Positive, turn, have_one_direction, is_zero, is_met_before, is_wide, is_middle, side_of}

-- north-east, north-west and south-west
left_turn : turn (pos 1, pos 1) (negsuc 0, pos 1) ≡ Positive
left_turn = refl

right_turn : turn (negsuc 0, pos 1) (pos 1, pos 1) ≡ Negative
right_turn = refl

opposite_rays : turn (pos 1, pos 1) (negsuc 0, negsuc 0) ≡ Null
opposite_rays = refl

-- opposite rays have two directions, a ray and its double have one
opposite_directions : have_one_direction (pos 1, pos 1) (negsuc 0, negsuc 0) ≡ false
opposite_directions = refl

one_direction : have_one_direction (pos 1, pos 1) (pos 2, pos 2) ≡ true
one_direction = refl

zero_ray : is_zero (pos 0, pos 0) ≡ true
zero_ray = refl

northern_ray : is_zero (pos 0, pos 1) ≡ false
northern_ray = refl

-- from the north-east the north-west is met before the south-west, which is opposite
met_before : is_met_before (pos 1, pos 1) (negsuc 0, pos 1) (negsuc 0, negsuc 0) ≡ true
met_before = refl

met_behind : is_met_before (pos 1, pos 1) (negsuc 0, negsuc 0) (negsuc 0, pos 1) ≡ false
met_behind = refl

-- from the north the north-east is met last, behind the east
met_last : is_met_before (pos 0, pos 1) (pos 1, pos 0) (pos 1, pos 1) ≡ true
met_last = refl

-- neighbours in the north-west, the north and the north-east: the gap is below, and the one above is the middle one
middle_above : is_middle (negsuc 0, pos 1) (pos 0, pos 1) (pos 1, pos 1) ≡ true
middle_above = refl

not_the_middle : is_middle (pos 0, pos 1) (pos 1, pos 1) (negsuc 0, pos 1) ≡ false
not_the_middle = refl

-- a gap of exactly half a turn is wide, so the foot of a T is its middle ray
half_turn : is_wide (pos 1, pos 0) (negsuc 0, pos 0) ≡ true
half_turn = refl

foot_of_a_t : is_middle (pos 1, pos 0) (pos 0, negsuc 0) (negsuc 0, pos 0) ≡ true
foot_of_a_t = refl

arm_of_a_t : is_middle (pos 0, negsuc 0) (pos 1, pos 0) (negsuc 0, pos 0) ≡ false
arm_of_a_t = refl

-- three rays round the atom: no gap is wide, no ray is the middle one
all_round : is_middle (pos 0, pos 1) (negsuc 1, negsuc 0) (pos 2, negsuc 0) ≡ false
all_round = refl

-- to the left of a line to the east is the north
left_side : side_of (pos 1, pos 1) (pos 3, pos 1) (pos 2, pos 5) ≡ Positive
left_side = refl

right_side : side_of (pos 1, pos 1) (pos 3, pos 1) (pos 9, pos 0) ≡ Negative
right_side = refl

on_the_line : side_of (pos 1, pos 1) (pos 3, pos 1) (pos 9, pos 1) ≡ Null
on_the_line = refl
