-- Worked examples of the definitions.
use Rattle.std.proofs.Common.{◌≡◌, true, refl}
use Rattle.ct_geometry.specs.Turns.{Negative, Positive, side_of}
use Rattle.lay_place.specs.Rows.{is_inside, parting, parabola}

-- F/C=C/F in the row F C C F: both F are outside, on one side
one_side : side_of (parabola 1 1 1) (parabola 1 1 2) (parabola 1 1 0) ≡ Positive
one_side = refl

one_side_too : side_of (parabola 1 1 1) (parabola 1 1 2) (parabola 1 1 3) ≡ Positive
one_side_too = refl

-- in the row F C F C the second F is inside, on the other side
other_side : side_of (parabola 1 1 1) (parabola 1 1 3) (parabola 1 1 2) ≡ Negative
other_side = refl

inside : is_inside 1 2 3 ≡ true
inside = refl

parts_right : parting 0 2 5 ≡ 3
parts_right = refl

parts_left : parting 6 2 5 ≡ 5
parts_left = refl

parts_both : parting 3 2 5 ≡ 6
parts_both = refl
