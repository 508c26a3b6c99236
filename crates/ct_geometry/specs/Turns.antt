-- Rays between points with whole coordinates, and how they turn (BIOVIA CTfile Formats, wedge bonds: how a centre is drawn; that it is
-- read by the signs of cross products is this project's own).
use Rattle.std.specs.Prelude.{ℕ, zero, suc, ◌==◌, ◌&&◌, ◌||◌, Bool, true, false, not, nat_lt, ℤ, pos, negsuc, ◌+ℤ◌, ◌-ℤ◌, ◌*ℤ◌}

-- a point, or a ray from the point that is looked at: x to the right and y upwards
abbrev pub Vector : Type 0
Vector = ℤ × ℤ

-- the ray from a point to another one
abbrev pub ray : Vector → Vector → Vector
ray a b = (b.0 -ℤ a.0, b.1 -ℤ a.1)

abbrev pub cross : Vector → Vector → ℤ
cross p q = (p.0 *ℤ q.1) -ℤ (q.0 *ℤ p.1)

abbrev pub dot : Vector → Vector → ℤ
dot p q = (p.0 *ℤ q.0) +ℤ (p.1 *ℤ q.1)

pub data Sign : Type 0 where
  Negative : Sign
  Null : Sign
  Positive : Sign

abbrev pub sign : ℤ → Sign
sign (pos zero) = Null
sign (pos (suc n)) = Positive
sign (negsuc n) = Negative

abbrev pub flipped : Sign → Sign
flipped Positive = Negative
flipped Null = Null
flipped Negative = Positive

abbrev pub is_positive : Sign → Bool
is_positive Positive = true
is_positive Null = false
is_positive Negative = false

abbrev pub is_null : Sign → Bool
is_null Positive = false
is_null Null = true
is_null Negative = false

-- positive where q stands anticlockwise from p by less than half a turn, negative where it stands clockwise
abbrev pub turn : Vector → Vector → Sign
turn p q = sign (cross p q)

-- a ray to the point itself
abbrev pub is_zero : Vector → Bool
is_zero p = is_null (sign p.0) && is_null (sign p.1)

-- two rays of one direction: the one doesn't turn from the other, and isn't opposite
abbrev pub have_one_direction : Vector → Vector → Bool
have_one_direction p q = is_null (turn p q) && is_positive (sign (dot p q))

-- From a ray, another one has rank 0 where the cross product is above 0, rank 1 where it is opposite, rank 2 where the cross
-- product is below 0. (Of rays of different directions: where the cross product is 0, they are opposite.)
abbrev pub rank : Sign → ℕ
rank Positive = 0
rank Null = 1
rank Negative = 2

-- turning anticlockwise from a ray, p is met before q, by the turns from the ray to p and to q and from p to q
abbrev pub meets : Sign → Sign → Sign → Bool
meets to_p to_q p_to_q = nat_lt (rank to_p) (rank to_q) || (rank to_p == rank to_q && is_positive p_to_q)

abbrev pub is_met_before : Vector → Vector → Vector → Bool
is_met_before r p q = meets (turn r p) (turn r q) (turn p q)

-- the gap after ray r, where p is met next, is half a turn or more
abbrev pub is_wide : Vector → Vector → Bool
is_wide r p = not (is_positive (turn r p))

-- Of three rays, q is the middle one: there is a gap of half a turn or more between the other two, and q isn't in it.
abbrev pub is_middle : Vector → Vector → Vector → Bool
is_middle p q r = (is_wide p r && is_met_before p r q) || (is_wide r p && is_met_before r p q)

-- the side of the line through a and b on which c stands
abbrev pub side_of : Vector → Vector → Vector → Sign
side_of a b c = turn (ray a b) (ray a c)
