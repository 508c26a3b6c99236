-- Turns of rays: what signs of cross products say of each other.
use Rattle.std.proofs.Common.{◌≡◌, ◌∙◌, arith, sym, ap}
use borrow.Author.Differences.{same_in, same_out, sum_is_lem, neg_is, product_is}
use Rattle.std.specs.Prelude.{ℤ, ◌+ℤ◌, ◌-ℤ◌, ◌*ℤ◌}
use Rattle.ct_geometry.specs.Turns.{sign, Vector, ray, cross, side_of, flipped}
use Rattle.ct_geometry.proofs.Integers.{differences_times, turned_round}

-- twice the area of a triangle, with its sign
abbrev area : (px py qx qy rx ry : ℤ) → ℤ
area px py qx qy rx ry = (((px *ℤ qy) -ℤ (qx *ℤ py)) +ℤ ((qx *ℤ ry) -ℤ (rx *ℤ qy))) +ℤ ((rx *ℤ py) -ℤ (px *ℤ ry))

module _ (px py qx qy rx ry : ℤ) where
  area_is : ((qx -ℤ px) *ℤ (ry -ℤ py)) -ℤ ((rx -ℤ px) *ℤ (qy -ℤ py)) ≡ area px py qx qy rx ry
  area_is =
      let first = differences_times qx px ry py in
      let second = differences_times rx px qy py in
      omega (arith, same_in, same_out, sum_is_lem, neg_is, product_is, first, second)

  area_next : area qx qy rx ry px py ≡ area px py qx qy rx ry
  area_next = omega (arith, same_in, same_out, sum_is_lem, neg_is, product_is)

pub cross_is : (a b c : Vector) → cross (ray a b) (ray a c) ≡ area a.0 a.1 b.0 b.1 c.0 c.1
cross_is a b c = area_is a.0 a.1 b.0 b.1 c.0 c.1

-- three points the one after the other
pub next_corner : (a b c : Vector) → side_of b c a ≡ side_of a b c
next_corner a b c = ap sign (cross_is b c a ∙ area_next a.0 a.1 b.0 b.1 c.0 c.1 ∙ sym (cross_is a b c))

pub other_way : (a b c : Vector) → side_of a c b ≡ flipped (side_of a b c)
other_way a b c = turned_round (ray a b) (ray a c)
