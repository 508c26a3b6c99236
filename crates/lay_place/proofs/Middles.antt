-- Middle rays: at most one of three, and neither of two that stand on both sides of the third.
use Rattle.std.proofs.Common.{◌≡◌, ◌≢◌, ◌∙◌, Bool, true, false, refl, sym, ap, ◌||◌, ◌&&◌, not}
use Rattle.ct_geometry.specs.Turns.{Sign, Negative, Null, Positive, Vector, turn, is_positive, meets, is_middle, flipped}
use Rattle.ct_geometry.proofs.Integers.{turned_round}

-- by the turns from p to q, from q to r and from p to r
abbrev middle_by : Sign → Sign → Sign → Bool
middle_by pq qr pr = (not (is_positive pr) && meets pr pq (flipped qr)) || (not (is_positive (flipped pr)) && meets (flipped pr) (flipped qr) pq)

middle_is : (p q r : Vector) → is_middle p q r ≡ middle_by (turn p q) (turn q r) (turn p r)
middle_is p q r = rw (turned_round q r, turned_round p r) refl

middle_is_back : (p q r : Vector) → is_middle q p r ≡ middle_by (flipped (turn p q)) (turn p r) (turn q r)
middle_is_back p q r = middle_is q p r ∙ ap (λ (s : Sign). middle_by s (turn p r) (turn q r)) (turned_round p q)

swapped : (pq qr pr : Sign) → middle_by (flipped qr) (flipped pq) (flipped pr) ≡ middle_by pq qr pr
swapped Negative Negative Negative = refl
swapped Negative Negative Null = refl
swapped Negative Negative Positive = refl
swapped Negative Null Negative = refl
swapped Negative Null Null = refl
swapped Negative Null Positive = refl
swapped Negative Positive Negative = refl
swapped Negative Positive Null = refl
swapped Negative Positive Positive = refl
swapped Null Negative Negative = refl
swapped Null Negative Null = refl
swapped Null Negative Positive = refl
swapped Null Null Negative = refl
swapped Null Null Null = refl
swapped Null Null Positive = refl
swapped Null Positive Negative = refl
swapped Null Positive Null = refl
swapped Null Positive Positive = refl
swapped Positive Negative Negative = refl
swapped Positive Negative Null = refl
swapped Positive Negative Positive = refl
swapped Positive Null Negative = refl
swapped Positive Null Null = refl
swapped Positive Null Positive = refl
swapped Positive Positive Negative = refl
swapped Positive Positive Null = refl
swapped Positive Positive Positive = refl

-- the other two in either order
pub middle_either : (p q r : Vector) → is_middle r q p ≡ is_middle p q r
middle_either p q r =
    middle_is r q p ∙ (rw (turned_round q r, turned_round p q, turned_round p r) (swapped (turn p q) (turn q r) (turn p r))) ∙ sym (middle_is p q r)

one_by : (pq qr pr : Sign) → pq ≢ Null → qr ≢ Null → pr ≢ Null → middle_by pq qr pr ≡ true → middle_by (flipped pq) pr qr ≡ false
one_by Null qr pr a b c e = absurd (a refl)
one_by Negative Null pr a b c e = absurd (b refl)
one_by Positive Null pr a b c e = absurd (b refl)
one_by Negative Negative Null a b c e = absurd (c refl)
one_by Negative Positive Null a b c e = absurd (c refl)
one_by Positive Negative Null a b c e = absurd (c refl)
one_by Positive Positive Null a b c e = absurd (c refl)
one_by Negative Negative Negative a b c e = refl
one_by Negative Negative Positive a b c e = refl
one_by Negative Positive Negative a b c e = refl
one_by Negative Positive Positive a b c e = cc
one_by Positive Negative Negative a b c e = cc
one_by Positive Negative Positive a b c e = refl
one_by Positive Positive Negative a b c e = refl
one_by Positive Positive Positive a b c e = refl

-- where q is the middle ray, p isn't
pub one_middle : (p q r : Vector) → turn p q ≢ Null → turn q r ≢ Null → turn p r ≢ Null → is_middle p q r ≡ true → is_middle q p r ≡ false
one_middle p q r a b c e = middle_is_back p q r ∙ one_by (turn p q) (turn q r) (turn p r) a b c (sym (middle_is p q r) ∙ e)

beside_by : (dp dq pq : Sign) → dp ≢ Null → dq ≡ flipped dp → middle_by dp pq dq ≡ false
beside_by Null dq pq a e = absurd (a refl)
beside_by Negative Positive Negative a e = refl
beside_by Negative Positive Null a e = refl
beside_by Negative Positive Positive a e = refl
beside_by Positive Negative Negative a e = refl
beside_by Positive Negative Null a e = refl
beside_by Positive Negative Positive a e = refl
beside_by Negative Negative pq a e = cc
beside_by Negative Null pq a e = cc
beside_by Positive Positive pq a e = cc
beside_by Positive Null pq a e = cc

-- of two rays on both sides of a third, neither is the middle one
pub not_middle : (d p q : Vector) → turn d p ≢ Null → turn d q ≡ flipped (turn d p) → is_middle d p q ≡ false
not_middle d p q a e = middle_is d p q ∙ beside_by (turn d p) (turn d q) (turn p q) a e
