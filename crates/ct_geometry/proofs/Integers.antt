-- Laws of integers that rays stand on, and the signs of products and sums.
use Rattle.std.proofs.Common.{◌≡◌, ◌∙◌, ℕ, zero, suc, ◌+◌, ◌*◌, ◌<◌, arith, refl, sym, ap, Bool, true, false}
use Rattle.std.proofs.lemmas.Int.{ints}
use borrow.Author.Differences.{up, down, same_in, same_out, sum_is_lem, neg_is, product_is}
use lib.IntN.{*ℤ_comm, zero-*ℤ, *ℤ-zero, pos-*ℤ-pos, pos-*ℤ-negsuc, negsuc-*ℤ-pos, negsuc-*ℤ-negsuc}
use Rattle.std.specs.Prelude.{ℤ, pos, negsuc, neg_ℤ, ◌+ℤ◌, ◌-ℤ◌, ◌*ℤ◌}
use Rattle.ct_geometry.specs.Turns.{Sign, Negative, Null, Positive, Vector, cross, turn, sign, flipped, is_positive}
use Rattle.ct_geometry.specs.DrawnTests.{same_sign}

-- ---- products

minus_times : (a b c : ℤ) → (a -ℤ b) *ℤ c ≡ (a *ℤ c) -ℤ (b *ℤ c)
minus_times a b c =
    let d = a -ℤ b in
    let sum : up d + down a + up b ≡ down d + up a + down b = omega (arith, sum_is_lem, neg_is) in
    let above = ap (λ (x : ℕ). x * up c) sum in
    let below = ap (λ (x : ℕ). x * down c) sum in
    omega (arith, same_in, sum_is_lem, neg_is, product_is, above, below)

times_minus : (a b c : ℤ) → a *ℤ (b -ℤ c) ≡ (a *ℤ b) -ℤ (a *ℤ c)
times_minus a b c = *ℤ_comm a (b -ℤ c) ∙ minus_times b c a ∙ ap (λ (x : ℤ). x -ℤ (c *ℤ a)) (*ℤ_comm b a) ∙ ap (λ (x : ℤ). (a *ℤ b) -ℤ x) (*ℤ_comm c a)

pub differences_times : (a b c d : ℤ) → (a -ℤ b) *ℤ (c -ℤ d) ≡ ((a *ℤ c) -ℤ (a *ℤ d)) -ℤ ((b *ℤ c) -ℤ (b *ℤ d))
differences_times a b c d = minus_times a b (c -ℤ d) ∙ ap (λ (x : ℤ). x -ℤ (b *ℤ (c -ℤ d))) (times_minus a c d) ∙ ap (λ (x : ℤ). ((a *ℤ c) -ℤ (a *ℤ d)) -ℤ x) (times_minus b c d)

times_assoc : (a b c : ℤ) → (a *ℤ b) *ℤ c ≡ a *ℤ (b *ℤ c)
times_assoc a b c =
    let x = a *ℤ b in
    let y = b *ℤ c in
    let first : up x + (up a * down b + down a * up b) ≡ down x + (up a * up b + down a * down b) = omega (arith, product_is) in
    let second : up y + (up b * down c + down b * up c) ≡ down y + (up b * up c + down b * down c) = omega (arith, product_is) in
    let first_above = ap (λ (n : ℕ). n * up c) first in
    let first_below = ap (λ (n : ℕ). n * down c) first in
    let second_above = ap (λ (n : ℕ). up a * n) second in
    let second_below = ap (λ (n : ℕ). down a * n) second in
    omega (arith, same_in, product_is, first_above, first_below, second_above, second_below)

pub neg_times : (a b : ℤ) → neg_ℤ a *ℤ b ≡ neg_ℤ (a *ℤ b)
neg_times a b =
    let x = a *ℤ b in
    let less : neg_ℤ a ≡ pos 0 -ℤ a = omega (arith, ints) in
    let back : pos 0 -ℤ x ≡ neg_ℤ x = omega (arith, ints) in
    ap (λ (y : ℤ). y *ℤ b) less ∙ minus_times (pos 0) a b ∙ ap (λ (y : ℤ). y -ℤ (a *ℤ b)) (zero-*ℤ b) ∙ back

-- of two products the second or the first factors change places
pub swap_second : (a b c d : ℤ) → (a *ℤ b) *ℤ (c *ℤ d) ≡ (a *ℤ d) *ℤ (c *ℤ b)
swap_second a b c d = times_assoc a b (c *ℤ d) ∙ ap (λ (x : ℤ). a *ℤ x) inner ∙ sym (times_assoc a d (c *ℤ b))
  where
    inner : b *ℤ (c *ℤ d) ≡ d *ℤ (c *ℤ b)
    inner = *ℤ_comm b (c *ℤ d) ∙ times_assoc c d b ∙ ap (λ (x : ℤ). c *ℤ x) (*ℤ_comm d b) ∙ sym (times_assoc c b d) ∙ *ℤ_comm (c *ℤ b) d

pub swap_first : (a b c d : ℤ) → (a *ℤ b) *ℤ (c *ℤ d) ≡ (c *ℤ b) *ℤ (a *ℤ d)
swap_first a b c d = *ℤ_comm (a *ℤ b) (c *ℤ d) ∙ swap_second c d a b

-- ---- signs

pub sign_neg : (z : ℤ) → sign (neg_ℤ z) ≡ flipped (sign z)
sign_neg (pos zero) = refl
sign_neg (pos (suc n)) = refl
sign_neg (negsuc n) = refl

-- the second ray first
pub turned_round : (p q : Vector) → turn q p ≡ flipped (turn p q)
turned_round p q =
    let e : cross q p ≡ neg_ℤ (cross p q) = omega (arith, ints) in
    ap sign e ∙ sign_neg (cross p q)

abbrev pub times : Sign → Sign → Sign
times Positive s = s
times Null s = Null
times Negative s = flipped s

pub positive : (n : ℕ) → 0 < n → sign (pos n) ≡ Positive
positive zero some = absurd (omega arith)
positive (suc n) some = refl

product_some : (m n : ℕ) → sign (pos (suc m * suc n)) ≡ Positive
product_some m n = positive (suc m * suc n) (omega arith)

pub sign_times : (a b : ℤ) → sign (a *ℤ b) ≡ times (sign a) (sign b)
sign_times (pos zero) b = ap sign (zero-*ℤ b)
sign_times (pos (suc m)) (pos zero) = ap sign (*ℤ-zero (pos (suc m)))
sign_times (pos (suc m)) (pos (suc n)) = ap sign (pos-*ℤ-pos (suc m) (suc n)) ∙ product_some m n
sign_times (pos (suc m)) (negsuc n) = ap sign (pos-*ℤ-negsuc (suc m) n) ∙ sign_neg (pos (suc m * suc n)) ∙ ap flipped (product_some m n)
sign_times (negsuc m) (pos zero) = ap sign (*ℤ-zero (negsuc m))
sign_times (negsuc m) (pos (suc n)) = ap sign (negsuc-*ℤ-pos m (suc n)) ∙ sign_neg (pos (suc m * suc n)) ∙ ap flipped (product_some m n)
sign_times (negsuc m) (negsuc n) = ap sign (negsuc-*ℤ-negsuc m n) ∙ product_some m n

-- the third is a sign that a sum can have whose parts have the first two
abbrev pub adds : Sign → Sign → Sign → Bool
adds Null s t = same_sign s t
adds Positive Null t = is_positive t
adds Positive Positive t = is_positive t
adds Positive Negative t = true
adds Negative Null t = is_positive (flipped t)
adds Negative Negative t = is_positive (flipped t)
adds Negative Positive t = true

itself : (s : Sign) → same_sign s s ≡ true
itself Positive = refl
itself Null = refl
itself Negative = refl

pub sign_adds : (a b : ℤ) → adds (sign a) (sign b) (sign (a +ℤ b)) ≡ true
sign_adds (pos zero) b = let same : pos 0 +ℤ b ≡ b = omega (arith, ints) in ap (λ (x : ℤ). same_sign (sign b) (sign x)) same ∙ itself (sign b)
sign_adds (pos (suc m)) (pos zero) = let same : pos (suc m) +ℤ pos 0 ≡ pos (suc m) = omega (arith, ints) in ap (λ (x : ℤ). is_positive (sign x)) same
sign_adds (pos (suc m)) (pos (suc n)) = let same : pos (suc m) +ℤ pos (suc n) ≡ pos (suc (m + suc n)) = omega (arith, ints) in ap (λ (x : ℤ). is_positive (sign x)) same
sign_adds (pos (suc m)) (negsuc n) = refl
sign_adds (negsuc m) (pos zero) = let same : negsuc m +ℤ pos 0 ≡ negsuc m = omega (arith, ints) in ap (λ (x : ℤ). is_positive (flipped (sign x))) same
sign_adds (negsuc m) (pos (suc n)) = refl
sign_adds (negsuc m) (negsuc n) = let same : negsuc m +ℤ negsuc n ≡ negsuc (m + suc n) = omega (arith, ints) in ap (λ (x : ℤ). is_positive (flipped (sign x))) same
