-- Products of two coordinates of rays.
use Rattle.std.proofs.Common.{◌≡◌, ◌∙◌, ◌≤◌, mul-le-mul, arith, ap, ℤ, ◌+ℤ◌, ◌-ℤ◌, ◌*ℤ◌, FitsSigned, w64, to_z, of_z}
use Rattle.std.specs.Int.RustNames.{unsigned_abs}
use Rattle.std.proofs.lemmas.Int.{unsigned_abs-mul, fits_signed_from_abs, to_z-of_z, ints}

pub product_small : (a b : ℤ) → unsigned_abs a ≤ 1099999998 → unsigned_abs b ≤ 1099999998 → unsigned_abs (a *ℤ b) ≤ 1209999995600000004
product_small a b p q =
    let e = unsigned_abs-mul a b in
    let m = mul-le-mul p q in
    omega arith

pub product_is : (a b : ℤ) → FitsSigned w64 a → FitsSigned w64 b → unsigned_abs a ≤ 1099999998 → unsigned_abs b ≤ 1099999998
    → to_z w64 (of_z w64 (to_z w64 (of_z w64 a) *ℤ to_z w64 (of_z w64 b))) ≡ a *ℤ b
product_is a b fa fb p q =
    let s = product_small a b p q in
    let f : FitsSigned w64 (a *ℤ b) = fits_signed_from_abs w64 (a *ℤ b) (omega arith) in
    simp to_z-of_z

-- a product that was computed of coordinates as they are passed
pub passed : (r a b : ℤ) → r ≡ to_z w64 (of_z w64 a) *ℤ to_z w64 (of_z w64 b) → unsigned_abs a ≤ 1099999998 → unsigned_abs b ≤ 1099999998 → r ≡ a *ℤ b
passed r a b e p q =
    let fa : FitsSigned w64 a = fits_signed_from_abs w64 a (omega arith) in
    let fb : FitsSigned w64 b = fits_signed_from_abs w64 b (omega arith) in
    e ∙ simp to_z-of_z

-- the difference and the sum of two of them, as they are computed
pub difference_is : (a b x y : ℤ) → a ≡ x → b ≡ y → unsigned_abs a ≤ 1209999995600000004 → unsigned_abs b ≤ 1209999995600000004
    → to_z w64 (of_z w64 (to_z w64 (of_z w64 a) -ℤ to_z w64 (of_z w64 b))) ≡ x -ℤ y
difference_is a b x y e f p q =
    let computed : to_z w64 (of_z w64 (to_z w64 (of_z w64 a) -ℤ to_z w64 (of_z w64 b))) ≡ a -ℤ b = omega (arith, ints) in
    computed ∙ ap (λ (z : ℤ). z -ℤ b) e ∙ ap (λ (z : ℤ). x -ℤ z) f

pub sum_is : (a b x y : ℤ) → a ≡ x → b ≡ y → unsigned_abs a ≤ 1209999995600000004 → unsigned_abs b ≤ 1209999995600000004
    → to_z w64 (of_z w64 (to_z w64 (of_z w64 a) +ℤ to_z w64 (of_z w64 b))) ≡ x +ℤ y
sum_is a b x y e f p q =
    let computed : to_z w64 (of_z w64 (to_z w64 (of_z w64 a) +ℤ to_z w64 (of_z w64 b))) ≡ a +ℤ b = omega (arith, ints) in
    computed ∙ ap (λ (z : ℤ). z +ℤ b) e ∙ ap (λ (z : ℤ). x +ℤ z) f
