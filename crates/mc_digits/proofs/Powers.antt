-- Numbers of up to so many digits.
use Rattle.std.proofs.Common.{arith, ◌<◌, ◌≤◌, ◌+◌, ◌*◌, ◌^◌, ℕ}
use Rattle.std.proofs.Math.Nat.{pow-le-pow_right}

-- a number of at most 12 digits
pub twelve_digits : (k value : ℕ) → k ≤ 12 → value < 10 ^ k → value < 10 ^ 12
twelve_digits k value few small =
    let ten : 0 < 10 = omega arith in
    let grows : 10 ^ k ≤ 10 ^ 12 = pow-le-pow_right {n = 10} ten {i = k} {j = 12} few in
    omega arith

-- one more digit
pub one_more : (k value d : ℕ) → k ≤ 11 → value < 10 ^ k → d ≤ 9 → value * 10 + d < 10 ^ 12
one_more k value d few small digit =
    let ten : 0 < 10 = omega arith in
    let grows : 10 ^ k ≤ 10 ^ 11 = pow-le-pow_right {n = 10} ten {i = k} {j = 11} few in
    omega arith
