-- Sides of lines through points that bend to one side.
use Rattle.std.proofs.Common.{◌≡◌, ◌≢◌, ◌∙◌, ℕ, zero, suc, ◌+◌, ◌*◌, ◌-◌, ◌<◌, Bool, true, false, arith, refl, sym, ap, inl, inr, nat_lt, if◌then◌else◌}
use Rattle.std.proofs.lemmas.Bool.{cases_lt}
use Rattle.std.proofs.lemmas.Bool.Decides.{nat_tests}
use borrow.Author.Differences.{same_in, same_out, sum_is_lem, neg_is, product_is}
use Rattle.std.specs.Prelude.{ℤ, pos, ◌-ℤ◌, ◌*ℤ◌}
use Rattle.ct_geometry.specs.Turns.{Sign, Negative, Null, Positive, sign, Vector, ray, cross, side_of, flipped}
use Rattle.ct_geometry.proofs.Integers.{positive}
use Rattle.lay_place.specs.Rows.{Bends, parabola, is_inside, same}
use Rattle.lay_place.proofs.Turns.{next_corner, other_way}

-- the side by the order in the row
abbrev pub side_by : Bool → Bool → Sign
side_by forward inside = if same forward inside then Negative else Positive

turned_side : (inside : Bool) → flipped (side_by true inside) ≡ side_by false inside
turned_side true = refl
turned_side false = refl

pub inside_either : (u w m : ℕ) → is_inside w m u ≡ is_inside u m w
inside_either u w m = grind (arith, nat_tests)

module _ (c : ℕ → Vector) (bends : Bends c) where
  rising : (u w m : ℕ) → u < w → m ≢ u → m ≢ w → side_of (c u) (c w) (c m) ≡ side_by true (is_inside u m w)
  rising u w m less not_u not_w = elim (cases_lt m u) [
    | inl before ↦
        let outside : is_inside u m w ≡ false = grind (arith, nat_tests) in
        next_corner (c m) (c u) (c w) ∙ bends.turns m u w before less ∙ sym (ap (side_by true) outside)
    | inr after ↦ elim (cases_lt m w) [
      | inl within ↦
          let inside : is_inside u m w ≡ true = grind (arith, nat_tests) in
          other_way (c u) (c m) (c w) ∙ ap flipped (bends.turns u m w (omega arith) within) ∙ sym (ap (side_by true) inside)
      | inr beyond ↦
          let outside : is_inside u m w ≡ false = grind (arith, nat_tests) in
          bends.turns u w m less (omega arith) ∙ sym (ap (side_by true) outside)
    ]
  ]

  turned : (u w m : ℕ) → side_of (c u) (c w) (c m) ≡ flipped (side_of (c w) (c u) (c m))
  turned u w m = next_corner (c m) (c u) (c w) ∙ other_way (c m) (c w) (c u) ∙ ap flipped (sym (next_corner (c m) (c w) (c u)))

  -- an atom of the row stands on the one side of a line where it is inside, on the other where it is outside
  pub side_is : (u w m : ℕ) → u ≢ w → m ≢ u → m ≢ w → side_of (c u) (c w) (c m) ≡ side_by (nat_lt u w) (is_inside u m w)
  side_is u w m different not_u not_w = elim (cases_lt u w) [
    | inl less ↦
        let forward : nat_lt u w ≡ true = grind (arith, nat_tests) in
        rising u w m less not_u not_w ∙ sym (ap (λ (t : Bool). side_by t (is_inside u m w)) forward)
    | inr more ↦
        let back : nat_lt u w ≡ false = grind (arith, nat_tests) in
        turned u w m ∙ ap flipped (rising w u m (omega arith) not_w not_u) ∙ turned_side (is_inside w m u) ∙ ap (side_by false) (inside_either u w m)
        ∙ sym (ap (λ (t : Bool). side_by t (is_inside u m w)) back)
  ]

pub side_some : (forward inside : Bool) → side_by forward inside ≢ Null
side_some true true = λ e. cc
side_some true false = λ e. cc
side_some false true = λ e. cc
side_some false false = λ e. cc

-- no three atoms of a row stand on one line
pub not_straight : (c : ℕ → Vector) → Bends c → (u w m : ℕ) → u ≢ w → m ≢ u → m ≢ w → side_of (c u) (c w) (c m) ≢ Null
not_straight c bends u w m different not_u not_w e = side_some (nat_lt u w) (is_inside u m w) (sym (side_is c bends u w m different not_u not_w) ∙ e)

-- ---- the parabola

-- three places i, i + d and i + d + e
module _ (a b i : ℕ) where
  rise : (k : ℕ) → (parabola a b (i + k)).1 -ℤ (parabola a b i).1 ≡ pos (b * (k * (2 * i + k)))
  rise k = omega (arith, same_in, same_out, sum_is_lem, neg_is, product_is)

  run : (k : ℕ) → (parabola a b (i + k)).0 -ℤ (parabola a b i).0 ≡ pos (a * k)
  run k = omega (arith, same_in, same_out, sum_is_lem, neg_is, product_is)

  product : (d k : ℕ) → ((parabola a b (i + d)).0 -ℤ (parabola a b i).0) *ℤ ((parabola a b (i + k)).1 -ℤ (parabola a b i).1) ≡ pos ((a * d) * (b * (k * (2 * i + k))))
  product d k = ap (λ (x : ℤ). x *ℤ ((parabola a b (i + k)).1 -ℤ (parabola a b i).1)) (run d) ∙ ap (λ (x : ℤ). pos (a * d) *ℤ x) (rise k)

  bend : (d e : ℕ) → cross (ray (parabola a b i) (parabola a b (i + d))) (ray (parabola a b i) (parabola a b (i + (d + e)))) ≡ pos ((a * b) * ((d * e) * (d + e)))
  bend d e =
      let first = product d (d + e) in
      let second = product (d + e) d in
      omega (arith, same_in, same_out, sum_is_lem, neg_is, product_is, first, second)

product_some : (x y : ℕ) → 0 < x → 0 < y → 0 < x * y
product_some zero y p q = absurd (omega arith)
product_some (suc x) zero p q = absurd (omega arith)
product_some (suc x) (suc y) p q = omega arith

-- the parabola bends, however it is stretched
pub parabola_bends : (a b : ℕ) → 0 < a → 0 < b → Bends (parabola a b)
parabola_bends a b wide high = record {
  turns = λ i j k ij jk.
      let d = j - i in
      let e = k - j in
      let j_is : j ≡ i + d = omega arith in
      let k_is : k ≡ i + (d + e) = omega arith in
      let some : 0 < (a * b) * ((d * e) * (d + e)) = product_some (a * b) ((d * e) * (d + e)) (product_some a b wide high) (product_some (d * e) (d + e) (product_some d e (omega arith) (omega arith)) (omega arith)) in
      ap (λ (p : ℕ × ℕ). side_of (parabola a b i) (parabola a b p.0) (parabola a b p.1)) (pair_is j k (i + d) (i + (d + e)) j_is k_is)
      ∙ ap sign (bend a b i d e) ∙ positive ((a * b) * ((d * e) * (d + e))) some;
  apart = λ i j different e.
      let sums : a * i ≡ a * j = omega (arith, same_out, e) in
      different (equal_factors a i j wide sums);
}
  where
    pair_is : (j k x y : ℕ) → j ≡ x → k ≡ y → ◌≡◌ {A = ℕ × ℕ} (j, k) (x, y)
    pair_is j k x y e f = rw (e, f) refl

    equal_factors : (a i j : ℕ) → 0 < a → a * i ≡ a * j → i ≡ j
    equal_factors a i j some e = elim (cases_lt i j) [
      | inl less ↦
          let d = j - i in
          let j_is : j ≡ i + d = omega arith in
          let far = product_some a d some (omega arith) in
          let both = ap (λ (x : ℕ). a * x) j_is in
          absurd (omega arith)
      | inr more ↦ elim (cases_lt j i) [
        | inl less ↦
            let d = i - j in
            let i_is : i ≡ j + d = omega arith in
            let far = product_some a d some (omega arith) in
            let both = ap (λ (x : ℕ). a * x) i_is in
            absurd (omega arith)
        | inr other ↦ omega arith
      ]
    ]
