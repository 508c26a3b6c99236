-- Two lists of bonds in which each pair stands equally often have equal sums.
use Rattle.std.proofs.Common.{◌≡◌, ◌≢◌, ℕ, zero, suc, ◌+◌, ◌≤◌, ◌<◌, List, [], ◌∷◌, length, Bool, true, false, refl, ap, sym, ◌∙◌, inl, inr, arith}
use Rattle.std.specs.Prelude.{◌==◌, ◌⊎◌, ◌&&◌, if◌then◌else◌}
use Rattle.std.proofs.lemmas.Bool.{cases_eq, cases_lt, ne_eqb}
use Rattle.mc_mol.specs.declared.parts.Bond.{Bond}
use Rattle.mc_mol.proofs.Halves.{same_test}
pub use Rattle.smi_graph.proofs.NeighbourCount.{times, times_bit}
use Rattle.smi_write.proofs.BondCounts.{hit, bond_count}

-- the sum of w over the bonds
abbrev pub bonds_sum : (ℕ → ℕ → ℕ) → List Bond → ℕ
bonds_sum w [] = 0
bonds_sum w (b ∷ bs) = w b.first.0 b.second.0 + bonds_sum w bs

-- sums over the pairs j below t, and over the pairs j < l below n
abbrev pub row : (ℕ → ℕ → ℕ) → ℕ → ℕ → ℕ
row f l zero = 0
row f l (suc t) = row f l t + f t l

abbrev pub grid : (ℕ → ℕ → ℕ) → ℕ → ℕ
grid f zero = 0
grid f (suc n) = grid f n + row f n n

row_same : (f h : ℕ → ℕ → ℕ) (l t : ℕ) → ((j : ℕ) → j < t → f j l ≡ h j l) → row f l t ≡ row h l t
row_same f h l zero e = refl
row_same f h l (suc t) e = let a = row_same f h l t (λ j less. e j (omega arith)) in let b = e t (omega arith) in omega arith

pub grid_same : (f h : ℕ → ℕ → ℕ) (n : ℕ) → ((j l : ℕ) → j < l → l < n → f j l ≡ h j l) → grid f n ≡ grid h n
grid_same f h zero e = refl
grid_same f h (suc n) e = let a = grid_same f h n (λ j l less below. e j l less (omega arith)) in let b = row_same f h n n (λ j less. e j n less (omega arith)) in omega arith

row_plus : (f h : ℕ → ℕ → ℕ) (l t : ℕ) → row (λ j l'. f j l' + h j l') l t ≡ row f l t + row h l t
row_plus f h l zero = omega arith
row_plus f h l (suc t) = let a = row_plus f h l t in omega arith

grid_plus : (f h : ℕ → ℕ → ℕ) (n : ℕ) → grid (λ j l. f j l + h j l) n ≡ grid f n + grid h n
grid_plus f h zero = omega arith
grid_plus f h (suc n) = let a = grid_plus f h n in let b = row_plus f h n n in omega arith

row_zero : (f : ℕ → ℕ → ℕ) (l t : ℕ) → ((j : ℕ) → j < t → f j l ≡ 0) → row f l t ≡ 0
row_zero f l zero e = refl
row_zero f l (suc t) e = let a = row_zero f l t (λ j less. e j (omega arith)) in let b = e t (omega arith) in omega arith

grid_zero : (f : ℕ → ℕ → ℕ) (n : ℕ) → ((j l : ℕ) → j < l → l < n → f j l ≡ 0) → grid f n ≡ 0
grid_zero f zero e = refl
grid_zero f (suc n) e = let a = grid_zero f n (λ j l less below. e j l less (omega arith)) in let b = row_zero f n n (λ j less. e j n less (omega arith)) in omega arith

-- where f is 0 but at one pair
row_one : (f : ℕ → ℕ → ℕ) (a l t : ℕ) → a < t → ((j : ℕ) → j ≢ a → f j l ≡ 0) → row f l t ≡ f a l
row_one f a l zero less e = absurd (omega arith)
row_one f a l (suc t) less e = elim (cases_eq t a) [
  | inl same ↦ let z = row_zero f l t (λ j below. e j (omega arith)) in let s : f t l ≡ f a l = ap (λ (x : ℕ). f x l) same in omega arith
  | inr ne ↦ let r = row_one f a l t (omega arith) e in let z = e t ne in omega arith
]

grid_one : (f : ℕ → ℕ → ℕ) (a b n : ℕ) → a < b → b < n → ((j l : ℕ) → (j ≢ a) ⊎ (l ≢ b) → f j l ≡ 0) → grid f n ≡ f a b
grid_one f a b zero less below e = absurd (omega arith)
grid_one f a b (suc n) less below e = elim (cases_eq n b) [
  | inl same ↦
      let z = grid_zero f n (λ j l lt under. e j l (inr (omega arith))) in
      let r : row f n n ≡ f a n = row_one f a n n (omega arith) (λ j ne. e j n (inl ne)) in
      let s : f a n ≡ f a b = ap (f a) same in omega arith
  | inr ne ↦ let r = grid_one f a b n less (omega arith) e in let z = row_zero f n n (λ j lt. e j n (inr ne)) in omega arith
]

-- the ends are different atoms below n, the first below the second
abbrev pub InRange : ℕ → List Bond → Type 0
InRange n [] = Unit {0}
InRange n (b ∷ bs) = ((b.first.0 < b.second.0) × (b.second.0 < n)) × InRange n bs

abbrev spot : (ℕ → ℕ → ℕ) → Bond → ℕ → ℕ → ℕ
spot w b j l = if b.first.0 == j && b.second.0 == l then w j l else 0

spot_here : (w : ℕ → ℕ → ℕ) (b : Bond) → spot w b b.first.0 b.second.0 ≡ w b.first.0 b.second.0
spot_here w b = rw (same_test b.first.0, same_test b.second.0) refl

spot_other : (w : ℕ → ℕ → ℕ) (b : Bond) (j l : ℕ) → (j ≢ b.first.0) ⊎ (l ≢ b.second.0) → spot w b j l ≡ 0
spot_other w b j l (inl ne) = rw (ne_eqb b.first.0 j (λ e. ne (sym e))) refl
spot_other w b j l (inr ne) = by_first (b.first.0 == j)
  where
    by_first : (t : Bool) → (if t && b.second.0 == l then w j l else 0) ≡ 0
    by_first true = rw (ne_eqb b.second.0 l (λ e. ne (sym e))) refl
    by_first false = refl

pub sum_is : (w : ℕ → ℕ → ℕ) (n : ℕ) (bs : List Bond) → InRange n bs → bonds_sum w bs ≡ grid (λ j l. times (bond_count j l bs) (w j l)) n
sum_is w n [] h = sym (grid_zero (λ j l. times (bond_count j l []) (w j l)) n (λ j l less below. refl))
sum_is w n (b ∷ bs) h =
    let one : grid (spot w b) n ≡ w b.first.0 b.second.0 = grid_one (spot w b) b.first.0 b.second.0 n h.0.0 h.0.1 (spot_other w b) ∙ spot_here w b in
    let rest = sum_is w n bs h.1 in
    let both = grid_plus (spot w b) (λ j l. times (bond_count j l bs) (w j l)) n in
    let split : grid (λ j l. times (bond_count j l (b ∷ bs)) (w j l)) n ≡ grid (λ j l. spot w b j l + times (bond_count j l bs) (w j l)) n
    = grid_same (λ j l. times (bond_count j l (b ∷ bs)) (w j l)) (λ j l. spot w b j l + times (bond_count j l bs) (w j l)) n
    (λ j l less below. times_bit (b.first.0 == j && b.second.0 == l) (bond_count j l bs) (w j l)) in
    (omega arith) ∙ sym both ∙ sym split

pub sums_same : (w : ℕ → ℕ → ℕ) (n : ℕ) (xs ys : List Bond) → InRange n xs → InRange n ys → ((j l : ℕ) → j < l → l < n → bond_count j l xs ≡ bond_count j l ys) → bonds_sum w xs ≡ bonds_sum w ys
sums_same w n xs ys hx hy same =
    sum_is w n xs hx
    ∙ grid_same (λ j l. times (bond_count j l xs) (w j l)) (λ j l. times (bond_count j l ys) (w j l)) n (λ j l less below. ap (λ (c : ℕ). times c (w j l)) (same j l less below))
    ∙ sym (sum_is w n ys hy)

pub length_is : (bs : List Bond) → bonds_sum (λ j l. 1) bs ≡ length bs
length_is [] = refl
length_is (b ∷ bs) = let h = length_is bs in omega arith

-- what is counted nowhere else is in range
pub in_range : (n : ℕ) (bs : List Bond) → ((j l : ℕ) → (l ≤ j) ⊎ (n ≤ l) → bond_count j l bs ≡ 0) → InRange n bs
in_range n [] h = tt
in_range n (b ∷ bs) h =
    let here : hit b.first.0 b.second.0 b ≡ 1 = rw (same_test b.first.0, same_test b.second.0) refl in (
      elim (cases_lt b.first.0 b.second.0) [
        | inl less ↦ elim (cases_lt b.second.0 n) [
          | inl below ↦ (less, below)
          | inr above ↦ let z = h b.first.0 b.second.0 (inr above) in absurd (omega arith)
        ]
        | inr more ↦ let z = h b.first.0 b.second.0 (inl more) in absurd (omega arith)
      ],
      in_range n bs (λ j l side. let z = h j l side in omega arith),
    )
