-- How many connected parts there are: as many as a list has entries that holds one atom of each.
use Rattle.std.proofs.Common.{Bool, List, Some, ap, arith, false, get_or, if◌then◌else◌, inl, inr, length, refl, slice_get, subst, suc, sym, true, zero, ℕ, ◌&&◌, ◌+◌, ◌<◌, ◌==◌, ◌||◌, ◌∙◌, ◌≡◌, ◌≢◌, ◌≤◌}
use Rattle.mc_mol.proofs.Labelled.{some_found, count_same}
use Rattle.std.proofs.lemmas.Bool.{cases_eq, ne_eqb}
use Rattle.std.proofs.lemmas.Option.{slice_get-get_or, slice_get_within}
use Rattle.std.specs.Prelude.{not}
use Rattle.mc_base.specs.declared.ids.AtomId.{AtomId}
use Rattle.mc_mol.proofs.Connected.{Leads, connected_back, connected_on, connected_self}
use Rattle.mc_mol.proofs.Halves.{same_test}
use Rattle.mc_mol.specs.Parts.{are_connected, begins_part, count_below, part_count, some_below}
use Rattle.mc_mol.specs.declared.parts.Bond.{Bond}

-- ---- counting

-- the numbers that pass, but for one
abbrev without : (ℕ → Bool) → ℕ → ℕ → Bool
without q k u = q u && not (u == k)

not_at : (q : ℕ → Bool) (k u : ℕ) → u ≡ k → without q k u ≡ false
not_at q k u same = last (q u) (u == k) (subst (λ (x : ℕ). (u == x) ≡ true) same (same_test u))
  where
    last : (p t : Bool) → t ≡ true → (p && not t) ≡ false
    last true true is = refl
    last false true is = refl
    last p false is = cc

but_at : (q : ℕ → Bool) (k u : ℕ) → u ≢ k → without q k u ≡ q u
but_at q k u other = last (q u) (u == k) (ne_eqb u k other)
  where
    last : (p t : Bool) → t ≡ false → (p && not t) ≡ p
    last true false is = refl
    last false false is = refl
    last p true is = cc

count_without : (q : ℕ → Bool) (m k : ℕ) → k < m → q k ≡ true → count_below (without q k) m + 1 ≡ count_below q m
count_without q zero k less passes = absurd (omega arith)
count_without q (suc m) k less passes = elim (cases_eq k m) [
  | inl same ↦
      let before = count_same (without q k) q m (λ u below. but_at q k u (λ e. omega arith)) in
      last (count_below (without q k) m) (count_below q m) (without q k m) (q m) before (not_at q k m (sym same)) (subst (λ (x : ℕ). q x ≡ true) same passes)
  | inr other ↦ more (count_below (without q k) m) (count_below q m) (without q k m) (q m) (count_without q m k (omega arith) passes) (but_at q k m (λ e. other (sym e)))
]
  where
    last : (a b : ℕ) (s t : Bool) → a ≡ b → s ≡ false → t ≡ true → (a + (if s then 1 else 0)) + 1 ≡ b + (if t then 1 else 0)
    last a b false true same e f = omega arith
    last a b true t same e f = cc
    last a b false false same e f = cc

    more : (a b : ℕ) (s t : Bool) → a + 1 ≡ b → s ≡ t → (a + (if s then 1 else 0)) + 1 ≡ b + (if t then 1 else 0)
    more a b true true same e = omega arith
    more a b false false same e = omega arith
    more a b true false same e = cc
    more a b false true same e = cc

-- where each number that passes has one of its own on the other side, there are no more of them
count_related : (p q : ℕ → Bool) (R : ℕ → ℕ → Type 0) (n m : ℕ) → ((u : ℕ) → u < n → p u ≡ true → (i : ℕ) × (i < m) × (q i ≡ true) × (R u i))
    → ((u v i : ℕ) → u < v → v < n → p u ≡ true → p v ≡ true → R u i → R v i → ⊥) → count_below p n ≤ count_below q m
count_related p q R zero m total own = omega arith
count_related p q R (suc n) m total own = by_test (p n) refl (λ q2 others. count_related p q2 R n m others (λ u v i less within. own u v i less (omega arith)))
  where
    by_test : (t : Bool) → p n ≡ t
        → ((q2 : ℕ → Bool) → ((u : ℕ) → u < n → p u ≡ true → (i : ℕ) × (i < m) × (q2 i ≡ true) × (R u i)) → count_below p n ≤ count_below q2 m)
        → count_below p n + (if t then 1 else 0) ≤ count_below q m
    by_test false e rest = let h = rest q (λ u less. total u (omega arith)) in omega arith
    by_test true e rest =
        let mine = total n (omega arith) e in
        let h = rest (without q mine.0) (λ u less passes. let theirs = total u (omega arith) passes in
        (theirs.0, theirs.1, but_at q mine.0 theirs.0 (λ same. own u n mine.0 less (omega arith) passes e (subst (λ (i : ℕ). R u i) same theirs.3) mine.3) ∙ theirs.2, theirs.3)) in
        let one = count_without q m mine.0 mine.1 mine.2 in
        omega arith

count_all : (n : ℕ) → count_below (λ u. true) n ≡ n
count_all zero = refl
count_all (suc n) = let h = count_all n in omega arith

-- ---- parts

-- the first atom of the part of an atom
record FirstOf (bonds : List Bond) (u : ℕ) : Type 0 where
  first : ℕ
  low : first ≤ u
  begins : begins_part bonds first ≡ true
  leads : Leads bonds first u

some_of : (p : ℕ → Bool) (n : ℕ) → some_below p n ≡ true → (k : ℕ) × (k < n) × (p k ≡ true)
some_of p zero is = cc
some_of p (suc n) is = by_last (some_below p n) refl (λ e. some_of p n e) is
  where
    by_last : (t : Bool) → some_below p n ≡ t → (some_below p n ≡ true → (k : ℕ) × (k < n) × (p k ≡ true)) → (t || p n) ≡ true → (k : ℕ) × (k < suc n) × (p k ≡ true)
    by_last true e rest either = let h = rest e in let less = h.1 in (h.0, omega arith, h.2)
    by_last false e rest either = (n, omega arith, either)

first_below : (bonds : List Bond) (most u : ℕ) → u < most → FirstOf bonds u
first_below bonds zero u less = absurd (omega arith)
first_below bonds (suc most) u less = by_test (some_below (λ v. are_connected bonds v u) u) refl (λ v before. first_below bonds most v (omega arith))
  where
    by_test : (t : Bool) → some_below (λ v. are_connected bonds v u) u ≡ t → ((v : ℕ) → v < u → FirstOf bonds v) → FirstOf bonds u
    by_test false e rest = record { first = u; low = omega arith; begins = ap (λ (b : Bool). not b) e; leads = connected_self bonds u }
    by_test true e rest =
        let earlier = some_of (λ v. are_connected bonds v u) u e in
        let before = earlier.1 in
        let h = rest earlier.0 earlier.1 in
        let low = h.low in
        record { first = h.first; low = omega arith; begins = h.begins; leads = connected_on bonds h.first earlier.0 u h.leads earlier.2 }

first_of : (bonds : List Bond) (u : ℕ) → FirstOf bonds u
first_of bonds u = first_below bonds (suc u) u (omega arith)

-- the list holds one atom of each connected part
pub record IsOneOfEachPart (bonds : List Bond) (atoms : ℕ) (ones : List AtomId) : Type 0 where
  pub within : (i : ℕ) (a : AtomId) → slice_get ones i ≡ Some a → a.0 < atoms
  pub apart : (i j : ℕ) (a b : AtomId) → i < j → slice_get ones i ≡ Some a → slice_get ones j ≡ Some b → Leads bonds a.0 b.0 → ⊥
  pub every : (x : ℕ) → x < atoms → (i : ℕ) × (a : AtomId) × (slice_get ones i ≡ Some a) × (Leads bonds x a.0)

-- entry i of the list is an atom of the part of x
record Stands (bonds : List Bond) (ones : List AtomId) (x i : ℕ) : Type 0 where
  atom : AtomId
  at : slice_get ones i ≡ Some atom
  leads : Leads bonds x atom.0

one_entry : (ones : List AtomId) (i : ℕ) (a b : AtomId) → slice_get ones i ≡ Some a → slice_get ones i ≡ Some b → a.0 ≡ b.0
one_entry ones i a b e f = let same : a ≡ b = cc in ap (λ (x : AtomId). x.0) same

pub ones_counted : (bonds : List Bond) (atoms : ℕ) (ones : List AtomId) → IsOneOfEachPart bonds atoms ones → length ones ≡ part_count bonds atoms
ones_counted bonds atoms ones is =
    let all = count_all (length ones) in
    let few = count_related (λ u. true) (begins_part bonds) (λ i x. Stands bonds ones x i) (length ones) atoms begun apart in
    let enough = count_related (begins_part bonds) (λ u. true) (λ x i. Stands bonds ones x i) atoms (length ones) listed once in
    omega arith
  where
    begun : (i : ℕ) → i < length ones → true ≡ true → (x : ℕ) × (x < atoms) × (begins_part bonds x ≡ true) × (Stands bonds ones x i)
    begun i less _ =
        let at = slice_get-get_or ones i (record { 0 = 0 }) less in
        let atom = get_or ones i (record { 0 = 0 }) in
        let first = first_of bonds atom.0 in
        let low = first.low in
        let within = is.within i atom at in
        (first.first, omega arith, first.begins, record { atom = atom; at = at; leads = first.leads })

    apart : (i j x : ℕ) → i < j → j < length ones → true ≡ true → true ≡ true → Stands bonds ones x i → Stands bonds ones x j → ⊥
    apart i j x less within _ _ at_i at_j = is.apart i j at_i.atom at_j.atom less at_i.at at_j.at (connected_on bonds at_i.atom.0 x at_j.atom.0 (connected_back bonds x at_i.atom.0 at_i.leads) at_j.leads)

    listed : (x : ℕ) → x < atoms → begins_part bonds x ≡ true → (i : ℕ) × (i < length ones) × (true ≡ true) × (Stands bonds ones x i)
    listed x less begins = let h = is.every x less in (h.0, slice_get_within ones h.0 (h.1) (h.2), refl, record { atom = h.1; at = h.2; leads = h.3 })

    once : (x y i : ℕ) → x < y → y < atoms → begins_part bonds x ≡ true → begins_part bonds y ≡ true → Stands bonds ones x i → Stands bonds ones y i → ⊥
    once x y i less within begins also at_x at_y =
        let same = one_entry ones i at_x.atom at_y.atom at_x.at at_y.at in
        let leads = connected_on bonds x at_x.atom.0 y at_x.leads (connected_back bonds y at_x.atom.0 (subst (λ (n : ℕ). Leads bonds y n) (sym same) at_y.leads)) in
        let some = some_found (λ v. are_connected bonds v y) y x less leads in
        let none : begins_part bonds y ≡ false = ap (λ (b : Bool). not b) some in
        cc
