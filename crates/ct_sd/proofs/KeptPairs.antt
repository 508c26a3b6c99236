-- Pairs that are kept once, the lesser atom first.
use Rattle.std.proofs.Common.{arith, ◌≡◌, ◌∙◌, ℕ, ◌==◌, ◌&&◌, ◌||◌, List, [], ◌∷◌, ◌++◌, Bool, true, false, refl, ap, sym, if◌then◌else◌}
use Rattle.std.specs.Prelude.{nat_le}
use Rattle.std.specs.List.{list_any}
use Rattle.std.proofs.lemmas.Bool.Decides.{nat_tests}
use Rattle.std.proofs.lemmas.List.Folds.{list_any-append}
use Rattle.ct_sd.specs.Bonds.{Pair, is_pair, is_joined, in_order, same_pair, KnowsPairs}

pub knows_none : (keys : List Pair) → keys ≡ [] → KnowsPairs keys []
knows_none keys none = λ u v. ap (λ (t : List Pair). list_any (same_pair (in_order u v)) t) none

both_rise : (u v a b : ℕ) → nat_le u v ≡ true → nat_le a b ≡ true → (u == a && v == b) ≡ ((a == u && b == v) || (a == v && b == u))
both_rise u v a b e f = grind (arith, nat_tests)

first_rises : (u v a b : ℕ) → nat_le u v ≡ true → nat_le a b ≡ false → (u == b && v == a) ≡ ((a == u && b == v) || (a == v && b == u))
first_rises u v a b e f = grind (arith, nat_tests)

second_rises : (u v a b : ℕ) → nat_le u v ≡ false → nat_le a b ≡ true → (v == a && u == b) ≡ ((a == u && b == v) || (a == v && b == u))
second_rises u v a b e f = grind (arith, nat_tests)

none_rises : (u v a b : ℕ) → nat_le u v ≡ false → nat_le a b ≡ false → (v == b && u == a) ≡ ((a == u && b == v) || (a == v && b == u))
none_rises u v a b e f = grind (arith, nat_tests)

by_order : (u v a b : ℕ) (s t : Bool) → nat_le u v ≡ s → nat_le a b ≡ t → same_pair (if s then (u, v) else (v, u)) (if t then (a, b) else (b, a)) ≡ is_pair u v (a, b)
by_order u v a b true true e f = both_rise u v a b e f
by_order u v a b true false e f = first_rises u v a b e f
by_order u v a b false true e f = second_rises u v a b e f
by_order u v a b false false e f = none_rises u v a b e f

-- in order, two pairs are the same where they have the same atoms
same_in_order : (u v a b : ℕ) → same_pair (in_order u v) (in_order a b) ≡ is_pair u v (a, b)
same_in_order u v a b = by_order u v a b (nat_le u v) (nat_le a b) refl refl

-- one pair more, where it isn't kept
added : (u v a b : ℕ) (keys pairs : List Pair) → list_any (same_pair (in_order u v)) keys ≡ is_joined u v pairs
    → list_any (same_pair (in_order u v)) (keys ++ in_order a b ∷ []) ≡ is_joined u v (pairs ++ (a, b) ∷ [])
added u v a b keys pairs knows =
    list_any-append (same_pair (in_order u v)) keys (in_order a b ∷ [])
    ∙ (ap (λ (t : Bool). t || (same_pair (in_order u v) (in_order a b) || false)) knows
    ∙ (ap (λ (t : Bool). is_joined u v pairs || (t || false)) (same_in_order u v a b)
    ∙ sym (list_any-append (is_pair u v) pairs ((a, b) ∷ []))))

-- one pair more, where it is kept
absorbed : (s t : Bool) → (t ≡ true → s ≡ true) → s ≡ (s || (t || false))
absorbed true t h = refl
absorbed false false h = refl
absorbed false true h = h refl

abbrev by_test : Bool → ℕ → ℕ → Pair
by_test t u v = if t then (u, v) else (v, u)

pair_is : (a b c d : ℕ) → a ≡ c → b ≡ d → ◌≡◌ {A = Pair} (a, b) (c, d)
pair_is a b c d e f = ap (λ (x : ℕ). (x, b)) e ∙ ap (λ (y : ℕ). (c, y)) f

both_first : (u v a b : ℕ) → nat_le u v ≡ true → nat_le a b ≡ true → is_pair u v (a, b) ≡ true → u ≡ a
both_first u v a b e f i = grind (arith, nat_tests)

both_second : (u v a b : ℕ) → nat_le u v ≡ true → nat_le a b ≡ true → is_pair u v (a, b) ≡ true → v ≡ b
both_second u v a b e f i = grind (arith, nat_tests)

turned_first : (u v a b : ℕ) → nat_le u v ≡ true → nat_le a b ≡ false → is_pair u v (a, b) ≡ true → u ≡ b
turned_first u v a b e f i = grind (arith, nat_tests)

turned_second : (u v a b : ℕ) → nat_le u v ≡ true → nat_le a b ≡ false → is_pair u v (a, b) ≡ true → v ≡ a
turned_second u v a b e f i = grind (arith, nat_tests)

swapped : (u v a b : ℕ) → is_pair u v (a, b) ≡ true → is_pair v u (a, b) ≡ true
swapped u v a b i = grind (arith, nat_tests)

falls : (u v : ℕ) → nat_le u v ≡ false → nat_le v u ≡ true
falls u v e = grind (arith, nat_tests)

same_by : (u v a b : ℕ) (s t : Bool) → nat_le u v ≡ s → nat_le a b ≡ t → is_pair u v (a, b) ≡ true → by_test s u v ≡ by_test t a b
same_by u v a b true true e f i = pair_is u v a b (both_first u v a b e f i) (both_second u v a b e f i)
same_by u v a b true false e f i = pair_is u v b a (turned_first u v a b e f i) (turned_second u v a b e f i)
same_by u v a b false true e f i = pair_is v u a b (both_first v u a b (falls u v e) f (swapped u v a b i)) (both_second v u a b (falls u v e) f (swapped u v a b i))
same_by u v a b false false e f i = pair_is v u b a (turned_first v u a b (falls u v e) f (swapped u v a b i)) (turned_second v u a b (falls u v e) f (swapped u v a b i))

same_key : (u v a b : ℕ) → is_pair u v (a, b) ≡ true → in_order u v ≡ in_order a b
same_key u v a b is = same_by u v a b (nat_le u v) (nat_le a b) refl refl is

kept : (u v a b : ℕ) (keys pairs : List Pair) → KnowsPairs keys pairs → list_any (same_pair (in_order a b)) keys ≡ true
    → list_any (same_pair (in_order u v)) keys ≡ is_joined u v (pairs ++ (a, b) ∷ [])
kept u v a b keys pairs knows there =
    absorbed (list_any (same_pair (in_order u v)) keys) (is_pair u v (a, b)) (λ i. ap (λ (p : Pair). list_any (same_pair p) keys) (same_key u v a b i) ∙ there)
    ∙ (ap (λ (t : Bool). t || (is_pair u v (a, b) || false)) (knows u v)
    ∙ sym (list_any-append (is_pair u v) pairs ((a, b) ∷ [])))

by_kept : (a b : ℕ) (keys pairs : List Pair) (t : Bool) → list_any (same_pair (in_order a b)) keys ≡ t → KnowsPairs keys pairs
    → KnowsPairs (if t then keys else keys ++ in_order a b ∷ []) (pairs ++ (a, b) ∷ [])
by_kept a b keys pairs true is knows = λ u v. kept u v a b keys pairs knows is
by_kept a b keys pairs false is knows = λ u v. added u v a b keys pairs (knows u v)

pub knows_more : (pair key : Pair) (k0 k1 p0 p1 p2 : List Pair) → KnowsPairs k0 p0 → key ≡ in_order pair.0 pair.1
    → k1 ≡ (if list_any (same_pair key) k0 then k0 else k0 ++ key ∷ []) → p1 ≡ p0 → p2 ≡ p1 ++ pair ∷ [] → KnowsPairs k1 p2
knows_more pair key k0 k1 p0 p1 p2 knows is keys same more = λ u v.
    ap (λ (t : List Pair). list_any (same_pair (in_order u v)) t) (keys ∙ ap (λ (p : Pair). if list_any (same_pair p) k0 then k0 else k0 ++ p ∷ []) is)
    ∙ (by_kept pair.0 pair.1 k0 p0 (list_any (same_pair (in_order pair.0 pair.1)) k0) refl knows u v
    ∙ sym (ap (λ (t : List Pair). is_joined u v t) (more ∙ ap (λ (t : List Pair). t ++ pair ∷ []) same)))
