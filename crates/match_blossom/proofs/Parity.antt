-- A closed class with an odd number of nodes has an odd part.
use Rattle.std.proofs.Common.{◌≡◌, ℕ, zero, suc, ◌+◌, ◌≤◌, ◌<◌, List, [], ◌∷◌, length, Bool, true, false, refl, ap, sym, ◌∙◌, inl, inr, arith}
use Rattle.std.specs.Prelude.{◌==◌, not, ◌&&◌, ◌⊎◌, nat_lt}
use Rattle.std.proofs.lemmas.Bool.{cases_eq, cases_lt, false≢true, eqb-true, cases_Bool, and_parts, and_from}
use Rattle.std.proofs.lemmas.Bool.Decides.{nat_tests}
use Rattle.match_barrier.specs.Graph.{has, adjacent, IsGraph}
use Rattle.match_barrier.specs.Barrier.{IsLeft, Walk, Joined, NamesParts, one_if, count, is_odd, is_member, part_size, names_odd_part}
use Rattle.match_barrier.proofs.Counting.{test_same, count_same, count_none, but, but_is, count_but_le}
use Rattle.match_barrier.proofs.Edges.{same_bools}
use Rattle.match_barrier.proofs.Walks.{joined_sym, name_left, name_name}
use Rattle.match_barrier.proofs.Tutte.{member_is, is_member_of}

pub count_add : (n : ℕ) (p q r : ℕ → Bool) → ((i : ℕ) → i < n → one_if (p i) ≡ one_if (q i) + one_if (r i)) → count n p ≡ count n q + count n r
count_add zero p q r adds = refl
count_add (suc n) p q r adds = let h = count_add n p q r (λ i less. adds i (omega arith)) in let k = adds n (omega arith) in omega arith

odd_sum : (a b : ℕ) → is_odd b ≡ false → is_odd (a + b) ≡ is_odd a
odd_sum a zero even = ap is_odd (let e : a + 0 ≡ a = omega arith in e)
odd_sum a (suc zero) even = absurd (false≢true (sym even))
odd_sum a (suc (suc b)) even =
    let e : a + suc (suc b) ≡ suc (suc (a + b)) = omega arith in
    ap is_odd e ∙ not_not (is_odd (a + b)) ∙ odd_sum a b (sym (not_not (is_odd b)) ∙ even)
  where
    not_not : (b : Bool) → not (not b) ≡ b
    not_not true = refl
    not_not false = refl

-- A class of nodes that are left, with each left neighbour of its nodes.
pub record IsClosed (g : List (List ℕ)) (s : List ℕ) (class : ℕ → Bool) : Type 0 where
  pub left : (u : ℕ) → u < length g → class u ≡ true → has s u ≡ false
  pub closed : (u v : ℕ) → class u ≡ true → adjacent g u v ≡ true → IsLeft g s v → class v ≡ true

along : (g : List (List ℕ)) (s : List ℕ) (class : ℕ → Bool) → IsClosed g s class → (u : ℕ) (ws : List ℕ) (v : ℕ) → class u ≡ true → Walk g s u ws v → class v ≡ true
along g s class is u [] v inside walk = ap class (sym walk) ∙ inside
along g s class is u (w ∷ ws) v inside walk = along g s class is w ws v (is.closed u w inside walk.0 walk.1) walk.2

-- the nodes of the class whose name is below k
abbrev named_below : (ℕ → Bool) → (ℕ → ℕ) → ℕ → ℕ → Bool
named_below class name k v = class v && nat_lt (name v) k

abbrev named : (ℕ → Bool) → (ℕ → ℕ) → ℕ → ℕ → Bool
named class name k v = class v && (name v == k)

splits : (c : Bool) (a k : ℕ) → one_if (c && nat_lt a (suc k)) ≡ one_if (c && nat_lt a k) + one_if (c && (a == k))
splits false a k = refl
splits true a k = elim (cases_lt a k) [
  | inl less ↦ let x : nat_lt a (suc k) ≡ true = grind (arith, nat_tests) in let y : nat_lt a k ≡ true = grind (arith, nat_tests) in let z : (a == k) ≡ false = grind (arith, nat_tests) in rw (x, y, z) refl
  | inr more ↦ elim (cases_eq a k) [
    | inl same ↦ let x : nat_lt a (suc k) ≡ true = grind (arith, nat_tests) in let y : nat_lt a k ≡ false = grind (arith, nat_tests) in let z : (a == k) ≡ true = grind (arith, nat_tests) in rw (x, y, z) refl
    | inr other ↦ let x : nat_lt a (suc k) ≡ false = grind (arith, nat_tests) in let y : nat_lt a k ≡ false = grind (arith, nat_tests) in let z : (a == k) ≡ false = grind (arith, nat_tests) in rw (x, y, z) refl
  ]
]

pub record OddPartIn (g : List (List ℕ)) (s : List ℕ) (name : ℕ → ℕ) (class : ℕ → Bool) : Type 0 where
  pub node : ℕ
  pub below : node < length g
  pub inside : class node ≡ true
  pub odd : names_odd_part g s name node ≡ true

named_of : (class : ℕ → Bool) (name : ℕ → ℕ) (k v : ℕ) → class v ≡ true → name v ≡ k → named class name k v ≡ true
named_of class name k v inside same = and_from (class v) (name v == k) inside (test_same (name v) k same)

named_is : (class : ℕ → Bool) (name : ℕ → ℕ) (k v : ℕ) → named class name k v ≡ true → (class v ≡ true) × (name v ≡ k)
named_is class name k v h = let both = and_parts (class v) (name v == k) h in (both.0, eqb-true (name v) k both.1)

-- where a node of the class has the name k, k is in the class and is its own name
name_inside : (g : List (List ℕ)) (s : List ℕ) (name : ℕ → ℕ) (class : ℕ → Bool) → IsGraph g → NamesParts g s name → IsClosed g s class → (k v : ℕ) → v < length g → named class name k v ≡ true → (class k ≡ true) × (name k ≡ k)
name_inside g s name class is names closed k v below h =
    let both = named_is class name k v h in
    let left : IsLeft g s v = (below, closed.left v below both.0) in
    let j = names.joined v left in (
      ap class (sym both.1) ∙ along g s class closed v j.0 (name v) both.0 j.1,
      ap name (sym both.1) ∙ name_name g s name is names v left ∙ both.1,
    )

-- then the whole part is in the class
whole_part : (g : List (List ℕ)) (s : List ℕ) (name : ℕ → ℕ) (class : ℕ → Bool) → IsGraph g → NamesParts g s name → IsClosed g s class → (k : ℕ) → k < length g → class k ≡ true → (v : ℕ) → v < length g → named class name k v ≡ is_member s name k v
whole_part g s name class is names closed k below inside v less = same_bools (named class name k v) (is_member s name k v)
    (λ h. let both = named_is class name k v h in is_member_of s name k v (closed.left v less both.0) both.1)
    (λ h. let both = member_is s name k v h in
    let left : IsLeft g s v = (less, both.0) in
    let j = names.joined v left in
    let back : Joined g s (name v) v = joined_sym g s is v j.0 (name v) left j.1 in
    named_of class name k v (along g s class closed (name v) back.0 v (ap class both.1 ∙ inside) back.1) both.1)

-- the nodes of the class with one name are an odd part, or their number is even
one_name : (g : List (List ℕ)) (s : List ℕ) (name : ℕ → ℕ) (class : ℕ → Bool) → IsGraph g → NamesParts g s name → IsClosed g s class → (k : ℕ) → k < length g
    → OddPartIn g s name class ⊎ (is_odd (count (length g) (named class name k)) ≡ false)
one_name g s name class is names closed k less = by (cases_Bool (named class name k k)) (cases_Bool (is_odd (count (length g) (named class name k))))
  where
    none : named class name k k ≡ false → (v : ℕ) → v < length g → (named class name k v ≡ true) ⊎ (named class name k v ≡ false) → named class name k v ≡ false
    none not_name v below (inr h) = h
    none not_name v below (inl h) = let both = name_inside g s name class is names closed k v below h in absurd (false≢true (sym not_name ∙ named_of class name k k both.0 both.1))

    by : (named class name k k ≡ true) ⊎ (named class name k k ≡ false) → (is_odd (count (length g) (named class name k)) ≡ true) ⊎ (is_odd (count (length g) (named class name k)) ≡ false)
        → OddPartIn g s name class ⊎ (is_odd (count (length g) (named class name k)) ≡ false)
    by (inr not_name) size = inr (ap is_odd (count_none (length g) (named class name k) (λ v below. none not_name v below (cases_Bool (named class name k v)))))
    by (inl a_name) (inr even) = inr even
    by (inl a_name) (inl odd) =
        let both = named_is class name k k a_name in
        let all = whole_part g s name class is names closed k less both.0 in
        inl (record {
          node = k;
          below = less;
          inside = both.0;
          odd = and_from (is_member s name k k) (is_odd (part_size g s name k)) (is_member_of s name k k (closed.left k less both.0) both.1)
              (ap is_odd (sym (count_same (length g) (named class name k) (is_member s name k) all)) ∙ odd);
        })

names_below : (g : List (List ℕ)) (s : List ℕ) (name : ℕ → ℕ) (class : ℕ → Bool) → IsGraph g → NamesParts g s name → IsClosed g s class → (k : ℕ) → k ≤ length g
    → OddPartIn g s name class ⊎ (is_odd (count (length g) (named_below class name k)) ≡ false)
names_below g s name class is names closed zero le = inr (ap is_odd (count_none (length g) (named_below class name 0) (λ v less. never (class v) (name v))))
  where
    never : (c : Bool) (a : ℕ) → (c && nat_lt a 0) ≡ false
    never c a = let x : nat_lt a 0 ≡ false = grind (arith, nat_tests) in by c (nat_lt a 0) x
      where
        by : (c b : Bool) → b ≡ false → (c && b) ≡ false
        by true b h = h
        by false b h = refl
names_below g s name class is names closed (suc k) le =
    both (names_below g s name class is names closed k (omega arith)) (one_name g s name class is names closed k (omega arith))
  where
    both : OddPartIn g s name class ⊎ (is_odd (count (length g) (named_below class name k)) ≡ false) → OddPartIn g s name class ⊎ (is_odd (count (length g) (named class name k)) ≡ false)
        → OddPartIn g s name class ⊎ (is_odd (count (length g) (named_below class name (suc k))) ≡ false)
    both (inl found) other = inl found
    both (inr even) (inl found) = inl found
    both (inr even) (inr even') = inr (ap is_odd (count_add (length g) (named_below class name (suc k)) (named_below class name k) (named class name k) (λ v less. splits (class v) (name v) k))
        ∙ odd_sum (count (length g) (named_below class name k)) (count (length g) (named class name k)) even' ∙ even)

pub odd_part_in : (g : List (List ℕ)) (s : List ℕ) (name : ℕ → ℕ) (class : ℕ → Bool) → IsGraph g → NamesParts g s name → IsClosed g s class → is_odd (count (length g) class) ≡ true → OddPartIn g s name class
odd_part_in g s name class is names closed odd = by (names_below g s name class is names closed (length g) (omega arith))
  where
    passes : (c : Bool) (v : ℕ) → ((c ≡ true) → name v < length g) → (c && nat_lt (name v) (length g)) ≡ c
    passes true v below = let h = below refl in let x : nat_lt (name v) (length g) ≡ true = grind (arith, nat_tests) in x
    passes false v below = refl

    all : count (length g) (named_below class name (length g)) ≡ count (length g) class
    all = count_same (length g) (named_below class name (length g)) class (λ v less. passes (class v) v (λ inside. (name_left g s name names v (less, closed.left v less inside)).0))

    by : OddPartIn g s name class ⊎ (is_odd (count (length g) (named_below class name (length g))) ≡ false) → OddPartIn g s name class
    by (inl found) = found
    by (inr even) = absurd (false≢true (sym even ∙ ap is_odd all ∙ odd))

-- Where each number that passes p is the image of one that passes q, no more pass p than q.
pub covered_count : (m : ℕ) (q : ℕ → Bool) (image : ℕ → ℕ) (n : ℕ) (p : ℕ → Bool) → ((i : ℕ) → i < n → p i ≡ true → (x : ℕ) × (x < m) × (q x ≡ true) × (image x ≡ i)) → count n p ≤ count m q
covered_count zero q image n p from = let h : count n p ≡ 0 = count_none n p (λ i less. by i less (cases_Bool (p i))) in omega arith
  where
    by : (i : ℕ) → i < n → (p i ≡ true) ⊎ (p i ≡ false) → p i ≡ false
    by i less (inr h) = h
    by i less (inl h) = let (x, below, passes, is) = from i less h in absurd (omega arith)
covered_count (suc m) q image n p from = elim (cases_Bool (q m)) [
  | inl passes ↦
      let h = covered_count m q image n (but p (image m)) (λ i less b. let both = but_is p (image m) i b in let (x, below, pass, is) = from i less both.0 in
      elim (cases_eq x m) [
        | inl same ↦ absurd (both.1 (sym is ∙ ap image same))
        | inr other ↦ (x, omega arith, pass, is)
      ]) in
      let k = count_but_le n p (image m) in
      let e : one_if (q m) ≡ 1 = ap one_if passes in omega arith
  | inr fails ↦
      let h = covered_count m q image n p (λ i less b. let (x, below, pass, is) = from i less b in
      elim (cases_eq x m) [
        | inl same ↦ absurd (false≢true (sym fails ∙ ap q (sym same) ∙ pass))
        | inr other ↦ (x, omega arith, pass, is)
      ]) in omega arith
]
