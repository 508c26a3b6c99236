-- A barrier excludes a perfect matching.
use Rattle.std.proofs.Common.{◌≡◌, ℕ, ◌≤◌, ◌<◌, List, length, get_or, Bool, true, false, refl, ap, sym, ◌∙◌, inl, inr, arith, subst}
use Rattle.std.specs.Prelude.{◌==◌, not, ◌&&◌}
use Rattle.std.proofs.lemmas.Bool.{false≢true, eqb-true, cases_Bool, and_parts, and_from, not_from_false}
use Rattle.match_barrier.specs.Graph.{has, adjacent, IsGraph}
use Rattle.match_barrier.specs.Matching.{IsPerfect}
use Rattle.match_barrier.specs.Barrier.{NamesParts, count, is_odd, is_member, names_odd_part, OddParts, IsBarrier}
use Rattle.match_barrier.proofs.Counting.{not_true_is, test_same, covered, count_same, search_below, paired_even}
use Rattle.match_barrier.proofs.Walks.{joined_step, same_name, one_naming}

pub member_is : (s : List ℕ) (name : ℕ → ℕ) (r v : ℕ) → is_member s name r v ≡ true → (has s v ≡ false) × (name v ≡ r)
member_is s name r v h = let both = and_parts (not (has s v)) (name v == r) h in (not_true_is (has s v) both.0, eqb-true (name v) r both.1)

pub is_member_of : (s : List ℕ) (name : ℕ → ℕ) (r v : ℕ) → has s v ≡ false → name v ≡ r → is_member s name r v ≡ true
is_member_of s name r v out is = and_from (not (has s v)) (name v == r) (not_from_false (has s v) out) (test_same (name v) r is)

odd_leaves : (g : List (List ℕ)) (s : List ℕ) (name : ℕ → ℕ) (mates : List ℕ) → IsGraph g → NamesParts g s name → IsPerfect g mates
    → (r : ℕ) → names_odd_part g s name r ≡ true → (v : ℕ) × (v < length g) × (is_member s name r v ≡ true) × (has s (get_or mates v 0) ≡ true)
odd_leaves g s name mates is names perfect r odd =
    let n : ℕ = length g in
    let mate : ℕ → ℕ = λ v. get_or mates v 0 in
    let p : ℕ → Bool = is_member s name r in
    elim (search_below n (λ v. p v && has s (mate v))) [
      | inl found ↦ let both = and_parts (p found.0) (has s (mate found.0)) found.2 in (found.0, found.1, both.0, both.1)
      | inr none ↦ absurd (false≢true (sym (paired_even n p mate (record {
        below = λ v less holds. is.in_range v (mate v) (perfect.neighbour v less);
        passes = λ v less holds. stays v less holds (none v less);
        another = λ v less holds. λ e. false≢true (sym (is.loop_free v) ∙ subst (λ (x : ℕ). adjacent g v x ≡ true) e (perfect.neighbour v less));
        back = λ v less holds. perfect.back v less;
      })) ∙ (and_parts (p r) (is_odd (count n p)) odd).1))
    ]
  where
    and_false : (a b : Bool) → a ≡ true → (a && b) ≡ false → b ≡ false
    and_false true b h k = k
    and_false false b h k = absurd (false≢true h)

    stays : (v : ℕ) → v < length g → is_member s name r v ≡ true → (is_member s name r v && has s (get_or mates v 0)) ≡ false → is_member s name r (get_or mates v 0) ≡ true
    stays v less holds no' =
        let w : ℕ = get_or mates v 0 in
        let m = member_is s name r v holds in
        let out : has s w ≡ false = and_false (is_member s name r v) (has s w) holds no' in
        let edge : adjacent g v w ≡ true = perfect.neighbour v less in
        let below : w < length g = is.in_range v w edge in
        is_member_of s name r w out (sym (same_name g s name is names v w (less, m.0) (joined_step g s v w edge (below, out))) ∙ m.1)

-- There are no more odd parts than nodes that were taken away.
pub odd_parts_le : (g : List (List ℕ)) (s : List ℕ) (mates : List ℕ) (odd : ℕ) → IsGraph g → IsPerfect g mates → OddParts g s odd → odd ≤ length s
odd_parts_le g s mates odd is perfect parts =
    let (name, names, counted) = parts in
    let c : count (length g) (names_odd_part g s name) ≤ length s =
    covered s (λ x. name (get_or mates x 0)) (length g) (names_odd_part g s name) (λ r less odd'.
    let (v, below, member, taken) = odd_leaves g s name mates is names perfect r odd' in
    (get_or mates v 0, taken, ap name (perfect.back v below) ∙ (member_is s name r v member).1)) in
    omega arith

pub no_perfect : (g : List (List ℕ)) (s : List ℕ) (odd : ℕ) (mates : List ℕ) → IsGraph g → IsBarrier g s odd → IsPerfect g mates → ⊥
no_perfect g s odd mates is barrier perfect = let h = odd_parts_le g s mates odd is perfect barrier.0 in let k = barrier.1 in omega arith

-- The number of odd parts is one number.
pub one_number : (g : List (List ℕ)) (s : List ℕ) (odd odd' : ℕ) → OddParts g s odd → OddParts g s odd' → odd ≡ odd'
one_number g s odd odd' parts parts' =
    let (name, names, counted) = parts in
    let (name', names', counted') = parts' in
    counted ∙ count_same (length g) (names_odd_part g s name) (names_odd_part g s name') (λ r less.
    ap2 (member_same g s name name' names names' r r less)
    (count_same (length g) (is_member s name r) (is_member s name' r) (λ v below. member_same g s name name' names names' r v below))) ∙ sym counted'
  where
    ap2 : {a a' : Bool} {m m' : ℕ} → a ≡ a' → m ≡ m' → (a && is_odd m) ≡ (a' && is_odd m')
    ap2 h k = rw (h, k) refl

    member_same : (g : List (List ℕ)) (s : List ℕ) (name name' : ℕ → ℕ) → NamesParts g s name → NamesParts g s name' → (r v : ℕ) → v < length g → is_member s name r v ≡ is_member s name' r v
    member_same g s name name' names names' r v below = elim (cases_Bool (has s v)) [
      | inl holds ↦ rw (holds) refl
      | inr out ↦ ap (λ (x : ℕ). not (has s v) && (x == r)) (one_naming g s name name' names names' v (below, out))
    ]

pub no_barrier : (g : List (List ℕ)) (s : List ℕ) (odd : ℕ) → OddParts g s odd → odd ≤ length s → (other : ℕ) → IsBarrier g s other → ⊥
no_barrier g s odd parts few other barrier = let e = one_number g s odd other parts barrier.0 in let b = barrier.1 in omega arith
