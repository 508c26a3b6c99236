-- Labels that name the parts, and that there are such labels for each graph and set.
use Rattle.std.proofs.Common.{◌≡◌, ℕ, zero, suc, ◌+◌, ◌≤◌, ◌<◌, List, [], ◌∷◌, ◌++◌, length, get_or, set, take, Bool, true, false, refl, ap, sym, ◌∙◌, inl, inr, arith, subst, add-one}
use Rattle.std.specs.Prelude.{cond, nat_lt, ◌==◌, not, ◌&&◌, ◌||◌}
use Rattle.std.specs.List.{sum, list_any}
use Rattle.std.proofs.lemmas.Bool.Decides.{nat_tests}
use Rattle.std.proofs.lemmas.Bool.{cases_eq, false≢true, cases_Bool, and_parts, false_from_ne_true}
use Rattle.std.proofs.lemmas.List.{get_or-set_same, get_or-set_other, length-set, length_push, get_or_push, get_or_append_left}
use Rattle.std.proofs.lemmas.List.Sums.{sum_by-set}
use Rattle.std.proofs.lemmas.List.Folds.{list_any_more, list_any_at}
use Rattle.match_barrier.specs.Graph.{has, neighbours_of, adjacent, IsGraph}
use Rattle.match_barrier.specs.Barrier.{IsLeft, Joined, NamesParts, OddParts, one_if, count, is_odd, is_member, names_odd_part}
use Rattle.match_barrier.specs.Labels.{Labels, IsSettled, size_of_label, is_odd_label}
use Rattle.match_barrier.proofs.Counting.{test_same, test_other, has_cases, count_same, one_if_le, search_below}
use Rattle.match_barrier.proofs.Walks.{joined_self, joined_trans, joined_step, names_of_labels}
use Rattle.match_barrier.proofs.Edges.{has_front, has_rest}

pub count_more : (n : ℕ) (p : ℕ → Bool) → count (n + 1) p ≡ count n p + one_if (p n)
count_more n p = rw add-one refl

pub count_le : (n : ℕ) (p : ℕ → Bool) → count n p ≤ n
count_le zero p = omega arith
count_le (suc n) p = let h = count_le n p in let k = one_if_le (p n) in omega arith

-- where a member of a list stands
pub place_of : (xs : List ℕ) (x : ℕ) → has xs x ≡ true → (k : ℕ) × (k < length xs) × (get_or xs k 0 ≡ x)
place_of [] x h = absurd (false≢true h)
place_of (y ∷ xs) x h = elim (has_cases y xs x h) [
  | inl same ↦ (zero, omega arith, same)
  | inr rest ↦ let (k, less, is) = place_of xs x rest in (suc k, omega arith, is)
]

-- The first labels.
abbrev pub first_label : ℕ → List ℕ → ℕ → ℕ
first_label n taken v = cond (has taken v) n v

pub first_label_more : (n m : ℕ) (xs : List ℕ) (i x : ℕ) (labels : List ℕ) → m ≡ n → i < length xs → x ≡ get_or xs i 0 → x < n → length labels ≡ n
    → ((v : ℕ) → v < n → get_or labels v 0 ≡ first_label n (take i xs) v) → (v : ℕ) → v < n → get_or (set labels x m) v 0 ≡ first_label n (take (i + 1) xs) v
first_label_more n m xs i x labels given within is fits long was v less = elim (cases_eq v x) [
  | inl same ↦
      let here : has (take (i + 1) xs) v ≡ true = list_any_more (λ y. y == v) xs i 0 within ∙ ap (λ (b : Bool). has (take i xs) v || b) (test_same (get_or xs i 0) v (sym is ∙ sym same)) ∙ or_true (has (take i xs) v) in
      ap (λ (w : ℕ). get_or (set labels x m) w 0) same ∙ get_or-set_same labels x m 0 (omega arith) ∙ given ∙ sym (ap (λ (b : Bool). cond b n v) here)
  | inr other ↦
      let there : has (take (i + 1) xs) v ≡ has (take i xs) v = list_any_more (λ y. y == v) xs i 0 within ∙ ap (λ (b : Bool). has (take i xs) v || b) (test_other (get_or xs i 0) v (λ e. other (sym (is ∙ e)))) ∙ or_false (has (take i xs) v) in
      get_or-set_other labels x v m 0 other ∙ was v less ∙ sym (ap (λ (b : Bool). cond b n v) there)
]
  where
    or_true : (b : Bool) → (b || true) ≡ true
    or_true true = refl
    or_true false = refl

    or_false : (b : Bool) → (b || false) ≡ b
    or_false true = refl
    or_false false = refl

pub first_labels : (g : List (List ℕ)) (s : List ℕ) (labels : List ℕ) → length labels ≡ length g → ((v : ℕ) → v < length g → get_or labels v 0 ≡ first_label (length g) s v) → Labels g s labels
first_labels g s labels long is = record {
  each_node = long;
  taken = λ v less h. is v less ∙ ap (λ (b : Bool). cond b (length g) v) h;
  joined = λ v left. subst (λ (x : ℕ). Joined g s v x) (sym (own v left)) (joined_self g s v);
  below = λ v left. let e = own v left in omega arith;
}
  where
    own : (v : ℕ) → IsLeft g s v → get_or labels v 0 ≡ v
    own v left = is v left.0 ∙ ap (λ (b : Bool). cond b (length g) v) left.1

-- A lower label from a neighbour.
pub is_left_of : (g : List (List ℕ)) (s : List ℕ) (labels : List ℕ) → Labels g s labels → (v : ℕ) → v < length g → get_or labels v 0 < length g → IsLeft g s v
is_left_of g s labels l v less low = (less, false_from_ne_true (has s v) (λ h. let e = l.taken v less h in omega arith))

-- A label falls to that of a neighbour.
pub lower_label : (g : List (List ℕ)) (s : List ℕ) (labels : List ℕ) (v w : ℕ) → IsGraph g → adjacent g v w ≡ true → get_or labels w 0 < length g → get_or labels v 0 < get_or labels w 0
    → Labels g s labels → Labels g s (set labels w (get_or labels v 0))
lower_label g s labels v w is edge low lower l =
    let least : ℕ = get_or labels v 0 in
    let long = l.each_node in
    let back : adjacent g w v ≡ true = is.symmetric w v ∙ edge in
    let below = is.in_range v w edge in
    let left : IsLeft g s w = is_left_of g s labels l w below low in
    let left' : IsLeft g s v = is_left_of g s labels l v (is.in_range w v back) (omega arith) in
    let b = l.below w left in
    let joined : Joined g s w least = joined_trans g s w v least (joined_step g s w v back left') (l.joined v left') in
    let here : get_or (set labels w least) w 0 ≡ least = get_or-set_same labels w least 0 (omega arith) in
    record {
      each_node = length-set labels w least ∙ long;
      taken = λ u below h. get_or-set_other labels w u least 0 (λ e. false≢true (sym left.1 ∙ subst (λ (x : ℕ). has s x ≡ true) e h)) ∙ l.taken u below h;
      joined = λ u left''. elim (cases_eq u w) [
        | inl e ↦ subst (λ (x : ℕ). Joined g s x (get_or (set labels w least) x 0)) (sym e) (subst (λ (x : ℕ). Joined g s w x) (sym here) joined)
        | inr ne ↦ subst (λ (x : ℕ). Joined g s u x) (sym (get_or-set_other labels w u least 0 ne)) (l.joined u left'')
      ];
      below = λ u left''. elim (cases_eq u w) [
        | inl e ↦ subst (λ (x : ℕ). get_or (set labels w least) x 0 ≤ x) (sym e) (omega arith)
        | inr ne ↦ let h = get_or-set_other labels w u least 0 ne in let k = l.below u left'' in omega arith
      ];
    }

pub lower_sum : (labels : List ℕ) (v least : ℕ) → v < length labels → least < get_or labels v 0 → sum (set labels v least) < sum labels
lower_sum labels v least less lower = let h : sum (set labels v least) + get_or labels v 0 ≡ sum labels + least = sum_by-set (λ (x : ℕ). x) labels v least 0 less in omega arith

pub names_parts : (g : List (List ℕ)) (s : List ℕ) (labels : List ℕ) → IsGraph g → Labels g s labels → ((v : ℕ) → v < length g → get_or labels v 0 < length g → IsSettled g labels v) → NamesParts g s (λ v. get_or labels v 0)
names_parts g s labels is l settled = names_of_labels g s (λ v. get_or labels v 0) l.joined l.below (λ u v left left' edge.
    let a = settled u left.0 (low u left) v edge (low v left') in
    let b = settled v left'.0 (low v left') u (is.symmetric v u ∙ edge) (low u left) in omega arith)
  where
    low : (v : ℕ) → IsLeft g s v → get_or labels v 0 < length g
    low v left = let b = l.below v left in let c = left.0 in omega arith

member_of_label : (g : List (List ℕ)) (s : List ℕ) (labels : List ℕ) → Labels g s labels → (r v : ℕ) → r < length g → v < length g → (get_or labels v 0 == r) ≡ is_member s (λ v. get_or labels v 0) r v
member_of_label g s labels l r v below less = elim (cases_Bool (has s v)) [
  | inl taken ↦ test_other (get_or labels v 0) r (λ e. let t = l.taken v less taken in absurd (omega arith)) ∙ sym (ap (λ (b : Bool). not b && (get_or labels v 0 == r)) taken)
  | inr out ↦ sym (ap (λ (b : Bool). not b && (get_or labels v 0 == r)) out)
]

pub odd_parts_of : (g : List (List ℕ)) (s : List ℕ) (labels : List ℕ) (odd : ℕ) → IsGraph g → Labels g s labels → ((v : ℕ) → v < length g → get_or labels v 0 < length g → IsSettled g labels v) → odd ≡ count (length labels) (is_odd_label labels) → OddParts g s odd
odd_parts_of g s labels odd is l settled counted = (
  (λ v. get_or labels v 0),
  names_parts g s labels is l settled,
  counted ∙ ap (λ (n : ℕ). count n (is_odd_label labels)) l.each_node ∙ count_same (length g) (is_odd_label labels) (names_odd_part g s (λ v. get_or labels v 0)) (λ r less.
      both (member_of_label g s labels l r r less less)
      (ap (λ (n : ℕ). size_of_label labels n r) l.each_node ∙ count_same (length g) (λ v. get_or labels v 0 == r) (is_member s (λ v. get_or labels v 0) r) (λ v below. member_of_label g s labels l r v less below))),
)
  where
    both : {a a' : Bool} {m m' : ℕ} → a ≡ a' → m ≡ m' → (a && is_odd m) ≡ (a' && is_odd m')
    both h k = rw (h, k) refl

-- Each graph has a naming of the parts, for each set.
abbrev worse : (labels : List ℕ) → ℕ → ℕ → ℕ → Bool
worse labels n v w = nat_lt (get_or labels w 0) n && nat_lt (get_or labels v 0) (get_or labels w 0)

pub record Settled (g : List (List ℕ)) (s : List ℕ) : Type 0 where
  pub labels : List ℕ
  pub right : Labels g s labels
  pub settled : (v : ℕ) → v < length g → get_or labels v 0 < length g → IsSettled g labels v

lt_true : (a b : ℕ) → nat_lt a b ≡ true → a < b
lt_true a b h = grind (arith, nat_tests)

lt_false : (a b : ℕ) → nat_lt a b ≡ false → b ≤ a
lt_false a b h = grind (arith, nat_tests)

settle_labels : (g : List (List ℕ)) (s : List ℕ) → IsGraph g → (fuel : ℕ) (labels : List ℕ) → Labels g s labels → sum labels < fuel → Settled g s
settle_labels g s is zero labels l less = absurd (omega arith)
settle_labels g s is (suc fuel) labels l less = elim (search_below (length g) (λ v. list_any (λ w. worse labels (length g) v w) (neighbours_of g v))) [
  | inr none ↦ record {
    labels = labels;
    right = l;
    settled = λ v below low w edge low_w. elim (cases_Bool (worse labels (length g) v w)) [
      | inl bad ↦ absurd (false≢true (sym (none v below) ∙ any_of (λ x. worse labels (length g) v x) (neighbours_of g v) w edge bad))
      | inr fine ↦ lt_false (get_or labels v 0) (get_or labels w 0) (and_no (nat_lt (get_or labels w 0) (length g)) (nat_lt (get_or labels v 0) (get_or labels w 0)) (let t : nat_lt (get_or labels w 0) (length g) ≡ true = grind (arith, nat_tests) in t) fine)
    ];
  }
  | inl found ↦
      let v : ℕ = found.0 in
      let (w, edge, bad) = which (λ x. worse labels (length g) v x) (neighbours_of g v) found.2 in
      let both = and_parts (nat_lt (get_or labels w 0) (length g)) (nat_lt (get_or labels v 0) (get_or labels w 0)) bad in
      let low = lt_true (get_or labels w 0) (length g) both.0 in
      let lower = lt_true (get_or labels v 0) (get_or labels w 0) both.1 in
      let within_w : w < length labels = let long = l.each_node in let b = is.in_range v w edge in omega arith in
      let falls = lower_sum labels w (get_or labels v 0) within_w lower in
      settle_labels g s is fuel (set labels w (get_or labels v 0)) (lower_label g s labels v w is edge low lower l) (omega arith)
]
  where
    and_no : (a b : Bool) → a ≡ true → (a && b) ≡ false → b ≡ false
    and_no true b h k = k
    and_no false b h k = absurd (false≢true h)

    any_of : (test : ℕ → Bool) (xs : List ℕ) (w : ℕ) → has xs w ≡ true → test w ≡ true → list_any test xs ≡ true
    any_of test xs w h passes = let (k, within, is') = place_of xs w h in list_any_at test xs k 0 within (ap test is' ∙ passes)

    which : (test : ℕ → Bool) (xs : List ℕ) → list_any test xs ≡ true → (w : ℕ) × (has xs w ≡ true) × (test w ≡ true)
    which test [] h = absurd (false≢true h)
    which test (x ∷ xs) h = elim (cases_Bool (test x)) [
      | inl passes ↦ (x, has_front x xs x refl, passes)
      | inr fails ↦ let (w, in', passes) = which test xs (sym (ap (λ (b : Bool). b || list_any test xs) fails) ∙ h) in (w, has_rest x xs w in', passes)
    ]

-- each number is its own label, or the number of nodes
abbrev start_labels : ℕ → List ℕ → ℕ → List ℕ
start_labels n s zero = []
start_labels n s (suc k) = start_labels n s k ++ first_label n s k ∷ []

start_length : (n : ℕ) (s : List ℕ) (k : ℕ) → length (start_labels n s k) ≡ k
start_length n s zero = refl
start_length n s (suc k) = let a = length_push (start_labels n s k) (first_label n s k) in let b = start_length n s k in omega arith

start_at : (n : ℕ) (s : List ℕ) (k v : ℕ) → v < k → get_or (start_labels n s k) v 0 ≡ first_label n s v
start_at n s zero v less = absurd (omega arith)
start_at n s (suc k) v less = elim (cases_eq k v) [
  | inl e ↦ get_or_push (start_labels n s k) (first_label n s k) 0 v (start_length n s k ∙ e) ∙ ap (first_label n s) e
  | inr ne ↦ let long = start_length n s k in get_or_append_left (start_labels n s k) (first_label n s k ∷ []) 0 v (omega arith) ∙ start_at n s k v (omega arith)
]

pub some_naming : (g : List (List ℕ)) (s : List ℕ) → IsGraph g → (name : ℕ → ℕ) × NamesParts g s name
some_naming g s is =
    let begun : List ℕ = start_labels (length g) s (length g) in
    let done : Settled g s = settle_labels g s is (suc (sum begun)) begun (first_labels g s begun (start_length (length g) s (length g)) (λ v less. start_at (length g) s (length g) v less)) (omega arith) in
    ((λ v. get_or done.labels v 0), names_parts g s done.labels is done.right done.settled)

-- Each graph has a number of odd parts, for each set.
pub some_number : (g : List (List ℕ)) (s : List ℕ) → IsGraph g → (odd : ℕ) × OddParts g s odd
some_number g s is = let n = some_naming g s is in (count (length g) (names_odd_part g s n.0), (n.0, n.1, refl))
