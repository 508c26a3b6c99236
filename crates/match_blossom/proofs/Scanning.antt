-- Looking at edges, and a tree all of whose edges have been looked at.
use Rattle.std.proofs.Common.{◌≡◌, ◌≢◌, ℕ, zero, suc, ◌+◌, ◌<◌, ◌≤◌, List, [], ◌∷◌, ◌++◌, length, get_or, set, take, replicate, Bool, true, false, refl, ap, sym, ◌∙◌, inl, inr, arith, subst}
use Rattle.std.specs.Prelude.{◌⊎◌}
use Rattle.std.specs.Bool.{MatchBool}
use Rattle.std.proofs.lemmas.Bool.{cases_eq, false≢true, false_from_ne_true}
use Rattle.std.proofs.lemmas.List.{length_push, length-take-le, get_or-take, take_more_set, length-replicate}
use Rattle.match_barrier.specs.Graph.{has, adjacent, IsGraph}
use Rattle.match_barrier.specs.Barrier.{count, one_if}
use Rattle.match_barrier.proofs.Counting.{count_same}
use Rattle.match_barrier.proofs.Edges.{has_at, has_push_new, has_push_old, has_push_cases, no_repeats_push, same_bools}
use Rattle.match_barrier.proofs.Naming.{count_more, place_of}
use Rattle.match_barrier.proofs.Tutte.{no_perfect}
use Rattle.match_barrier.specs.Matching.{IsPerfect}
use Rattle.match_blossom.specs.declared.tree.AlternatingTree.{AlternatingTree}
use Rattle.match_blossom.specs.declared.tree.Label.{Label}
use Rattle.match_blossom.specs.declared.tree.Label.TheVariants.{Outside}
use Rattle.match_blossom.specs.Labels.{at, is_outer, is_inner, says_inner}
use Rattle.match_blossom.specs.Foldings.{IsMatchingBut, Augmented}
use Rattle.match_blossom.specs.Search.{Stuck}
use Rattle.match_blossom.specs.Forest.{IsForest, IsScanned, IsSettled, IsStep, GoesOn, KeepsLengths, IsTouched, StandsIn, base_in}
use Rattle.match_blossom.specs.Inner.{ListsInner}
use Rattle.match_blossom.specs.Answer.{IsBarrierSet}
use Rattle.match_blossom.proofs.Ending.{stuck_of_tree}
use Rattle.match_blossom.proofs.Failure.{stuck_has_barrier}

pub lengths_refl : (f : AlternatingTree) → KeepsLengths f f
lengths_refl f = record { labels = refl; parent = refl; base = refl; cycle_base = refl; order = refl; touched = refl; queue = refl; nodes = refl; sizes = refl }

pub lengths_trans : (a b c : AlternatingTree) → KeepsLengths a b → KeepsLengths b c → KeepsLengths a c
lengths_trans a b c p q = record {
  labels = q.labels ∙ p.labels;
  parent = q.parent ∙ p.parent;
  base = q.base ∙ p.base;
  cycle_base = q.cycle_base ∙ p.cycle_base;
  order = q.order ∙ p.order;
  touched = q.touched ∙ p.touched;
  queue = q.queue ∙ p.queue;
  nodes = q.nodes ∙ p.nodes;
  sizes = q.sizes ∙ p.sizes;
}

pub goes_on_refl : (g : List (List ℕ)) (f : AlternatingTree) → GoesOn g f f
goes_on_refl g f = record { root = refl; lengths = lengths_refl f; queue = λ k less. refl; queued = omega arith; one = λ u v bu bv e. e; inner = λ v bv i. inl i }

-- what stands in the queue goes on standing there
stands_on : (g : List (List ℕ)) (old new : AlternatingTree) (from less u : ℕ) → GoesOn g old new → less ≤ from → StandsIn old.queue.items from old.queued u → StandsIn new.queue.items less new.queued u
stands_on g old new from less u go le s = let s1 = s.1 in let s2 = s.2 in let more = go.queued in (s.0, omega arith, omega arith, go.queue s.0 s.2 ∙ s.3)

pub goes_on_trans : (g : List (List ℕ)) (a b c : AlternatingTree) → GoesOn g a b → GoesOn g b c → GoesOn g a c
goes_on_trans g a b c p q = record {
  root = q.root ∙ p.root;
  lengths = lengths_trans a b c p.lengths q.lengths;
  queue = λ k less. let more = p.queued in q.queue k (omega arith) ∙ p.queue k less;
  queued = let m = p.queued in let n = q.queued in omega arith;
  one = λ u v bu bv e. q.one u v bu bv (p.one u v bu bv e);
  inner = λ v bv i. elim (p.inner v bv i) [
    | inl still ↦ elim (q.inner v bv still) [
      | inl i' ↦ inl i'
      | inr s ↦ let s1 = s.1 in let m = p.queued in inr (s.0, omega arith, s.2, s.3)
    ]
    | inr s ↦ let s1 = s.1 in let s2 = s.2 in let n = q.queued in inr (s.0, s.1, omega arith, q.queue s.0 s.2 ∙ s.3)
  ];
}

pub settled_on : (g : List (List ℕ)) (old new : AlternatingTree) (head u v : ℕ) → GoesOn g old new → head ≤ old.queued → u < length g → v < length g → IsSettled old head u v → IsSettled new head u v
settled_on g old new head u v go le bu bv s = elim s [
  | inl same ↦ inl (go.one v u bv bu same)
  | inr (inl inner) ↦ elim (go.inner v bv inner) [
    | inl i ↦ inr (inl i)
    | inr w ↦ let w1 = w.1 in inr (inr (inl (w.0, omega arith, w.2, w.3)))
  ]
  | inr (inr (inl w)) ↦ inr (inr (inl (stands_on g old new head head v go (omega arith) w)))
  | inr (inr (inr w)) ↦ inr (inr (inr (stands_on g old new head head u go (omega arith) w)))
]

pub scanned_on : (g : List (List ℕ)) (mates : List ℕ) (old new : AlternatingTree) (head : ℕ) → IsGraph g → IsForest g mates old → GoesOn g old new → head ≤ old.queued → IsScanned g old head → IsScanned g new head
scanned_on g mates old new head is s go le scanned k less v edge =
    let same : at new.queue.items k ≡ at old.queue.items k = go.queue k (omega arith) in
    let edge' : adjacent g (at old.queue.items k) v ≡ true = ap (λ (x : ℕ). adjacent g x v) (sym same) ∙ edge in
    subst (λ (x : ℕ). IsSettled new head x v) (sym same) (settled_on g old new head (at old.queue.items k) v go le (s.queue.below k (omega arith)) (is.in_range (at old.queue.items k) v edge') (scanned k less v edge'))

-- All edges of one more node of the queue have been settled.
pub scanned_more : (g : List (List ℕ)) (mates : List ℕ) (f : AlternatingTree) (head u : ℕ) → IsGraph g → IsForest g mates f → head < f.queued → u ≡ at f.queue.items head → IsScanned g f head
    → ((v : ℕ) → adjacent g u v ≡ true → IsSettled f (head + 1) u v) → IsScanned g f (head + 1)
scanned_more g mates f head u is s less here scanned seen k within v edge = elim (cases_eq k head) [
  | inl e ↦
      let z : at f.queue.items k ≡ u = ap (at f.queue.items) e ∙ sym here in
      subst (λ (x : ℕ). IsSettled f (head + 1) x v) (sym z) (seen v (ap (λ (x : ℕ). adjacent g x v) (sym z) ∙ edge))
  | inr ne ↦ elim (scanned k (omega arith) v edge) [
    | inl same ↦ inl same
    | inr (inl inner) ↦ inr (inl inner)
    | inr (inr (inl w)) ↦ elim (cases_eq w.0 head) [
      | inl e ↦
          let v_is : v ≡ u = sym w.3 ∙ ap (at f.queue.items) e ∙ sym here in
          let back : adjacent g u (at f.queue.items k) ≡ true = ap (λ (x : ℕ). adjacent g x (at f.queue.items k)) (sym v_is) ∙ is.symmetric v (at f.queue.items k) ∙ edge in
          subst (λ (x : ℕ). IsSettled f (head + 1) (at f.queue.items k) x) (sym v_is) (turned u (at f.queue.items k) (s.queue.outer k (omega arith)) (seen (at f.queue.items k) back))
      | inr other ↦ let w1 = w.1 in inr (inr (inl (w.0, omega arith, w.2, w.3)))
    ]
    | inr (inr (inr w)) ↦ elim (cases_eq w.0 head) [
      | inl e ↦
          let z : at f.queue.items k ≡ u = sym w.3 ∙ ap (at f.queue.items) e ∙ sym here in
          subst (λ (x : ℕ). IsSettled f (head + 1) x v) (sym z) (seen v (ap (λ (x : ℕ). adjacent g x v) (sym z) ∙ edge))
      | inr other ↦ let w1 = w.1 in inr (inr (inr (w.0, omega arith, w.2, w.3)))
    ]
  ]
]
  where
    turned : (x z : ℕ) → is_outer f.labels.items (base_in f z) ≡ true → IsSettled f (head + 1) x z → IsSettled f (head + 1) z x
    turned x z outer h = elim h [
      | inl same ↦ inl (sym same)
      | inr (inl inner) ↦ absurd (false≢true (sym (s.search.tree.not_both (base_in f z) outer) ∙ inner))
      | inr (inr (inl w)) ↦ inr (inr (inr w))
      | inr (inr (inr w)) ↦ inr (inr (inl w))
    ]

pub step_settles : (g : List (List ℕ)) (mates : List ℕ) (old new : AlternatingTree) (head u v : ℕ) → IsStep g mates old new u v → IsSettled new head u v
step_settles g mates old new head u v s = elim s.closed [ inl same ↦ inl same | inr inner ↦ inr (inl inner) ]

-- An edge that needs no step.
pub no_step : (g : List (List ℕ)) (mates : List ℕ) (f : AlternatingTree) (u v : ℕ) → IsForest g mates f → (base_in f v ≡ base_in f u) ⊎ (is_inner f.labels.items (base_in f v) ≡ true) → IsStep g mates f f u v
no_step g mates f u v s closed = record { forest = s; goes_on = goes_on_refl g f; closed = closed }

-- Pointers that have been released need no more to be cleared.
pub touched_released : (labels : List Label) (base base' touched : List ℕ) (now : ℕ) → IsTouched labels base touched now → ((u : ℕ) → (at base' u ≡ at base u) ⊎ (at base' u ≡ u)) → length base' ≡ length base → IsTouched labels base' touched now
touched_released labels base base' touched now t new long = record {
  below = λ k less. let b = t.below k less in let b1 = b.1 in (b.0, omega arith);
  labelled = t.labelled;
  pointed = λ u less. elim (new u) [
    | inl same ↦ elim (t.pointed u (omega arith)) [ inl own ↦ inl (same ∙ own) | inr s ↦ inr s ]
    | inr own ↦ inl own
  ];
}

-- the edges of a row
pub row_settled : (f : AlternatingTree) (row : List ℕ) (head u : ℕ) → ((k : ℕ) → k < length row → IsSettled f head u (get_or row k 0)) → (v : ℕ) → has row v ≡ true → IsSettled f head u v
row_settled f row head u seen v h = let (k, less, is) = place_of row v h in subst (λ (x : ℕ). IsSettled f head u x) is (seen k less)

-- The inner nodes of a tree whose edges have all been looked at are a barrier.
pub scanned_barrier : (g : List (List ℕ)) (mates : List ℕ) (f : AlternatingTree) (set : List ℕ) → IsGraph g → IsForest g mates f → IsScanned g f f.queued
    → ListsInner (take (length g) f.labels.items) (length (take (length g) f.labels.items)) set → IsBarrierSet g set
scanned_barrier g mates f set is s scanned lists =
    let part : ℕ → ℕ = base_in f in
    let outer : ℕ → Bool = is_outer f.labels.items in
    let inner : ℕ → Bool = is_inner f.labels.items in
    let long : length (take (length g) f.labels.items) ≡ length g = length-take-le (length g) f.labels.items s.search.labels_length in
    let same : (v : ℕ) → v < length g → is_inner (take (length g) f.labels.items) v ≡ inner v = λ v less. ap says_inner (get_or-take (length g) f.labels.items v Outside less) in
    let stuck : Stuck g set part outer inner = stuck_of_tree g set mates f.root part outer inner (at f.parent.items) (at f.blossoms.order.items) s.search.tree
    (λ v less. lists.members v (omega arith) ∙ same v less)
    (lists.size ∙ ap (λ (n : ℕ). count n (is_inner (take (length g) f.labels.items))) long ∙ count_same (length g) (is_inner (take (length g) f.labels.items)) inner same)
    (λ u v edge from_outer. closed u v edge from_outer) in
    let barrier = stuck_has_barrier g set part outer inner is stuck in
    record {
      different = lists.different;
      in_range = λ k d less. let h = lists.below (get_or set k d) (has_at set k d less) in omega arith;
      odd = barrier.0;
      barrier = barrier.1;
    }
  where
    closed : (u v : ℕ) → adjacent g u v ≡ true → is_outer f.labels.items (base_in f u) ≡ true → (base_in f v ≡ base_in f u) ⊎ (is_inner f.labels.items (base_in f v) ≡ true)
    closed u v edge outer =
        let q = s.queue.each u (is.in_range v u (is.symmetric v u ∙ edge)) outer in
        elim (scanned q.0 q.2 v (ap (λ (x : ℕ). adjacent g x v) q.3 ∙ edge)) [
          | inl same ↦ inl (same ∙ ap (base_in f) q.3)
          | inr (inl inner) ↦ inr inner
          | inr (inr (inl w)) ↦ let w1 = w.1 in let w2 = w.2 in absurd (omega arith)
          | inr (inr (inr w)) ↦ let w1 = w.1 in let w2 = w.2 in absurd (omega arith)
        ]

-- One more node has been looked at.
pub inner_none : (labels : List Label) → ListsInner labels 0 []
inner_none labels = record { members = λ v less. absurd (omega arith); below = λ v h. absurd (false≢true h); size = refl; different = tt }

pub inner_more : (labels : List Label) (n : ℕ) (set : List ℕ) → ListsInner labels n set → is_inner labels n ≡ true → ListsInner labels (n + 1) (set ++ n ∷ [])
inner_more labels n set lists inner = record {
  members = λ v less. elim (cases_eq v n) [
    | inl e ↦ has_push_new set n v (sym e) ∙ sym (ap (is_inner labels) e ∙ inner)
    | inr ne ↦ same_bools (has (set ++ n ∷ []) v) (is_inner labels v)
        (λ h. elim (has_push_cases set n v h) [ inl old ↦ sym (lists.members v (omega arith)) ∙ old | inr new ↦ absurd (ne (sym new)) ])
        (λ h. has_push_old set n v (lists.members v (omega arith) ∙ h))
  ];
  below = λ v h. elim (has_push_cases set n v h) [ inl old ↦ let k = lists.below v old in omega arith | inr new ↦ omega arith ];
  size = let a = length_push set n in let b = count_more n (is_inner labels) in let k : one_if (is_inner labels n) ≡ 1 = ap one_if inner in let s = lists.size in omega arith;
  different = no_repeats_push set n lists.different (false_from_ne_true (has set n) (λ h. let k = lists.below n h in omega arith));
}

pub inner_skip : (labels : List Label) (n : ℕ) (set : List ℕ) → ListsInner labels n set → is_inner labels n ≡ false → ListsInner labels (n + 1) set
inner_skip labels n set lists inner = record {
  members = λ v less. elim (cases_eq v n) [
    | inl e ↦ false_from_ne_true (has set v) (λ h. let k = lists.below v h in omega arith) ∙ sym (ap (is_inner labels) e ∙ inner)
    | inr ne ↦ lists.members v (omega arith)
  ];
  below = λ v h. let k = lists.below v h in omega arith;
  size = let b = count_more n (is_inner labels) in let k : one_if (is_inner labels n) ≡ 0 = ap one_if inner in let s = lists.size in omega arith;
  different = lists.different;
}

-- At the beginning everybody is free.
pub all_free : (g : List (List ℕ)) (n : ℕ) (mates : List ℕ) → n ≡ length g → mates ≡ replicate n n → IsMatchingBut g (λ u. u) mates []
all_free g n mates count is = record {
  each_node = ap (λ (xs : List ℕ). length xs) is ∙ length-replicate n n ∙ count;
  mate = λ v living out not_free. absurd (not_free (ap (λ (xs : List ℕ). get_or xs v 0) is ∙ at_replicate n n v (let a = living.0 in omega arith) ∙ count));
}
  where
    at_replicate : (k x v : ℕ) → v < k → get_or {A = ℕ} (replicate k x) v 0 ≡ x
    at_replicate zero x v less = absurd (omega arith)
    at_replicate (suc k) x zero less = refl
    at_replicate (suc k) x (suc v) less = at_replicate k x v (omega arith)

pub inner_written : (labels : List Label) (n size : ℕ) (set' : List ℕ) → ListsInner labels n (take size set') → is_inner labels n ≡ true → size < length set' → ListsInner labels (n + 1) (take (size + 1) (set set' size n))
inner_written labels n size set' lists inner less =
    subst (λ (xs : List ℕ). ListsInner labels (n + 1) xs) (sym (take_more_set set' size n less)) (inner_more labels n (take size set') lists inner)

-- A barrier set leaves no perfect matching.
pub barrier_none : (g : List (List ℕ)) (set mates : List ℕ) → IsGraph g → IsBarrierSet g set → IsPerfect g mates → ⊥
barrier_none g set mates is b perfect = no_perfect g set b.odd mates is b.barrier perfect

pub match_true : (b : Bool) (P Q : Type 0) → MatchBool b P Q → b ≡ true → P
match_true true P Q h e = h
match_true false P Q h e = absurd (false≢true e)

pub match_false : (b : Bool) (P Q : Type 0) → MatchBool b P Q → b ≡ false → Q
match_false true P Q h e = absurd (false≢true (sym e))
match_false false P Q h e = h

pub at_default : (xs : List ℕ) (i d e : ℕ) → i < length xs → get_or xs i d ≡ get_or xs i e
at_default [] i d e less = absurd (omega arith)
at_default (x ∷ xs) zero d e less = refl
at_default (x ∷ xs) (suc i) d e less = at_default xs i d e (omega arith)

-- The nodes up to root are mated.
pub mated_more : (g : List (List ℕ)) (old new : List ℕ) (root : ℕ) → Augmented g old new root → root < length g → ((v : ℕ) → v < root → get_or old v 0 ≢ length g) → (v : ℕ) → v < root + 1 → get_or new v 0 ≢ length g
mated_more g old new root a below mated v less free =
    let b = a.free v (omega arith) free in
    elim (cases_eq v root) [ inl e ↦ b.0 e | inr ne ↦ mated v (omega arith) b.1 ]

pub mated_skip : (g : List (List ℕ)) (mates : List ℕ) (root : ℕ) → get_or mates root 0 ≢ length g → ((v : ℕ) → v < root → get_or mates v 0 ≢ length g) → (v : ℕ) → v < root + 1 → get_or mates v 0 ≢ length g
mated_skip g mates root own mated v less free = elim (cases_eq v root) [
  | inl e ↦ own (ap (λ (x : ℕ). get_or mates x 0) (sym e) ∙ free)
  | inr ne ↦ mated v (omega arith) free
]
