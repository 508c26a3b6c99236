-- A perfect matching of the needing atoms gives a placement.
use Rattle.std.proofs.Common.{◌≡◌, ℕ, ◌+◌, ◌<◌, List, [], ◌∷◌, length, Bool, true, false, refl, ap, sym, ◌∙◌, inl, inr, arith, subst, get_or}
use Rattle.std.specs.Prelude.{◌==◌, ◌&&◌, if◌then◌else◌}
use Rattle.std.proofs.lemmas.Bool.{false≢true, false_from_ne_true, cases_Bool, and_parts, and_from, or_cases, or_left, or_right, eqb-true, eq-eqb}
use Rattle.mc_mol.specs.declared.parts.Bond.{Bond}
use Rattle.mc_mol.specs.Molecule.{touches, joins, are_joined}
use Rattle.mc_mol.proofs.Apart.{joins_cases, joins_from, joins_ends, touches_cases, touches_first, touches_second}
use Rattle.match_barrier.specs.Graph.{adjacent}
use Rattle.match_barrier.specs.Barrier.{one_if, count}
use Rattle.match_barrier.specs.Matching.{IsPerfect}
use Rattle.match_barrier.proofs.Edges.{same_bools}
use Rattle.smi_graph.specs.Candidates.{marked}
use Rattle.smi_mean.specs.Barriers.{marked_from}
use Rattle.smi_mean.specs.Placements.{placed_at}
use Rattle.smi_mean.specs.NeedGraphs.{AreApart, counted, node_of, atom_of, IsNeedGraph, is_edge, is_mated, mated_from}
use Rattle.smi_mean.proofs.Ranks.{rank_below, IsNth, nth_is, nth_rank}

-- A later bond between two atoms is one between the ends of a bond between them.
joined_again : (t : Bond) (bonds : List Bond) (a b : ℕ) → joins t a b ≡ true → are_joined bonds a b ≡ true → are_joined bonds t.first.0 t.second.0 ≡ true
joined_again t [] a b here later = later
joined_again t (s ∷ bonds) a b here later = elim (or_cases (joins s a b) (are_joined bonds a b) later) [
  | inl now ↦ or_left (joins s t.first.0 t.second.0) (are_joined bonds t.first.0 t.second.0) (joins_ends s t a b now here)
  | inr rest ↦ or_right (joins s t.first.0 t.second.0) (are_joined bonds t.first.0 t.second.0) (joined_again t bonds a b here rest)
]

-- what a test counts that is 'joins k and m', of bonds of which no two join one pair
none_counted : (n : ℕ) (p : Bond → Bool) (k m : ℕ) (bonds : List Bond) → AreApart n bonds → ((t : Bond) → t.first.0 < n → t.second.0 < n → p t ≡ joins t k m)
    → are_joined bonds k m ≡ false → counted p bonds ≡ 0
none_counted n p k m [] are same none = refl
none_counted n p k m (t ∷ bonds) are same none =
    let here : joins t k m ≡ false = false_from_ne_true (joins t k m) (λ h. false≢true (sym none ∙ or_left (joins t k m) (are_joined bonds k m) h)) in
    let rest : are_joined bonds k m ≡ false = false_from_ne_true (are_joined bonds k m) (λ h. false≢true (sym none ∙ or_right (joins t k m) (are_joined bonds k m) h)) in
    let first : one_if (p t) ≡ 0 = ap one_if (same t are.0 are.1 ∙ here) in
    let more = none_counted n p k m bonds are.4 same rest in omega arith

one_counted : (n : ℕ) (p : Bond → Bool) (k m : ℕ) (bonds : List Bond) → AreApart n bonds → ((t : Bond) → t.first.0 < n → t.second.0 < n → p t ≡ joins t k m)
    → are_joined bonds k m ≡ true → counted p bonds ≡ 1
one_counted n p k m [] are same some = absurd (false≢true some)
one_counted n p k m (t ∷ bonds) are same some = elim (cases_Bool (joins t k m)) [
  | inl here ↦
      let first : one_if (p t) ≡ 1 = ap one_if (same t are.0 are.1 ∙ here) in
      let once : are_joined bonds k m ≡ false = false_from_ne_true (are_joined bonds k m) (λ h. false≢true (sym are.3 ∙ joined_again t bonds k m here h)) in
      let rest = none_counted n p k m bonds are.4 same once in omega arith
  | inr other ↦
      let first : one_if (p t) ≡ 0 = ap one_if (same t are.0 are.1 ∙ other) in
      let rest = one_counted n p k m bonds are.4 same (elim (or_cases (joins t k m) (are_joined bonds k m) some) [
        | inl h ↦ absurd (false≢true (sym other ∙ h))
        | inr h ↦ h
      ]) in omega arith
]

zero_counted : (p : Bond → Bool) (bonds : List Bond) → ((t : Bond) → p t ≡ false) → counted p bonds ≡ 0
zero_counted p [] none = refl
zero_counted p (t ∷ bonds) none =
    let first : one_if (p t) ≡ 0 = ap one_if (none t) in
    let rest = zero_counted p bonds none in omega arith

-- a mated bond
pub record IsMated (needs : List Bool) (mates : List ℕ) (t : Bond) : Type 0 where
  pub first : marked needs t.first.0 ≡ true
  pub second : marked needs t.second.0 ≡ true
  pub mate : get_or mates (node_of needs t.first.0) 0 ≡ node_of needs t.second.0

mated_is : (needs : List Bool) (mates : List ℕ) (t : Bond) → is_mated needs mates t ≡ true → IsMated needs mates t
mated_is needs mates t h =
    let a = and_parts (is_edge needs t) (get_or mates (node_of needs t.first.0) 0 == node_of needs t.second.0) h in
    let b = and_parts (marked needs t.first.0) (marked needs t.second.0) a.0 in
    record { first = b.0; second = b.1; mate = eqb-true (get_or mates (node_of needs t.first.0) 0) (node_of needs t.second.0) a.1 }

is_mated_of : (needs : List Bool) (mates : List ℕ) (t : Bond) → IsMated needs mates t → is_mated needs mates t ≡ true
is_mated_of needs mates t m =
    and_from (is_edge needs t) (get_or mates (node_of needs t.first.0) 0 == node_of needs t.second.0)
    (and_from (marked needs t.first.0) (marked needs t.second.0) m.first m.second) (eq-eqb (get_or mates (node_of needs t.first.0) 0) (node_of needs t.second.0) m.mate)

needing_touched : (needs : List Bool) (mates : List ℕ) (t : Bond) (k : ℕ) → IsMated needs mates t → touches t k ≡ true → marked needs k ≡ true
needing_touched needs mates t k m here = elim (touches_cases t k here) [
  | inl e ↦ subst (λ (x : ℕ). marked needs x ≡ true) e m.first
  | inr e ↦ subst (λ (x : ℕ). marked needs x ≡ true) e m.second
]

-- the mated bonds of an atom are those that join it to its mate
mated_same : (needs : List Bool) (candidates : List Bond) (g : List (List ℕ)) (mates : List ℕ) → IsNeedGraph needs candidates g → IsPerfect g mates
    → (k : ℕ) → k < length needs → marked needs k ≡ true → (t : Bond) → t.first.0 < length needs → t.second.0 < length needs
    → (is_mated needs mates t && touches t k) ≡ joins t k (atom_of needs (get_or mates (node_of needs k) 0))
mated_same needs candidates g mates graph perfect k less needed t first_less second_less =
    same_bools (is_mated needs mates t && touches t k) (joins t k m) there back
  where
    v : ℕ
    v = node_of needs k

    w : ℕ
    w = get_or mates v 0

    m : ℕ
    m = atom_of needs w

    v_below : v < length g
    v_below = let a = rank_below (marked needs) k (length needs) less needed in let b = graph.nodes in omega arith

    w_below : w < count (length needs) (marked needs)
    w_below = let a = graph.graph.in_range v w (perfect.neighbour v v_below) in let b = graph.nodes in omega arith

    of_w : IsNth (marked needs) (length needs) w m
    of_w = nth_is (marked needs) (length needs) w w_below

    there : (is_mated needs mates t && touches t k) ≡ true → joins t k m ≡ true
    there h =
        let both = and_parts (is_mated needs mates t) (touches t k) h in
        let mated = mated_is needs mates t both.0 in
        elim (touches_cases t k both.1) [
          | inl e ↦ joins_from t k m (inl (
            e,
            sym (nth_rank (marked needs) (length needs) t.second.0 second_less mated.second)
                ∙ ap (atom_of needs) (sym mated.mate ∙ ap (λ (x : ℕ). get_or mates (node_of needs x) 0) e),
          ))
          | inr e ↦ joins_from t k m (inr (
            sym (nth_rank (marked needs) (length needs) t.first.0 first_less mated.first)
                ∙ ap (atom_of needs) (sym (perfect.back (node_of needs t.first.0) (let a = rank_below (marked needs) t.first.0 (length needs) first_less mated.first in let b = graph.nodes in omega arith))
                ∙ ap (λ (x : ℕ). get_or mates x 0) (mated.mate ∙ ap (node_of needs) e)),
            e,
          ))
        ]

    back : joins t k m ≡ true → (is_mated needs mates t && touches t k) ≡ true
    back h = elim (joins_cases t k m h) [
      | inl e ↦ and_from (is_mated needs mates t) (touches t k)
          (is_mated_of needs mates t (record {
            first = subst (λ (x : ℕ). marked needs x ≡ true) (sym e.0) needed;
            second = subst (λ (x : ℕ). marked needs x ≡ true) (sym e.1) of_w.passes;
            mate = ap (λ (x : ℕ). get_or mates (node_of needs x) 0) e.0 ∙ sym of_w.rank ∙ ap (node_of needs) (sym e.1);
          })) (touches_first t k e.0)
      | inr e ↦ and_from (is_mated needs mates t) (touches t k)
          (is_mated_of needs mates t (record {
            first = subst (λ (x : ℕ). marked needs x ≡ true) (sym e.0) of_w.passes;
            second = subst (λ (x : ℕ). marked needs x ≡ true) (sym e.1) needed;
            mate = ap (λ (x : ℕ). get_or mates (node_of needs x) 0) e.0 ∙ ap (λ (x : ℕ). get_or mates x 0) of_w.rank ∙ perfect.back v v_below ∙ ap (node_of needs) (sym e.1);
          })) (touches_second t k e.1)
    ]

-- the placed bonds of an atom are the mated ones among the candidates
mated_counted : (needs : List Bool) (mates : List ℕ) (candidates : List Bool) (k j : ℕ) (bonds : List Bond)
    → placed_at bonds (mated_from needs mates candidates j bonds) k ≡ counted (λ t. is_mated needs mates t && touches t k) (marked_from candidates j bonds)
mated_counted needs mates candidates k j [] = refl
mated_counted needs mates candidates k j (b ∷ bonds) = by_mark (marked candidates j) (is_mated needs mates b) (touches b k) (mated_counted needs mates candidates k (j + 1) bonds)
  where
    zero : (n m : ℕ) → n ≡ m → 0 + n ≡ m
    zero n m e = omega arith

    one : (t : Bool) (n m : ℕ) → n ≡ m → (if t then 1 else 0) + n ≡ one_if t + m
    one true n m e = omega arith
    one false n m e = omega arith

    by_mark : (t mated here : Bool) → placed_at bonds (mated_from needs mates candidates (j + 1) bonds) k ≡ counted (λ t. is_mated needs mates t && touches t k) (marked_from candidates (j + 1) bonds)
        → (if (t && is_mated needs mates b) && touches b k then 1 else 0) + placed_at bonds (mated_from needs mates candidates (j + 1) bonds) k
        ≡ counted (λ t. is_mated needs mates t && touches t k) (if t then b ∷ marked_from candidates (j + 1) bonds else marked_from candidates (j + 1) bonds)
    by_mark true mated here rest = one (is_mated needs mates b && touches b k) _ _ rest
    by_mark false mated here rest = zero _ _ rest

-- In a perfect matching each needing atom lies on one mated candidate, and no other atom on any.
pub mated_once : (needs : List Bool) (candidates : List Bool) (bonds : List Bond) (g : List (List ℕ)) (mates : List ℕ) → AreApart (length needs) (marked_from candidates 0 bonds)
    → IsNeedGraph needs (marked_from candidates 0 bonds) g → IsPerfect g mates
    → (k : ℕ) → k < length needs → placed_at bonds (mated_from needs mates candidates 0 bonds) k ≡ (if marked needs k then 1 else 0)
mated_once needs candidates bonds g mates are graph perfect k less = mated_counted needs mates candidates k 0 bonds ∙ elim (cases_Bool (marked needs k)) [
  | inl needed ↦ one_counted (length needs) (λ t. is_mated needs mates t && touches t k) k (atom_of needs (get_or mates (node_of needs k) 0)) found are
      (mated_same needs found g mates graph perfect k less needed) (existing needed) ∙ ap (λ (t : Bool). if t then 1 else 0) (sym needed)
  | inr idle ↦ zero_counted (λ t. is_mated needs mates t && touches t k) found (λ t. false_from_ne_true (is_mated needs mates t && touches t k) (λ h.
      let both = and_parts (is_mated needs mates t) (touches t k) h in
      false≢true (sym idle ∙ needing_touched needs mates t k (mated_is needs mates t both.0) both.1))) ∙ ap (λ (t : Bool). if t then 1 else 0) (sym idle)
]
  where
    found : List Bond
    found = marked_from candidates 0 bonds

    existing : marked needs k ≡ true → are_joined (marked_from candidates 0 bonds) k (atom_of needs (get_or mates (node_of needs k) 0)) ≡ true
    existing needed =
        let v : ℕ = node_of needs k in
        let w : ℕ = get_or mates v 0 in
        let same_atom : atom_of needs v ≡ k = nth_rank (marked needs) (length needs) k less needed in
        let v_below : v < length g = let a = rank_below (marked needs) k (length needs) less needed in let b = graph.nodes in omega arith in
        let edge : adjacent g v w ≡ true = perfect.neighbour v v_below in
        subst (λ (x : ℕ). are_joined (marked_from candidates 0 bonds) x (atom_of needs w) ≡ true) same_atom (sym (graph.edges v w v_below (graph.graph.in_range v w edge)) ∙ edge)
