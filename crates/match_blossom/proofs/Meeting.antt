-- Two ways up that meet, and the edge between their ends, are a cycle that may be folded.
use Rattle.std.proofs.Common.{◌≡◌, ℕ, zero, suc, ◌+◌, ◌<◌, List, [], ◌∷◌, ◌++◌, length, get_or, reverse, Bool, true, false, not, refl, ap, sym, ◌∙◌, inl, inr, arith, subst}
use Rattle.std.specs.Prelude.{◌⊎◌}
use Rattle.std.proofs.lemmas.Bool.{false≢true, false_from_ne_true}
use Rattle.match_barrier.specs.Graph.{has, IsGraph, NoRepeats}
use Rattle.match_barrier.specs.Barrier.{is_odd}
use Rattle.match_barrier.proofs.Counting.{has_cases}
use Rattle.match_barrier.proofs.Edges.{has_front, has_rest}
use Rattle.match_blossom.specs.Foldings.{IsLiving, Touch, Chain}
use Rattle.match_blossom.specs.Search.{Tree, IsFoldable}
use Rattle.match_blossom.specs.Climbing.{Climb}
use Rattle.std.proofs.lemmas.List.{append_assoc, reverse-append}
use Rattle.match_blossom.proofs.Pairs.{touch_back}
use Rattle.match_blossom.proofs.Climbing.{on_the_way, climb_different, even_climb}

-- a list turned round, before another
abbrev pub round : List ℕ → List ℕ → List ℕ
round [] zs = zs
round (x ∷ xs) zs = round xs (x ∷ zs)

abbrev pub head_or : List ℕ → ℕ → ℕ
head_or [] base = base
head_or (x ∷ xs) base = x

round_append : (xs zs ys : List ℕ) → round xs zs ++ ys ≡ round xs (zs ++ ys)
round_append [] zs ys = refl
round_append (x ∷ xs) zs ys = round_append xs (x ∷ zs) ys

pub round_length : (xs zs : List ℕ) → length (round xs zs) ≡ length xs + length zs
round_length [] zs = let e : length zs ≡ 0 + length zs = omega arith in e
round_length (x ∷ xs) zs = let h = round_length xs (x ∷ zs) in omega arith

round_has : (xs zs : List ℕ) (z : ℕ) → has (round xs zs) z ≡ true → (has xs z ≡ true) ⊎ (has zs z ≡ true)
round_has [] zs z h = inr h
round_has (x ∷ xs) zs z h = elim (round_has xs (x ∷ zs) z h) [
  | inl in' ↦ inl (has_rest x xs z in')
  | inr on ↦ elim (has_cases x zs z on) [
    | inl e ↦ inl (has_front x xs z e)
    | inr rest ↦ inr rest
  ]
]

pub has_second : (xs zs : List ℕ) (z : ℕ) → has zs z ≡ true → has (round xs zs) z ≡ true
has_second [] zs z h = h
has_second (x ∷ xs) zs z h = has_second xs (x ∷ zs) z (has_rest x zs z h)

pub has_first : (xs zs : List ℕ) (z : ℕ) → has xs z ≡ true → has (round xs zs) z ≡ true
has_first [] zs z h = absurd (false≢true h)
has_first (x ∷ xs) zs z h = elim (has_cases x xs z h) [
  | inl e ↦ has_second xs (x ∷ zs) z (has_front x zs z e)
  | inr rest ↦ has_first xs (x ∷ zs) z rest
]

round_different : (xs zs : List ℕ) → NoRepeats xs → NoRepeats zs → ((z : ℕ) → has xs z ≡ true → has zs z ≡ true → ⊥) → NoRepeats (round xs zs)
round_different [] zs d e none = e
round_different (x ∷ xs) zs d e none = round_different xs (x ∷ zs) d.1 (false_from_ne_true (has zs x) (none x (has_front x xs x refl)), e)
    (λ z h k. elim (has_cases x zs z k) [
      | inl same ↦ false≢true (sym d.0 ∙ ap (has xs) same ∙ h)
      | inr rest ↦ none z (has_rest x xs z h) rest
    ])

round_chain : (g : List (List ℕ)) (part : ℕ → ℕ) → IsGraph g → (xs zs : List ℕ) (base : ℕ) → Chain g part (xs ++ base ∷ []) → Chain g part (head_or xs base ∷ zs) → Chain g part (base ∷ round xs zs)
round_chain g part is [] zs base c d = d
round_chain g part is (x ∷ []) zs base c d = (touch_back g part x base is c.0, d)
round_chain g part is (x ∷ y ∷ xs) zs base c d = round_chain g part is (y ∷ xs) (x ∷ zs) base c.1 (touch_back g part x y is c.0, d)

behind_mate : (g : List (List ℕ)) (part : ℕ → ℕ) (mates : List ℕ) (parent : ℕ → ℕ) (outer inner : ℕ → Bool) (order : ℕ → ℕ) (w b : ℕ) (xs : List ℕ) (base : ℕ) → Climb mates part parent outer inner order b xs base → Touch g part w b → Chain g part (xs ++ base ∷ []) → Chain g part (w ∷ (xs ++ base ∷ []))
behind_mate g part mates parent outer inner order w b [] base c touch chain = (subst (Touch g part w) c touch, tt)
behind_mate g part mates parent outer inner order w b (x ∷ []) base c touch chain = absurd c
behind_mate g part mates parent outer inner order w b (x ∷ y ∷ xs) base c touch chain = (subst (Touch g part w) (sym c.0) touch, chain)

climb_chain : (g : List (List ℕ)) (mates : List ℕ) (root : ℕ) (part : ℕ → ℕ) (outer inner : ℕ → Bool) (parent order : ℕ → ℕ) → Tree g mates root part outer inner parent order
    → (a : ℕ) (xs : List ℕ) (base : ℕ) → Climb mates part parent outer inner order a xs base → Chain g part (xs ++ base ∷ [])
climb_chain g mates root part outer inner parent order t a [] base c = tt
climb_chain g mates root part outer inner parent order t a (x ∷ []) base c = absurd c
climb_chain g mates root part outer inner parent order t a (x ∷ w ∷ xs) base c =
    let low = (t.inner_living w c.3).0 in
    let r = t.matching.mate a (t.outer_living a c.2) refl (λ e. absurd (omega (arith, c.1 ∙ e))) in
    let w_living = t.inner_living w c.3 in (
      subst (λ (z : ℕ). Touch g part z w) (sym c.0) (subst (Touch g part a) (sym c.1) r.4),
      behind_mate g part mates parent outer inner order w (part (parent w)) xs base c.4
          (record { from = w; to = parent w; below = w_living.0; edge = t.parent_edge w c.3; from_class = w_living.1; to_class = refl })
          (climb_chain g mates root part outer inner parent order t (part (parent w)) xs base c.4),
    )

head_is : (mates : List ℕ) (part parent : ℕ → ℕ) (outer inner : ℕ → Bool) (order : ℕ → ℕ) (a : ℕ) (xs : List ℕ) (base : ℕ) → Climb mates part parent outer inner order a xs base → head_or xs base ≡ a
head_is mates part parent outer inner order a [] base c = sym c
head_is mates part parent outer inner order a (x ∷ []) base c = absurd c
head_is mates part parent outer inner order a (x ∷ w ∷ xs) base c = c.0

pub foldable : (g : List (List ℕ)) (mates : List ℕ) (root : ℕ) (part : ℕ → ℕ) (outer inner : ℕ → Bool) (parent order : ℕ → ℕ) → IsGraph g → Tree g mates root part outer inner parent order
    → (a b : ℕ) (xs ys : List ℕ) (base : ℕ) → Climb mates part parent outer inner order a xs base → Climb mates part parent outer inner order b ys base
    → Touch g part a b → outer base ≡ true → ((z : ℕ) → has xs z ≡ true → has ys z ≡ true → ⊥)
    → IsFoldable g mates root part outer inner order base (round xs ys)
foldable g mates root part outer inner parent order is t a b xs ys base up_a up_b touch base_outer apart = record {
  cycle = record {
    living = λ z h. elim (has_cases base (round xs ys) z h) [
      | inl e ↦ subst (IsLiving g part) e (t.outer_living base base_outer)
      | inr rest ↦ elim ((facts z rest).0) [ inl o ↦ t.outer_living z o | inr i ↦ t.inner_living z i ]
    ];
    different = (
      false_from_ne_true (has (round xs ys) base) (λ h. let k = (facts base h).1 in omega arith),
      round_different xs ys (climb_different g mates root part outer inner parent order t a xs base up_a) (climb_different g mates root part outer inner parent order t b ys base up_b) apart,
    );
    closed = subst (λ (zs : List ℕ). Chain g part (base ∷ zs)) (sym (round_append xs ys (base ∷ [])))
        (round_chain g part is xs (ys ++ base ∷ []) base (climb_chain g mates root part outer inner parent order t a xs base up_a)
        (subst (λ (z : ℕ). Chain g part (z ∷ (ys ++ base ∷ []))) (sym (head_is mates part parent outer inner order a xs base up_a))
        (behind_mate g part mates parent outer inner order a b ys base up_b touch (climb_chain g mates root part outer inner parent order t b ys base up_b))));
  };
  even = ap is_odd (round_length xs ys) ∙ odd_even (length xs) (length ys) (even_climb mates part parent outer inner order a xs base up_a) ∙ even_climb mates part parent outer inner order b ys base up_b;
  base_outer = base_outer;
  not_root = false_from_ne_true (has (round xs ys) root) (λ h. let k = (facts root h).1 in let l = t.root_first base base_outer in absurd (omega arith));
  labelled = λ z h. (facts z h).0;
  first = λ z h. let k = (facts z h).1 in omega arith;
  mated = λ z h. elim (round_has xs ys z h) [
    | inl first ↦ has_first xs ys (get_or mates z 0) ((on_the_way g mates root part outer inner parent order t a xs base up_a z first).mated)
    | inr second ↦ has_second xs ys (get_or mates z 0) ((on_the_way g mates root part outer inner parent order t b ys base up_b z second).mated)
  ];
  mates_back = λ z h. elim (round_has xs ys z h) [
    | inl first ↦ low (get_or mates z 0) (has_first xs ys (get_or mates z 0) ((on_the_way g mates root part outer inner parent order t a xs base up_a z first).mated))
    | inr second ↦ low (get_or mates z 0) (has_second xs ys (get_or mates z 0) ((on_the_way g mates root part outer inner parent order t b ys base up_b z second).mated))
  ];
}
  where
    facts : (z : ℕ) → has (round xs ys) z ≡ true → ((outer z ≡ true) ⊎ (inner z ≡ true)) × (order base < order z)
    facts z h = elim (round_has xs ys z h) [
      | inl first ↦ let r = on_the_way g mates root part outer inner parent order t a xs base up_a z first in (r.labelled, r.behind)
      | inr second ↦ let r = on_the_way g mates root part outer inner parent order t b ys base up_b z second in (r.labelled, r.behind)
    ]

    low : (z : ℕ) → has (round xs ys) z ≡ true → z < length g
    low z h = elim ((facts z h).0) [ inl o ↦ (t.outer_living z o).0 | inr i ↦ (t.inner_living z i).0 ]

    odd_even : (m n : ℕ) → is_odd m ≡ false → is_odd (m + n) ≡ is_odd n
    odd_even zero n even = ap is_odd (let e : 0 + n ≡ n = omega arith in e)
    odd_even (suc zero) n even = absurd (false≢true (sym even))
    odd_even (suc (suc m)) n even = ap is_odd (let e : suc (suc m) + n ≡ suc (suc (m + n)) = omega arith in e) ∙ not_not (is_odd (m + n)) ∙ odd_even m n (sym (not_not (is_odd m)) ∙ even)
      where
        not_not : (b : Bool) → not (not b) ≡ b
        not_not true = refl
        not_not false = refl

pub round_reverse : (xs zs : List ℕ) → round xs zs ≡ reverse xs ++ zs
round_reverse [] zs = refl
round_reverse (x ∷ xs) zs = round_reverse xs (x ∷ zs) ∙ sym (ap (λ (ys : List ℕ). ys ++ zs) (reverse-append (x ∷ []) xs) ∙ append_assoc (reverse xs) (x ∷ []) zs)

-- The ways have met, and are made one list, the base first.
pub cycle_is : (first second : List ℕ) (base : ℕ) → reverse (first ++ base ∷ []) ++ second ≡ base ∷ round first second
cycle_is first second base = ap (λ (ys : List ℕ). ys ++ second) (reverse-append first (base ∷ [])) ∙ ap (λ (ys : List ℕ). base ∷ ys) (sym (round_reverse first second))
