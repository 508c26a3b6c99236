-- What a way up the tree gives a cycle.
use Rattle.std.proofs.Common.{◌≡◌, ◌≢◌, ℕ, ◌≤◌, ◌<◌, List, [], ◌∷◌, ◌++◌, length, get_or, Bool, true, false, not, refl, ap, sym, ◌∙◌, inl, inr, arith, subst}
use Rattle.std.specs.Prelude.{◌⊎◌}
use Rattle.std.proofs.lemmas.Bool.{cases_eq, false≢true, false_from_ne_true}
use Rattle.match_barrier.specs.Graph.{has, IsGraph, NoRepeats}
use Rattle.match_barrier.specs.Barrier.{is_odd}
use Rattle.match_barrier.proofs.Counting.{has_cases}
use Rattle.match_barrier.proofs.Edges.{has_front, has_rest}
use Rattle.match_blossom.specs.Search.{Tree}
use Rattle.match_blossom.specs.Climbing.{Climb}
use Rattle.match_blossom.specs.Forest.{IsClimbing}
use Rattle.match_blossom.proofs.Rotated.{has_either}

pub even_climb : (mates : List ℕ) (part parent : ℕ → ℕ) (outer inner : ℕ → Bool) (order : ℕ → ℕ) (a : ℕ) (xs : List ℕ) (base : ℕ) → Climb mates part parent outer inner order a xs base → is_odd (length xs) ≡ false
even_climb mates part parent outer inner order a [] base c = refl
even_climb mates part parent outer inner order a (x ∷ []) base c = absurd c
even_climb mates part parent outer inner order a (x ∷ w ∷ xs) base c = not_not (is_odd (length xs)) ∙ even_climb mates part parent outer inner order (part (parent w)) xs base c.4
  where
    not_not : (b : Bool) → not (not b) ≡ b
    not_not true = refl
    not_not false = refl

-- the mate of an outer node on its way, and its order
step_up : (g : List (List ℕ)) (mates : List ℕ) (root : ℕ) (part : ℕ → ℕ) (outer inner : ℕ → Bool) (parent order : ℕ → ℕ) → Tree g mates root part outer inner parent order
    → (a w : ℕ) → w ≡ get_or mates a 0 → outer a ≡ true → inner w ≡ true → (get_or mates w 0 ≡ a) × (order (part (parent w)) < order w) × (order w < order a)
step_up g mates root part outer inner parent order t a w is o i =
    let low = (t.inner_living w i).0 in
    let back : get_or mates w 0 ≡ a = ap (λ (z : ℕ). get_or mates z 0) is ∙ (t.matching.mate a (t.outer_living a o) refl (λ e. absurd (omega (arith, is ∙ e)))).3 in
    (back, t.order_parent w i, subst (λ (z : ℕ). order w < order z) back (t.order_mate w i))

-- each node on the way lies behind the base and at or before a in the order, is labelled, and its mate is on the way
pub record OnTheWay (mates : List ℕ) (outer inner : ℕ → Bool) (order : ℕ → ℕ) (a : ℕ) (xs : List ℕ) (base x : ℕ) : Type 0 where
  pub labelled : (outer x ≡ true) ⊎ (inner x ≡ true)
  pub behind : order base < order x
  pub before : order x ≤ order a
  pub mated : has xs (get_or mates x 0) ≡ true

pub climb_order : (g : List (List ℕ)) (mates : List ℕ) (root : ℕ) (part : ℕ → ℕ) (outer inner : ℕ → Bool) (parent order : ℕ → ℕ) → Tree g mates root part outer inner parent order
    → (a : ℕ) (xs : List ℕ) (base : ℕ) → Climb mates part parent outer inner order a xs base → order base ≤ order a
climb_order g mates root part outer inner parent order t a [] base c = let e : order a ≡ order base = ap order c in omega arith
climb_order g mates root part outer inner parent order t a (x ∷ []) base c = absurd c
climb_order g mates root part outer inner parent order t a (x ∷ w ∷ xs) base c =
    let h = climb_order g mates root part outer inner parent order t (part (parent w)) xs base c.4 in
    let s = step_up g mates root part outer inner parent order t a w c.1 c.2 c.3 in
    let s1 = s.1 in let s2 = s.2 in omega arith

pub on_the_way : (g : List (List ℕ)) (mates : List ℕ) (root : ℕ) (part : ℕ → ℕ) (outer inner : ℕ → Bool) (parent order : ℕ → ℕ) → Tree g mates root part outer inner parent order
    → (a : ℕ) (xs : List ℕ) (base : ℕ) → Climb mates part parent outer inner order a xs base → (x : ℕ) → has xs x ≡ true → OnTheWay mates outer inner order a xs base x
on_the_way g mates root part outer inner parent order t a [] base c z h = absurd (false≢true h)
on_the_way g mates root part outer inner parent order t a (x ∷ []) base c z h = absurd c
on_the_way g mates root part outer inner parent order t a (x ∷ w ∷ xs) base c z h =
    let s = step_up g mates root part outer inner parent order t a w c.1 c.2 c.3 in
    let s1 = s.1 in let s2 = s.2 in
    let low = climb_order g mates root part outer inner parent order t (part (parent w)) xs base c.4 in
    elim (has_cases x (w ∷ xs) z h) [
      | inl first ↦
          let za : z ≡ a = sym first ∙ c.0 in
          let oz : order z ≡ order a = ap order za in
          record {
            labelled = inl (ap outer za ∙ c.2);
            behind = omega arith;
            before = omega arith;
            mated = has_rest x (w ∷ xs) (get_or mates z 0) (has_front w xs (get_or mates z 0) (c.1 ∙ ap (λ (q : ℕ). get_or mates q 0) (sym za)));
          }
      | inr rest ↦ elim (has_cases w xs z rest) [
        | inl second ↦
            let oz : order w ≡ order z = ap order second in
            record {
              labelled = inr (ap inner (sym second) ∙ c.3);
              behind = omega arith;
              before = omega arith;
              mated = has_front x (w ∷ xs) (get_or mates z 0) (c.0 ∙ sym s.0 ∙ ap (λ (q : ℕ). get_or mates q 0) second);
            }
        | inr further ↦
            let r = on_the_way g mates root part outer inner parent order t (part (parent w)) xs base c.4 z further in
            let rb = r.before in
            record {
              labelled = r.labelled;
              behind = r.behind;
              before = omega arith;
              mated = has_rest x (w ∷ xs) (get_or mates z 0) (has_rest w xs (get_or mates z 0) r.mated);
            }
      ]
    ]

-- all on the way are different
pub climb_different : (g : List (List ℕ)) (mates : List ℕ) (root : ℕ) (part : ℕ → ℕ) (outer inner : ℕ → Bool) (parent order : ℕ → ℕ) → Tree g mates root part outer inner parent order
    → (a : ℕ) (xs : List ℕ) (base : ℕ) → Climb mates part parent outer inner order a xs base → NoRepeats xs
climb_different g mates root part outer inner parent order t a [] base c = tt
climb_different g mates root part outer inner parent order t a (x ∷ []) base c = absurd c
climb_different g mates root part outer inner parent order t a (x ∷ w ∷ xs) base c =
    let s = step_up g mates root part outer inner parent order t a w c.1 c.2 c.3 in
    let s1 = s.1 in let s2 = s.2 in
    let ox : order x ≡ order a = ap order c.0 in (
      false_from_ne_true (has (w ∷ xs) x) (λ h. elim (has_cases w xs x h) [
        | inl e ↦ let k : order w ≡ order x = ap order e in absurd (omega arith)
        | inr rest ↦ let b = (on_the_way g mates root part outer inner parent order t (part (parent w)) xs base c.4 x rest).before in absurd (omega arith)
      ]),
      (
        false_from_ne_true (has xs w) (λ h. let b = (on_the_way g mates root part outer inner parent order t (part (parent w)) xs base c.4 w h).before in absurd (omega arith)),
        climb_different g mates root part outer inner parent order t (part (parent w)) xs base c.4,
      ),
    )

-- A way goes on from where it stands.
climb_on : (mates : List ℕ) (part parent : ℕ → ℕ) (outer inner : ℕ → Bool) (order : ℕ → ℕ) (a : ℕ) (xs : List ℕ) (x : ℕ) → Climb mates part parent outer inner order a xs x → outer x ≡ true → inner (get_or mates x 0) ≡ true
    → Climb mates part parent outer inner order a (xs ++ x ∷ get_or mates x 0 ∷ []) (part (parent (get_or mates x 0)))
climb_on mates part parent outer inner order a [] x c o i = (sym c, ap (λ (z : ℕ). get_or mates z 0) (sym c), ap outer c ∙ o, i, refl)
climb_on mates part parent outer inner order a (y ∷ []) x c o i = absurd c
climb_on mates part parent outer inner order a (y ∷ w ∷ xs) x c o i = (c.0, c.1, c.2, c.3, climb_on mates part parent outer inner order (part (parent w)) xs x c.4 o i)

has_two_more : (xs : List ℕ) (x w z : ℕ) → has (xs ++ x ∷ w ∷ []) z ≡ true → (has xs z ≡ true) ⊎ ((x ≡ z) ⊎ (w ≡ z))
has_two_more xs x w z h = elim (has_either xs (x ∷ w ∷ []) z h) [
  | inl old ↦ inl old
  | inr new ↦ elim (has_cases x (w ∷ []) z new) [
    | inl first ↦ inr (inl first)
    | inr rest ↦ elim (has_cases w [] z rest) [ inl second ↦ inr (inr second) | inr none ↦ absurd (false≢true none) ]
  ]
]

pub climbing_turned : (mates : List ℕ) (part parent : ℕ → ℕ) (outer inner : ℕ → Bool) (order : ℕ → ℕ) (a b x y : ℕ) (first second : List ℕ) → IsClimbing mates part parent outer inner order a b x y first second
    → IsClimbing mates part parent outer inner order b a y x second first
climbing_turned mates part parent outer inner order a b x y first second c = record {
  first_way = c.second_way;
  second_way = c.first_way;
  first_outer = c.second_outer;
  second_outer = c.first_outer;
  first_behind = c.second_behind;
  second_behind = c.first_behind;
  apart = λ z h k. c.apart z k h;
}

-- what a step up from an outer node that is not the root leads to
pub record StepsUp (g : List (List ℕ)) (mates : List ℕ) (part parent : ℕ → ℕ) (outer inner : ℕ → Bool) (order : ℕ → ℕ) (x : ℕ) : Type 0 where
  pub below : x < length g
  pub mate_below : get_or mates x 0 < length g
  pub parent_below : parent (get_or mates x 0) < length g
  pub mate_inner : inner (get_or mates x 0) ≡ true
  pub back : get_or mates (get_or mates x 0) 0 ≡ x
  pub next_outer : outer (part (parent (get_or mates x 0))) ≡ true
  pub falls : order (part (parent (get_or mates x 0))) < order x

pub steps_up : (g : List (List ℕ)) (mates : List ℕ) (root : ℕ) (part : ℕ → ℕ) (outer inner : ℕ → Bool) (parent order : ℕ → ℕ) → IsGraph g → Tree g mates root part outer inner parent order
    → (x y : ℕ) → outer x ≡ true → outer y ≡ true → order y < order x → StepsUp g mates part parent outer inner order x
steps_up g mates root part outer inner parent order is t x y x_outer y_outer later =
    let low = t.root_first y y_outer in
    let i = t.outer_mate x x_outer (λ e. let k : order x ≡ order root = ap order e in absurd (omega arith)) in
    let s = step_up g mates root part outer inner parent order t x (get_or mates x 0) refl x_outer i in
    let s1 = s.1 in
    let s2 = s.2 in
    record {
      below = (t.outer_living x x_outer).0;
      mate_below = (t.inner_living (get_or mates x 0) i).0;
      parent_below = is.in_range (get_or mates x 0) (parent (get_or mates x 0)) (t.parent_edge (get_or mates x 0) i);
      mate_inner = i;
      back = s.0;
      next_outer = t.parent_outer (get_or mates x 0) i;
      falls = omega arith;
    }

-- The later of the two moves up.
pub climbing_more : (g : List (List ℕ)) (mates : List ℕ) (root : ℕ) (part : ℕ → ℕ) (outer inner : ℕ → Bool) (parent order : ℕ → ℕ) → IsGraph g → Tree g mates root part outer inner parent order
    → (a b x y : ℕ) (first second : List ℕ) → IsClimbing mates part parent outer inner order a b x y first second → order y < order x
    → IsClimbing mates part parent outer inner order a b (part (parent (get_or mates x 0))) y (first ++ x ∷ get_or mates x 0 ∷ []) second
climbing_more g mates root part outer inner parent order is t a b x y first second c later =
    let s = steps_up g mates root part outer inner parent order is t x y c.first_outer c.second_outer later in
    let falls = s.falls in
    let w : ℕ = get_or mates x 0 in
    let w_no_outer : outer w ≡ true → ⊥ = λ o. false≢true (sym (t.not_both w o) ∙ s.mate_inner) in
    let x_not_second : has second x ≡ true → ⊥ = λ h. let k = c.second_behind x h c.first_outer in omega arith in
    record {
      first_way = climb_on mates part parent outer inner order a first x c.first_way c.first_outer s.mate_inner;
      second_way = c.second_way;
      first_outer = s.next_outer;
      second_outer = c.second_outer;
      first_behind = λ z h o. elim (has_two_more first x w z h) [
        | inl old ↦ c.first_behind z old o
        | inr (inl e) ↦ subst (λ (q : ℕ). order y < order q) e later
        | inr (inr e) ↦ absurd (w_no_outer (ap outer e ∙ o))
      ];
      second_behind = λ z h o. let k = c.second_behind z h o in omega arith;
      apart = λ z h k. elim (has_two_more first x w z h) [
        | inl old ↦ c.apart z old k
        | inr (inl e) ↦ x_not_second (ap (has second) e ∙ k)
        | inr (inr e) ↦ x_not_second (ap (has second) (sym s.back ∙ ap (λ (q : ℕ). get_or mates q 0) e) ∙ (on_the_way g mates root part outer inner parent order t b second y c.second_way z k).mated)
      ];
    }

-- Of two different outer nodes one is later.
pub later_one : (g : List (List ℕ)) (mates : List ℕ) (root : ℕ) (part : ℕ → ℕ) (outer inner : ℕ → Bool) (parent order : ℕ → ℕ) → Tree g mates root part outer inner parent order
    → (x y : ℕ) → outer x ≡ true → outer y ≡ true → x ≢ y → order x ≤ order y → order x < order y
later_one g mates root part outer inner parent order t x y x_outer y_outer ne le = elim (cases_eq (order x) (order y)) [
  | inl e ↦ absurd (ne (t.order_one x y x_outer y_outer e))
  | inr other ↦ omega arith
]
