-- Pairing off a chain.
use Rattle.std.proofs.Common.{◌≡◌, ◌≢◌, ℕ, zero, suc, ◌+◌, ◌≤◌, ◌<◌, List, [], ◌∷◌, length, get_or, set, drop, Bool, true, false, refl, ap, sym, ◌∙◌, inl, inr, arith, subst}
use Rattle.std.specs.Prelude.{not}
use Rattle.std.proofs.lemmas.Bool.{cases_eq, false≢true, false_from_ne_true}
use Rattle.std.proofs.lemmas.List.{get_or-set_same, get_or-set_other, length-set, drop_more}
use Rattle.match_barrier.specs.Graph.{has, IsGraph, NoRepeats}
use Rattle.match_barrier.specs.Barrier.{is_odd}
use Rattle.match_barrier.proofs.Counting.{has_cases}
use Rattle.match_barrier.proofs.Edges.{has_front, has_rest}
use Rattle.match_blossom.specs.Foldings.{IsLiving, Touch, IsMatchingBut, Chain, pair_off}

pub touch_back : (g : List (List ℕ)) (part : ℕ → ℕ) (x y : ℕ) → IsGraph g → Touch g part x y → Touch g part y x
touch_back g part x y is t = record {
  from = t.to;
  to = t.from;
  below = is.in_range t.from t.to t.edge;
  edge = is.symmetric t.to t.from ∙ t.edge;
  from_class = t.to_class;
  to_class = t.from_class;
}

-- what a list has not, its rest has not
pub not_in_rest : (y : ℕ) (xs : List ℕ) (x : ℕ) → has (y ∷ xs) x ≡ false → (y ≢ x) × (has xs x ≡ false)
not_in_rest y xs x h = ((λ e. false≢true (sym h ∙ has_front y xs x e)), false_from_ne_true (has xs x) (λ k. false≢true (sym h ∙ has_rest y xs x k)))

pub not_in_cons : (y : ℕ) (xs : List ℕ) (x : ℕ) → y ≢ x → has xs x ≡ false → has (y ∷ xs) x ≡ false
not_in_cons y xs x ne h = false_from_ne_true (has (y ∷ xs) x) (λ k. elim (has_cases y xs x k) [
  | inl same ↦ ne same
  | inr rest ↦ false≢true (sym h ∙ rest)
])

-- one pair more
pub pair_one : (g : List (List ℕ)) (part : ℕ → ℕ) (mates : List ℕ) (x y : ℕ) (xs : List ℕ) → IsGraph g → IsLiving g part x → IsLiving g part y → x ≢ y
    → Touch g part x y → has xs x ≡ false → has xs y ≡ false
    → IsMatchingBut g part mates (x ∷ y ∷ xs) → IsMatchingBut g part (set (set mates x y) y x) xs
pair_one g part mates x y xs is living_x living_y ne touch x_out y_out m =
    record {
      each_node = length-set (set mates x y) y x ∙ length-set mates x y ∙ m.each_node;
      mate = λ v living out not_free. elim (cases_eq v y) [
        | inl e ↦ at y x living_y living_x y_out x_out (λ e'. ne (sym e')) at_y at_x (touch_back g part x y is touch) v e
        | inr ny ↦ elim (cases_eq v x) [
          | inl e ↦ at x y living_x living_y x_out y_out ne at_x at_y touch v e
          | inr nx ↦
              let v_out : has (x ∷ y ∷ xs) v ≡ false = not_in_cons x (y ∷ xs) v (λ e. nx (sym e)) (not_in_cons y xs v (λ e. ny (sym e)) out) in
              let same : get_or (set (set mates x y) y x) v 0 ≡ get_or mates v 0 = other v nx ny in
              let r = m.mate v living v_out (λ e. not_free (same ∙ e)) in
              let w : ℕ = get_or mates v 0 in
              let o = not_in_rest x (y ∷ xs) w r.1 in
              let o2 = not_in_rest y xs w o.1 in
              subst (λ (z : ℕ). IsLiving g part z × (has xs z ≡ false) × (z ≢ v) × (get_or (set (set mates x y) y x) z 0 ≡ v) × Touch g part v z) (sym same)
              (r.0, o2.1, r.2, other w (λ e. o.0 (sym e)) (λ e. o2.0 (sym e)) ∙ r.3, r.4)
        ]
      ];
    }
  where
    long : length (set mates x y) ≡ length g
    long = length-set mates x y ∙ m.each_node

    at_y : get_or (set (set mates x y) y x) y 0 ≡ x
    at_y = let a = living_y.0 in let b = long in get_or-set_same (set mates x y) y x 0 (omega arith)

    at_x : get_or (set (set mates x y) y x) x 0 ≡ y
    at_x = let a = living_x.0 in let b = m.each_node in get_or-set_other (set mates x y) y x x 0 ne ∙ get_or-set_same mates x y 0 (omega arith)

    other : (v : ℕ) → v ≢ x → v ≢ y → get_or (set (set mates x y) y x) v 0 ≡ get_or mates v 0
    other v nx ny = get_or-set_other (set mates x y) y v x 0 ny ∙ get_or-set_other mates x v y 0 nx

    at : (a b : ℕ) → IsLiving g part a → IsLiving g part b → has xs a ≡ false → has xs b ≡ false → a ≢ b → get_or (set (set mates x y) y x) a 0 ≡ b → get_or (set (set mates x y) y x) b 0 ≡ a → Touch g part a b
        → (v : ℕ) → v ≡ a → (let w : ℕ = get_or (set (set mates x y) y x) v 0 in IsLiving g part w × (has xs w ≡ false) × (w ≢ v) × (get_or (set (set mates x y) y x) w 0 ≡ v) × Touch g part v w)
    at a b la lb oa ob nab ab ba t v e =
        let M : List ℕ = set (set mates x y) y x in
        subst (λ (z : ℕ). IsLiving g part (get_or M z 0) × (has xs (get_or M z 0) ≡ false) × (get_or M z 0 ≢ z) × (get_or M (get_or M z 0) 0 ≡ z) × Touch g part z (get_or M z 0)) (sym e)
        (subst (λ (w : ℕ). IsLiving g part w × (has xs w ≡ false) × (w ≢ a) × (get_or M w 0 ≡ a) × Touch g part a w) (sym ab) (lb, ob, (λ k. nab (sym k)), ba, t))

pub pairs_off : (g : List (List ℕ)) (part : ℕ → ℕ) (xs : List ℕ) (mates : List ℕ) → IsGraph g → ((x : ℕ) → has xs x ≡ true → IsLiving g part x) → NoRepeats xs → Chain g part xs → is_odd (length xs) ≡ false
    → IsMatchingBut g part mates xs → IsMatchingBut g part (pair_off xs mates) []
pairs_off g part [] mates is living different chain even m = m
pairs_off g part (x ∷ []) mates is living different chain even m = absurd (false≢true (sym even))
pairs_off g part (x ∷ y ∷ xs) mates is living different chain even m =
    let nx = not_in_rest y xs x different.0 in
    pairs_off g part xs (set (set mates x y) y x) is
    (λ z h. living z (has_rest x (y ∷ xs) z (has_rest y xs z h))) different.1.1 (rest y xs chain.1) (sym (not_not (is_odd (length xs))) ∙ even)
    (pair_one g part mates x y xs is (living x (has_front x (y ∷ xs) x refl)) (living y (has_rest x (y ∷ xs) y (has_front y xs y refl))) (λ e. nx.0 (sym e)) chain.0 nx.1 different.1.0 m)
  where
    rest : (y : ℕ) (xs : List ℕ) → Chain g part (y ∷ xs) → Chain g part xs
    rest y [] c = tt
    rest y (z ∷ xs) c = c.1

    not_not : (b : Bool) → not (not b) ≡ b
    not_not true = refl
    not_not false = refl

-- Who is free after it was left alone, and free before.
pub free_after : (n : ℕ) (xs : List ℕ) (mates : List ℕ) → ((x : ℕ) → has xs x ≡ true → x < n) → length mates ≡ n → NoRepeats xs → is_odd (length xs) ≡ false → (v : ℕ) → get_or (pair_off xs mates) v 0 ≡ n → (has xs v ≡ false) × (get_or mates v 0 ≡ n)
free_after n [] mates below long different even v free = (refl, free)
free_after n (x ∷ []) mates below long different even v free = absurd (false≢true (sym even))
free_after n (x ∷ y ∷ xs) mates below long different even v free =
    let h = free_after n xs (set (set mates x y) y x) (λ z k. below z (has_rest x (y ∷ xs) z (has_rest y xs z k))) (length-set (set mates x y) y x ∙ length-set mates x y ∙ long) different.1.1 (sym (not_not (is_odd (length xs))) ∙ even) v free in
    let lx = below x (has_front x (y ∷ xs) x refl) in
    let ly = below y (has_rest x (y ∷ xs) y (has_front y xs y refl)) in
    let nx = not_in_rest y xs x different.0 in
    elim (cases_eq v y) [
      | inl e ↦ absurd (omega (arith, sym (ap (λ (z : ℕ). get_or (set (set mates x y) y x) z 0) e ∙ get_or-set_same (set mates x y) y x 0 (let k = length-set mates x y in omega arith)) ∙ h.1))
      | inr ny ↦ elim (cases_eq v x) [
        | inl e ↦ absurd (omega (arith, sym (ap (λ (z : ℕ). get_or (set (set mates x y) y x) z 0) e ∙ get_or-set_other (set mates x y) y x x 0 (λ k. nx.0 (sym k)) ∙ get_or-set_same mates x y 0 (omega arith)) ∙ h.1))
        | inr ne ↦ (
          not_in_cons x (y ∷ xs) v (λ k. ne (sym k)) (not_in_cons y xs v (λ k. ny (sym k)) h.0),
          sym (get_or-set_other (set mates x y) y v x 0 ny ∙ get_or-set_other mates x v y 0 ne) ∙ h.1,
        )
      ]
    ]
  where
    not_not : (b : Bool) → not (not b) ≡ b
    not_not true = refl
    not_not false = refl

-- one pair more of those that are left
pub pair_off_more : (xs mates : List ℕ) (k : ℕ) → k + 1 < length xs
    → pair_off (drop k xs) mates ≡ pair_off (drop (k + 2) xs) (set (set mates (get_or xs k 0) (get_or xs (k + 1) 0)) (get_or xs (k + 1) 0) (get_or xs k 0))
pair_off_more xs mates k less =
    let e : drop k xs ≡ get_or xs k 0 ∷ get_or xs (k + 1) 0 ∷ drop (k + 2) xs =
    drop_more xs k 0 (omega arith)
    ∙ ap (λ (ys : List ℕ). get_or xs k 0 ∷ ys) (drop_more xs (k + 1) 0 less ∙ ap (λ (j : ℕ). get_or xs (k + 1) 0 ∷ drop j xs) (let j : k + 1 + 1 ≡ k + 2 = omega arith in j)) in
    ap (λ (ys : List ℕ). pair_off ys mates) e

pub pair_off_last : (xs mates : List ℕ) (k : ℕ) → length xs ≤ k + 1 → pair_off (drop k xs) mates ≡ mates
pair_off_last [] mates zero h = refl
pair_off_last [] mates (suc k) h = refl
pair_off_last (x ∷ []) mates zero h = refl
pair_off_last (x ∷ y ∷ xs) mates zero h = absurd (omega arith)
pair_off_last (x ∷ xs) mates (suc k) h = pair_off_last xs mates k (omega arith)
