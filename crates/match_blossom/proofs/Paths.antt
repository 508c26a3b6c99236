-- Turning the path from a free node to the root.
use Rattle.std.proofs.Common.{◌≡◌, ◌≢◌, ℕ, ◌<◌, List, [], ◌∷◌, length, get_or, set, Bool, true, false, refl, ap, sym, ◌∙◌, inl, inr, arith, subst}
use Rattle.std.specs.Prelude.{◌⊎◌}
use Rattle.std.proofs.lemmas.Bool.{cases_eq, false≢true}
use Rattle.std.proofs.lemmas.List.{get_or-set_same, get_or-set_other, length-set, set_comm, set-set}
use Rattle.match_barrier.specs.Graph.{adjacent, IsGraph}
use Rattle.match_blossom.specs.Foldings.{IsLiving, Touch, IsMatchingBut}
use Rattle.match_blossom.specs.Search.{Tree, Turning, Turned}
use Rattle.match_blossom.proofs.Pairs.{not_in_cons, pair_one}

-- both ends free: one edge more
pub one_edge : (g : List (List ℕ)) (part : ℕ → ℕ) (mates : List ℕ) (x y : ℕ) → IsGraph g → IsLiving g part x → IsLiving g part y → x ≢ y → Touch g part x y
    → get_or mates x 0 ≡ length g → get_or mates y 0 ≡ length g → IsMatchingBut g part mates [] → IsMatchingBut g part (set (set mates x y) y x) []
one_edge g part mates x y is lx ly ne touch fx fy m = pair_one g part mates x y [] is lx ly ne touch refl refl (record {
  each_node = m.each_node;
  mate = λ v living out not_free.
      let r = m.mate v living refl not_free in
      (r.0, not_in_cons x (y ∷ []) (get_or mates v 0) (λ e. no_mate v living r.3 x fx e) (not_in_cons y [] (get_or mates v 0) (λ e. no_mate v living r.3 y fy e) refl), r.2, r.3, r.4);
})
  where
    no_mate : (v : ℕ) → IsLiving g part v → get_or mates (get_or mates v 0) 0 ≡ v → (z : ℕ) → get_or mates z 0 ≡ length g → z ≡ get_or mates v 0 → ⊥
    no_mate v living back z free e =
        let a : length g ≡ v = sym free ∙ ap (λ (q : ℕ). get_or mates q 0) e ∙ back in
        let b = living.0 in omega arith

-- a node and its mate are parted
pub parted : (g : List (List ℕ)) (part : ℕ → ℕ) (mates : List ℕ) (y : ℕ) → IsLiving g part y → get_or mates y 0 < length g → IsMatchingBut g part mates []
    → IsMatchingBut g part (set (set mates (get_or mates y 0) (length g)) y (length g)) []
parted g part mates y living low m = record {
  each_node = length-set (set mates w n) y n ∙ length-set mates w n ∙ m.each_node;
  mate = λ v lv none not_free.
      elim (cases_eq v y) [
        | inl e ↦ absurd (not_free (ap (λ (q : ℕ). get_or (set (set mates w n) y n) q 0) e ∙ at_y))
        | inr ny ↦ elim (cases_eq v w) [
          | inl e ↦ absurd (not_free (ap (λ (q : ℕ). get_or (set (set mates w n) y n) q 0) e ∙ at_w))
          | inr nw ↦
              let same : get_or (set (set mates w n) y n) v 0 ≡ get_or mates v 0 = other v ny nw in
              let q = m.mate v lv refl (λ e. not_free (same ∙ e)) in
              let u : ℕ = get_or mates v 0 in
              let u_not_y : u ≢ y = λ e. nw (sym q.3 ∙ ap (λ (z : ℕ). get_or mates z 0) e) in
              let u_not_w : u ≢ w = λ e. ny (sym q.3 ∙ ap (λ (z : ℕ). get_or mates z 0) e ∙ r.3) in
              subst (λ (z : ℕ). IsLiving g part z × (false ≡ false) × (z ≢ v) × (get_or (set (set mates w n) y n) z 0 ≡ v) × Touch g part v z) (sym same) (q.0, refl, q.2, other u u_not_y u_not_w ∙ q.3, q.4)
        ]
      ];
}
  where
    n : ℕ
    n = length g

    w : ℕ
    w = get_or mates y 0

    r : IsLiving g part (get_or mates y 0) × (false ≡ false) × (get_or mates y 0 ≢ y) × (get_or mates (get_or mates y 0) 0 ≡ y) × Touch g part y (get_or mates y 0)
    r = m.mate y living refl (λ e. absurd (omega arith))

    at_y : get_or (set (set mates (get_or mates y 0) (length g)) y (length g)) y 0 ≡ length g
    at_y = let a = living.0 in let b = m.each_node in let c = length-set mates (get_or mates y 0) (length g) in get_or-set_same (set mates (get_or mates y 0) (length g)) y (length g) 0 (omega arith)

    at_w : get_or (set (set mates (get_or mates y 0) (length g)) y (length g)) (get_or mates y 0) 0 ≡ length g
    at_w = let b = m.each_node in get_or-set_other (set mates (get_or mates y 0) (length g)) y (get_or mates y 0) (length g) 0 r.2 ∙ get_or-set_same mates (get_or mates y 0) (length g) 0 (omega arith)

    other : (v : ℕ) → v ≢ y → v ≢ get_or mates y 0 → get_or (set (set mates (get_or mates y 0) (length g)) y (length g)) v 0 ≡ get_or mates v 0
    other v ny nw = get_or-set_other (set mates (get_or mates y 0) (length g)) y v (length g) 0 ny ∙ get_or-set_other mates (get_or mates y 0) v (length g) 0 nw

-- the writes in the order of the code
same_writes : (mates : List ℕ) (w x y n : ℕ) → x ≢ y → set (set (set (set mates w n) y n) x y) y x ≡ set (set (set mates w n) x y) y x
same_writes mates w x y n ne = ap (λ (m : List ℕ). set m y x) (set_comm (set mates w n) y x n y (λ e. ne (sym e))) ∙ set-set (set (set mates w n) x y) y n x

pub turn_first : (g : List (List ℕ)) (old : List ℕ) (root : ℕ) (part : ℕ → ℕ) (outer inner : ℕ → Bool) (parent order : ℕ → ℕ) (p v : ℕ) → Tree g old root part outer inner parent order
    → adjacent g v p ≡ true → v < length g → outer (part p) ≡ true → outer (part v) ≡ false → inner (part v) ≡ false → get_or old v 0 ≡ length g
    → Turning g old old part outer inner order v v (part p)
turn_first g old root part outer inner parent order p v t edge less from_outer no_outer no_inner free =
    let class : part v ≡ v = t.alone v less no_outer in
    record {
      matching = t.matching;
      x_living = (less, class);
      x_free = free;
      y_outer = from_outer;
      touch = record { from = v; to = p; below = less; edge = edge; from_class = class; to_class = refl };
      x_later = elim [
        | inl o ↦ absurd (false≢true (sym (ap outer (sym class) ∙ no_outer) ∙ o))
        | inr i ↦ absurd (false≢true (sym (ap inner (sym class) ∙ no_inner) ∙ i))
      ];
      kept = λ z label le. refl;
      free = λ z below f. elim (cases_eq z v) [ inl e ↦ inl e | inr ne ↦ inr (ne, f) ];
    }

-- x is not y: y is matched or the root, and outer
x_not_y : (g : List (List ℕ)) (old mates : List ℕ) (part : ℕ → ℕ) (outer inner : ℕ → Bool) (order : ℕ → ℕ) (v x y : ℕ) → Turning g old mates part outer inner order v x y → x ≢ y
x_not_y g old mates part outer inner order v x y s e = let o : outer x ≡ true = ap outer e ∙ s.y_outer in let l = s.x_later (inl o) in let k : order x ≡ order y = ap order e in absurd (omega arith)

pub turn_more : (g : List (List ℕ)) (old mates : List ℕ) (root : ℕ) (part : ℕ → ℕ) (outer inner : ℕ → Bool) (parent order : ℕ → ℕ) (v x y w : ℕ) → IsGraph g → Tree g old root part outer inner parent order
    → Turning g old mates part outer inner order v x y → y ≢ root → w ≡ get_or mates y 0
    → Turning g old (set (set (set mates w (length g)) x y) y x) part outer inner order v w (part (parent w))
turn_more g old mates root part outer inner parent order v x y w is t s not_root w_is =
    let y_living : IsLiving g part y = t.outer_living y s.y_outer in
    let mate_y : get_or mates y 0 ≡ get_or old y 0 = s.kept y (inl s.y_outer) (omega arith) in
    let w_inner : inner w ≡ true = ap inner (w_is ∙ mate_y) ∙ t.outer_mate y s.y_outer not_root in
    let w_living : IsLiving g part w = t.inner_living w w_inner in
    let w_low = w_living.0 in
    let back_old : get_or old w 0 ≡ y = ap (λ (z : ℕ). get_or old z 0) (w_is ∙ mate_y) ∙ (t.matching.mate y y_living refl (λ e. absurd (omega (arith, w_is ∙ mate_y ∙ e)))).3 in
    let r = s.matching.mate y y_living refl (λ e. absurd (omega (arith, w_is ∙ e))) in
    let back : get_or mates w 0 ≡ y = ap (λ (z : ℕ). get_or mates z 0) w_is ∙ r.3 in
    let y_low = y_living.0 in
    let x_low = s.x_living.0 in
    let long = s.matching.each_node in
    let ne : x ≢ y = x_not_y g old mates part outer inner order v x y s in
    let w_not_y : w ≢ y = λ e. r.2 (sym w_is ∙ e) in
    let w_not_x : w ≢ x = λ e. absurd (omega (arith, sym back ∙ ap (λ (z : ℕ). get_or mates z 0) e ∙ s.x_free)) in
    let before_w = t.order_parent w w_inner in
    let after_w : order w < order y = subst (λ (z : ℕ). order w < order z) back_old (t.order_mate w w_inner) in
    let n : ℕ = length g in
    let cut : List ℕ = set (set mates w n) y n in
    let cut_ok : IsMatchingBut g part cut [] = subst (λ (z : ℕ). IsMatchingBut g part (set (set mates z n) y n) []) (sym w_is) (parted g part mates y y_living (subst (λ (z : ℕ). z < n) w_is w_low) s.matching) in
    let cut_x : get_or cut x 0 ≡ n = get_or-set_other (set mates w n) y x n 0 ne ∙ get_or-set_other mates w x n 0 (λ e. w_not_x (sym e)) ∙ s.x_free in
    let cut_y : get_or cut y 0 ≡ n = let c = length-set mates w n in get_or-set_same (set mates w n) y n 0 (omega arith) in
    let final : List ℕ = set (set (set mates w n) x y) y x in
    let one = length-set mates w n in
    let two = length-set (set mates w n) x y in
    let at_w : get_or final w 0 ≡ n = get_or-set_other (set (set mates w n) x y) y w x 0 w_not_y ∙ get_or-set_other (set mates w n) x w y 0 w_not_x ∙ get_or-set_same mates w n 0 (omega arith) in
    let at_x : get_or final x 0 ≡ y = get_or-set_other (set (set mates w n) x y) y x x 0 ne ∙ get_or-set_same (set mates w n) x y 0 (omega arith) in
    let at_y : get_or final y 0 ≡ x = get_or-set_same (set (set mates w n) x y) y x 0 (omega arith) in
    let other : (z : ℕ) → z ≢ w → z ≢ x → z ≢ y → get_or final z 0 ≡ get_or mates z 0 =
    λ z nw nx ny. get_or-set_other (set (set mates w n) x y) y z x 0 ny ∙ get_or-set_other (set mates w n) x z y 0 nx ∙ get_or-set_other mates w z n 0 nw in
    record {
      matching = subst (λ (m : List ℕ). IsMatchingBut g part m []) (same_writes mates w x y n ne) (one_edge g part cut x y is s.x_living y_living ne s.touch cut_x cut_y cut_ok);
      x_living = w_living;
      x_free = at_w;
      y_outer = t.parent_outer w w_inner;
      touch = record { from = w; to = parent w; below = w_low; edge = t.parent_edge w w_inner; from_class = w_living.1; to_class = refl };
      x_later = λ label. before_w;
      kept = λ z label le.
          let nw : z ≢ w = λ e. let k : order z ≡ order w = ap order e in absurd (omega arith) in
          let ny : z ≢ y = λ e. let k : order z ≡ order y = ap order e in absurd (omega arith) in
          let nx : z ≢ x = λ e. let k : order z ≡ order x = ap order e in let l = s.x_later (subst (λ (q : ℕ). (outer q ≡ true) ⊎ (inner q ≡ true)) e label) in absurd (omega arith) in
          other z nw nx ny ∙ s.kept z label (omega arith);
      free = λ z below f. elim (cases_eq z w) [
        | inl e ↦ inl e
        | inr nw ↦ elim (cases_eq z y) [
          | inl e ↦ absurd (omega (arith, sym at_y ∙ ap (λ (q : ℕ). get_or final q 0) (sym e) ∙ f))
          | inr ny ↦ elim (cases_eq z x) [
            | inl e ↦ absurd (omega (arith, sym at_x ∙ ap (λ (q : ℕ). get_or final q 0) (sym e) ∙ f))
            | inr nx ↦ elim (s.free z below (sym (other z nw nx ny) ∙ f)) [
              | inl e ↦ absurd (nx e)
              | inr rest ↦ inr rest
            ]
          ]
        ]
      ];
    }

pub turn_last : (g : List (List ℕ)) (old mates : List ℕ) (root : ℕ) (part : ℕ → ℕ) (outer inner : ℕ → Bool) (parent order : ℕ → ℕ) (v x y : ℕ) → IsGraph g → Tree g old root part outer inner parent order
    → Turning g old mates part outer inner order v x y → y ≡ root → Turned g old (set (set mates x y) y x) part root v
turn_last g old mates root part outer inner parent order v x y is t s last =
    let y_living : IsLiving g part y = t.outer_living y s.y_outer in
    let y_free : get_or mates y 0 ≡ length g = s.kept y (inl s.y_outer) (omega arith) ∙ ap (λ (z : ℕ). get_or old z 0) last ∙ t.root_free in
    let ne : x ≢ y = x_not_y g old mates part outer inner order v x y s in
    let y_low = y_living.0 in
    let x_low = s.x_living.0 in
    let long = s.matching.each_node in
    let one = length-set mates x y in
    let at_x : get_or (set (set mates x y) y x) x 0 ≡ y = get_or-set_other (set mates x y) y x x 0 ne ∙ get_or-set_same mates x y 0 (omega arith) in
    let at_y : get_or (set (set mates x y) y x) y 0 ≡ x = get_or-set_same (set mates x y) y x 0 (omega arith) in
    record {
      matching = one_edge g part mates x y is s.x_living y_living ne s.touch s.x_free y_free s.matching;
      free = λ z below f.
          let ny : z ≢ y = λ e. absurd (omega (arith, sym at_y ∙ ap (λ (q : ℕ). get_or (set (set mates x y) y x) q 0) (sym e) ∙ f)) in
          let nx : z ≢ x = λ e. absurd (omega (arith, sym at_x ∙ ap (λ (q : ℕ). get_or (set (set mates x y) y x) q 0) (sym e) ∙ f)) in
          elim (s.free z below (sym (get_or-set_other (set mates x y) y z x 0 ny ∙ get_or-set_other mates x z y 0 nx) ∙ f)) [
            | inl e ↦ absurd (nx e)
            | inr rest ↦ (rest.0, (λ e. ny (e ∙ sym last)), rest.1)
          ];
    }

-- what the code needs on its way up
pub record Up (g : List (List ℕ)) (mates : List ℕ) (part parent order : ℕ → ℕ) (y : ℕ) : Type 0 where
  pub mate_below : get_or mates y 0 < length g
  pub parent_below : parent (get_or mates y 0) < length g
  pub falls : order (part (parent (get_or mates y 0))) < order y

pub up : (g : List (List ℕ)) (old mates : List ℕ) (root : ℕ) (part : ℕ → ℕ) (outer inner : ℕ → Bool) (parent order : ℕ → ℕ) (v x y : ℕ) → IsGraph g → Tree g old root part outer inner parent order
    → Turning g old mates part outer inner order v x y → y ≢ root → Up g mates part parent order y
up g old mates root part outer inner parent order v x y is t s not_root =
    let w : ℕ = get_or mates y 0 in
    let same : w ≡ get_or old y 0 = s.kept y (inl s.y_outer) (omega arith) in
    let i : inner w ≡ true = ap inner same ∙ t.outer_mate y s.y_outer not_root in
    let low = (t.inner_living w i).0 in
    let y_living = t.outer_living y s.y_outer in
    let back : get_or old w 0 ≡ y = ap (λ (z : ℕ). get_or old z 0) same ∙ (t.matching.mate y y_living refl (λ e. absurd (omega (arith, same ∙ e)))).3 in
    let a = t.order_parent w i in
    let b : order w < order y = subst (λ (z : ℕ). order w < order z) back (t.order_mate w i) in
    record { mate_below = low; parent_below = is.in_range w (parent w) (t.parent_edge w i); falls = omega arith }
