-- What growing keeps of the queue, the touched nodes and the pointers.
use Rattle.std.proofs.Common.{◌≡◌, ◌≢◌, ℕ, ◌+◌, ◌≤◌, ◌<◌, List, [], ◌∷◌, length, set, true, false, refl, ap, sym, ◌∙◌, inl, inr, arith, subst}
use Rattle.std.proofs.lemmas.Bool.{cases_eq, cases_lt, false_from_ne_true}
use Rattle.std.proofs.lemmas.List.{get_or-set_same, get_or-set_other, length-set}
use Rattle.match_barrier.specs.Graph.{has}
use Rattle.match_blossom.specs.declared.tree.Label.{Label}
use Rattle.match_blossom.specs.declared.tree.Label.TheVariants.{Outside, Outer, Inner}
use Rattle.match_blossom.specs.Labels.{at, is_outer, is_inner}
use Rattle.match_blossom.specs.Pointers.{Falls, Points}
use Rattle.match_blossom.specs.Foldings.{Folding, Foldings, part_of}
use Rattle.match_blossom.specs.Search.{Tree}
use Rattle.match_blossom.specs.Forest.{IsQueue, IsTouched, StandsIn}
use Rattle.match_blossom.proofs.Steps.{GrownLabels}
use Rattle.match_blossom.proofs.Unfolding.{class_outside}

pub stands_on : (list : List ℕ) (from to more u x : ℕ) → to ≤ more → StandsIn list from to u → StandsIn (set list more x) from (more + 1) u
stands_on list from to more u x le s =
    let low = s.1 in let high = s.2 in
    (s.0, s.1, omega arith, get_or-set_other list more s.0 x 0 (λ e. absurd (omega arith)) ∙ s.3)

pub stands_new : (list : List ℕ) (from more x : ℕ) → from ≤ more → more < length list → StandsIn (set list more x) from (more + 1) x
stands_new list from more x low less = (more, low, omega arith, get_or-set_same list more x 0 less)

-- nothing is folded past the end
pub part_above : (g : List (List ℕ)) (foldings : List Folding) (u : ℕ) → Foldings g foldings → length g ≤ u → part_of foldings u ≡ u
part_above g [] u f above = refl
part_above g (f ∷ earlier) u h above =
    let e : part_of earlier u ≡ u = part_above g earlier u h.2 above in
    class_outside (part_of earlier) f.base f.others u (ap (has (f.base ∷ f.others)) e ∙ false_from_ne_true (has (f.base ∷ f.others) u) (λ k. let low = (h.0.living u k).0 in omega arith)) ∙ e

pub queue_grows : (g : List (List ℕ)) (mates : List ℕ) (root : ℕ) (labels labels' : List Label) (part parent order : ℕ → ℕ) (queue : List ℕ) (queued v w : ℕ) → Tree g mates root part (is_outer labels) (is_inner labels) parent order
    → GrownLabels g part labels labels' v w → IsQueue g labels part queue queued → queued < length queue → IsQueue g labels' part (set queue queued w) (queued + 1)
queue_grows g mates root labels labels' part parent order queue queued v w t s q less = record {
  below = λ k within. elim (cases_eq k queued) [
    | inl e ↦ subst (λ (x : ℕ). x < length g) (sym (ap (at (set queue queued w)) e ∙ new)) s.w_below
    | inr ne ↦ subst (λ (x : ℕ). x < length g) (sym (old k ne)) (q.below k (omega arith))
  ];
  outer = λ k within. elim (cases_eq k queued) [
    | inl e ↦ ap (λ (x : ℕ). is_outer labels' (part x)) (ap (at (set queue queued w)) e ∙ new) ∙ ap (is_outer labels') s.w_class ∙ s.outer_new
    | inr ne ↦ ap (λ (x : ℕ). is_outer labels' (part x)) (old k ne) ∙ more_outer (part (at queue k)) (q.outer k (omega arith))
  ];
  each = λ u within outer'. elim (cases_eq (part u) w) [
    | inl e ↦ let same : part u ≡ u = t.alone u within (ap (is_outer labels) e ∙ s.w_outer) in subst (λ (x : ℕ). StandsIn (set queue queued w) 0 (queued + 1) x) (sym e ∙ same) (stands_new queue 0 queued w (omega arith) less)
    | inr ne ↦ stands_on queue 0 queued queued u w (omega arith) (q.each u within (sym (s.outer_old (part u) ne) ∙ outer'))
  ];
}
  where
    new : at (set queue queued w) queued ≡ w
    new = get_or-set_same queue queued w 0 less

    old : (k : ℕ) → k ≢ queued → at (set queue queued w) k ≡ at queue k
    old k ne = get_or-set_other queue queued k w 0 ne

    more_outer : (x : ℕ) → is_outer labels x ≡ true → is_outer labels' x ≡ true
    more_outer x o = elim (cases_eq x w) [ inl e ↦ ap (is_outer labels') e ∙ s.outer_new | inr ne ↦ s.outer_old x ne ∙ o ]

pub touched_grow : (g : List (List ℕ)) (part : ℕ → ℕ) (labels : List Label) (base touched : List ℕ) (now v w : ℕ) → IsTouched labels base touched now → v < length labels → w < length labels → v < length base → w < length base → now + 1 < length touched
    → IsTouched (set (set labels v Inner) w Outer) base (set (set touched now v) (now + 1) w) (now + 2)
touched_grow g part labels base touched now v w t lv lw bv bw less =
    let one = length-set touched now v in
    let two = length-set labels v Inner in
    let three = length-set (set labels v Inner) w Outer in
    let touched' : List ℕ = set (set touched now v) (now + 1) w in
    let at_v : StandsIn touched' 0 (now + 2) v = first now v w touched (omega arith) in
    let at_w : StandsIn touched' 0 (now + 2) w = last now v w touched (omega arith) in
    let embed : (u : ℕ) → StandsIn touched 0 now u → StandsIn touched' 0 (now + 2) u = λ u s. more now v w touched u s in
    record {
      below = λ k within. elim (cases_eq k (now + 1)) [
        | inl e ↦ let q : at touched' k ≡ w = ap (at touched') e ∙ get_or-set_same (set touched now v) (now + 1) w 0 (omega arith) in (omega arith, omega arith)
        | inr n1 ↦ elim (cases_eq k now) [
          | inl e ↦ let q : at touched' k ≡ v = get_or-set_other (set touched now v) (now + 1) k w 0 n1 ∙ ap (at (set touched now v)) e ∙ get_or-set_same touched now v 0 (omega arith) in (omega arith, omega arith)
          | inr n0 ↦
              let q : at touched' k ≡ at touched k = get_or-set_other (set touched now v) (now + 1) k w 0 n1 ∙ get_or-set_other touched now k v 0 n0 in
              let b = t.below k (omega arith) in
              let b0 = b.0 in let b1 = b.1 in (omega arith, omega arith)
        ]
      ];
      labelled = λ u. elim (cases_eq u w) [
        | inl e ↦ inr (subst (λ (x : ℕ). StandsIn touched' 0 (now + 2) x) (sym e) at_w)
        | inr nw ↦ elim (cases_eq u v) [
          | inl e ↦ inr (subst (λ (x : ℕ). StandsIn touched' 0 (now + 2) x) (sym e) at_v)
          | inr nv ↦ elim (t.labelled u) [
            | inl none ↦ inl (get_or-set_other (set labels v Inner) w u Outer Outside nw ∙ get_or-set_other labels v u Inner Outside nv ∙ none)
            | inr s ↦ inr (embed u s)
          ]
        ]
      ];
      pointed = λ u within. elim (t.pointed u within) [ inl own ↦ inl own | inr s ↦ inr (embed u s) ];
    }
  where
    more : (now v w : ℕ) (touched : List ℕ) (u : ℕ) → StandsIn touched 0 now u → StandsIn (set (set touched now v) (now + 1) w) 0 (now + 2) u
    more now v w touched u s =
        let q = stands_on (set touched now v) 0 (now + 1) (now + 1) u w (omega arith) (stands_on touched 0 now now u v (omega arith) s) in
        let q2 = q.2 in (q.0, q.1, omega arith, q.3)

    first : (now v w : ℕ) (touched : List ℕ) → now < length touched → StandsIn (set (set touched now v) (now + 1) w) 0 (now + 2) v
    first now v w touched less' =
        let q = stands_on (set touched now v) 0 (now + 1) (now + 1) v w (omega arith) (stands_new touched 0 now v (omega arith) less') in
        let q2 = q.2 in (q.0, q.1, omega arith, q.3)

    last : (now v w : ℕ) (touched : List ℕ) → now + 1 < length touched → StandsIn (set (set touched now v) (now + 1) w) 0 (now + 2) w
    last now v w touched less' =
        let q = stands_new (set touched now v) 0 (now + 1) w (omega arith) (let e = length-set touched now v in omega arith) in
        let q2 = q.2 in (q.0, q.1, omega arith, q.3)

-- Pointers lead to no new node and from none.
pub falls_grow : (g : List (List ℕ)) (mates : List ℕ) (root : ℕ) (labels labels' : List Label) (foldings : List Folding) (parent order : ℕ → ℕ) (base orders : List ℕ) (v w a b : ℕ)
    → Tree g mates root (part_of foldings) (is_outer labels) (is_inner labels) parent order → Foldings g foldings → GrownLabels g (part_of foldings) labels labels' v w
    → Points base (part_of foldings) → Falls base orders → length g ≤ length base → Falls base (set (set orders v a) w b)
falls_grow g mates root labels labels' foldings parent order base orders v w a b t f s p falls long = record {
  below = falls.below;
  lower = λ u within away.
      let vb = s.v_below in let wb = s.w_below in
      let nv : u ≢ v = λ e. away (p.living u within (ap (part_of foldings) e ∙ s.v_class ∙ sym e)) in
      let nw : u ≢ w = λ e. away (p.living u within (ap (part_of foldings) e ∙ s.w_class ∙ sym e)) in
      let to_v : at base u ≢ v = λ e. away (p.living u within (alone u v s.v_outer (sym (p.same u within) ∙ ap (part_of foldings) e ∙ s.v_class))) in
      let to_w : at base u ≢ w = λ e. away (p.living u within (alone u w s.w_outer (sym (p.same u within) ∙ ap (part_of foldings) e ∙ s.w_class))) in
      let e1 = other u nv nw in
      let e2 = other (at base u) to_v to_w in
      let low = falls.lower u within away in omega arith;
}
  where
    other : (x : ℕ) → x ≢ v → x ≢ w → at (set (set orders v a) w b) x ≡ at orders x
    other x nv nw = get_or-set_other (set orders v a) w x b 0 nw ∙ get_or-set_other orders v x a 0 nv

    alone : (u x : ℕ) → is_outer labels x ≡ false → part_of foldings u ≡ x → part_of foldings u ≡ u
    alone u x no_outer is = elim (cases_lt u (length g)) [
      | inl less ↦ t.alone u less (ap (is_outer labels) is ∙ no_outer)
      | inr more ↦ part_above g foldings u f (omega arith)
    ]
