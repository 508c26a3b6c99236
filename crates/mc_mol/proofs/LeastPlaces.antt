-- The least places to which bonds lead from below.
use Rattle.std.proofs.Common.{List, Option, Some, ap, arith, get_or, inl, inr, length, refl, slice_get, slice_set, subst, suc, sym, true, zero, ℕ, ◌+◌, ◌<◌, ◌==◌, ◌∙◌, ◌≡◌, ◌≢◌, ◌≤◌, ◌⊎◌}
use Rattle.std.proofs.lemmas.Bool.{cases_eq, cases_lt, lt-ltb, ltb-true}
use Rattle.std.proofs.lemmas.Bool.Decides.{nat_tests}
use Rattle.std.proofs.lemmas.Option.{slice_get-get_or, slice_get_within, same_Some}
use Rattle.std.specs.List.{list_any}
use Rattle.std.specs.Prelude.{IsTrue, nat_lt}
use Rattle.mc_base.specs.declared.ids.AtomId.{AtomId}
use Rattle.mc_mol.proofs.Halves.{are_joined-half_edges_in}
use Rattle.mc_mol.proofs.Lists.{length-slice_set}
use Rattle.mc_mol.proofs.Neighbours.{joined_ends}
use Rattle.mc_mol.proofs.Numbered.{leads_to, made, set_here, set_other}
use Rattle.mc_mol.proofs.Roots.{one_parent, same_listed}
use Rattle.mc_mol.specs.Forests.{IsAbove, IsForest, Parent, Up}
use Rattle.mc_mol.specs.HalfEdges.{half_edges_in}
use Rattle.mc_mol.specs.Lows.{AreLows, AtMost, HalfLow, LowAt, LowFrom, LowIs, LowSoFar, Rises}
use Rattle.mc_mol.specs.Molecule.{are_joined}
use Rattle.mc_mol.specs.Numbered.{Mark}
use Rattle.mc_mol.specs.declared.parts.Bond.{Bond}
use Rattle.mc_mol.specs.declared.parts.HalfEdge.{HalfEdge}

pub one_mark : (marks : List (Option ℕ)) (a d e : ℕ) → Mark marks a d → Mark marks a e → d ≡ e
one_mark marks a d e f g = cc

-- the last step of a way up
pub up_last : (parents : List (Option AtomId)) (k w x : ℕ) → Up parents (suc k) w x → (c : ℕ) × (Up parents k w c) × (Parent parents c x)
up_last parents zero w x (p, parent, up) = (w, refl, subst (λ (n : ℕ). Parent parents w n) up parent)
up_last parents (suc k) w x (p, parent, up) = let h = up_last parents k p x up in (h.0, (p, parent, h.1), h.2)

-- ancestors are found no later
pub up_places : (bonds : List Bond) (n : ℕ) (order : List AtomId) (places : List (Option ℕ)) (parents : List (Option AtomId)) (roots : List AtomId) → IsForest bonds n order places parents roots
    → (k w x i j : ℕ) → Up parents k w x → Mark places w i → Mark places x j → j ≤ i
up_places bonds n order places parents roots is zero w x i j same at_w at_x = let e = one_mark places x i j (subst (λ (m : ℕ). Mark places m i) same at_w) at_x in omega arith
up_places bonds n order places parents roots is (suc k) w x i j (p, parent, up) at_w at_x =
    let child = is.found.parent w p parent in
    let e = one_mark places w i child.place at_w child.placed in
    let rest = up_places bonds n order places parents roots is k p x child.above j up child.placed_above at_x in
    let less = child.earlier in
    omega arith

-- a child is no parent
pub not_parent : (bonds : List Bond) (n : ℕ) (order : List AtomId) (places : List (Option ℕ)) (parents : List (Option AtomId)) (roots : List AtomId) → IsForest bonds n order places parents roots
    → (k x a : ℕ) → Parent parents a x → Up parents k x a → ⊥
not_parent bonds n order places parents roots is k x a parent up =
    let child = is.found.parent a x parent in
    let earlier = child.earlier in
    let most = up_places bonds n order places parents roots is k x a child.above child.place up child.placed_above child.placed in
    omega arith

pub half_child : (bonds : List Bond) (n : ℕ) (order : List AtomId) (places : List (Option ℕ)) (parents : List (Option AtomId)) (roots : List AtomId) → IsForest bonds n order places parents roots
    → (x a low : ℕ) → Parent parents a x → LowIs bonds places parents a low → HalfLow bonds places parents x a low
half_child bonds n order places parents roots is x a low parent found = record {
  at_most = record {
    below = λ w b j child above joined other at. found.least w b j above joined other at;
    here = λ j other at. found.own j at;
  };
  reached = elim found.reached [ inl at ↦ inr (inl (at, (λ up. not_parent bonds n order places parents roots is 1 x a parent (a, up, refl)))) | inr from ↦ inr (inr (parent, from)) ];
}

-- the parent adds nothing
pub half_parent : (bonds : List Bond) (n : ℕ) (order : List AtomId) (places : List (Option ℕ)) (parents : List (Option AtomId)) (roots : List AtomId) → IsForest bonds n order places parents roots
    → (x a low : ℕ) → Parent parents x a → Mark places x low → HalfLow bonds places parents x a low
half_parent bonds n order places parents roots is x a low parent at = record {
  at_most = record {
    below = λ w b j child above joined other at_b. absurd (not_parent bonds n order places parents roots is 1 x a child (a, parent, refl));
    here = λ j other at_a. absurd (other parent);
  };
  reached = inl at;
}

pub half_other : (bonds : List Bond) (places : List (Option ℕ)) (parents : List (Option AtomId)) (x a low : ℕ) → (Parent parents a x → ⊥) → (Parent parents x a → ⊥) → Mark places a low
    → HalfLow bonds places parents x a low
half_other bonds places parents x a low no_child no_parent at = record {
  at_most = record {
    below = λ w b j child above joined other at_b. absurd (no_child child);
    here = λ j other at_a. let same = one_mark places a low j at at_a in omega arith;
  };
  reached = inr (inl (at, no_parent));
}

pub at_most_less : (bonds : List Bond) (places : List (Option ℕ)) (parents : List (Option AtomId)) (x a low less : ℕ) → less ≤ low → AtMost bonds places parents x a low
    → AtMost bonds places parents x a less
at_most_less bonds places parents x a low less few is = record {
  below = λ w b j child above joined other at. let h = is.below w b j child above joined other at in omega arith;
  here = λ j other at. let h = is.here j other at in omega arith;
}

-- no half-edge is seen yet
pub low_begun : (bonds : List Bond) (places : List (Option ℕ)) (parents : List (Option AtomId)) (x : ℕ) (halves : List HalfEdge) (low : ℕ) → Mark places x low
    → LowSoFar bonds places parents x halves low 0
low_begun bonds places parents x halves low at = record {
  own = λ j at_j. let same = one_mark places x low j at at_j in omega arith;
  reached = inl at;
  at_most = λ k half less. absurd (omega arith);
}

-- one more half-edge
pub low_more : (bonds : List Bond) (n : ℕ) (order : List AtomId) (places : List (Option ℕ)) (parents : List (Option AtomId)) (roots : List AtomId) → IsForest bonds n order places parents roots
    → (x : ℕ) (halves : List HalfEdge) (low next new seen : ℕ) (half : HalfEdge) → are_joined bonds x half.to.0 ≡ true → slice_get halves seen ≡ Some half → new ≤ low → new ≤ next
    → (new ≡ low) ⊎ (new ≡ next) → HalfLow bonds places parents x half.to.0 next → LowSoFar bonds places parents x halves low seen → LowSoFar bonds places parents x halves new (seen + 1)
low_more bonds n order places parents roots is x halves low next new seen half joined at less_low less_next either found so_far = record {
  own = λ j at_j. let h = so_far.own j at_j in omega arith;
  reached = reached either;
  at_most = λ k other less there. elim (cases_lt k seen) [
    | inl before ↦ at_most_less bonds places parents x other.to.0 low new less_low (so_far.at_most k other before there)
    | inr past ↦
        let k_is : k ≡ seen = omega arith in
        let same : half ≡ other = same_Some half other (sym at ∙ ap (λ (i : ℕ). slice_get halves i) (sym k_is) ∙ there) in
        subst (λ (h : HalfEdge). AtMost bonds places parents x h.to.0 new) same (at_most_less bonds places parents x half.to.0 next new less_next found.at_most)
  ];
}
  where
    -- a way down to x that begins at its child would go round
    below_child : Parent parents half.to.0 x → (k w : ℕ) → Up parents k w half.to.0 → w ≢ x
    below_child parent k w up same = not_parent bonds n order places parents roots is k x half.to.0 parent (subst (λ (m : ℕ). Up parents k m half.to.0) same up)

    longer : Parent parents half.to.0 x → (k w : ℕ) → Up parents k w half.to.0 → IsAbove parents x w
    longer parent zero w same = (1, (x, subst (λ (m : ℕ). Parent parents m x) (sym same) parent, refl))
    longer parent (suc k) w (p, step, way) = let h = longer parent k p way in (suc h.0, (p, step, h.1))

    here : Mark places x next ⊎ ((Mark places half.to.0 next × (Parent parents x half.to.0 → ⊥)) ⊎ (Parent parents half.to.0 x × LowFrom bonds places parents half.to.0 next))
        → Mark places x next ⊎ LowFrom bonds places parents x next
    here (inl own) = inl own
    here (inr (inl (mark, no_parent))) = inr (record { from = x; to = half.to.0; below = (0, refl); joined = joined; at = mark; other = λ same up. no_parent up })
    here (inr (inr (parent, from))) = inr (record {
      from = from.from;
      to = from.to;
      below = longer parent from.below.0 from.from from.below.1;
      joined = from.joined;
      at = from.at;
      other = λ same up. below_child parent from.below.0 from.from from.below.1 same;
    })

    reached : (new ≡ low) ⊎ (new ≡ next) → Mark places x new ⊎ LowFrom bonds places parents x new
    reached (inl e) = subst (λ (m : ℕ). Mark places x m ⊎ LowFrom bonds places parents x m) (sym e) so_far.reached
    reached (inr e) = subst (λ (m : ℕ). Mark places x m ⊎ LowFrom bonds places parents x m) (sym e) (here found.reached)

-- all half-edges are seen
pub low_done : (bonds : List Bond) (n : ℕ) (order : List AtomId) (places : List (Option ℕ)) (parents : List (Option AtomId)) (roots : List AtomId) → IsForest bonds n order places parents roots
    → (x low seen : ℕ) (halves : List HalfEdge) → halves ≡ half_edges_in bonds x → length halves ≤ seen → LowSoFar bonds places parents x halves low seen → LowIs bonds places parents x low
low_done bonds n order places parents roots is x low seen halves halves_are full so_far = record {
  own = so_far.own;
  least = λ w a j above joined other at. least above.0 w a j above.1 joined other at;
  reached = so_far.reached;
}
  where
    half : (y : ℕ) → are_joined bonds x y ≡ true → AtMost bonds places parents x y low
    half y joined =
        let ends = joined_ends n bonds x y is.fit joined in
        let h = leads_to halves y (ap (λ (hs : List HalfEdge). list_any (λ (half : HalfEdge). half.to.0 == y) hs) halves_are ∙ are_joined-half_edges_in bonds x y ends.different ∙ joined) in
        subst (λ (k : ℕ). AtMost bonds places parents x k low) h.3 (so_far.at_most h.0 h.1 (let within = slice_get_within halves h.0 h.1 h.2 in omega arith) h.2)

    -- from a child back to x, whose place is no less
    back_or_on : (c w a j : ℕ) → Parent parents c x → IsAbove parents c w → are_joined bonds w a ≡ true → Mark places a j → low ≤ j
    back_or_on c w a j child below joined at = elim (cases_eq a x) [
      | inl back ↦ so_far.own j (subst (λ (k : ℕ). Mark places k j) back at)
      | inr on ↦ (half c (is.found.parent c x child).joined).below w a j child below joined (λ same up. on (one_parent parents c a x up child)) at
    ]

    least : (k w a j : ℕ) → Up parents k w x → are_joined bonds w a ≡ true → (w ≡ x → Parent parents x a → ⊥) → Mark places a j → low ≤ j
    least zero w a j same joined other at = (half a (subst (λ (k : ℕ). are_joined bonds k a ≡ true) same joined)).here j (other same) at
    least (suc k) w a j up joined other at = let last = up_last parents k w x up in back_or_on last.0 w a j last.2 (k, last.1) joined at

-- one more atom has its least place
pub lows_more : (bonds : List Bond) (n : ℕ) (order : List AtomId) (places : List (Option ℕ)) (parents : List (Option AtomId)) (roots : List AtomId) → IsForest bonds n order places parents roots
    → (lows new : List ℕ) (x i low done : ℕ) → Mark places x i → i + done + 1 ≡ n → LowIs bonds places parents x low → new ≡ slice_set lows x low → AreLows bonds n places parents lows done
    → AreLows bonds n places parents new (done + 1)
lows_more bonds n order places parents roots is lows new x i low done at place found e are = rw e (record {
  count = length-slice_set lows x low ∙ are.count;
  each = λ y j at_y far. elim (cases_eq y x) [
    | inl same ↦ subst (λ (k : ℕ). LowAt bonds places parents (slice_set lows x low) k) (sym same) (low, here, found)
    | inr other ↦
        let not_i : j ≢ i = λ k_is. other (same_listed bonds n order places parents roots is.found y x j i at_y at k_is) in
        let old = are.each y j at_y (omega arith) in
        (old.0, set_other lows x y low other ∙ old.1, old.2)
  ];
})
  where
    here : slice_get (slice_set lows x low) x ≡ Some low
    here =
        let within : x < length lows = let a = slice_get_within places x (Some i) at in let b = is.found.place_count in let c = are.count in omega arith in
        set_here lows x (get_or lows x 0) low (slice_get-get_or lows x 0 within)

pub lows_none : (bonds : List Bond) (n : ℕ) (order : List AtomId) (places : List (Option ℕ)) (parents : List (Option AtomId)) (roots : List AtomId) → IsForest bonds n order places parents roots
    → (lows : List ℕ) → length lows ≡ n → AreLows bonds n places parents lows 0
lows_none bonds n order places parents roots is lows count = record {
  count = count;
  each = λ y j at far. absurd (let a = slice_get_within order j (made y) (is.found.placed y j at) in let t = is.found.total in omega arith);
}

-- the children of an atom come later in the order
pub children_done : (bonds : List Bond) (n : ℕ) (order : List AtomId) (places : List (Option ℕ)) (parents : List (Option AtomId)) (roots : List AtomId) → IsForest bonds n order places parents roots
    → (lows : List ℕ) (x i done : ℕ) → Mark places x i → i + done + 1 ≡ n → AreLows bonds n places parents lows done → (c : ℕ) → Parent parents c x → LowAt bonds places parents lows c
children_done bonds n order places parents roots is lows x i done at place are c parent =
    let child = is.found.parent c x parent in
    let same = one_mark places x i child.above at child.placed_above in
    let earlier = child.earlier in
    are.each c child.place child.placed (omega arith)

-- what the least place tells
pub rises_of : (bonds : List Bond) (n : ℕ) (order : List AtomId) (places : List (Option ℕ)) (parents : List (Option AtomId)) (roots : List AtomId) → IsForest bonds n order places parents roots
    → (x p low above : ℕ) → Parent parents x p → Mark places p above → LowIs bonds places parents x low → low < above → Rises bonds places parents x p
rises_of bonds n order places parents roots is x p low above parent at found less = elim found.reached [
  | inl mark ↦
      let child = is.found.parent x p parent in
      let a = one_mark places x low child.place mark child.placed in
      let b = one_mark places p above child.above at child.placed_above in
      let c = child.earlier in
      absurd (omega arith)
  | inr from ↦ record { low = low; above = above; from = from; at = at; earlier = less }
]

pub not_rises : (bonds : List Bond) (places : List (Option ℕ)) (parents : List (Option AtomId)) (x p low above : ℕ) → Mark places p above → LowIs bonds places parents x low
    → Rises bonds places parents x p → low < above
not_rises bonds places parents x p low above at found r =
    let less = found.least r.from.from r.from.to r.low r.from.below r.from.joined r.from.other r.from.at in
    let same = one_mark places p above r.above at r.at in
    let earlier = r.earlier in
    omega arith

-- what a look at the least places says
pub low_there : (bonds : List Bond) (places : List (Option ℕ)) (parents : List (Option AtomId)) (lows : List ℕ) (x d : ℕ) → LowAt bonds places parents lows x
    → LowIs bonds places parents x (get_or lows x d)
low_there bonds places parents lows x d (low, at, is) = subst (λ (k : ℕ). LowIs bonds places parents x k) (here lows x d low at) is
  where
    here : (lows : List ℕ) (x d low : ℕ) → slice_get lows x ≡ Some low → low ≡ get_or lows x d
    here lows x d low at = let within = slice_get_within lows x low at in same_Some low (get_or lows x d) (sym at ∙ slice_get-get_or lows x d within)

pub parent_placed : (bonds : List Bond) (n : ℕ) (order : List AtomId) (places : List (Option ℕ)) (parents : List (Option AtomId)) (roots : List AtomId) → IsForest bonds n order places parents roots
    → (x p : ℕ) → Parent parents x p → (i : ℕ) × (Mark places p i) × (p < length places)
parent_placed bonds n order places parents roots is x p parent =
    let child = is.found.parent x p parent in (child.above, child.placed_above, slice_get_within places p (Some child.above) child.placed_above)

pub rises_there : (bonds : List Bond) (n : ℕ) (order : List AtomId) (places : List (Option ℕ)) (parents : List (Option AtomId)) (roots : List AtomId) → IsForest bonds n order places parents roots
    → (lows : List ℕ) → AreLows bonds n places parents lows n → (x p d above : ℕ) → Parent parents x p → Mark places p above
    → (IsTrue (nat_lt (get_or lows x d) above) → Rises bonds places parents x p) × (Rises bonds places parents x p → IsTrue (nat_lt (get_or lows x d) above))
rises_there bonds n order places parents roots is lows are x p d above parent at =
    let child = is.found.parent x p parent in
    let low = low_there bonds places parents lows x d (are.each x child.place child.placed (omega arith)) in (
      (λ less. rises_of bonds n order places parents roots is x p (get_or lows x d) above parent at low (ltb-true (get_or lows x d) above less)),
      (λ rises. lt-ltb (get_or lows x d) above (not_rises bonds places parents x p (get_or lows x d) above at low rises)),
    )

pub listed_within : (bonds : List Bond) (n : ℕ) (order : List AtomId) (places : List (Option ℕ)) (parents : List (Option AtomId)) (roots : List AtomId) → IsForest bonds n order places parents roots
    → (i : ℕ) (x : AtomId) → slice_get order i ≡ Some x → x.0 < n
listed_within bonds n order places parents roots is i x at =
    let h = slice_get_within places x.0 (Some i) (is.found.listed i x at) in let c = is.found.place_count in omega arith
