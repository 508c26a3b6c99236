-- The roots of a depth-first search are one atom of each connected part.
use Rattle.std.proofs.Common.{List, None, Option, Some, [], ap, arith, get_or, inl, inr, length, refl, slice_get, subst, suc, sym, true, zero, ℕ, ◌+◌, ◌-◌, ◌<◌, ◌∙◌, ◌∷◌, ◌≡◌, ◌≤◌, ◌⊎◌}
use Rattle.std.proofs.lemmas.Bool.{cases_eq, cases_lt}
use Rattle.std.proofs.lemmas.Option.{slice_get-get_or, slice_get_within, same_Some}
use Rattle.std.specs.Prelude.{All}
use Rattle.mc_base.specs.declared.ids.AtomId.{AtomId}
use Rattle.mc_mol.proofs.Connected.{Leads, connected_on, connected_self, joined_connected, kept_along}
use Rattle.mc_mol.proofs.Neighbours.{joined_back, joined_ends}
use Rattle.mc_mol.proofs.Numbered.{made}
use Rattle.mc_mol.proofs.PartCount.{IsOneOfEachPart, ones_counted}
use Rattle.mc_mol.specs.Forests.{Found, IsAbove, IsForest, Parent, Up}
use Rattle.mc_mol.specs.Molecule.{are_joined}
use Rattle.mc_mol.specs.Numbered.{Mark, unmarked}
use Rattle.mc_mol.specs.Parts.{independent_rings, part_count}
use Rattle.mc_mol.specs.WellFormed.{IsBond}
use Rattle.mc_mol.specs.declared.parts.Bond.{Bond}

-- the root of an atom's tree

pub record TopOf (parents : List (Option AtomId)) (x r : ℕ) : Type 0 where
  pub above : IsAbove parents r x
  pub root : slice_get parents r ≡ Some None

pub above_trans : (parents : List (Option AtomId)) (k x a b : ℕ) → Up parents k x a → IsAbove parents b a → IsAbove parents b x
above_trans parents zero x a b up above = subst (λ (n : ℕ). IsAbove parents b n) (sym up) above
above_trans parents (suc k) x a b (p, parent, up) above = let h = above_trans parents k p a b up above in (suc h.0, (p, parent, h.1))

pub one_parent : (parents : List (Option AtomId)) (x p q : ℕ) → Parent parents x p → Parent parents x q → p ≡ q
one_parent parents x p q e f = ap (λ (a : AtomId). a.0) (same_Some (made p) (made q) (same_Some (Some (made p)) (Some (made q)) (sym e ∙ f)))

one_top : (parents : List (Option AtomId)) (k j x r s : ℕ) → Up parents k x r → slice_get parents r ≡ Some None → Up parents j x s → slice_get parents s ≡ Some None → r ≡ s
one_top parents zero zero x r s up root up_s root_s = sym up ∙ up_s
one_top parents zero (suc j) x r s up root (p, parent, up_s) root_s = let none : slice_get parents x ≡ Some None = subst (λ (n : ℕ). slice_get parents n ≡ Some None) (sym up) root in cc
one_top parents (suc k) zero x r s (p, parent, up) root up_s root_s = let none : slice_get parents x ≡ Some None = subst (λ (n : ℕ). slice_get parents n ≡ Some None) (sym up_s) root_s in cc
one_top parents (suc k) (suc j) x r s (p, parent, up) root (q, parent_q, up_s) root_s =
    one_top parents k j p r s up root (subst (λ (n : ℕ). Up parents j n s) (one_parent parents x q p parent_q parent) up_s) root_s

pub same_top : (parents : List (Option AtomId)) (x r s : ℕ) → TopOf parents x r → TopOf parents x s → r ≡ s
same_top parents x r s at_r at_s = let a = at_r.above in let b = at_s.above in one_top parents a.0 b.0 x r s a.1 at_r.root b.1 at_s.root

-- a parent, or none
pub parent_cases : (parents : List (Option AtomId)) (x : ℕ) → x < length parents → (slice_get parents x ≡ Some None) ⊎ ((p : ℕ) × (Parent parents x p))
parent_cases parents x within = cases (get_or parents x None) (slice_get-get_or parents x None within)
  where
    cases : (o : Option AtomId) → slice_get parents x ≡ Some o → (slice_get parents x ≡ Some None) ⊎ ((p : ℕ) × (Parent parents x p))
    cases None e = inl e
    cases (Some p) e = inr (p.0, e)

top_below : (bonds : List Bond) (n : ℕ) (order : List AtomId) (places : List (Option ℕ)) (parents : List (Option AtomId)) (roots : List AtomId) → Found bonds n order places parents roots
    → (most x i : ℕ) → Mark places x i → i < most → (r : ℕ) × (TopOf parents x r)
top_below bonds n order places parents roots is zero x i at less = absurd (omega arith)
top_below bonds n order places parents roots is (suc most) x i at less =
    elim (parent_cases parents x (let a = slice_get_within places x (Some i) at in let b = is.place_count in let c = is.parent_count in omega arith)) [
      | inl none ↦ (x, record { above = (0, refl); root = none })
      | inr some ↦
          let child = is.parent x some.0 some.1 in
          let same : i ≡ child.place = same_place places x i child.place at child.placed in
          let earlier = child.earlier in
          let top = top_below bonds n order places parents roots is most some.0 child.above child.placed_above (omega arith) in
          let above = top.1.above in
          (top.0, record { above = (suc above.0, (some.0, some.1, above.1)); root = top.1.root })
    ]
  where
    same_place : (places : List (Option ℕ)) (x i j : ℕ) → Mark places x i → Mark places x j → i ≡ j
    same_place places x i j e f = cc

pub top_of : (bonds : List Bond) (n : ℕ) (order : List AtomId) (places : List (Option ℕ)) (parents : List (Option AtomId)) (roots : List AtomId) → Found bonds n order places parents roots
    → (x i : ℕ) → Mark places x i → (r : ℕ) × (TopOf parents x r)
top_of bonds n order places parents roots is x i at = top_below bonds n order places parents roots is (suc i) x i at (omega arith)

-- joined atoms have one root
pub same_listed : (bonds : List Bond) (n : ℕ) (order : List AtomId) (places : List (Option ℕ)) (parents : List (Option AtomId)) (roots : List AtomId) → Found bonds n order places parents roots
    → (x y i j : ℕ) → Mark places x i → Mark places y j → i ≡ j → x ≡ y
same_listed bonds n order places parents roots is x y i j at_x at_y e =
    ap (λ (a : AtomId). a.0) (same_Some (made x) (made y) (sym (is.placed x i at_x) ∙ ap (λ (k : ℕ). slice_get order k) e ∙ is.placed y j at_y))

top_joined : (bonds : List Bond) (n : ℕ) (order : List AtomId) (places : List (Option ℕ)) (parents : List (Option AtomId)) (roots : List AtomId) → IsForest bonds n order places parents roots
    → All (IsBond n) bonds → (x y r : ℕ) → are_joined bonds x y ≡ true → TopOf parents x r → TopOf parents y r
top_joined bonds n order places parents roots is all x y r joined top =
    let ends = joined_ends n bonds x y all joined in
    let at_x = is.all x ends.first in
    let at_y = is.all y ends.second in
    elim (cases_lt at_x.0 at_y.0) [
      | inl less ↦
          let up = is.found.related x y at_x.0 at_y.0 at_x.1 at_y.1 less joined in
          record { above = above_trans parents up.0 y x r up.1 top.above; root = top.root }
      | inr more ↦ elim (cases_eq at_x.0 at_y.0) [
        | inl same ↦ absurd (ends.different (same_listed bonds n order places parents roots is.found x y at_x.0 at_y.0 at_x.1 at_y.1 same))
        | inr other ↦
            let up = is.found.related y x at_y.0 at_x.0 at_y.1 at_x.1 (omega arith) (joined_back bonds x y joined) in
            let mine = top_of bonds n order places parents roots is.found y at_y.0 at_y.1 in
            let theirs : TopOf parents x mine.0 = record { above = above_trans parents up.0 x y mine.0 up.1 mine.1.above; root = mine.1.root } in
            subst (λ (k : ℕ). TopOf parents y k) (same_top parents x mine.0 r theirs top) mine.1
      ]
    ]

-- connected atoms have one root
pub top_connected : (bonds : List Bond) (n : ℕ) (order : List AtomId) (places : List (Option ℕ)) (parents : List (Option AtomId)) (roots : List AtomId) → IsForest bonds n order places parents roots
    → All (IsBond n) bonds → (x y r : ℕ) → Leads bonds x y → TopOf parents x r → TopOf parents y r
top_connected bonds n order places parents roots is all x y r leads top =
    kept_along (λ (z : ℕ). TopOf parents z r) bonds (λ u v joined at_u. top_joined bonds n order places parents roots is all u v r joined at_u) x y leads top

-- an atom is connected to those above it
pub up_connected : (bonds : List Bond) (n : ℕ) (order : List AtomId) (places : List (Option ℕ)) (parents : List (Option AtomId)) (roots : List AtomId) → Found bonds n order places parents roots
    → (k x a i : ℕ) → Up parents k x a → Mark places x i → (Leads bonds x a) × ((j : ℕ) × (Mark places a j))
up_connected bonds n order places parents roots is zero x a i same at =
    (subst (λ (m : ℕ). Leads bonds x m) same (connected_self bonds x), (i, subst (λ (m : ℕ). Mark places m i) same at))
up_connected bonds n order places parents roots is (suc k) x a i (p, parent, up) at =
    let child = is.parent x p parent in
    let rest = up_connected bonds n order places parents roots is k p a child.above up child.placed_above in
    (connected_on bonds x p a (joined_connected bonds x p (joined_back bonds p x child.joined)) rest.0, rest.1)

pub roots_one_of_each : (bonds : List Bond) (n : ℕ) (order : List AtomId) (places : List (Option ℕ)) (parents : List (Option AtomId)) (roots : List AtomId)
    → IsForest bonds n order places parents roots → All (IsBond n) bonds → IsOneOfEachPart bonds n roots
roots_one_of_each bonds n order places parents roots is all = record {
  within = λ i a e. let f = is.found.root_found i a e in let h = slice_get_within places a.0 (Some f.0) f.1 in let c = is.found.place_count in omega arith;
  apart = λ i j a b less e f leads. is.found.different i j a b less e f
      (same_top parents b.0 a.0 b.0 (top_connected bonds n order places parents roots is all a.0 b.0 a.0 leads (own i a e)) (own j b f));
  every = λ x within.
      let at = is.all x within in
      let top = top_of bonds n order places parents roots is.found x at.0 at.1 in
      let above = top.1.above in
      let way = up_connected bonds n order places parents roots is.found above.0 x top.0 at.0 above.1 at.1 in
      let held = is.found.root top.0 way.1.0 way.1.1 top.1.root in
      (held.0, made top.0, held.1, way.0);
}
  where
    own : (i : ℕ) (a : AtomId) → slice_get roots i ≡ Some a → TopOf parents a.0 a.0
    own i a e = record { above = (0, refl); root = is.found.no_parent i a e }

no_unmarked : (marks : List (Option ℕ)) → ((x : ℕ) → x < length marks → (d : ℕ) × (Mark marks x d)) → unmarked marks ≡ 0
no_unmarked [] all = refl
no_unmarked (None ∷ marks) all = let h = all 0 (omega arith) in let at = h.1 in cc
no_unmarked (Some d ∷ marks) all = no_unmarked marks (λ x less. all (suc x) (omega arith))

pub order_full : (bonds : List Bond) (n : ℕ) (order : List AtomId) (places : List (Option ℕ)) (parents : List (Option AtomId)) (roots : List AtomId) → IsForest bonds n order places parents roots
    → length order ≡ n
order_full bonds n order places parents roots is =
    let none = no_unmarked places (λ x less. is.all x (let c = is.found.place_count in omega arith)) in
    let total = is.found.total in
    omega arith

pub few_roots : (bonds : List Bond) (n : ℕ) (order : List AtomId) (places : List (Option ℕ)) (parents : List (Option AtomId)) (roots : List AtomId) → IsForest bonds n order places parents roots
    → length roots ≤ n
few_roots bonds n order places parents roots is = let full = order_full bonds n order places parents roots is in let few = is.found.few_roots in omega arith

-- the roots count the parts
pub independent_of : (bonds : List Bond) (n : ℕ) (order : List AtomId) (places : List (Option ℕ)) (parents : List (Option AtomId)) (roots : List AtomId) (rings : ℕ)
    → IsForest bonds n order places parents roots → All (IsBond n) bonds → rings ≡ (length bonds + length roots) - n
    → rings ≡ independent_rings bonds n
independent_of bonds n order places parents roots rings is all e =
    e ∙ ap (λ (parts : ℕ). (length bonds + parts) - n) (ones_counted bonds n roots (roots_one_of_each bonds n order places parents roots is all))

pub parts_of : (bonds : List Bond) (n : ℕ) (order : List AtomId) (places : List (Option ℕ)) (parents : List (Option AtomId)) (roots : List AtomId)
    → IsForest bonds n order places parents roots → length roots ≡ part_count bonds n
parts_of bonds n order places parents roots is = ones_counted bonds n roots (roots_one_of_each bonds n order places parents roots is is.fit)
