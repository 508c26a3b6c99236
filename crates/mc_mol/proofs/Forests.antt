-- The steps of a depth-first search of all atoms.
use Rattle.std.proofs.Common.{List, None, Option, Some, [], ap, arith, get_or, inl, inr, length, refl, replicate, slice_get, slice_set, subst, suc, sym, true, zero, ℕ, ◌++◌, ◌+◌, ◌<◌, ◌==◌, ◌∙◌, ◌∷◌, ◌≡◌, ◌≢◌, ◌≤◌, ◌⊎◌}
use Rattle.std.proofs.lemmas.Bool.{cases_eq, cases_lt}
use Rattle.std.proofs.lemmas.List.{length-append}
use Rattle.std.proofs.lemmas.Option.{slice_get-get_or, slice_get_within, same_Some}
use Rattle.std.specs.List.{list_any}
use Rattle.mc_base.specs.declared.ids.AtomId.{AtomId}
use Rattle.mc_mol.proofs.Halves.{are_joined-half_edges_in}
use Rattle.mc_mol.proofs.Lists.{length-slice_set, slice_get-append_left, slice_get-append_past, slice_get-append_seam, slice_get-slice_set}
use Rattle.mc_mol.proofs.Numbered.{leads_to, length-none, made, mark_from, mark_kept, nobody, none_marked, set_here, set_other, unmarked-replicate, unmarked-set}
use Rattle.mc_mol.specs.Forests.{Found, IsAbove, IsChild, MayFind, OnPath, Parent, Searched, Up, next_place, scaled, still_to_go, with_root}
use Rattle.mc_mol.specs.HalfEdges.{half_edges_in}
use Rattle.mc_mol.specs.Molecule.{are_joined}
use Rattle.mc_mol.specs.Numbered.{Holds, Keeps, Mark, unmarked}
use Rattle.mc_mol.specs.declared.parts.Bond.{Bond}
use Rattle.mc_mol.specs.declared.parts.HalfEdge.{HalfEdge}

parents_kept : (parents : List (Option AtomId)) (x : ℕ) (parent : Option AtomId) → slice_get parents x ≡ Some None → (z p : ℕ) → Parent parents z p → Parent (slice_set parents x parent) z p
parents_kept parents x parent free z p at = set_other parents x z parent (λ same. let here : Parent parents x p = subst (λ (n : ℕ). Parent parents n p) same at in cc) ∙ at

pub up_kept : (old new : List (Option AtomId)) → ((x p : ℕ) → Parent old x p → Parent new x p) → (k x a : ℕ) → Up old k x a → Up new k x a
up_kept old new keeps zero x a up = up
up_kept old new keeps (suc k) x a (p, parent, up) = (p, keeps x p parent, up_kept old new keeps k p a up)

above_kept : (old new : List (Option AtomId)) → ((x p : ℕ) → Parent old x p → Parent new x p) → (a x : ℕ) → IsAbove old a x → IsAbove new a x
above_kept old new keeps a x (k, up) = (k, up_kept old new keeps k x a up)

pub above_child : (parents : List (Option AtomId)) (a x p : ℕ) → Parent parents x p → IsAbove parents a p → IsAbove parents a x
above_child parents a x p parent (k, up) = (suc k, (p, parent, up))

child_kept : (bonds : List Bond) (places new : List (Option ℕ)) (x p : ℕ) → Keeps places new → IsChild bonds places x p → IsChild bonds new x p
child_kept bonds places new x p keeps is = record {
  joined = is.joined;
  place = is.place;
  above = is.above;
  placed = keeps x is.place is.placed;
  placed_above = keeps p is.above is.placed_above;
  earlier = is.earlier;
}

-- an atom that is still free where one has got its place
still_free : (places : List (Option ℕ)) (x m z : ℕ) → slice_get places x ≡ Some None → slice_get (slice_set places x (Some m)) z ≡ Some None → (z ≢ x) × (slice_get places z ≡ Some None)
still_free places x m z was free = (other, sym (set_other places x z (Some m) other) ∙ free)
  where
    other : z ≢ x
    other same = let here : slice_get (slice_set places x (Some m)) z ≡ Some (Some m) = subst (λ (n : ℕ). slice_get (slice_set places x (Some m)) n ≡ Some (Some m)) (sym same) (set_here places x None (Some m) was) in cc

-- a new atom: how it hangs
record New (bonds : List Bond) (atoms : ℕ) (order : List AtomId) (places : List (Option ℕ)) (parents : List (Option AtomId)) (roots : List AtomId) (current : Option AtomId) (x : AtomId) : Type 0 where
  is : Searched bonds atoms order places parents roots current
  free : slice_get places x.0 ≡ Some None
  may : MayFind bonds current x.0

on_path_new : (parents : List (Option AtomId)) (current : Option AtomId) (x : AtomId) (z : ℕ) → slice_get parents x.0 ≡ Some None → OnPath parents current z → IsAbove (slice_set parents x.0 current) z x.0
on_path_new parents None x z free on = absurd on
on_path_new parents (Some p) x z free on =
    above_child (slice_set parents x.0 (Some p)) z x.0 p.0 (set_here parents x.0 None (Some p) free)
    (above_kept parents (slice_set parents x.0 (Some p)) (parents_kept parents x.0 (Some p) free) z p.0 on)

holds_more : (roots : List AtomId) (x : AtomId) (z : ℕ) → Holds roots z → Holds (roots ++ x ∷ []) z
holds_more roots x z (i, e) = (i, slice_get-append_left roots (x ∷ []) i (slice_get_within roots i (made z) e) ∙ e)

holds_with_root : (roots : List AtomId) (current : Option AtomId) (x : AtomId) (z : ℕ) → Holds roots z → Holds (with_root roots current x) z
holds_with_root roots None x z h = holds_more roots x z h
holds_with_root roots (Some p) x z h = h

-- a root with the new one is an old one or the new one, which has no parent
root_cases : (roots : List AtomId) (current : Option AtomId) (x : AtomId) (i : ℕ) (r : AtomId) → slice_get (with_root roots current x) i ≡ Some r
    → (slice_get roots i ≡ Some r) ⊎ ((r ≡ x) × (current ≡ None) × (i ≡ length roots))
root_cases roots None x i r e = elim (cases_lt i (length roots)) [
  | inl less ↦ inl (sym (slice_get-append_left roots (x ∷ []) i less) ∙ e)
  | inr past ↦ let h = slice_get-append_past roots x r i past e in inr (h.1, refl, h.0)
]
root_cases roots (Some p) x i r e = inl e

new_root : (roots : List AtomId) (current : Option AtomId) (x : AtomId) → current ≡ None → Holds (with_root roots current x) x.0
new_root roots None x e = (length roots, slice_get-append_seam roots x (length roots) refl)
new_root roots (Some p) x e = cc

roots_with : (roots : List AtomId) (current : Option AtomId) (x : AtomId) → length (with_root roots current x) ≤ length roots + 1
roots_with roots None x = let h = length-append roots (x ∷ []) in omega arith
roots_with roots (Some p) x = omega arith

found_parent : (bonds : List Bond) (places new : List (Option ℕ)) (current : Option AtomId) (x p i : ℕ) → Keeps places new → MayFind bonds current x
    → ((c : AtomId) → current ≡ Some c → (place : ℕ) × (Mark places c.0 place)) → ((c j : ℕ) → Mark places c j → j < i) → Mark new x i → current ≡ Some (made p) → IsChild bonds new x p
found_parent bonds places new None x p i keeps may current_found less at e = cc
found_parent bonds places new (Some c) x p i keeps may current_found less at e =
    let same : c ≡ made p = same_Some c (made p) e in
    let f = current_found (made p) e in
    record {
      joined = subst (λ (d : AtomId). are_joined bonds d.0 x ≡ true) same may;
      place = i;
      above = f.0;
      placed = at;
      placed_above = keeps p f.0 f.1;
      earlier = less p f.0 f.1;
    }

pub found_one : (bonds : List Bond) (atoms : ℕ) (order : List AtomId) (places : List (Option ℕ)) (parents : List (Option AtomId)) (roots : List AtomId) (current : Option AtomId) (x : AtomId)
    → Searched bonds atoms order places parents roots current → slice_get places x.0 ≡ Some None → MayFind bonds current x.0
    → Searched bonds atoms (order ++ x ∷ []) (slice_set places x.0 (Some (length order))) (slice_set parents x.0 current) (with_root roots current x) (Some x)
found_one bonds atoms order places parents roots current x is free may = record {
  found = record {
    place_count = length-slice_set places x.0 (Some (length order)) ∙ f.place_count;
    parent_count = length-slice_set parents x.0 current ∙ f.parent_count;
    total = let a = unmarked-set places x.0 (length order) free in let b = f.total in let c = length-append order (x ∷ []) in omega arith;
    listed = λ i y e. elim (cases_lt i (length order)) [
      | inl less ↦ keeps y.0 i (f.listed i y (sym (slice_get-append_left order (x ∷ []) i less) ∙ e))
      | inr past ↦
          let h = slice_get-append_past order x y i past e in
          subst (λ (k : ℕ). Mark new y.0 k) (sym h.0) (subst (λ (b : AtomId). Mark new b.0 (length order)) (sym h.1) here)
    ];
    placed = λ y i m. elim (mark_from places x.0 (length order) y i m) [
      | inl at ↦ slice_get-append_seam order x i at.1 ∙ ap (λ (n : ℕ). Some (made n)) (sym at.0)
      | inr at ↦ slice_get-append_left order (x ∷ []) i (before y i at) ∙ f.placed y i at
    ];
    free = λ z still. let s = still_free places x.0 (length order) z free still in set_other parents x.0 z current s.0 ∙ f.free z s.1;
    parent = λ z p e. elim (slice_get-slice_set parents x.0 z current (Some (made p)) e) [
      | inl at ↦ subst (λ (n : ℕ). IsChild bonds new n p) (sym at.0) (found_parent bonds places new current x.0 p (length order) keeps may is.current_found before here (sym at.1))
      | inr at ↦ child_kept bonds places new z p keeps (f.parent z p at)
    ];
    related = λ y z i j m n less joined. elim (mark_from places x.0 (length order) z j n) [
      | inl at ↦ elim (mark_from places x.0 (length order) y i m) [
        | inl first ↦ let a = first.1 in let b = at.1 in absurd (omega arith)
        | inr first ↦ subst (λ (k : ℕ). IsAbove up y k) (sym at.0) (on_path_new parents current x y no_parent (is.unfinished y x.0 i first (subst (λ (k : ℕ). are_joined bonds y k ≡ true) at.0 joined) free))
      ]
      | inr at ↦ elim (mark_from places x.0 (length order) y i m) [
        | inl first ↦ let a = first.1 in let b = before z j at in absurd (omega arith)
        | inr first ↦ above_kept parents up up_keeps y z (f.related y z i j first at less joined)
      ]
    ];
    root = λ y i m none. elim (mark_from places x.0 (length order) y i m) [
      | inl at ↦
          let mine : slice_get up x.0 ≡ Some None = subst (λ (n : ℕ). slice_get up n ≡ Some None) at.0 none in
          let current_is : current ≡ None = same_Some current None (sym (set_here parents x.0 None current no_parent) ∙ mine) in
          subst (λ (n : ℕ). Holds (with_root roots current x) n) (sym at.0) (new_root roots current x current_is)
      | inr at ↦ holds_with_root roots current x y (f.root y i at (sym (set_other parents x.0 y current (other y i at)) ∙ none))
    ];
    no_parent = λ i r e. elim (root_cases roots current x i r e) [
      | inl old ↦ set_other parents x.0 r.0 current (let g = f.root_found i r old in other r.0 g.0 g.1) ∙ f.no_parent i r old
      | inr one ↦ subst (λ (b : AtomId). slice_get up b.0 ≡ Some None) (sym one.0) (set_here parents x.0 None current no_parent ∙ ap (λ (o : Option AtomId). Some o) one.1)
    ];
    root_found = λ i r e. elim (root_cases roots current x i r e) [
      | inl old ↦ let g = f.root_found i r old in (g.0, keeps r.0 g.0 g.1)
      | inr one ↦ (length order, subst (λ (b : AtomId). Mark new b.0 (length order)) (sym one.0) here)
    ];
    different = λ i j r s less e g. elim (root_cases roots current x i r e) [
      | inl first ↦ elim (root_cases roots current x j s g) [
        | inl second ↦ f.different i j r s less first second
        | inr second ↦ λ same. let h = f.root_found i r first in other r.0 h.0 h.1 (same ∙ ap (λ (b : AtomId). b.0) second.0)
      ]
      | inr first ↦ elim (root_cases roots current x j s g) [
        | inl second ↦ let a = slice_get_within roots j s second in let b = first.2 in absurd (omega arith)
        | inr second ↦ let a = second.2 in let b = first.2 in absurd (omega arith)
      ]
    ];
    few_roots = let long = length-append order (x ∷ []) in let h = roots_with roots current x in let old = f.few_roots in omega arith;
  };
  unfinished = λ y z i m joined still.
      let s = still_free places x.0 (length order) z free still in
      elim (mark_from places x.0 (length order) y i m) [
        | inl at ↦ (0, sym at.0)
        | inr at ↦ on_path_new parents current x y no_parent (is.unfinished y z i at joined s.1)
      ];
  current_found = λ c e. (length order, subst (λ (b : AtomId). Mark new b.0 (length order)) (same_Some x c e) here);
}
  where
    f : Found bonds atoms order places parents roots
    f = is.found

    new : List (Option ℕ)
    new = slice_set places x.0 (Some (length order))

    up : List (Option AtomId)
    up = slice_set parents x.0 current

    no_parent : slice_get parents x.0 ≡ Some None
    no_parent = is.found.free x.0 free

    keeps : Keeps places (slice_set places x.0 (Some (length order)))
    keeps = mark_kept places x.0 (length order) free

    up_keeps : (z p : ℕ) → Parent parents z p → Parent (slice_set parents x.0 current) z p
    up_keeps = parents_kept parents x.0 current (is.found.free x.0 free)

    here : Mark (slice_set places x.0 (Some (length order))) x.0 (length order)
    here = set_here places x.0 None (Some (length order)) free

    before : (c j : ℕ) → Mark places c j → j < length order
    before c j m = slice_get_within order j (made c) (is.found.placed c j m)

    other : (c j : ℕ) → Mark places c j → c ≢ x.0
    other c j m same = let there : Mark places x.0 j = subst (λ (n : ℕ). Mark places n j) same m in cc

-- an atom all of whose neighbours are found is left
on_path_left : (parents : List (Option AtomId)) (p : ℕ) (q : Option AtomId) (k z : ℕ) → slice_get parents p ≡ Some q → Up parents (suc k) p z → OnPath parents q z
on_path_left parents p q k z at (r, parent, up) =
    subst (λ (o : Option AtomId). OnPath parents o z) (same_Some (Some (made r)) q (sym parent ∙ at)) (k, up)

pub left_one : (bonds : List Bond) (atoms : ℕ) (order : List AtomId) (places : List (Option ℕ)) (parents : List (Option AtomId)) (roots : List AtomId) (p : AtomId) (q : Option AtomId)
    → Searched bonds atoms order places parents roots (Some p) → ((y : ℕ) → are_joined bonds p.0 y ≡ true → slice_get places y ≡ Some None → ⊥) → slice_get parents p.0 ≡ Some q
    → Searched bonds atoms order places parents roots q
left_one bonds atoms order places parents roots p q is done at = record {
  found = is.found;
  unfinished = λ x y i m joined free. on x y joined free (is.unfinished x y i m joined free);
  current_found = λ c e.
      let parent : Parent parents p.0 c.0 = at ∙ ap (λ (o : Option AtomId). Some o) e in
      let child = is.found.parent p.0 c.0 parent in
      (child.above, child.placed_above);
}
  where
    on : (x y : ℕ) → are_joined bonds x y ≡ true → slice_get places y ≡ Some None → IsAbove parents x p.0 → OnPath parents q x
    on x y joined free (zero, same) = absurd (done y (subst (λ (n : ℕ). are_joined bonds n y ≡ true) (sym same) joined) free)
    on x y joined free (suc k, up) = on_path_left parents p.0 q k x at up

-- nothing is found yet
no_parents : (n x p : ℕ) → Parent (replicate n None) x p → ⊥
no_parents zero x p e = cc
no_parents (suc n) zero p e = cc
no_parents (suc n) (suc x) p e = no_parents n x p e

both_none : (n x : ℕ) → slice_get (nobody n) x ≡ Some None → slice_get (replicate {A = Option AtomId} n None) x ≡ Some None
both_none zero x e = cc
both_none (suc n) zero e = refl
both_none (suc n) (suc x) e = both_none n x e

length-nones : (n : ℕ) → length (replicate {A = Option AtomId} n None) ≡ n
length-nones zero = refl
length-nones (suc n) = let h = length-nones n in omega arith

pub searched_none : (bonds : List Bond) (n : ℕ) (order : List AtomId) (places : List (Option ℕ)) (parents : List (Option AtomId)) (roots : List AtomId) → order ≡ [] → places ≡ replicate n None
    → parents ≡ replicate n None → roots ≡ [] → Searched bonds n order places parents roots None
searched_none bonds n order places parents roots e f g h = rw (e, f, g, h) (record {
  found = record {
    place_count = length-none n;
    parent_count = length-nones n;
    total = let h = unmarked-replicate n in omega arith;
    listed = λ i x e. cc;
    placed = λ x i m. absurd (none_marked n x i m);
    free = λ x free. both_none n x free;
    parent = λ x p e. absurd (no_parents n x p e);
    related = λ x y i j m. absurd (none_marked n x i m);
    root = λ x i m. absurd (none_marked n x i m);
    no_parent = λ i r e. cc;
    root_found = λ i r e. cc;
    different = λ i j r s less e. cc;
    few_roots = omega arith;
  };
  unfinished = λ x y i m. absurd (none_marked n x i m);
  current_found = λ c e. cc;
})

-- what a look at the places says
pub free_here : (places : List (Option ℕ)) (x : ℕ) (o : Option ℕ) → x < length places → o ≡ get_or places x o → o ≡ None → slice_get places x ≡ Some None
free_here places x o within e f = slice_get-get_or places x o within ∙ ap (λ (m : Option ℕ). Some m) (sym e ∙ f)

pub all_but_one : (halves : List HalfEdge) (places : List (Option ℕ)) (i : ℕ) (here : HalfEdge) (o : Option ℕ) (d : ℕ) → slice_get halves i ≡ Some here → here.to.0 < length places
    → o ≡ get_or places here.to.0 o → o ≡ Some d
    → ((k : ℕ) (half : HalfEdge) → k < i → slice_get halves k ≡ Some half → slice_get places half.to.0 ≡ Some None → ⊥)
    → (k : ℕ) (half : HalfEdge) → k < i + 1 → slice_get halves k ≡ Some half → slice_get places half.to.0 ≡ Some None → ⊥
all_but_one halves places i here o d at within e f found k half less there free = elim (cases_lt k i) [
  | inl before ↦ found k half before there free
  | inr past ↦
      let k_is : k ≡ i = omega arith in
      let same : half ≡ here = same_Some half here (sym there ∙ ap (λ (n : ℕ). slice_get halves n) k_is ∙ at) in
      let placed : slice_get places here.to.0 ≡ Some (Some d) = slice_get-get_or places here.to.0 o within ∙ ap (λ (m : Option ℕ). Some m) (sym e ∙ f) in
      let not_placed : slice_get places here.to.0 ≡ Some None = subst (λ (h : HalfEdge). slice_get places h.to.0 ≡ Some None) same free in
      cc
]

pub none_free : (bonds : List Bond) (a : AtomId) (halves : List HalfEdge) (places : List (Option ℕ)) → halves ≡ half_edges_in bonds a.0 → ((place : ℕ) × (Mark places a.0 place))
    → ((k : ℕ) (half : HalfEdge) → slice_get halves k ≡ Some half → slice_get places half.to.0 ≡ Some None → ⊥)
    → (y : ℕ) → are_joined bonds a.0 y ≡ true → slice_get places y ≡ Some None → ⊥
none_free bonds a halves places halves_are is found y joined free = elim (cases_eq a.0 y) [
  | inl same ↦ let at = is.1 in let here : slice_get places a.0 ≡ Some None = subst (λ (n : ℕ). slice_get places n ≡ Some None) (sym same) free in cc
  | inr other ↦
      let h = leads_to halves y (ap (λ (hs : List HalfEdge). list_any (λ (half : HalfEdge). half.to.0 == y) hs) halves_are ∙ are_joined-half_edges_in bonds a.0 y other ∙ joined) in
      found h.0 h.1 h.2 (subst (λ (n : ℕ). slice_get places n ≡ Some None) (sym h.3) free)
]

-- the search comes to an end
scaled_less : (n u v h d : ℕ) → v + 1 ≡ u → h ≤ n → scaled n v + h < scaled n u + d
scaled_less n zero v h d e few = absurd (omega arith)
scaled_less n (suc u) v h d e few = let same : u ≡ v = omega arith in let s = ap (scaled n) same in omega arith

next_place_at : (places : List (Option ℕ)) (x i : ℕ) → Mark places x i → next_place (slice_get places x) ≡ i + 1
next_place_at places x i at = ap next_place at

pub found_smaller : (bonds : List Bond) (atoms : ℕ) (order : List AtomId) (places new : List (Option ℕ)) (parents : List (Option AtomId)) (roots : List AtomId) (current : AtomId) (x : AtomId)
    → Searched bonds atoms order places parents roots (Some current) → slice_get places x.0 ≡ Some None → new ≡ slice_set places x.0 (Some (length order))
    → still_to_go atoms new (Some x) < still_to_go atoms places (Some current)
found_smaller bonds atoms order places new parents roots current x is free e =
    let less = unmarked-set places x.0 (length order) free in
    let total = is.found.total in
    let at = next_place_at (slice_set places x.0 (Some (length order))) x.0 (length order) (set_here places x.0 None (Some (length order)) free) in
    rw e (scaled_less atoms (unmarked places) (unmarked (slice_set places x.0 (Some (length order)))) (next_place (slice_get (slice_set places x.0 (Some (length order))) x.0))
    (next_place (slice_get places current.0)) less (omega arith))

pub left_smaller : (bonds : List Bond) (atoms : ℕ) (order : List AtomId) (places : List (Option ℕ)) (parents : List (Option AtomId)) (roots : List AtomId) (p : AtomId) (q : Option AtomId)
    → Searched bonds atoms order places parents roots (Some p) → slice_get parents p.0 ≡ Some q → still_to_go atoms places q < still_to_go atoms places (Some p)
left_smaller bonds atoms order places parents roots p None is at =
    let c = is.current_found p refl in
    let d = next_place_at places p.0 c.0 c.1 in
    omega arith
left_smaller bonds atoms order places parents roots p (Some q) is at =
    let child = is.found.parent p.0 q.0 at in
    let d = next_place_at places p.0 child.place child.placed in
    let e = next_place_at places q.0 child.above child.placed_above in
    let less = child.earlier in
    omega arith

pub found_from : (bonds : List Bond) (atoms : ℕ) (order longer : List AtomId) (places placed : List (Option ℕ)) (parents further : List (Option AtomId)) (roots more : List AtomId)
    (current : Option AtomId) (x : AtomId) → Searched bonds atoms order places parents roots current → slice_get places x.0 ≡ Some None → MayFind bonds current x.0 → longer ≡ order ++ x ∷ []
    → placed ≡ slice_set places x.0 (Some (length order)) → further ≡ slice_set parents x.0 current → more ≡ with_root roots current x
    → Searched bonds atoms longer placed further more (Some x)
found_from bonds atoms order longer places placed parents further roots more current x is free may e f g h = rw (e, f, g, h) (found_one bonds atoms order places parents roots current x is free may)

pub places_kept : (places placed : List (Option ℕ)) (x i : ℕ) → slice_get places x ≡ Some None → placed ≡ slice_set places x (Some i) → Keeps places placed
places_kept places placed x i free e = rw e (mark_kept places x i free)

pub place_given : (places placed : List (Option ℕ)) (x i : ℕ) → slice_get places x ≡ Some None → placed ≡ slice_set places x (Some i) → Mark placed x i
place_given places placed x i free e = rw e (set_here places x None (Some i) free)

pub placed_here : (places : List (Option ℕ)) (x i : ℕ) (o : Option ℕ) → x < length places → o ≡ get_or places x o → o ≡ Some i → Mark places x i
placed_here places x i o within e f = slice_get-get_or places x o within ∙ ap (λ (m : Option ℕ). Some m) (sym e ∙ f)

pub all_found : (old new : List (Option ℕ)) (a : ℕ) → Keeps old new → ((x : ℕ) → x < a → (place : ℕ) × (Mark old x place)) → ((place : ℕ) × (Mark new a place))
    → (x : ℕ) → x < a + 1 → (place : ℕ) × (Mark new x place)
all_found old new a keeps were is x less = elim (cases_lt x a) [
  | inl before ↦ (let w = were x before in (w.0, keeps x w.0 w.1))
  | inr past ↦ let same : a ≡ x = omega arith in (is.0, subst (λ (n : ℕ). Mark new n is.0) same is.1)
]

pub searched_by : (bonds : List Bond) (atoms n : ℕ) (order : List AtomId) (places : List (Option ℕ)) (parents : List (Option AtomId)) (roots : List AtomId) → n ≡ atoms → order ≡ []
    → places ≡ replicate n None → parents ≡ replicate n None → roots ≡ [] → Searched bonds atoms order places parents roots None
searched_by bonds atoms n order places parents roots count e f g h = subst (λ (k : ℕ). Searched bonds k order places parents roots None) count (searched_none bonds n order places parents roots e f g h)
