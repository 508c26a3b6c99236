-- The steps by which atoms get their blocks.
use Rattle.std.proofs.Common.{Bool, List, None, Option, Some, [], ap, arith, inl, inr, length, refl, replicate, slice_get, slice_set, subst, sym, ℕ, ◌++◌, ◌+◌, ◌<◌, ◌∙◌, ◌∷◌, ◌≡◌, ◌≢◌, ◌≤◌, ◌⊎◌}
use Rattle.std.proofs.lemmas.Bool.{cases_lt}
use Rattle.std.proofs.lemmas.List.{length-append}
use Rattle.std.proofs.lemmas.Option.{slice_get_within, same_Some}
use Rattle.std.specs.Prelude.{IsTrue}
use Rattle.mc_base.specs.declared.ids.AtomId.{AtomId}
use Rattle.mc_mol.proofs.LeastPlaces.{one_mark}
use Rattle.mc_mol.proofs.Lists.{length-slice_set, slice_get-append_left, slice_get-append_past, slice_get-append_seam}
use Rattle.mc_mol.proofs.Numbered.{free_at, length-none, made, mark_from, mark_kept, none_marked, set_here, set_other}
use Rattle.mc_mol.proofs.Roots.{same_listed}
use Rattle.mc_mol.specs.Forests.{IsForest, Parent}
use Rattle.mc_mol.specs.Lows.{Rises}
use Rattle.mc_mol.specs.Numbered.{Mark}
use Rattle.mc_mol.specs.declared.parts.Bond.{Bond}
use Rattle.mc_rings.specs.Blocks.{Begins, Blocked, Hangs, HeadOf}

pub blocked_none : (bonds : List Bond) (n : ℕ) (places : List (Option ℕ)) (parents : List (Option AtomId)) (heads firsts : List AtomId) (above : List (Option ℕ)) → length places ≡ n → heads ≡ []
    → firsts ≡ [] → above ≡ replicate n None → Blocked bonds n places parents heads firsts above 0
blocked_none bonds n places parents heads firsts above count e f g = rw (e, f, g) (record {
  count = length-none n;
  same_count = refl;
  few = omega arith;
  within = λ x k m. absurd (none_marked n x k m);
  free = λ x j at far. free_at n x (let h = slice_get_within places x (Some j) at in omega arith);
  root = λ x j at none. free_at n x (let h = slice_get_within places x (Some j) at in omega arith);
  each = λ x p j parent at less. absurd (omega arith);
  head = λ k c e. cc;
})

pub blocked_root : (bonds : List Bond) (n : ℕ) (order : List AtomId) (places : List (Option ℕ)) (parents : List (Option AtomId)) (roots heads firsts : List AtomId) (above : List (Option ℕ)) (x i : ℕ)
    → IsForest bonds n order places parents roots → Mark places x i → slice_get parents x ≡ Some None → Blocked bonds n places parents heads firsts above i
    → Blocked bonds n places parents heads firsts above (i + 1)
blocked_root bonds n order places parents roots heads firsts above x i is at none are = record {
  count = are.count;
  same_count = are.same_count;
  few = let h = are.few in omega arith;
  within = are.within;
  free = λ y j at_y far. are.free y j at_y (omega arith);
  root = are.root;
  each = λ y p j parent at_y less. elim (cases_lt j i) [
    | inl before ↦ are.each y p j parent at_y before
    | inr past ↦
        let same = same_listed bonds n order places parents roots is.found y x j i at_y at (omega arith) in
        let mine : Parent parents x p = subst (λ (k : ℕ). Parent parents k p) same parent in
        cc
  ];
  head = are.head;
}

-- what stood in a list still stands where it may have grown
grown : (old new : List AtomId) (x : AtomId) → (new ≡ old) ⊎ (new ≡ old ++ x ∷ []) → (k : ℕ) (c : AtomId) → slice_get old k ≡ Some c → slice_get new k ≡ Some c
grown old new x (inl e) k c at = ap (λ (l : List AtomId). slice_get l k) e ∙ at
grown old new x (inr e) k c at = ap (λ (l : List AtomId). slice_get l k) e ∙ slice_get-append_left old (x ∷ []) k (slice_get_within old k c at) ∙ at

-- a child, the last of the order so far, gets its block
pub blocked_child : (bonds : List Bond) (n : ℕ) (order : List AtomId) (places : List (Option ℕ)) (parents : List (Option AtomId)) (roots heads firsts longer further : List AtomId)
    (above new : List (Option ℕ)) (x p : AtomId) (i k : ℕ) (rises : Bool) → IsForest bonds n order places parents roots → Mark places x.0 i → Parent parents x.0 p.0
    → Blocked bonds n places parents heads firsts above i → (IsTrue rises → Rises bonds places parents x.0 p.0) × (Rises bonds places parents x.0 p.0 → IsTrue rises)
    → Begins heads firsts longer further above x p rises k → new ≡ above
    → Blocked bonds n places parents longer further (slice_set new x.0 (Some k)) (i + 1)
blocked_child bonds n order places parents roots heads firsts longer further above new x p i k rises is at parent are told begins e = rw e (record {
  count = length-slice_set above x.0 (Some k) ∙ are.count;
  same_count = same_count begins;
  few = few begins;
  within = λ y l m. elim (mark_from above x.0 k y l m) [ inl at_x ↦ (let e = at_x.1 in let h = k_within begins in omega arith) | inr old ↦ (let h = are.within y l old in let g = longer_heads in omega arith) ];
  free = λ y j at_y far. set_other above x.0 y (Some k) (other y j at_y (omega arith)) ∙ are.free y j at_y (omega arith);
  root = λ y j at_y none. set_other above x.0 y (Some k) (λ same. let mine : slice_get parents x.0 ≡ Some None = subst (λ (m : ℕ). slice_get parents m ≡ Some None) same none in cc)
      ∙ are.root y j at_y none;
  each = λ y q j child at_y less. elim (cases_lt j i) [
    | inl before ↦ let old = are.each y q j child at_y before in (old.0, keeps y old.0 old.1, kept y q old.0 j child at_y before old.2)
    | inr past ↦
        let j_is : j ≡ i = omega arith in
        let same = same_listed bonds n order places parents roots is.found x.0 y i j at at_y (sym j_is) in
        let q_is : p.0 ≡ q = ap (λ (a : AtomId). a.0) (same_Some p (made q) (same_Some (Some p) (Some (made q)) (sym parent ∙ subst (λ (m : ℕ). Parent parents m q) (sym same) child))) in
        subst (λ (m : ℕ). (l : ℕ) × (Mark (slice_set above x.0 (Some k)) m l) × (Hangs bonds places parents longer further (slice_set above x.0 (Some k)) m q l)) same
        (subst (λ (m : ℕ). (l : ℕ) × (Mark (slice_set above x.0 (Some k)) x.0 l) × (Hangs bonds places parents longer further (slice_set above x.0 (Some k)) x.0 m l)) q_is (k, here, hangs begins))
  ];
  head = λ l c at_l. elim (cases_lt l (length heads)) [
    | inl less ↦ old_head l c (sym_left l c less at_l)
    | inr more ↦ new_head l c more at_l begins
  ];
})
  where
    free_x : slice_get above x.0 ≡ Some None
    free_x = are.free x.0 i at (omega arith)

    here : Mark (slice_set above x.0 (Some k)) x.0 k
    here = set_here above x.0 None (Some k) (are.free x.0 i at (omega arith))

    keeps : (y l : ℕ) → Mark above y l → Mark (slice_set above x.0 (Some k)) y l
    keeps = mark_kept above x.0 k (are.free x.0 i at (omega arith))

    other : (y j : ℕ) → Mark places y j → j ≢ i → y ≢ x.0
    other y j at_y differ same = differ (one_mark places x.0 j i (subst (λ (m : ℕ). Mark places m j) same at_y) at)

    heads_grow : (longer ≡ heads) ⊎ (longer ≡ heads ++ x ∷ [])
    heads_grow = cases begins
      where
        cases : Begins heads firsts longer further above x p rises k → (longer ≡ heads) ⊎ (longer ≡ heads ++ x ∷ [])
        cases (inl (r, m, g, h)) = inl g
        cases (inr (r, m, g, h)) = inr g

    firsts_grow : (further ≡ firsts) ⊎ (further ≡ firsts ++ p ∷ [])
    firsts_grow = cases begins
      where
        cases : Begins heads firsts longer further above x p rises k → (further ≡ firsts) ⊎ (further ≡ firsts ++ p ∷ [])
        cases (inl (r, m, g, h)) = inl h
        cases (inr (r, m, g, h)) = inr h

    same_count : Begins heads firsts longer further above x p rises k → length further ≡ length longer
    same_count (inl (r, m, g, h)) = ap length h ∙ are.same_count ∙ sym (ap length g)
    same_count (inr (r, m, g, h)) = let a = ap length g in let b = ap length h in let c = length-append heads (x ∷ []) in let d = length-append firsts (p ∷ []) in let s = are.same_count in omega arith

    few : Begins heads firsts longer further above x p rises k → length longer ≤ i + 1
    few (inl (r, m, g, h)) = let a = ap length g in let b = are.few in omega arith
    few (inr (r, m, g, h)) = let a = ap length g in let c = length-append heads (x ∷ []) in let b = are.few in omega arith

    k_within : Begins heads firsts longer further above x p rises k → k < length longer
    k_within (inl (r, mark, g, h)) = let a = ap length g in let b = are.within p.0 k mark in omega arith
    k_within (inr (r, m, g, h)) = let a = ap length g in let c = length-append heads (x ∷ []) in omega arith

    longer_heads : length heads ≤ length longer
    longer_heads = cases heads_grow
      where
        cases : (longer ≡ heads) ⊎ (longer ≡ heads ++ x ∷ []) → length heads ≤ length longer
        cases (inl g) = let a = ap length g in omega arith
        cases (inr g) = let a = ap length g in let c = length-append heads (x ∷ []) in omega arith

    still : (q j : ℕ) → Mark places q j → j ≢ i → slice_get above q ≡ Some None → slice_get (slice_set above x.0 (Some k)) q ≡ Some None
    still q j at_q differ none = set_other above x.0 q (Some k) (other q j at_q differ) ∙ none

    kept : (y q l j : ℕ) → Parent parents y q → Mark places y j → j < i → Hangs bonds places parents heads firsts above y q l → Hangs bonds places parents longer further (slice_set above x.0 (Some k)) y q l
    kept y q l j child at_y before (inl (head, first, none)) =
        let c = is.found.parent y q child in
        let same = one_mark places y j c.place at_y c.placed in
        let earlier = c.earlier in
        inl (
          grown heads longer x heads_grow l (made y) head,
          grown firsts further p firsts_grow l (made q) first,
          (λ r. still q c.above c.placed_above (omega arith) (none r)),
        )
    kept y q l j child at_y before (inr (r, mark)) = inr (r, keeps q l mark)

    hangs : Begins heads firsts longer further above x p rises k → Hangs bonds places parents longer further (slice_set above x.0 (Some k)) x.0 p.0 k
    hangs (inl (r, mark, g, h)) = inr (told.0 r, keeps p.0 k mark)
    hangs (inr (none, count, g, h)) =
        let c = is.found.parent x.0 p.0 parent in
        let same = one_mark places x.0 i c.place at c.placed in
        let earlier = c.earlier in
        let counts = are.same_count in
        inl (
          ap (λ (l : List AtomId). slice_get l k) g ∙ slice_get-append_seam heads x k count,
          ap (λ (l : List AtomId). slice_get l k) h ∙ slice_get-append_seam firsts p k (omega arith),
          (λ r. still p.0 c.above c.placed_above (omega arith) (none (told.1 r))),
        )

    old_later : (l c first : ℕ) → Parent parents c first → Mark above c l → (j : ℕ) → (Mark above first j → j < l) → ((first ≡ x.0) × (j ≡ k)) ⊎ Mark above first j → j < l
    old_later l c first child block j less (inr old) = less old
    old_later l c first child block j less (inl (same, j_is)) =
        let is_child = is.found.parent c first child in
        let here_place = one_mark places x.0 i is_child.above at (subst (λ (m : ℕ). Mark places m is_child.above) same is_child.placed_above) in
        let earlier = is_child.earlier in
        let none = are.free c is_child.place is_child.placed (omega arith) in
        cc

    new_later : (l : ℕ) → l ≡ length heads → (j : ℕ) → ((p.0 ≡ x.0) × (j ≡ k)) ⊎ Mark above p.0 j → j < l
    new_later l l_is j (inr old) = let h = are.within p.0 j old in omega arith
    new_later l l_is j (inl (same, j_is)) =
        let c = is.found.parent x.0 p.0 parent in
        let e = one_mark places x.0 c.place c.above c.placed (subst (λ (m : ℕ). Mark places m c.above) same c.placed_above) in
        let earlier = c.earlier in
        absurd (omega arith)

    old_head : (l : ℕ) (c : AtomId) → slice_get heads l ≡ Some c → HeadOf parents further (slice_set above x.0 (Some k)) l c.0
    old_head l c at_l =
        let h = are.head l c at_l in
        record { first = h.first; parent = h.parent; block = keeps c.0 l h.block; at = grown firsts further p firsts_grow l (made h.first) h.at; later = λ j m. old_later l c.0 h.first h.parent h.block j (h.later j) (mark_from above x.0 k h.first j m) }

    sym_left : (l : ℕ) (c : AtomId) → l < length heads → slice_get longer l ≡ Some c → slice_get heads l ≡ Some c
    sym_left l c less at_l = cases heads_grow
      where
        cases : (longer ≡ heads) ⊎ (longer ≡ heads ++ x ∷ []) → slice_get heads l ≡ Some c
        cases (inl g) = sym (ap (λ (m : List AtomId). slice_get m l) g) ∙ at_l
        cases (inr g) = sym (slice_get-append_left heads (x ∷ []) l less) ∙ sym (ap (λ (m : List AtomId). slice_get m l) g) ∙ at_l

    new_head : (l : ℕ) (c : AtomId) → length heads ≤ l → slice_get longer l ≡ Some c → Begins heads firsts longer further above x p rises k
        → HeadOf parents further (slice_set above x.0 (Some k)) l c.0
    new_head l c more at_l (inl (r, mark, g, h)) =
        let within = slice_get_within heads l c (sym (ap (λ (m : List AtomId). slice_get m l) g) ∙ at_l) in
        absurd (omega arith)
    new_head l c more at_l (inr (none, count, g, h)) =
        let found = slice_get-append_past heads x c l more (sym (ap (λ (m : List AtomId). slice_get m l) g) ∙ at_l) in
        let l_is : k ≡ l = count ∙ sym found.0 in
        let counts = are.same_count in
        record {
          first = p.0;
          parent = subst (λ (a : AtomId). Parent parents a.0 p.0) (sym found.1) parent;
          block = subst (λ (a : AtomId). Mark (slice_set above x.0 (Some k)) a.0 l) (sym found.1) (subst (λ (m : ℕ). Mark (slice_set above x.0 (Some k)) x.0 m) l_is here);
          at = ap (λ (m : List AtomId). slice_get m l) h ∙ slice_get-append_seam firsts p l (let a = found.0 in omega arith);
          later = λ j m. new_later l found.0 j (mark_from above x.0 k p.0 j m);
        }
