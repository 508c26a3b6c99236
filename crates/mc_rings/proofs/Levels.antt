-- The steps of a search by levels.
use Rattle.std.proofs.Common.{List, None, Option, Some, [], ap, arith, get_or, inl, inr, length, refl, replicate, slice_get, slice_set, subst, suc, sym, true, zero, ℕ, ◌++◌, ◌+◌, ◌<◌, ◌∙◌, ◌∷◌, ◌≡◌, ◌≢◌, ◌≤◌, ◌⊎◌}
use Rattle.std.proofs.lemmas.Bool.{cases_eq, cases_lt}
use Rattle.std.proofs.lemmas.List.{length-append}
use Rattle.std.proofs.lemmas.Option.{slice_get-get_or, slice_get_within}
use Rattle.mc_base.specs.declared.ids.AtomId.{AtomId}
use Rattle.mc_mol.proofs.Halves.{are_joined-half_edges}
use Rattle.mc_mol.proofs.Lists.{length-slice_set, slice_get-append_left, slice_get-append_past, slice_get-append_seam}
use Rattle.mc_mol.proofs.Neighbours.{joined_at}
use Rattle.mc_mol.proofs.Numbered.{atom_is, free_at, leads_to, length-none, mark_from, mark_kept, none_marked, set_here, unmarked-replicate, unmarked-set, nobody}
use Rattle.mc_mol.specs.HalfEdges.{HasTwin, half_edges}
use Rattle.mc_mol.specs.Molecule.{Molecule, are_joined}
use Rattle.mc_mol.specs.Numbered.{Holds, Keeps, Mark, unmarked}
use Rattle.mc_mol.specs.declared.parts.Bond.{Bond}
use Rattle.mc_mol.specs.declared.parts.HalfEdge.{HalfEdge}
use Rattle.mc_rings.specs.Distances.{AreDistances, From, MarkWithin, Step}
use Rattle.mc_rings.specs.Levels.{Between, Explored, LevelDone, Reaches}

from_kept : (bonds : List Bond) (u v : ℕ) (marks : List (Option ℕ)) (y e a d : ℕ) → slice_get marks y ≡ Some None → From bonds u v marks a d
    → From bonds u v (slice_set marks y (Some e)) a d
from_kept bonds u v marks y e a d free from = record {
  before = from.before;
  marked = mark_kept marks y e free from.before d from.marked;
  step = from.step;
}

pub within_kept : (marks new : List (Option ℕ)) (a most : ℕ) → Keeps marks new → MarkWithin marks a most → MarkWithin new a most
within_kept marks new a most keeps (d, at, few) = (d, keeps a d at, few)

-- one more atom gets its number
pub reach_state : (bonds : List Bond) (u v atoms level x : ℕ) (current : List AtomId) (marks : List (Option ℕ)) (next : List AtomId) (y : AtomId)
    → Between bonds u v atoms level current marks next → slice_get marks y.0 ≡ Some None → Mark marks x level → Step bonds u v x y.0
    → Between bonds u v atoms level current (slice_set marks y.0 (Some (suc level))) (next ++ y ∷ [])
reach_state bonds u v atoms level x current marks next y is free at step = record {
  count = length-slice_set marks y.0 (Some (suc level)) ∙ is.count;
  start = keeps u 0 is.start;
  low = λ a d m. elim (mark_from marks y.0 (suc level) a d m) [ inl here ↦ (let e = here.1 in omega arith) | inr there ↦ is.low a d there ];
  zero_is = λ a m. elim (mark_from marks y.0 (suc level) a 0 m) [ inl here ↦ absurd (let e = here.1 in omega arith) | inr there ↦ is.zero_is a there ];
  down = λ a d m. elim (mark_from marks y.0 (suc level) a (suc d) m) [
    | inl here ↦
        let d_is : level ≡ d = let e = here.1 in omega arith in
        subst (λ (k : ℕ). From bonds u v (slice_set marks y.0 (Some (suc level))) a k) d_is
        (subst (λ (n : ℕ). From bonds u v (slice_set marks y.0 (Some (suc level))) n level) (sym here.0) (record { before = x; marked = keeps x level at; step = step }))
    | inr there ↦ from_kept bonds u v marks y.0 (suc level) a d free (is.down a d there)
  ];
  onward = λ p q d m less s. elim (mark_from marks y.0 (suc level) p d m) [
    | inl here ↦ absurd (let e = here.1 in omega arith)
    | inr there ↦ within_kept marks new q (suc d) keeps (is.onward p q d there less s)
  ];
  here = λ a m. elim (mark_from marks y.0 (suc level) a level m) [ inl here ↦ absurd (let e = here.1 in omega arith) | inr there ↦ is.here a there ];
  now = λ a h. keeps a level (is.now a h);
  behind = λ a m. elim (mark_from marks y.0 (suc level) a (suc level) m) [
    | inl here ↦ subst (λ (n : ℕ). Holds (next ++ y ∷ []) n) (sym here.0) (length next, slice_get-append_seam next y (length next) refl)
    | inr there ↦ held a (is.behind a there)
  ];
  ahead = λ a h. ahead_of a h.0 h.1;
}
  where
    new : List (Option ℕ)
    new = slice_set marks y.0 (Some (suc level))

    keeps : Keeps marks (slice_set marks y.0 (Some (suc level)))
    keeps = mark_kept marks y.0 (suc level) free

    held : (a : ℕ) → Holds next a → Holds (next ++ y ∷ []) a
    held a (i, e) = (i, slice_get-append_left next (y ∷ []) i (slice_get_within next i (record { 0 = a }) e) ∙ e)

    ahead_of : (a i : ℕ) → slice_get (next ++ y ∷ []) i ≡ Some (record { 0 = a }) → Mark (slice_set marks y.0 (Some (suc level))) a (suc level)
    ahead_of a i e = elim (cases_lt i (length next)) [
      | inl less ↦ keeps a (suc level) (is.ahead a (i, sym (slice_get-append_left next (y ∷ []) i less) ∙ e))
      | inr past ↦
          let found = slice_get-append_past next y (record { 0 = a }) i past e in
          subst (λ (n : ℕ). Mark (slice_set marks y.0 (Some (suc level))) n (suc level)) (sym (ap (λ (b : AtomId). b.0) found.1))
          (set_here marks y.0 None (Some (suc level)) free)
    ]

-- the next level
pub next_level : (bonds : List Bond) (u v atoms level : ℕ) (current : List AtomId) (marks : List (Option ℕ)) (next : List AtomId)
    → Between bonds u v atoms level current marks next → ((x : ℕ) → Mark marks x level → Explored bonds u v level marks x)
    → Between bonds u v atoms (suc level) next marks []
next_level bonds u v atoms level current marks next is explored = record {
  count = is.count;
  start = is.start;
  low = λ a d m. let h = is.low a d m in omega arith;
  zero_is = is.zero_is;
  down = is.down;
  onward = λ x y d m less step. elim (cases_lt d level) [
    | inl nearer ↦ is.onward x y d m nearer step
    | inr not_nearer ↦
        let d_is : level ≡ d = omega arith in
        subst (λ (k : ℕ). MarkWithin marks y (suc k)) d_is (explored x (subst (λ (k : ℕ). Mark marks x k) (sym d_is) m) y step)
  ];
  here = is.behind;
  now = is.ahead;
  behind = λ a m. absurd (let h = is.low a (suc (suc level)) m in omega arith);
  ahead = λ a h. let e = h.1 in cc;
}

-- no atom is at the level: each number is a distance
pub finished : (bonds : List Bond) (u v atoms level : ℕ) (marks : List (Option ℕ)) → Between bonds u v atoms level [] marks [] → AreDistances bonds u v marks
finished bonds u v atoms level marks is = record {
  start = is.start;
  zero_is = is.zero_is;
  down = is.down;
  level = level;
  low = λ a d m. let h = nearer a d m in omega arith;
  onward = is.onward;
  further = λ free x y d m step. is.onward x y d m (nearer x d m) step;
}
  where
    nobody : (a : ℕ) → Holds [] a → ⊥
    nobody a (i, e) = cc

    nearer : (x d : ℕ) → Mark marks x d → d < level
    nearer x d m =
        let h = is.low x d m in
        let not_next : d ≢ suc level = λ e. nobody x (is.behind x (subst (λ (k : ℕ). Mark marks x k) e m)) in
        let not_here : d ≢ level = λ e. nobody x (is.here x (subst (λ (k : ℕ). Mark marks x k) e m)) in
        omega arith

pub begun : (bonds : List Bond) (v n : ℕ) (start : AtomId) (marks : List (Option ℕ)) (current : List AtomId) → start.0 < n → marks ≡ slice_set (nobody n) start.0 (Some 0)
    → current ≡ start ∷ [] → Between bonds start.0 v n 0 current marks []
begun bonds v n start marks current within marks_are current_is = rw (marks_are, current_is) (record {
  count = length-slice_set (nobody n) start.0 (Some 0) ∙ length-none n;
  start = set_here (nobody n) start.0 None (Some 0) (free_at n start.0 within);
  low = λ a d m. let e = zero_number a d m in omega arith;
  zero_is = λ a m. only a 0 m;
  down = λ a d m. absurd (let e = zero_number a (suc d) m in omega arith);
  onward = λ x y d m less step. absurd (omega arith);
  here = λ a m. (0, ap (λ (n : ℕ). let atom : AtomId = record { 0 = n } in Some atom) (sym (only a 0 m)));
  now = λ a h. now_of a h.0 h.1;
  behind = λ a m. absurd (let e = zero_number a 1 m in omega arith);
  ahead = λ a h. let e = h.1 in cc;
})
  where
    zero_number : (a d : ℕ) → Mark (slice_set (nobody n) start.0 (Some 0)) a d → d ≡ 0
    zero_number a d m = elim (mark_from (nobody n) start.0 0 a d m) [ inl here ↦ here.1 | inr there ↦ absurd (none_marked n a d there) ]

    only : (a d : ℕ) → Mark (slice_set (nobody n) start.0 (Some 0)) a d → a ≡ start.0
    only a d m = elim (mark_from (nobody n) start.0 0 a d m) [ inl here ↦ here.0 | inr there ↦ absurd (none_marked n a d there) ]

    now_of : (a i : ℕ) → slice_get (start ∷ []) i ≡ Some (record { 0 = a }) → Mark (slice_set (nobody n) start.0 (Some 0)) a 0
    now_of a zero e = subst (λ (k : ℕ). Mark (slice_set (nobody n) start.0 (Some 0)) k 0) (atom_is start a e) (set_here (nobody n) start.0 None (Some 0) (free_at n start.0 within))
    now_of a (suc i) e = cc

pub half_edge_joined : (m : Molecule) (a : AtomId) (place : ℕ) (half : HalfEdge) → HasTwin m a place half → are_joined m.bonds a.0 half.to.0 ≡ true
half_edge_joined m a place half twin = joined_at m.bonds half.bond.0 twin.bond a.0 half.to.0 twin.is_bond twin.joined

-- an atom whose half-edges have all been followed is explored
pub explored_all : (m : Molecule) (u v level x : ℕ) (marks : List (Option ℕ)) → Mark marks x level
    → ((k : ℕ) (half : HalfEdge) → slice_get (half_edges m x) k ≡ Some half → Step m.bonds u v x half.to.0 → MarkWithin marks half.to.0 (suc level))
    → Explored m.bonds u v level marks x
explored_all m u v level x marks at followed y step = elim (cases_eq x y) [
  | inl same ↦ (level, subst (λ (n : ℕ). Mark marks n level) same at, omega arith)
  | inr other ↦
      let found = leads_to (half_edges m x) y (are_joined-half_edges m x y other ∙ step.joined) in
      subst (λ (n : ℕ). MarkWithin marks n (suc level)) found.3
      (followed found.0 found.1 found.2 (subst (λ (n : ℕ). Step m.bonds u v x n) (sym found.3) step))
]

-- in the middle of the half-edges of an atom of the level
pub record Following (m : Molecule) (u v level : ℕ) (current : List AtomId) (x : ℕ) (marks : List (Option ℕ)) (next : List AtomId) (count : ℕ) : Type 0 where
  pub between : Between m.bonds u v (length m.atoms) level current marks next
  pub at : Mark marks x level
  pub followed : (k : ℕ) (half : HalfEdge) → k < count → slice_get (half_edges m x) k ≡ Some half → Step m.bonds u v x half.to.0 → MarkWithin marks half.to.0 (suc level)

pub follow_none : (m : Molecule) (u v level : ℕ) (current : List AtomId) (x : ℕ) (marks : List (Option ℕ)) (next : List AtomId)
    → Between m.bonds u v (length m.atoms) level current marks next → Mark marks x level → Following m u v level current x marks next 0
follow_none m u v level current x marks next is at = record { between = is; at = at; followed = λ k half less. absurd (omega arith) }

some_half : (g h : HalfEdge) → Some g ≡ Some h → g ≡ h
some_half g h e = cc

-- the half-edge along the bond itself is left out
pub follow_barred : (m : Molecule) (u v level : ℕ) (current : List AtomId) (x : ℕ) (marks : List (Option ℕ)) (next : List AtomId) (i : ℕ) (half : HalfEdge)
    → slice_get (half_edges m x) i ≡ Some half → x ≡ u → half.to.0 ≡ v → Following m u v level current x marks next i → Following m u v level current x marks next (i + 1)
follow_barred m u v level current x marks next i half here x_is to_is f = record {
  between = f.between;
  at = f.at;
  followed = λ k other less there step. elim (cases_lt k i) [
    | inl before ↦ f.followed k other before there step
    | inr past ↦
        let k_is : i ≡ k = omega arith in
        let same : half ≡ other = some_half half other (sym here ∙ ap (λ (n : ℕ). slice_get (half_edges m x) n) k_is ∙ there) in
        absurd (step.not_barred x_is (sym (ap (λ (h : HalfEdge). h.to.0) same) ∙ to_is))
  ];
}

-- every other one gives its atom a number, if it has none
pub follow_reached : (m : Molecule) (u v level : ℕ) (current : List AtomId) (x : ℕ) (marks : List (Option ℕ)) (next : List AtomId) (i : ℕ) (half : HalfEdge)
    (new : List (Option ℕ)) (more : List AtomId)
    → slice_get (half_edges m x) i ≡ Some half → Step m.bonds u v x half.to.0 → Reaches marks next new more half.to (suc level)
    → Following m u v level current x marks next i → Following m u v level current x new more (i + 1)
follow_reached m u v level current x marks next i half new more here step (inl old) f = rw (old.1, old.2) (record {
  between = f.between;
  at = f.at;
  followed = λ k other less there s. elim (cases_lt k i) [
    | inl before ↦ f.followed k other before there s
    | inr past ↦
        let k_is : i ≡ k = omega arith in
        let same : half ≡ other = some_half half other (sym here ∙ ap (λ (n : ℕ). slice_get (half_edges m x) n) k_is ∙ there) in
        subst (λ (h : HalfEdge). MarkWithin marks h.to.0 (suc level)) same (old.0.0, old.0.1, f.between.low half.to.0 old.0.0 old.0.1)
  ];
})
follow_reached m u v level current x marks next i half new more here step (inr fresh) f = rw (fresh.1, fresh.2) (record {
  between = reach_state m.bonds u v (length m.atoms) level x current marks next half.to f.between fresh.0 f.at step;
  at = mark_kept marks half.to.0 (suc level) fresh.0 x level f.at;
  followed = λ k other less there s. elim (cases_lt k i) [
    | inl before ↦ within_kept marks (slice_set marks half.to.0 (Some (suc level))) other.to.0 (suc level) (mark_kept marks half.to.0 (suc level) fresh.0) (f.followed k other before there s)
    | inr past ↦
        let k_is : i ≡ k = omega arith in
        let same : half ≡ other = some_half half other (sym here ∙ ap (λ (n : ℕ). slice_get (half_edges m x) n) k_is ∙ there) in
        subst (λ (h : HalfEdge). MarkWithin (slice_set marks half.to.0 (Some (suc level))) h.to.0 (suc level)) same
        (suc level, set_here marks half.to.0 None (Some (suc level)) fresh.0, omega arith)
  ];
})

pub explored_kept : (bonds : List Bond) (u v level x : ℕ) (marks new : List (Option ℕ)) → Keeps marks new → Explored bonds u v level marks x → Explored bonds u v level new x
explored_kept bonds u v level x marks new keeps explored y step = within_kept marks new y (suc level) keeps (explored y step)

pub reaches_total : (marks new : List (Option ℕ)) (next more : List AtomId) (y : AtomId) (number : ℕ) → Reaches marks next new more y number
    → length more + unmarked new ≡ length next + unmarked marks
reaches_total marks new next more y number (inl old) = rw (old.1, old.2) refl
reaches_total marks new next more y number (inr fresh) =
    let one : length (next ++ y ∷ []) ≡ length next + 1 = length-append next (y ∷ []) in
    let less : unmarked (slice_set marks y.0 (Some number)) + 1 ≡ unmarked marks = unmarked-set marks y.0 number fresh.0 in
    let m = ap (λ (xs : List AtomId). length xs) fresh.2 in
    let n = ap (λ (xs : List (Option ℕ)). unmarked xs) fresh.1 in
    omega arith

pub half_at : (m : Molecule) (a : AtomId) (halves : List HalfEdge) (i : ℕ) (d : HalfEdge) → halves ≡ half_edges m a.0 → i < length halves
    → slice_get (half_edges m a.0) i ≡ Some (get_or halves i d)
half_at m a halves i d e h = subst (λ (hs : List HalfEdge). slice_get hs i ≡ Some (get_or halves i d)) e (slice_get-get_or halves i d h)

-- a search that begins
pub begun_at : (bonds : List Bond) (v n count : ℕ) (start : AtomId) (marks : List (Option ℕ)) (current next : List AtomId) → start.0 < n → count ≡ n
    → marks ≡ slice_set (replicate count None) start.0 (Some 0) → current ≡ start ∷ [] → next ≡ [] → Between bonds start.0 v n 0 current marks next
begun_at bonds v n count start marks current next within count_is marks_are current_is next_is =
    subst (λ (xs : List AtomId). Between bonds start.0 v n 0 current marks xs) (sym next_is)
    (begun bonds v n start marks current within (subst (λ (k : ℕ). marks ≡ slice_set (replicate k None) start.0 (Some 0)) count_is marks_are) current_is)

pub begun_few : (n count : ℕ) (start : AtomId) (marks : List (Option ℕ)) (current : List AtomId) → start.0 < n → count ≡ n
    → marks ≡ slice_set (replicate count None) start.0 (Some 0) → current ≡ start ∷ [] → length current + 0 + unmarked marks ≤ n
begun_few n count start marks current within count_is marks_are current_is =
    let less : unmarked (slice_set (nobody count) start.0 (Some 0)) + 1 ≡ unmarked (nobody count) = unmarked-set (nobody count) start.0 0 (free_at count start.0 (omega arith)) in
    let all = unmarked-replicate count in
    let one : length current ≡ 1 = ap (λ (xs : List AtomId). length xs) current_is in
    let m = ap (λ (xs : List (Option ℕ)). unmarked xs) marks_are in
    omega arith

-- the level behind one that is done
pub next_begun : (bonds : List Bond) (u v atoms level : ℕ) (current next more further : List AtomId) (marks new : List (Option ℕ))
    → LevelDone bonds u v atoms level current marks next → new ≡ marks → more ≡ next → further ≡ [] → Between bonds u v atoms (level + 1) more new further
next_begun bonds u v atoms level current next more further marks new done e f g =
    let one : suc level ≡ level + 1 = omega arith in
    rw (e, f, g) (subst (λ (k : ℕ). Between bonds u v atoms k next marks []) one (next_level bonds u v atoms level current marks next done.between done.explored))

-- v has a number
stopped : (bonds : List Bond) (u v atoms level d : ℕ) (current : List AtomId) (marks : List (Option ℕ)) → Mark marks v d → Between bonds u v atoms level current marks [] → AreDistances bonds u v marks
stopped bonds u v atoms level d current marks at is = record {
  level = level;
  start = is.start;
  low = λ a e m.
      let h = is.low a e m in
      let not_next : e ≢ suc level = λ same. nowhere a (is.behind a (subst (λ (k : ℕ). Mark marks a k) same m)) in
      omega arith;
  zero_is = is.zero_is;
  down = is.down;
  onward = is.onward;
  further = λ free. absurd (let mark = at in cc);
}
  where
    nowhere : (a : ℕ) → Holds [] a → ⊥
    nowhere a (i, e) = cc

pub finished_at : (bonds : List Bond) (u v atoms level : ℕ) (current next : List AtomId) (marks : List (Option ℕ)) → (length current ≡ 0) ⊎ ((d : ℕ) × (Mark marks v d)) → next ≡ []
    → Between bonds u v atoms level current marks next → AreDistances bonds u v marks
finished_at bonds u v atoms level [] next marks (inl none) e is = finished bonds u v atoms level marks (subst (λ (xs : List AtomId). Between bonds u v atoms level [] marks xs) e is)
finished_at bonds u v atoms level (a ∷ current) next marks (inl none) e is = absurd (omega arith)
finished_at bonds u v atoms level current next marks (inr (d, at)) e is =
    stopped bonds u v atoms level d current marks at (subst (λ (xs : List AtomId). Between bonds u v atoms level current marks xs) e is)
