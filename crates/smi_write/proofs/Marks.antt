-- Which atoms open ring numbers: those to which ring bonds lead back from later atoms.
use Rattle.std.proofs.Common.{◌≡◌, ◌≢◌, ℕ, zero, suc, ◌+◌, ◌-◌, ◌≤◌, ◌<◌, List, [], ◌∷◌, ◌++◌, length, get_or, slice_get, slice_set, Bool, true, false, Some, refl, ap, sym, ◌∙◌, subst, inl, inr, arith}
use Rattle.std.specs.Prelude.{◌==◌, ◌&&◌, ◌||◌, not, nat_lt, if◌then◌else◌}
use Rattle.std.specs.List.{list_any}
use Rattle.std.proofs.lemmas.Bool.{cases_lt, cases_eq, false≢true, eqb-true, and_parts, or_cases, not-true}
use Rattle.std.proofs.lemmas.Bool.Decides.{nat_tests}
use Rattle.std.proofs.lemmas.List.{get_or_default, get_or_past, get_or_append_left, get_or-set_same, get_or-set_other}
use Rattle.std.proofs.lemmas.Option.{same_Some}
use Rattle.mc_base.specs.declared.ids.AtomId.{AtomId}
use Rattle.mc_mol.specs.declared.parts.HalfEdge.{HalfEdge}
use Rattle.mc_mol.specs.Molecule.{Molecule, are_joined}
use Rattle.mc_mol.specs.HalfEdges.{half_edges}
use Rattle.mc_mol.proofs.Lists.{length-slice_set}
use Rattle.mc_mol.proofs.Halves.{are_joined-half_edges}
use Rattle.mc_mol.proofs.Apart.{are_joined_turned}
use Rattle.smi_mean.specs.Order.{graph_of, Step, steps, unwritten_neighbour, order, rank, parents, at, has_ring}
use Rattle.smi_write.specs.Seen.{leads_back, mark_all, mark_one}
use Rattle.smi_write.specs.Progress.{HoldsSteps, HoldsMarks}
use Rattle.smi_write.proofs.Walk.{rank_le, length_parents}
use Rattle.smi_write.proofs.Partners.{at_below, rank_of_at}
use Rattle.smi_write.proofs.Advance.{length_list, few_steps, top_is, goes_on}

-- What is marked stays so, and each ring bond's end is marked

keeps_one : (opens : List Bool) (q j : ℕ) → get_or opens j false ≡ true → get_or (slice_set opens q true) j false ≡ true
keeps_one opens q j h = elim (cases_eq j q) [
  | inl same ↦ elim (cases_lt j (length opens)) [
    | inl less ↦ ap (λ (x : ℕ). get_or (slice_set opens q true) x false) same ∙ get_or-set_same opens q true false (omega arith)
    | inr past ↦ absurd (false≢true (sym (get_or_past opens j false past) ∙ h))
  ]
  | inr ne ↦ get_or-set_other opens q j true false ne ∙ h
]

pub mark_keeps : (k p : ℕ) (ranks : List ℕ) (opens : List Bool) (halves : List HalfEdge) (j : ℕ) → get_or opens j false ≡ true → get_or (mark_all k p ranks opens halves) j false ≡ true
mark_keeps k p ranks opens [] j h = h
mark_keeps k p ranks opens (half ∷ halves) j h = mark_keeps k p ranks (mark_one k p ranks opens half) halves j (by_test (leads_back k p (get_or ranks half.to.0 0)))
  where
    by_test : (t : Bool) → get_or (if t then slice_set opens (get_or ranks half.to.0 0 - 1) true else opens) j false ≡ true
    by_test true = keeps_one opens (get_or ranks half.to.0 0 - 1) j h
    by_test false = h

length_one : (t : Bool) (opens : List Bool) (q : ℕ) → length (if t then slice_set opens q true else opens) ≡ length opens
length_one true opens q = length-slice_set opens q true
length_one false opens q = refl

pub length_marks : (k p : ℕ) (ranks : List ℕ) (opens : List Bool) (halves : List HalfEdge) → length (mark_all k p ranks opens halves) ≡ length opens
length_marks k p ranks opens [] = refl
length_marks k p ranks opens (half ∷ halves) = length_marks k p ranks (mark_one k p ranks opens half) halves ∙ length_one (leads_back k p (get_or ranks half.to.0 0)) opens (get_or ranks half.to.0 0 - 1)

-- the two ranks of a ring bond that leads back
pub record Back (k p at : ℕ) : Type 0 where
  pub some : 0 < at
  pub low : at < k
  pub other : (at == p) ≡ false

pub back_at : (k p at : ℕ) → leads_back k p at ≡ true → Back k p at
back_at k p at h =
    let t = and_parts (nat_lt 0 at) (nat_lt at k && not (at == p)) h in
    let u = and_parts (nat_lt at k) (not (at == p)) t.1 in
    let t0 = t.0 in
    let u0 = u.0 in
    record { some = grind (arith, nat_tests); low = grind (arith, nat_tests); other = not-true (at == p) u.1 }

mark_sets : (k p : ℕ) (ranks : List ℕ) (opens : List Bool) (halves : List HalfEdge) (i : ℕ) (half : HalfEdge) → k ≤ length opens → slice_get halves i ≡ Some half
    → leads_back k p (get_or ranks half.to.0 0) ≡ true → get_or (mark_all k p ranks opens halves) (get_or ranks half.to.0 0 - 1) false ≡ true
mark_sets k p ranks opens [] i half le found back = cc
mark_sets k p ranks opens (h ∷ halves) zero half le found back =
    let same : h ≡ half = same_Some h half found in
    let here : leads_back k p (get_or ranks h.to.0 0) ≡ true = subst (λ (x : HalfEdge). leads_back k p (get_or ranks x.to.0 0) ≡ true) (sym same) back in
    let b = back_at k p (get_or ranks h.to.0 0) here in
    let some = b.some in
    let low = b.low in
    subst (λ (x : HalfEdge). get_or (mark_all k p ranks opens (h ∷ halves)) (get_or ranks x.to.0 0 - 1) false ≡ true) same
    (mark_keeps k p ranks (mark_one k p ranks opens h) halves (get_or ranks h.to.0 0 - 1) (rw here (get_or-set_same opens (get_or ranks h.to.0 0 - 1) true false (omega arith))))
mark_sets k p ranks opens (h ∷ halves) (suc i) half le found back =
    let len = length_one (leads_back k p (get_or ranks h.to.0 0)) opens (get_or ranks h.to.0 0 - 1) in
    mark_sets k p ranks (mark_one k p ranks opens h) halves i half (omega arith) found back

-- where nothing leads back, nothing is marked
pub none_marked : (k p : ℕ) (ranks : List ℕ) (opens : List Bool) (halves : List HalfEdge) → false ≡ list_any (λ half. leads_back k p (get_or ranks half.to.0 0)) halves
    → opens ≡ mark_all k p ranks opens halves
none_marked k p ranks opens [] h = refl
none_marked k p ranks opens (half ∷ halves) h = by_test (leads_back k p (get_or ranks half.to.0 0)) h (λ e. none_marked k p ranks opens halves e)
  where
    by_test : (t : Bool) → false ≡ (t || list_any (λ half. leads_back k p (get_or ranks half.to.0 0)) halves)
        → (false ≡ list_any (λ half. leads_back k p (get_or ranks half.to.0 0)) halves → opens ≡ mark_all k p ranks opens halves)
        → opens ≡ mark_all k p ranks (if t then slice_set opens (get_or ranks half.to.0 0 - 1) true else opens) halves
    by_test true e more = absurd (false≢true e)
    by_test false e more = more e

-- What the walk keeps

pub marks_looked : (m : Molecule) (pl cl : List ℕ) (u k p : ℕ) (opens : List Bool) → HoldsMarks m pl cl (u ∷ []) opens → k ≡ get_or cl u 0 → p ≡ get_or pl (k - 1) 0 → k ≤ length opens
    → HoldsMarks m pl cl [] (mark_all k p cl opens (half_edges m u))
marks_looked m pl cl u k p opens h is_k is_p le = record {
  count = length_marks k p cl opens (half_edges m u) ∙ h.count;
  marked = λ v i half less some free at back. elim (cases_eq v u) [
    | inl same ↦
        let is_k' : get_or cl v 0 ≡ k = ap (λ (x : ℕ). get_or cl x 0) same ∙ sym is_k in
        let is_p' : get_or pl (get_or cl v 0 - 1) 0 ≡ p = ap (λ (x : ℕ). get_or pl (x - 1) 0) is_k' ∙ sym is_p in
        mark_sets k p cl opens (half_edges m u) i half le (ap (λ (x : ℕ). slice_get (half_edges m x) i) (sym same) ∙ at)
        (ap (λ (x : ℕ). leads_back x p (get_or cl half.to.0 0)) (sym is_k') ∙ ap (λ (x : ℕ). leads_back (get_or cl v 0) x (get_or cl half.to.0 0)) (sym is_p') ∙ back)
    | inr ne ↦ mark_keeps k p cl opens (half_edges m u) (get_or cl half.to.0 0 - 1) (h.marked v i half less some (λ e. ne (sym (same_only u v e))) at back)
  ];
}
  where
    same_only : (a b : ℕ) → a ∷ [] ≡ b ∷ [] → a ≡ b
    same_only a b e = cc

pub marks_above : (m : Molecule) (pl cl above : List ℕ) (opens : List Bool) → HoldsMarks m pl cl [] opens → HoldsMarks m pl cl above opens
marks_above m pl cl above opens h = record { count = h.count; marked = λ v i half less some free at back. h.marked v i half less some (λ e. cc) at back }

pub marks_written : (m : Molecule) (before : List Step) (al : List AtomId) (pl pl' cl cl' st : List ℕ) (w p : ℕ) (opens : List Bool) → HoldsSteps (graph_of m) before al pl cl st
    → HoldsMarks m pl cl [] opens → pl' ≡ pl ++ p ∷ [] → cl' ≡ slice_set cl w (length al + 1) → w < length m.atoms → HoldsMarks m pl' cl' (w ∷ []) opens
marks_written m before al pl pl' cl cl' st w p opens steps h e f below = record {
  count = h.count;
  marked = λ v i half less some free at back.
      let ne : v ≢ w = λ same. free (ap (λ (x : ℕ). x ∷ []) (sym same)) in
      let stays = other v ne in
      let le = rank_low v less in
      let lenp = length_pl in
      let is_parent : get_or pl' (get_or cl' v 0 - 1) 0 ≡ get_or pl (get_or cl v 0 - 1) 0 =
      ap (λ (x : ℕ). get_or pl' (x - 1) 0) stays ∙ ap (λ (x : List ℕ). get_or x (get_or cl v 0 - 1) 0) e ∙ get_or_append_left pl (p ∷ []) 0 (get_or cl v 0 - 1) (omega arith) in
      let back' : leads_back (get_or cl v 0) (get_or pl (get_or cl v 0 - 1) 0) (get_or cl' half.to.0 0) ≡ true =
      ap (λ (x : ℕ). leads_back x (get_or pl (get_or cl v 0 - 1) 0) (get_or cl' half.to.0 0)) (sym stays) ∙ ap (λ (x : ℕ). leads_back (get_or cl' v 0) x (get_or cl' half.to.0 0)) (sym is_parent) ∙ back in
      elim (cases_eq half.to.0 w) [
        | inl same ↦
            let here : get_or cl' half.to.0 0 ≡ length al + 1 = ap (λ (x : ℕ). get_or cl' x 0) same ∙ ap (λ (x : List ℕ). get_or x w 0) f ∙ get_or-set_same cl w (length al + 1) 0 (let c = steps.count in omega arith) in
            let low = (back_at _ _ (get_or cl' half.to.0 0) back').low in absurd (omega arith)
        | inr apart ↦
            let same = other half.to.0 apart in
            ap (λ (x : ℕ). get_or opens (x - 1) false) same
            ∙ h.marked v i half less (omega arith) (λ x. cc) at (ap (λ (x : ℕ). leads_back (get_or cl v 0) (get_or pl (get_or cl v 0 - 1) 0) x) (sym same) ∙ back')
      ];
}
  where
    other : (v : ℕ) → v ≢ w → get_or cl' v 0 ≡ get_or cl v 0
    other v ne = ap (λ (x : List ℕ). get_or x v 0) f ∙ get_or-set_other cl w v (length al + 1) 0 ne

    length_pl : length pl ≡ length al
    length_pl = ap length steps.parents_are ∙ length_parents before ∙ sym (length_list (graph_of m) before al pl cl st steps)

    rank_low : (v : ℕ) → v < length m.atoms → get_or cl v 0 ≤ length al
    rank_low v less =
        let p = steps.ranks_are v less in
        let le = rank_le before v in
        let len = length_list (graph_of m) before al pl cl st steps in omega arith

-- the rank of the latest atom
pub record IsPlaced (m : Molecule) (pl cl : List ℕ) (u k : ℕ) : Type 0 where
  pub within : u < length cl
  pub is : k ≡ get_or cl u 0
  pub some : 0 < k
  pub parent : k - 1 < length pl
  pub low : k ≤ length m.atoms

pub is_ranked : (m : Molecule) (al : List AtomId) (pl cl st : List ℕ) (u k : ℕ) → HoldsSteps (graph_of m) (steps (graph_of m) (length al)) al pl cl (st ++ u ∷ []) → k ≡ get_or cl u k
    → IsPlaced m pl cl u k
is_ranked m al pl cl st u k h e =
    let top = top_is m (length al) al pl cl st u h in
    let below = top.below in
    let count = h.count in
    let is : k ≡ get_or cl u 0 = e ∙ get_or_default cl u k 0 (omega arith) in
    let at = h.ranks_are u below in
    let written = top.written in
    let le = rank_le (steps (graph_of m) (length al)) u in
    let few = few_steps (graph_of m) (length al) in
    let lenp : length pl ≡ length (steps (graph_of m) (length al)) = ap length h.parents_are ∙ length_parents (steps (graph_of m) (length al)) in
    record { within = omega arith; is = is; some = omega arith; parent = omega arith; low = omega arith }

-- behind an atom's least unwritten neighbour
pub marks_on : (m : Molecule) (al : List AtomId) (pl pl' cl cl' st : List ℕ) (u w p : ℕ) (opens opens' : List Bool) → HoldsSteps (graph_of m) (steps (graph_of m) (length al)) al pl cl (st ++ u ∷ [])
    → HoldsMarks m pl cl [] opens → Some w ≡ unwritten_neighbour (graph_of m) (steps (graph_of m) (length al)) u → pl' ≡ pl ++ p ∷ [] → cl' ≡ slice_set cl w (length al + 1) → opens' ≡ opens
    → HoldsMarks m pl' cl' (w ∷ []) opens'
marks_on m al pl pl' cl cl' st u w p opens opens' steps h found e f same =
    let next = (goes_on m al pl cl st u w steps found).next in
    let count = steps.count in
    subst (λ (x : List Bool). HoldsMarks m pl' cl' (w ∷ []) x) (sym same)
    (marks_written m _ al pl pl' cl cl' (st ++ u ∷ []) w p opens steps h e f (omega arith))

-- At the end

-- a half-edge that leads to an atom
record LeadsTo (halves : List HalfEdge) (v : ℕ) : Type 0 where
  pub i : ℕ
  pub half : HalfEdge
  pub found : slice_get halves i ≡ Some half
  pub to : half.to.0 ≡ v

leads_to : (halves : List HalfEdge) (v : ℕ) → list_any (λ half. half.to.0 == v) halves ≡ true → LeadsTo halves v
leads_to [] v h = absurd (false≢true h)
leads_to (half ∷ halves) v h = elim (or_cases (half.to.0 == v) (list_any (λ half. half.to.0 == v) halves) h) [
  | inl here ↦ record { i = 0; half = half; found = refl; to = eqb-true half.to.0 v here }
  | inr later ↦ let r = leads_to halves v later in record { i = suc r.i; half = r.half; found = r.found; to = r.to }
]

pub opens_at : (m : Molecule) (pl cl : List ℕ) (opens : List Bool) → HoldsMarks m pl cl [] opens → pl ≡ parents (order (graph_of m)) → ((u : ℕ) → u < length m.atoms → get_or cl u 0 ≡ rank (order (graph_of m)) u)
    → (j l : ℕ) → j < l → l < length m.atoms → has_ring (graph_of m) j l ≡ true → get_or opens j false ≡ true
opens_at m pl cl opens h is_parents ranks j l less below ring =
    let t = and_parts (are_joined m.bonds (at (graph_of m) j) (at (graph_of m) l)) (not (get_or (parents (order (graph_of m))) l 0 == suc j)) ring in
    let in_l = at_below m l below in
    let in_j = at_below m j (omega arith) in
    let is_l : get_or cl (at (graph_of m) l) 0 ≡ suc l = ranks (at (graph_of m) l) in_l ∙ rank_of_at m l below in
    let is_j : get_or cl (at (graph_of m) j) 0 ≡ suc j = ranks (at (graph_of m) j) in_j ∙ rank_of_at m j (omega arith) in
    let ne : at (graph_of m) l ≢ at (graph_of m) j = λ e. let same = ap (λ (x : ℕ). get_or cl x 0) e in omega arith in
    let joined : are_joined m.bonds (at (graph_of m) l) (at (graph_of m) j) ≡ true = are_joined_turned m.bonds (at (graph_of m) l) (at (graph_of m) j) ∙ t.0 in
    let half = leads_to (half_edges m (at (graph_of m) l)) (at (graph_of m) j) (are_joined-half_edges m (at (graph_of m) l) (at (graph_of m) j) ne ∙ joined) in
    let at_half : get_or cl half.half.to.0 0 ≡ suc j = ap (λ (x : ℕ). get_or cl x 0) half.to ∙ is_j in
    let marked = h.marked (at (graph_of m) l) half.i half.half in_l (omega arith) (λ e. cc) half.found (back half.half is_l at_half t.1) in
    let one : get_or cl half.half.to.0 0 - 1 ≡ j = omega arith in
    ap (λ (x : ℕ). get_or opens x false) (sym one) ∙ marked
  where
    tests : (p : ℕ) → (p == suc j) ≡ false → (nat_lt 0 (suc j) && (nat_lt (suc j) (suc l) && not (suc j == p))) ≡ true
    tests p apart =
        let a : nat_lt 0 (suc j) ≡ true = grind (arith, nat_tests) in
        let b : nat_lt (suc j) (suc l) ≡ true = grind (arith, nat_tests) in
        let c : (suc j == p) ≡ false = grind (arith, nat_tests) in rw (a, b, c) refl

    back : (half : HalfEdge) → get_or cl (at (graph_of m) l) 0 ≡ suc l → get_or cl half.to.0 0 ≡ suc j → not (get_or (parents (order (graph_of m))) l 0 == suc j) ≡ true
        → leads_back (get_or cl (at (graph_of m) l) 0) (get_or pl (get_or cl (at (graph_of m) l) 0 - 1) 0) (get_or cl half.to.0 0) ≡ true
    back half e f other =
        let apart = not-true (get_or (parents (order (graph_of m))) l 0 == suc j) other in
        let is_p : get_or pl (suc l - 1) 0 ≡ get_or (parents (order (graph_of m))) l 0 = let one : suc l - 1 ≡ l = omega arith in
        ap (λ (x : ℕ). get_or pl x 0) one ∙ ap (λ (x : List ℕ). get_or x l 0) is_parents in
        rw (e, f, is_p) (tests (get_or (parents (order (graph_of m))) l 0) apart)
