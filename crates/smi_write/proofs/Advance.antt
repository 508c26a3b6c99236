-- One more atom is written: the lists that are kept stay those of the steps.
use Rattle.std.proofs.Common.{◌≡◌, ℕ, suc, ◌+◌, ◌*◌, ◌-◌, ◌≤◌, ◌<◌, List, [], ◌∷◌, ◌++◌, length, get_or, slice_get, slice_set, reverse, Bool, true, false, Option, Some, None, refl, ap, sym, ◌∙◌, subst, inl, inr, arith}
use Rattle.std.specs.Prelude.{◌≢◌, ◌==◌, ◌&&◌, ◌||◌, not, if◌then◌else◌}
use Rattle.std.specs.Option.{option_to_list}
use Rattle.std.specs.List.{All, list_any}
use Rattle.std.proofs.lemmas.Bool.{cases_eq, false≢true, ne_eqb, and_parts, or_parts, not-true, not-false, false_from_ne_true}
use Rattle.std.proofs.lemmas.List.{append-nil, length_push, length-map, map-append, get_or-set_same, get_or-set_other}
use Rattle.std.proofs.lemmas.Option.{slice_get-get_or}
use Rattle.mc_base.specs.declared.ids.AtomId.{AtomId}
use Rattle.mc_mol.specs.declared.parts.HalfEdge.{HalfEdge}
use Rattle.mc_mol.specs.Molecule.{Molecule, are_joined}
use Rattle.mc_mol.specs.WellFormed.{IsMolecule}
use Rattle.mc_mol.specs.HalfEdges.{half_edges, AllHaveTwins}
use Rattle.mc_mol.proofs.Lists.{length-slice_set, reverse_push}
use Rattle.mc_mol.proofs.Halves.{are_joined-half_edges, same_test}
use Rattle.smi_mean.specs.Order.{Graph, graph_of, Step, least, some_if, is_written, unwritten_neighbour, behind, beginning, next_step, onto, steps, order, rank, parent_rank, parents, atoms}
use Rattle.smi_write.specs.Lesser.{lowest}
use Rattle.smi_write.specs.declared.order.Seen.{Seen}
use Rattle.smi_write.specs.Seen.{nothing, see_all, IsBondTo, Sees}
use Rattle.smi_write.specs.WrittenOrder.{order_behind, parent_orders}
use Rattle.smi_write.specs.Progress.{Stacked, HoldsSteps}
use Rattle.smi_write.proofs.Walk.{Grown, grown, chosen, rank_here, rank_other, rank_more, written_rank, unwritten_rank, rank_unwritten}
use Rattle.smi_write.proofs.Counting.{count_le, count_all}
use Rattle.smi_write.proofs.Once.{count_written, length_atoms}
use Rattle.smi_write.proofs.Stacked.{least_none, next_none, next_top, popped, popped_below, stays_stacked}
use Rattle.smi_write.proofs.Lowest.{lowest_is, least_cong, least_is}
use Rattle.smi_write.proofs.Neighbours.{least_is_lowest, true_of_found, only_one}
use Rattle.smi_write.proofs.BondOrders.{half_order}

-- Neighbours

-- half-edges lead to atoms of the molecule
pub halves_within : (m : Molecule) (a : AtomId) → AllHaveTwins m a → All (λ half. half.to.0 < length m.atoms) (half_edges m a.0)
halves_within m a twins = λ k d h. (twins k (get_or (half_edges m a.0) k d) (slice_get-get_or (half_edges m a.0) k d h)).to

pub is_free : (before : List Step) (v : ℕ) → (rank before v == 0) ≡ not (is_written before v)
is_free before v = by_test (is_written before v) refl
  where
    by_test : (t : Bool) → is_written before v ≡ t → (rank before v == 0) ≡ not t
    by_test true e = ne_eqb (rank before v) 0 (λ z. let p = written_rank before v e in omega arith)
    by_test false e = ap (λ (x : ℕ). x == 0) (unwritten_rank before v e)

pull_one : (f : ℕ → Bool) (to v : ℕ) (others : Bool) → ((f to && to == v) || (others && f v)) ≡ ((to == v || others) && f v)
pull_one f to v others = elim (cases_eq to v) [
  | inl same ↦ let t : (to == v) ≡ true = ap (λ (x : ℕ). x == v) same ∙ same_test v in let e : f to ≡ f v = ap f same in rw (t, e) (both (f v) others)
  | inr ne ↦ rw (ne_eqb to v ne) (neither (f to) others (f v))
]
  where
    both : (a b : Bool) → ((a && true) || (b && a)) ≡ ((true || b) && a)
    both true b = refl
    both false true = refl
    both false false = refl

    neither : (a b c : Bool) → ((a && false) || (b && c)) ≡ ((false || b) && c)
    neither true b c = refl
    neither false b c = refl

pub pull : (f : ℕ → Bool) (halves : List HalfEdge) (v : ℕ) → list_any (λ half. f half.to.0 && half.to.0 == v) halves ≡ (list_any (λ half. half.to.0 == v) halves && f v)
pull f [] v = refl
pull f (half ∷ halves) v =
    ap (λ (b : Bool). (f half.to.0 && half.to.0 == v) || b) (pull f halves v) ∙ pull_one f half.to.0 v (list_any (λ half. half.to.0 == v) halves)

-- what the pass over an atom's half-edges finds
pub neighbour_is : (m : Molecule) (before : List Step) (rank_list : List ℕ) (a : AtomId) → ((u : ℕ) → u < length m.atoms → get_or rank_list u 0 ≡ rank before u)
    → AllHaveTwins m a → 0 < rank before a.0
    → lowest (λ half. get_or rank_list half.to.0 0 == 0) (λ half. half.to.0) None (half_edges m a.0) ≡ unwritten_neighbour (graph_of m) before a.0
neighbour_is m before rank_list a ranks twins written =
    lowest_is (λ half. get_or rank_list half.to.0 0 == 0) (λ half. half.to.0) (length m.atoms) (half_edges m a.0) None (λ v h. absurd (false≢true h))
    (λ k d h p. halves_within m a twins k d h)
    ∙ least_cong _ _ (length m.atoms) (λ v less. pull (λ v. get_or rank_list v 0 == 0) (half_edges m a.0) v ∙ here v less)
  where
    here : (v : ℕ) → v < length m.atoms → (list_any (λ half. half.to.0 == v) (half_edges m a.0) && (get_or rank_list v 0 == 0)) ≡ (are_joined m.bonds a.0 v && not (is_written before v))
    here v less = elim (cases_eq a.0 v) [
      | inl same ↦
          let w : is_written before v ≡ true = not-false _ (sym (is_free before v) ∙ ne_eqb (rank before v) 0 (λ z. let e = ap (rank before) same in omega arith)) in
          let f : (get_or rank_list v 0 == 0) ≡ false = ap (λ (x : ℕ). x == 0) (ranks v less) ∙ is_free before v ∙ ap not w in
          rw (f, w) (none (list_any (λ half. half.to.0 == v) (half_edges m a.0)) (are_joined m.bonds a.0 v))
      | inr ne ↦ rw (are_joined-half_edges m a.0 v ne, ranks v less, is_free before v) refl
    ]
      where
        none : (a b : Bool) → (a && false) ≡ (b && false)
        none true true = refl
        none true false = refl
        none false true = refl
        none false false = refl

-- what is seen of an atom's neighbours
pub seen : (m : Molecule) (before : List Step) (k p : ℕ) (rank_list : List ℕ) (a : AtomId) → IsMolecule m → ((u : ℕ) → u < length m.atoms → get_or rank_list u 0 ≡ rank before u)
    → AllHaveTwins m a → 0 < rank before a.0 → Sees m before a.0 (see_all k p rank_list nothing (half_edges m a.0))
seen m before k p rank_list a is ranks twins written =
    let least : some_if found.some found.least ≡ unwritten_neighbour (graph_of m) before a.0 = least_is_lowest k p rank_list (half_edges m a.0) nothing ∙ neighbour_is m before rank_list a ranks twins written in
    record {
      none = λ e. sym least ∙ ap (λ (b : Bool). some_if b found.least) e;
      least = λ e. sym least ∙ ap (λ (b : Bool). some_if b found.least) e;
      only = λ e f. least_none _ (length m.atoms) (λ w less. false_from_ne_true (are_joined m.bonds a.0 w && not (found.least == w || is_written before w)) (λ h. spent f w less h));
      bond = λ e. true_of_found (λ v b. IsBondTo m a.0 v b.0) k p rank_list (half_edges m a.0) nothing bond_to (λ h. absurd (false≢true h)) e;
    }
  where
    found : Seen
    found = see_all k p rank_list nothing (half_edges m a.0)

    bond_to : (i : ℕ) (half : HalfEdge) → slice_get (half_edges m a.0) i ≡ Some half → IsBondTo m a.0 half.to.0 half.bond.0
    bond_to i half at = let t = twins i half at in record { bond = t.bond; is_bond = t.is_bond; order = half_order m a i half.to.0 half t.bond is twins at refl t.is_bond }

    spent : found.more ≡ false → (w : ℕ) → w < length m.atoms → (are_joined m.bonds a.0 w && not (found.least == w || is_written before w)) ≡ true → ⊥
    spent f w less h =
        let both = and_parts (are_joined m.bonds a.0 w) (not (found.least == w || is_written before w)) h in
        let neither = or_parts (found.least == w) (is_written before w) (not-true (found.least == w || is_written before w) both.1) in
        let free : (get_or rank_list w 0 == 0) ≡ true = ap (λ (x : ℕ). x == 0) (ranks w less) ∙ is_free before w ∙ ap not neither.1 in
        let ne : a.0 ≢ w = λ e. let z = unwritten_rank before w neither.1 in let q : rank before a.0 ≡ rank before w = ap (rank before) e in omega arith in
        let same = only_one k p rank_list (half_edges m a.0) nothing refl f w (are_joined-half_edges m a.0 w ne ∙ both.0) free in
        false≢true (sym neither.0 ∙ ap (λ (x : ℕ). x == w) same ∙ same_test w)

-- One more step

pub length_list : (g : Graph) (before : List Step) (al : List AtomId) (pl cl st : List ℕ) → HoldsSteps g before al pl cl st → length al ≡ length before
length_list g before al pl cl st h = ap length h.atoms_are ∙ length-map (atoms before) (λ u. record { 0 = u }) ∙ length_atoms before

pub behind_more : (g : Graph) (before : List Step) (s : Step) (al al' : List AtomId) (pl pl' cl cl' st st' : List ℕ) (p n : ℕ)
    → HoldsSteps g before al pl cl st → s.atom < g.count → p ≡ parent_rank before s.parent → n ≡ suc (length before)
    → al' ≡ al ++ record { 0 = s.atom } ∷ [] → pl' ≡ pl ++ p ∷ [] → cl' ≡ slice_set cl s.atom n → st' ≡ st ++ s.atom ∷ []
    → HoldsSteps g (s ∷ before) al' pl' cl' st'
behind_more g before s al al' pl pl' cl cl' st st' p n h below is_p is_n e f c t =
    let id : ℕ → AtomId = λ u. record { 0 = u } in
    record {
      atoms_are = e ∙ ap (λ (x : List AtomId). x ++ record { 0 = s.atom } ∷ []) h.atoms_are ∙ sym (map-append (λ u. record { 0 = u }) (atoms before) (s.atom ∷ []));
      parents_are = f ∙ ap (λ (x : List ℕ). x ++ p ∷ []) h.parents_are ∙ ap (λ (x : ℕ). parents before ++ x ∷ []) is_p;
      count = ap length c ∙ length-slice_set cl s.atom n ∙ h.count;
      ranks_are = λ u less. ap (λ (x : List ℕ). get_or x u 0) c ∙ elim (cases_eq s.atom u) [
        | inl same ↦
            let len = h.count in
            let at = get_or-set_same cl s.atom n 0 (omega arith) in
            ap (λ (x : ℕ). get_or (slice_set cl s.atom n) x 0) (sym same) ∙ at ∙ is_n ∙ sym (rank_here s before u same)
        | inr ne ↦ get_or-set_other cl s.atom u n 0 (λ x. ne (sym x)) ∙ h.ranks_are u less ∙ sym (rank_other s before u ne)
      ];
      stacked = inr (reverse st, ap reverse t ∙ reverse_push st s.atom, stays_stacked g before before s (reverse st) h.stacked);
    }

pub steps_next : (g : Graph) (k : ℕ) (s : Step) → next_step g (steps g k) ≡ Some s → steps g (suc k) ≡ s ∷ steps g k
steps_next g k s e = ap (λ (o : Option Step). onto o (steps g k)) e

pub longer_steps : (m : Molecule) (s : Step) (al al' : List AtomId) → al' ≡ al ++ record { 0 = s.atom } ∷ [] → next_step (graph_of m) (steps (graph_of m) (length al)) ≡ Some s
    → steps (graph_of m) (length al') ≡ s ∷ steps (graph_of m) (length al)
longer_steps m s al al' e next =
    let longer : length al' ≡ suc (length al) = ap length e ∙ length_push al (record { 0 = s.atom }) ∙ (omega arith) in
    ap (steps (graph_of m)) longer ∙ steps_next (graph_of m) (length al) s next

pub walk_on : (m : Molecule) (s : Step) (al al' : List AtomId) (pl pl' cl cl' st st' : List ℕ) (p n : ℕ)
    → HoldsSteps (graph_of m) (steps (graph_of m) (length al)) al pl cl st
    → next_step (graph_of m) (steps (graph_of m) (length al)) ≡ Some s → p ≡ parent_rank (steps (graph_of m) (length al)) s.parent → n ≡ length al + 1
    → al' ≡ al ++ record { 0 = s.atom } ∷ [] → pl' ≡ pl ++ p ∷ [] → cl' ≡ slice_set cl s.atom n → st' ≡ st ++ s.atom ∷ []
    → HoldsSteps (graph_of m) (steps (graph_of m) (length al')) al' pl' cl' st'
walk_on m s al al' pl pl' cl cl' st st' p n h next is_p is_n e f c t =
    let g = graph_of m in
    let before = steps (graph_of m) (length al) in
    let len = length_list g before al pl cl st h in
    let more = behind_more g before s al al' pl pl' cl cl' st st' p n h (chosen g before s next).below is_p (omega arith) e f c t in
    let longer : length al' ≡ suc (length al) = ap length e ∙ length_push al (record { 0 = s.atom }) ∙ (omega arith) in
    subst (λ (x : List Step). HoldsSteps (graph_of m) x al' pl' cl' st') (sym (ap (steps (graph_of m)) longer ∙ steps_next g (length al) s next)) more

-- while an atom is found, not all are written
pub some_left : (g : Graph) (k : ℕ) (s : Step) → next_step g (steps g k) ≡ Some s → length (steps g k) < g.count
some_left g k s e =
    let c = count_written g (s ∷ steps g k) (grown g k, chosen g (steps g k) s e) in
    let le = count_le (is_written (s ∷ steps g k)) g.count in omega arith

pub few_steps : (g : Graph) (k : ℕ) → length (steps g k) ≤ g.count
few_steps g k = let c = count_written g (steps g k) (grown g k) in let le = count_le (is_written (steps g k)) g.count in omega arith

-- the atoms of the stack are written
pub top_written : (g : Graph) (written others : List Step) (u : ℕ) (us : List ℕ) → Stacked g written others (u ∷ us) → 0 < rank others u
top_written g written [] u us h = cc
top_written g written (s ∷ others) u us (inl h) = let r = top_written g written others u us h.1 in let m = rank_more s others u in omega arith
top_written g written (s ∷ others) u us (inr (vs, e, h)) =
    let same : u ≡ s.atom = cc in let p = rank_here s others u (sym same) in omega arith

pub written_below : (g : Graph) (before : List Step) (u : ℕ) → Grown g before → 0 < rank before u → u < g.count
written_below g [] u h w = absurd (omega arith)
written_below g (s ∷ before) u h w = elim (cases_eq s.atom u) [
  | inl same ↦ subst (λ (x : ℕ). x < g.count) same h.1.below
  | inr ne ↦ let o = rank_other s before u ne in written_below g before u h.0 (omega arith)
]

-- A new part

pub next_root : (m : Molecule) (before : List Step) (root : ℕ) → Stacked (graph_of m) before before [] → root < length m.atoms → rank before root ≡ 0
    → ((v : ℕ) → v < root → 0 < rank before v) → next_step (graph_of m) before ≡ Some (beginning root)
next_root m before root empty below fresh first =
    let none = next_none (graph_of m) before before empty in
    let free : not (is_written before root) ≡ true = ap not (rank_unwritten before root fresh) in
    let found : least (λ v. not (is_written before v)) (length m.atoms) ≡ Some root =
    least_is (λ v. not (is_written before v)) (length m.atoms) root below free
    (λ v less. sym (is_free before v) ∙ ne_eqb (rank before v) 0 (λ z. let f = first v less in omega arith)) in
    rw (none, found) refl

pub next_neighbour : (g : Graph) (before : List Step) (u v : ℕ) (us : List ℕ) → Stacked g before before (u ∷ us) → unwritten_neighbour g before u ≡ Some v
    → next_step g before ≡ Some (behind u v)
next_neighbour g before u v us h found = rw (next_top g before before u v us h found) refl

-- where all atoms are written, there are as many steps as atoms
pub all_steps : (g : Graph) (k : ℕ) → ((v : ℕ) → v < g.count → 0 < rank (steps g k) v) → length (steps g k) ≡ g.count
all_steps g k all =
    sym (count_written g (steps g k) (grown g k))
    ∙ count_all (is_written (steps g k)) g.count (λ v less. not-false _ (sym (is_free (steps g k) v) ∙ ne_eqb (rank (steps g k) v) 0 (λ z. let f = all v less in omega arith)))

-- What the walk's functions want

-- the latest atom of the stack is a written one
pub record IsTop (m : Molecule) (before : List Step) (u : ℕ) : Type 0 where
  pub written : 0 < rank before u
  pub below : u < length m.atoms

pub top_is : (m : Molecule) (k : ℕ) (al : List AtomId) (pl cl st : List ℕ) (u : ℕ) → HoldsSteps (graph_of m) (steps (graph_of m) k) al pl cl (st ++ u ∷ []) → IsTop m (steps (graph_of m) k) u
top_is m k al pl cl st u h =
    let s : Stacked (graph_of m) (steps (graph_of m) k) (steps (graph_of m) k) (u ∷ reverse st) = subst (λ (x : List ℕ). Stacked (graph_of m) (steps (graph_of m) k) (steps (graph_of m) k) x) (reverse_push st u) h.stacked in
    let w = top_written (graph_of m) (steps (graph_of m) k) (steps (graph_of m) k) u (reverse st) s in
    record { written = w; below = written_below (graph_of m) (steps (graph_of m) k) u (grown (graph_of m) k) w }

-- an atom that has no unwritten neighbour stays off the stack, and the one below it comes off
pub stays_off : (m : Molecule) (before : List Step) (al : List AtomId) (pl cl st st' : List ℕ) (u : ℕ) (next : Option ℕ) → HoldsSteps (graph_of m) before al pl cl (st ++ u ∷ [])
    → unwritten_neighbour (graph_of m) before u ≡ None → st ≡ st' ++ option_to_list next → HoldsSteps (graph_of m) before al pl cl (st' ++ option_to_list next)
stays_off m before al pl cl st st' u next h none e =
    let s : Stacked (graph_of m) before before (u ∷ reverse st) = subst (λ (x : List ℕ). Stacked (graph_of m) before before x) (reverse_push st u) h.stacked in
    record {
      atoms_are = h.atoms_are;
      parents_are = h.parents_are;
      count = h.count;
      ranks_are = h.ranks_are;
      stacked = subst (λ (x : List ℕ). Stacked (graph_of m) before before (reverse x)) e (popped (graph_of m) before before u (reverse st) s none);
    }

-- an atom that keeps no unwritten neighbour goes from below the top
goes_below : (g : Graph) (before : List Step) (al : List AtomId) (pl cl st : List ℕ) (u v : ℕ) → HoldsSteps g before al pl cl ((st ++ u ∷ []) ++ v ∷ [])
    → unwritten_neighbour g before u ≡ None → HoldsSteps g before al pl cl (st ++ v ∷ [])
goes_below g before al pl cl st u v h none =
    let two : reverse ((st ++ u ∷ []) ++ v ∷ []) ≡ v ∷ u ∷ reverse st = reverse_push (st ++ u ∷ []) v ∙ ap (λ (x : List ℕ). v ∷ x) (reverse_push st u) in
    let s : Stacked g before before (v ∷ u ∷ reverse st) = subst (λ (x : List ℕ). Stacked g before before x) two h.stacked in
    record {
      atoms_are = h.atoms_are;
      parents_are = h.parents_are;
      count = h.count;
      ranks_are = h.ranks_are;
      stacked = subst (λ (x : List ℕ). Stacked g before before x) (sym (reverse_push st v)) (popped_below g before before v u (reverse st) s none);
    }

-- an atom is kept below the top only if it has another unwritten neighbour
kept_below : (g : Graph) (before : List Step) (al : List AtomId) (pl cl st st' : List ℕ) (u v : ℕ) (more : Bool) → HoldsSteps g before al pl cl ((st ++ u ∷ []) ++ v ∷ [])
    → (more ≡ false → unwritten_neighbour g before u ≡ None) → st' ≡ st ++ (if more then u ∷ [] else []) → HoldsSteps g before al pl cl (st' ++ v ∷ [])
kept_below g before al pl cl st st' u v true h none e = subst (λ (x : List ℕ). HoldsSteps g before al pl cl (x ++ v ∷ [])) (sym e) h
kept_below g before al pl cl st st' u v false h none e =
    subst (λ (x : List ℕ). HoldsSteps g before al pl cl (x ++ v ∷ [])) (sym (e ∙ append-nil st)) (goes_below g before al pl cl st u v h (none refl))

-- its least unwritten neighbour is the next atom
pub next_above : (m : Molecule) (before : List Step) (al : List AtomId) (pl cl st : List ℕ) (u v : ℕ) → HoldsSteps (graph_of m) before al pl cl (st ++ u ∷ [])
    → unwritten_neighbour (graph_of m) before u ≡ Some v → next_step (graph_of m) before ≡ Some (behind u v)
next_above m before al pl cl st u v h found =
    let s : Stacked (graph_of m) before before (u ∷ reverse st) = subst (λ (x : List ℕ). Stacked (graph_of m) before before x) (reverse_push st u) h.stacked in
    next_neighbour (graph_of m) before u v (reverse st) s found

-- the walk goes on behind the top of the stack
pub record GoesOn (m : Molecule) (al : List AtomId) (cl : List ℕ) (u v : ℕ) : Type 0 where
  pub top : u < length cl
  pub next : v < length cl
  pub fewer : length al < length m.atoms

pub goes_on : (m : Molecule) (al : List AtomId) (pl cl st : List ℕ) (u v : ℕ) → HoldsSteps (graph_of m) (steps (graph_of m) (length al)) al pl cl (st ++ u ∷ [])
    → Some v ≡ unwritten_neighbour (graph_of m) (steps (graph_of m) (length al)) u → GoesOn m al cl u v
goes_on m al pl cl st u v h found =
    let t = top_is m (length al) al pl cl st u h in
    let next = next_above m (steps (graph_of m) (length al)) al pl cl st u v h (sym found) in
    let c = chosen (graph_of m) (steps (graph_of m) (length al)) (behind u v) next in
    let fewer = some_left (graph_of m) (length al) (behind u v) next in
    let len = length_list (graph_of m) (steps (graph_of m) (length al)) al pl cl (st ++ u ∷ []) h in
    let count = h.count in
    record {
      top = let b = t.below in omega arith;
      next = let b : v < length m.atoms = c.below in omega arith;
      fewer = omega arith;
    }

pub gone_on : (m : Molecule) (al al' : List AtomId) (pl pl' cl cl' st st' : List ℕ) (u v p : ℕ) (more : Bool)
    → HoldsSteps (graph_of m) (steps (graph_of m) (length al)) al pl cl (st ++ u ∷ [])
    → Some v ≡ unwritten_neighbour (graph_of m) (steps (graph_of m) (length al)) u
    → (more ≡ false → unwritten_neighbour (graph_of m) (behind u v ∷ steps (graph_of m) (length al)) u ≡ None) → p ≡ get_or cl u 0
    → al' ≡ al ++ record { 0 = v } ∷ [] → pl' ≡ pl ++ p ∷ [] → cl' ≡ slice_set cl v (length al + 1) → st' ≡ st ++ (if more then u ∷ [] else [])
    → HoldsSteps (graph_of m) (steps (graph_of m) (length al')) al' pl' cl' (st' ++ v ∷ [])
gone_on m al al' pl pl' cl cl' st st' u v p more h found only is_p e f c t =
    let next = next_above m (steps (graph_of m) (length al)) al pl cl st u v h (sym found) in
    let top = top_is m (length al) al pl cl st u h in
    kept_below (graph_of m) (steps (graph_of m) (length al')) al' pl' cl' st st' u v more
    (walk_on m (behind u v) al al' pl pl' cl cl' (st ++ u ∷ []) ((st ++ u ∷ []) ++ v ∷ []) p (length al + 1) h next (is_p ∙ h.ranks_are u top.below) refl e f c refl)
    (λ none. ap (λ (x : List Step). unwritten_neighbour (graph_of m) x u) (longer_steps m (behind u v) al al' e next) ∙ only none) t

-- the orders of the bonds to the parents
pub orders_on : (m : Molecule) (s : Step) (al al' : List AtomId) (ol ol' : List ℕ) (o : ℕ) → next_step (graph_of m) (steps (graph_of m) (length al)) ≡ Some s
    → ol ≡ parent_orders (graph_of m) (steps (graph_of m) (length al)) → o ≡ order_behind (graph_of m) s.parent s.atom → al' ≡ al ++ record { 0 = s.atom } ∷ [] → ol' ≡ ol ++ o ∷ []
    → ol' ≡ parent_orders (graph_of m) (steps (graph_of m) (length al'))
orders_on m s al al' ol ol' o next is is_o e f =
    f ∙ ap (λ (x : List ℕ). x ++ o ∷ []) is ∙ ap (λ (x : ℕ). parent_orders (graph_of m) (steps (graph_of m) (length al)) ++ x ∷ []) is_o
    ∙ ap (parent_orders (graph_of m)) (sym (longer_steps m s al al' e next))

pub less_left : (n : ℕ) (al al' : List AtomId) (st st' : List ℕ) (u v : ℕ) (more : Bool) → length al < n → al' ≡ al ++ record { 0 = v } ∷ [] → st' ≡ st ++ (if more then u ∷ [] else [])
    → 2 * (n - length al') + length (st' ++ v ∷ []) < 2 * (n - length al) + length (st ++ u ∷ [])
less_left n al al' st st' u v more less e t =
    let a : length al' ≡ length al + 1 = ap length e ∙ length_push al (record { 0 = v }) in
    let b : length (st' ++ v ∷ []) ≡ length st' + 1 = length_push st' v in
    let d : length (st ++ u ∷ []) ≡ length st + 1 = length_push st u in
    let c : length st' ≤ length st + 1 = at_most more t in
    omega arith
  where
    at_most : (b : Bool) → st' ≡ st ++ (if b then u ∷ [] else []) → length st' ≤ length st + 1
    at_most true e = let l : length st' ≡ length (st ++ u ∷ []) = ap length e in let d = length_push st u in omega arith
    at_most false e = let l : length st' ≡ length st = ap length (e ∙ append-nil st) in omega arith

-- At the beginning and at the end

pub root_next : (m : Molecule) (al : List AtomId) (pl cl st : List ℕ) (root : ℕ) → HoldsSteps (graph_of m) (steps (graph_of m) (length al)) al pl cl (st ++ []) → st ≡ []
    → root < length m.atoms → get_or cl root 0 ≡ 0 → ((v : ℕ) → v < root → 0 < get_or cl v 0) → next_step (graph_of m) (steps (graph_of m) (length al)) ≡ Some (beginning root)
root_next m al pl cl st root h empty below free earlier =
    let before = steps (graph_of m) (length al) in
    let none : reverse (st ++ []) ≡ [] = ap (λ (x : List ℕ). reverse (x ++ [])) empty in
    let s : Stacked (graph_of m) before before [] = subst (λ (x : List ℕ). Stacked (graph_of m) before before x) none h.stacked in
    next_root m before root s below (sym (h.ranks_are root below) ∙ free) (λ v less. subst (λ (x : ℕ). 0 < x) (h.ranks_are v (omega arith)) (earlier v less))

pub root_written : (m : Molecule) (al al' : List AtomId) (pl pl' cl cl' st st' : List ℕ) (root : ℕ)
    → HoldsSteps (graph_of m) (steps (graph_of m) (length al)) al pl cl (st ++ []) → st ≡ [] → root < length m.atoms → get_or cl root 0 ≡ 0
    → ((v : ℕ) → v < root → 0 < get_or cl v 0)
    → al' ≡ al ++ record { 0 = root } ∷ [] → pl' ≡ pl ++ 0 ∷ [] → cl' ≡ slice_set cl root (length al + 1) → st' ≡ st
    → HoldsSteps (graph_of m) (steps (graph_of m) (length al')) al' pl' cl' (st' ++ root ∷ [])
root_written m al al' pl pl' cl cl' st st' root h empty below free earlier e f c t =
    walk_on m (beginning root) al al' pl pl' cl cl' (st ++ []) (st' ++ root ∷ []) 0 (length al + 1) h (root_next m al pl cl st root h empty below free earlier) refl refl e f c
    (ap (λ (x : List ℕ). x ++ root ∷ []) (t ∙ sym (append-nil st)))

pub few_written : (m : Molecule) (al : List AtomId) (pl cl st : List ℕ) → HoldsSteps (graph_of m) (steps (graph_of m) (length al)) al pl cl st → length al ≤ length m.atoms
few_written m al pl cl st h =
    let len = length_list (graph_of m) (steps (graph_of m) (length al)) al pl cl st h in
    let few = few_steps (graph_of m) (length al) in omega arith

-- the lists are those of the whole order
pub whole : (m : Molecule) (al : List AtomId) (pl cl st : List ℕ) → HoldsSteps (graph_of m) (steps (graph_of m) (length al)) al pl cl st
    → ((v : ℕ) → v < length m.atoms → 0 < get_or cl v 0) → length al ≡ length m.atoms
whole m al pl cl st h all =
    length_list (graph_of m) (steps (graph_of m) (length al)) al pl cl st h
    ∙ all_steps (graph_of m) (length al) (λ v less. subst (λ (x : ℕ). 0 < x) (h.ranks_are v less) (all v less))

pub order_whole : (m : Molecule) (al : List AtomId) → length al ≡ length m.atoms → steps (graph_of m) (length al) ≡ order (graph_of m)
order_whole m al e = ap (steps (graph_of m)) e
