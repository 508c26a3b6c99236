-- Each atom is written exactly once.
use Rattle.std.proofs.Common.{◌≡◌, ◌≢◌, ℕ, zero, suc, ◌≤◌, ◌<◌, List, [], ◌∷◌, ◌++◌, length, get_or, true, false, Option, Some, None, refl, ap, sym, ◌∙◌, subst, inl, inr, arith}
use Rattle.std.specs.Prelude.{not, option_map}
use Rattle.std.proofs.lemmas.Bool.{cases_lt, cases_eq, ne_eqb, not-false}
use Rattle.std.proofs.lemmas.List.{length_push, get_or_push, get_or_append_left}
use Rattle.mc_mol.proofs.Halves.{same_test}
use Rattle.smi_graph.specs.Links.{or_else}
use Rattle.smi_mean.specs.Order.{Graph, Step, least, is_written, beginning, next_behind, next_step, onto, steps, rank, parent_rank, parents, atoms}
use Rattle.smi_write.proofs.Least.{least_all}
use Rattle.smi_write.proofs.Counting.{count, count_none, count_all, count_full, count_one}
use Rattle.smi_write.proofs.Walk.{Grown, grown, apart, rank_le, rank_here, rank_other, written_rank, unwritten_rank, length_parents}

pub count_written : (g : Graph) (before : List Step) → Grown g before → count (is_written before) g.count ≡ length before
count_written g [] h = count_none (is_written []) g.count (λ v less. refl)
count_written g (s ∷ before) h =
    count_one (is_written before) (is_written (s ∷ before)) s.atom g.count
    (λ v ne. rw (ne_eqb s.atom v (λ e. ne (sym e))) refl)
    h.1.fresh (rw (same_test s.atom) refl) h.1.below
    ∙ ap suc (count_written g before h.0)

no_root : (g : Graph) (before : List Step) (o : Option ℕ) → least (λ v. not (is_written before v)) g.count ≡ o → option_map (λ v. beginning v) o ≡ None → o ≡ None
no_root g before None e h = refl
no_root g before (Some v) e h = cc

-- where there is no next step, all are written
pub all_written : (g : Graph) (before : List Step) → next_step g before ≡ None → (v : ℕ) → v < g.count → is_written before v ≡ true
all_written g before h v less = by_behind (next_behind g before before) h
  where
    by_behind : (o : Option Step) → or_else o (option_map (λ v. beginning v) (least (λ v. not (is_written before v)) g.count)) ≡ None → is_written before v ≡ true
    by_behind None h = not-false _ (least_all (λ v. not (is_written before v)) g.count (no_root g before (least (λ v. not (is_written before v)) g.count) refl h) v less)
    by_behind (Some s) h = cc

pub length_steps : (g : Graph) (k : ℕ) → k ≤ g.count → length (steps g k) ≡ k
length_steps g zero le = refl
length_steps g (suc k) le = by_next (next_step g (steps g k)) refl (length_steps g k (omega arith))
  where
    by_next : (o : Option Step) → next_step g (steps g k) ≡ o → length (steps g k) ≡ k → length (onto o (steps g k)) ≡ suc k
    by_next None e same =
        let all = count_all (is_written (steps g k)) g.count (all_written g (steps g k) e) in
        let c = count_written g (steps g k) (grown g k) in absurd (omega arith)
    by_next (Some s) e same = ap suc same

-- each atom is written
pub each_written : (g : Graph) (v : ℕ) → v < g.count → 0 < rank (steps g g.count) v
each_written g v less = written_rank (steps g g.count) v (count_full (is_written (steps g g.count)) g.count (count_written g (steps g g.count) (grown g g.count) ∙ length_steps g g.count (omega arith)) v less)

pub length_atoms : (before : List Step) → length (atoms before) ≡ length before
length_atoms [] = refl
length_atoms (s ∷ before) = length_push (atoms before) s.atom ∙ let e = length_atoms before in omega arith

-- an atom stands at its rank
pub at_rank : (before : List Step) (u k : ℕ) → rank before u ≡ suc k → get_or (atoms before) k 0 ≡ u
at_rank [] u k h = absurd (omega arith)
at_rank (s ∷ before) u k h = let len = length_atoms before in elim (cases_eq s.atom u) [
  | inl same ↦ let here = rank_here s before u same in get_or_push (atoms before) s.atom 0 k (omega arith) ∙ same
  | inr ne ↦ let other = rank_other s before u ne in let le = rank_le before u in
      get_or_append_left (atoms before) (s.atom ∷ []) 0 k (omega arith) ∙ at_rank before u k (omega arith)
]

-- the atom at a rank has this rank
pub rank_at : (g : Graph) (before : List Step) (k : ℕ) → Grown g before → k < length before → rank before (get_or (atoms before) k 0) ≡ suc k
rank_at g [] k h less = absurd (omega arith)
rank_at g (s ∷ before) k h less = let len = length_atoms before in elim (cases_lt k (length before)) [
  | inl lt ↦
      let front = get_or_append_left (atoms before) (s.atom ∷ []) 0 k (omega arith) in
      let r = rank_at g before k h.0 lt in
      let fresh = unwritten_rank before s.atom h.1.fresh in
      let ne : s.atom ≢ get_or (atoms before) k 0 = λ e. let z = ap (rank before) e in omega arith in
      ap (rank (s ∷ before)) front ∙ rank_other s before (get_or (atoms before) k 0) ne ∙ r
  | inr ge ↦
      let last = get_or_push (atoms before) s.atom 0 k (omega arith) in
      rank_here s before (get_or (atoms before ++ s.atom ∷ []) k 0) (sym last) ∙ omega arith
]

pub below_count : (g : Graph) (before : List Step) (k : ℕ) → Grown g before → k < length before → get_or (atoms before) k 0 < g.count
below_count g [] k h less = absurd (omega arith)
below_count g (s ∷ before) k h less = let len = length_atoms before in elim (cases_lt k (length before)) [
  | inl lt ↦ let front = get_or_append_left (atoms before) (s.atom ∷ []) 0 k (omega arith) in let r = below_count g before k h.0 lt in omega arith
  | inr ge ↦ let last = get_or_push (atoms before) s.atom 0 k (omega arith) in let r = h.1.below in omega arith
]

-- no two ranks have one atom
pub distinct : (g : Graph) (before : List Step) (j k : ℕ) → Grown g before → j < k → k < length before → get_or (atoms before) j 0 ≡ get_or (atoms before) k 0 → ⊥
distinct g before j k h less below same =
    let a = rank_at g before j h (omega arith) in let b = rank_at g before k h below in let c = ap (rank before) same in omega arith

-- From an atom on to a later one that it is joined to, each atom's parent is no earlier than it: the later atom stands
-- behind the earlier one in the tree, and in its part.
pub inside : (g : Graph) (before : List Step) → Grown g before → (u v i : ℕ) → 0 < rank before u → rank before u ≤ i → i < rank before v → g.joined u v ≡ true
    → rank before u ≤ get_or (parents before) i 0
inside g [] h u v i w le less j = absurd (omega arith)
inside g (s ∷ before) h u v i w le less j =
    let len = length_parents before in
    elim (cases_eq s.atom u) [
      | inl same ↦ let here = rank_here s before u same in let top = rank_le (s ∷ before) v in let top' : rank (s ∷ before) v ≤ suc (length before) = top in absurd (omega arith)
      | inr ne ↦
          let other = rank_other s before u ne in
          elim (cases_eq s.atom v) [
            | inl same ↦
                let here = rank_here s before v same in
                let fresh : is_written before v ≡ false = ap (is_written before) (sym same) ∙ h.1.fresh in
                let below : v < g.count = subst (λ (x : ℕ). x < g.count) same h.1.below in
                elim (cases_lt i (length before)) [
                  | inl lt ↦
                      let front = get_or_append_left (parents before) (parent_rank before s.parent ∷ []) 0 i (omega arith) in
                      elim (apart g before h.0 u v i (omega arith) below j fresh lt) [ inl low ↦ omega arith | inr high ↦ absurd (omega arith) ]
                  | inr ge ↦
                      let last = get_or_push (parents before) (parent_rank before s.parent) 0 i (omega arith) in
                      let low = h.1.latest u v (omega arith) below j fresh in omega arith
                ]
            | inr nv ↦
                let ov = rank_other s before v nv in
                let top = rank_le before v in
                let front = get_or_append_left (parents before) (parent_rank before s.parent ∷ []) 0 i (omega arith) in
                let r = inside g before h.0 u v i (omega arith) (omega arith) (omega arith) j in omega arith
          ]
    ]
