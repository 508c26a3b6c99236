-- The atoms without a parent begin the parts of a molecule.
use Rattle.std.proofs.Common.{◌≡◌, ℕ, zero, suc, ◌+◌, ◌≤◌, ◌<◌, List, [], ◌∷◌, length, get_or, Bool, true, false, Option, Some, None, refl, ap, sym, ◌∙◌, subst, inl, inr, arith}
use Rattle.std.specs.List.{All}
use Rattle.std.specs.Prelude.{◌==◌, ◌&&◌, ◌||◌, not, option_map, if◌then◌else◌}
use Rattle.std.proofs.lemmas.Bool.{cases_lt, false≢true, or_left, or_right, ne_eqb, eqb-true, and_parts, or_cases, not-false, false_from_ne_true}
use Rattle.std.proofs.lemmas.List.{get_or_push, get_or_append_left}
use Rattle.std.proofs.lemmas.Option.{same_Some}
use Rattle.mc_mol.specs.declared.parts.Bond.{Bond}
use Rattle.mc_mol.specs.Molecule.{Molecule, joins, are_joined}
use Rattle.mc_mol.specs.WellFormed.{IsBond, IsMolecule}
use Rattle.mc_mol.specs.Parts.{are_connected, count_below, begins_part, part_count}
use Rattle.mc_mol.proofs.Lists.{All-head, All-tail}
use Rattle.mc_mol.proofs.Labelled.{none_found}
use Rattle.mc_mol.proofs.Twins.{joins_first, joins_second}
use Rattle.mc_mol.proofs.Halves.{same_test}
use Rattle.smi_graph.specs.Links.{or_else}
use Rattle.smi_mean.specs.Order.{Graph, graph_of, Step, least, is_written, beginning, next_behind, next_step, onto, order, steps, rank, parent_rank, parents, atoms}
use Rattle.smi_write.proofs.Least.{least_some}
use Rattle.smi_write.proofs.Counting.{count, count_one}
use Rattle.smi_write.proofs.Walk.{Chosen, Grown, grown, behind_is, written_rank, length_parents}
use Rattle.smi_write.proofs.Once.{length_steps, length_atoms, below_count, distinct}

-- What is connected

-- a bond's ends are below the number of atoms
pub joined_below : (n : ℕ) (bonds : List Bond) (u v : ℕ) → All (IsBond n) bonds → are_joined bonds u v ≡ true → v < n
joined_below n [] u v all h = absurd (false≢true h)
joined_below n (b ∷ bonds) u v all h =
    let is = All-head (IsBond n) b bonds all in
    elim (or_cases (joins b u v) (are_joined bonds u v) h) [
      | inl here ↦ elim (or_cases (b.first.0 == u && b.second.0 == v) (b.first.0 == v && b.second.0 == u) here) [
        | inl t ↦ let e = eqb-true b.second.0 v (and_parts (b.first.0 == u) (b.second.0 == v) t).1 in let less = is.second in omega arith
        | inr t ↦ let e = eqb-true b.first.0 v (and_parts (b.first.0 == v) (b.second.0 == u) t).0 in let less = is.first in omega arith
      ]
      | inr there ↦ joined_below n bonds u v (All-tail (IsBond n) b bonds all) there
    ]

-- what bonds don't lead out of isn't left
pub connected_within : (bonds : List Bond) (p : ℕ → Bool) → ((u v : ℕ) → are_joined bonds u v ≡ true → p u ≡ true → p v ≡ true)
    → (u v : ℕ) → are_connected bonds u v ≡ true → p u ≡ true → p v ≡ true
connected_within [] p closed u v h is = subst (λ (x : ℕ). p x ≡ true) (eqb-true u v h) is
connected_within (b ∷ bonds) p closed u v h is =
    let f : ℕ = b.first.0 in
    let s : ℕ = b.second.0 in
    let more : (x y : ℕ) → are_connected bonds x y ≡ true → p x ≡ true → p y ≡ true
    = connected_within bonds p (λ x y j. closed x y (or_right (joins b x y) (are_joined bonds x y) j)) in
    let along : p f ≡ true → p s ≡ true = closed f s (or_left (joins b f s) (are_joined bonds f s) (joins_first b)) in
    let back : p s ≡ true → p f ≡ true = closed s f (or_left (joins b s f) (are_joined bonds s f) (joins_second b)) in
    elim (or_cases (are_connected bonds u v) ((are_connected bonds u f && are_connected bonds s v) || (are_connected bonds u s && are_connected bonds f v)) h) [
      | inl direct ↦ more u v direct is
      | inr across ↦ elim (or_cases (are_connected bonds u f && are_connected bonds s v) (are_connected bonds u s && are_connected bonds f v) across) [
        | inl t ↦ let both = and_parts (are_connected bonds u f) (are_connected bonds s v) t in more s v both.1 (along (more u f both.0 is))
        | inr t ↦ let both = and_parts (are_connected bonds u s) (are_connected bonds f v) t in more f v both.1 (back (more u s both.0 is))
      ]
    ]

pub connected_self : (bonds : List Bond) (u : ℕ) → are_connected bonds u u ≡ true
connected_self [] u = same_test u
connected_self (b ∷ bonds) u = or_left (are_connected bonds u u) ((are_connected bonds u b.first.0 && are_connected bonds b.second.0 u) || (are_connected bonds u b.second.0 && are_connected bonds b.first.0 u)) (connected_self bonds u)

pub joined_connected : (bonds : List Bond) (u v : ℕ) → are_joined bonds u v ≡ true → are_connected bonds u v ≡ true
joined_connected [] u v h = absurd (false≢true h)
joined_connected (b ∷ bonds) u v h =
    let c : ℕ → ℕ → Bool = λ x y. are_connected bonds x y in
    let f : ℕ = b.first.0 in
    let s : ℕ = b.second.0 in
    elim (or_cases (joins b u v) (are_joined bonds u v) h) [
      | inl here ↦ or_right (c u v) ((c u f && c s v) || (c u s && c f v)) (elim (or_cases (f == u && s == v) (f == v && s == u) here) [
        | inl t ↦
            let both = and_parts (f == u) (s == v) t in
            let first : c u f ≡ true = subst (λ (x : ℕ). c x f ≡ true) (eqb-true f u both.0) (connected_self bonds f) in
            let second : c s v ≡ true = subst (λ (x : ℕ). c s x ≡ true) (eqb-true s v both.1) (connected_self bonds s) in
            or_left (c u f && c s v) (c u s && c f v) (rw (first, second) refl)
        | inr t ↦
            let both = and_parts (f == v) (s == u) t in
            let first : c f v ≡ true = subst (λ (x : ℕ). c f x ≡ true) (eqb-true f v both.0) (connected_self bonds f) in
            let second : c u s ≡ true = subst (λ (x : ℕ). c x s ≡ true) (eqb-true s u both.1) (connected_self bonds s) in
            or_right (c u f && c s v) (c u s && c f v) (rw (second, first) refl)
      ])
      | inr there ↦ or_left (c u v) ((c u f && c s v) || (c u s && c f v)) (joined_connected bonds u v there)
    ]

-- Roots

-- whether the atom at a rank has no parent
abbrev pub is_root : Graph → ℕ → Bool
is_root g l = get_or (parents (order g)) l 0 == 0

-- all atoms before a root are written before it
abbrev pub Rooted : Graph → List Step → Type 0
Rooted g [] = Unit {0}
Rooted g (s ∷ before) = Rooted g before × (s.parent ≡ None → (v : ℕ) → v < s.atom → is_written before v ≡ true)

root_least : (g : Graph) (before : List Step) (s : Step) → next_step g before ≡ Some s → s.parent ≡ None → (v : ℕ) → v < s.atom → is_written before v ≡ true
root_least g before s h none v less = by_behind (next_behind g before before) refl h
  where
    by_root : (o : Option ℕ) → least (λ v. not (is_written before v)) g.count ≡ o → option_map (λ v. beginning v) o ≡ Some s → is_written before v ≡ true
    by_root None e h = cc
    by_root (Some u) e h =
        let l = least_some (λ v. not (is_written before v)) g.count u e in
        let same : u ≡ s.atom = ap (λ (t : Step). t.atom) (same_Some (beginning u) s h) in
        not-false _ (l.first v (omega arith))

    by_behind : (o : Option Step) → next_behind g before before ≡ o → or_else o (option_map (λ v. beginning v) (least (λ v. not (is_written before v)) g.count)) ≡ Some s → is_written before v ≡ true
    by_behind (Some t) e h = let r = behind_is g before before s (e ∙ h) in let is = r.is in cc
    by_behind None e h = by_root (least (λ v. not (is_written before v)) g.count) refl h

pub rooted : (g : Graph) (k : ℕ) → Rooted g (steps g k)
rooted g zero = tt
rooted g (suc k) = by_next (rooted g k) (next_step g (steps g k)) refl
  where
    by_next : Rooted g (steps g k) → (o : Option Step) → next_step g (steps g k) ≡ o → Rooted g (onto o (steps g k))
    by_next more None e = more
    by_next more (Some s) e = (more, root_least g (steps g k) s e)

-- a root is connected to no earlier atom
root_alone : (m : Molecule) (before : List Step) (s : Step) → IsMolecule m → Chosen (graph_of m) before s → s.parent ≡ None
    → ((v : ℕ) → v < s.atom → is_written before v ≡ true) → (v : ℕ) → v < s.atom → are_connected m.bonds v s.atom ≡ false
root_alone m before s is c none low v less = false_from_ne_true (are_connected m.bonds v s.atom) (λ h.
    let fresh = c.fresh in
    let w = connected_within m.bonds (λ u. is_written before u) (λ u x j in_u.
    by_written u x j in_u (is_written before x) refl) v s.atom h (low v less) in
    false≢true (sym fresh ∙ w))
  where
    by_written : (u x : ℕ) → are_joined m.bonds u x ≡ true → is_written before u ≡ true → (b : Bool) → is_written before x ≡ b → is_written before x ≡ true
    by_written u x j in_u true e = e
    by_written u x j in_u false e =
        let le : rank before u ≤ 0 = subst (λ (o : Option ℕ). rank before u ≤ parent_rank before o) none (c.latest u x (written_rank before u in_u) (joined_below (length m.atoms) m.bonds u x is.bonds j) j e) in
        let above = written_rank before u in_u in absurd (omega arith)

no_parent : (g : Graph) (before : List Step) (s : Step) → Chosen g before s → parent_rank before s.parent ≡ 0 → s.parent ≡ None
no_parent g before s c h = elim c.parent [
  | inl none ↦ none
  | inr some ↦ let (p, r) = some in
      let e : rank before p ≡ 0 = ap (parent_rank before) (sym r.is) ∙ h in
      let above = r.above in absurd (omega arith)
]

pub root_first : (m : Molecule) (before : List Step) → IsMolecule m → Grown (graph_of m) before → Rooted (graph_of m) before → (l : ℕ) → l < length before
    → get_or (parents before) l 0 ≡ 0 → (v : ℕ) → v < get_or (atoms before) l 0 → are_connected m.bonds v (get_or (atoms before) l 0) ≡ false
root_first m [] is grown rooted l less h v low = absurd (omega arith)
root_first m (s ∷ before) is grown rooted l less h v low =
    let lp = length_parents before in
    let la = length_atoms before in
    elim (cases_lt l (length before)) [
      | inl lt ↦
          let pf = get_or_append_left (parents before) (parent_rank before s.parent ∷ []) 0 l (omega arith) in
          let af = get_or_append_left (atoms before) (s.atom ∷ []) 0 l (omega arith) in
          ap (λ (x : ℕ). are_connected m.bonds v x) af ∙ root_first m before is grown.0 rooted.0 l lt (sym pf ∙ h) v (omega arith)
      | inr ge ↦
          let pl = get_or_push (parents before) (parent_rank before s.parent) 0 l (omega arith) in
          let al = get_or_push (atoms before) s.atom 0 l (omega arith) in
          let none = no_parent (graph_of m) before s grown.1 (sym pl ∙ h) in
          ap (λ (x : ℕ). are_connected m.bonds v x) al ∙ root_alone m before s is grown.1 none (rooted.1 none) v (omega arith)
    ]

-- How many roots there are

pub count_is : (p : ℕ → Bool) (n : ℕ) → count_below p n ≡ count p n
count_is p zero = refl
count_is p (suc n) = by_test (p n) (count_is p n)
  where
    by_test : (b : Bool) → count_below p n ≡ count p n → count_below p n + (if b then 1 else 0) ≡ (if b then suc (count p n) else count p n)
    by_test true h = omega arith
    by_test false h = omega arith

pub count_implied : (p q : ℕ → Bool) (n : ℕ) → ((v : ℕ) → v < n → p v ≡ true → q v ≡ true) → count p n ≤ count q n
count_implied p q zero h = omega arith
count_implied p q (suc n) h = by_tests (p n) (q n) refl refl (count_implied p q n (λ v less. h v (omega arith)))
  where
    by_tests : (a b : Bool) → p n ≡ a → q n ≡ b → count p n ≤ count q n → (if a then suc (count p n) else count p n) ≤ (if b then suc (count q n) else count q n)
    by_tests true true e f le = omega arith
    by_tests true false e f le = absurd (false≢true (sym f ∙ h n (omega arith) e))
    by_tests false true e f le = omega arith
    by_tests false false e f le = omega arith

-- what passes at different ranks is not more than what passes
pub count_moved : (p q : ℕ → Bool) (at : ℕ → ℕ) (n size : ℕ) → ((j : ℕ) → j < n → at j < size) → ((j k : ℕ) → j < k → k < n → at j ≡ at k → ⊥)
    → ((j : ℕ) → j < n → p j ≡ true → q (at j) ≡ true) → count p n ≤ count q size
count_moved p q at zero size range apart h = omega arith
count_moved p q at (suc n) size range apart h =
    by_test (p n) refl (count_moved p q at n size (λ j less. range j (omega arith)) (λ j k less below. apart j k less (omega arith)) (λ j less. h j (omega arith)))
    (λ is. count_moved p (λ v. q v && not (v == at n)) at n size (λ j less. range j (omega arith)) (λ j k less below. apart j k less (omega arith))
    (λ j less t. rw (h j (omega arith) t, ne_eqb (at j) (at n) (apart j n less (omega arith))) refl))
  where
    end : (b : Bool) → (b && true) ≡ b
    end true = refl
    end false = refl

    by_test : (b : Bool) → p n ≡ b → count p n ≤ count q size → (p n ≡ true → count p n ≤ count (λ v. q v && not (v == at n)) size) → (if b then suc (count p n) else count p n) ≤ count q size
    by_test false e le less = le
    by_test true e le less =
        let q_at = h n (omega arith) e in
        let one = count_one (λ v. q v && not (v == at n)) q (at n) size
        (λ v ne. rw (ne_eqb v (at n) ne) (sym (end (q v)))) (rw (q_at, same_test (at n)) refl) q_at (range n (omega arith)) in
        let rest = less e in omega arith

pub roots_few : (m : Molecule) → IsMolecule m → count (λ l. is_root (graph_of m) l) (length m.atoms) ≤ part_count m.bonds (length m.atoms)
roots_few m is =
    let g : Graph = graph_of m in
    let n : ℕ = length m.atoms in
    let len : length (order g) ≡ n = length_steps g n (omega arith) in
    let all : Grown g (order g) = grown g n in
    let le = count_moved (λ l. is_root g l) (begins_part m.bonds) (λ l. get_or (atoms (order g)) l 0) n n
    (λ j less. below_count g (order g) j all (omega arith))
    (λ j k less below. distinct g (order g) j k all less (omega arith))
    (λ j less t. ap (λ (b : Bool). not b) (none_found (λ v. are_connected m.bonds v (get_or (atoms (order g)) j 0)) (get_or (atoms (order g)) j 0)
    (root_first m (order g) is all (rooted g n) j (omega arith) (eqb-true (get_or (parents (order g)) j 0) 0 t)))) in
    let same = count_is (begins_part m.bonds) n in omega arith
