-- What is written has no more parts than the molecule.
use Rattle.std.proofs.Common.{◌≡◌, ℕ, zero, suc, ◌≤◌, ◌<◌, List, [], ◌∷◌, ◌++◌, length, get_or, Bool, true, refl, ap, sym, ◌∙◌, inl, inr, arith}
use Rattle.std.specs.Prelude.{◌==◌, not}
use Rattle.std.proofs.lemmas.Bool.{cases_lt, false≢true}
use Rattle.std.proofs.lemmas.List.{get_or_push, get_or_append_left}
use Rattle.mc_mol.specs.declared.parts.Bond.{Bond}
use Rattle.mc_mol.specs.Molecule.{Molecule, are_joined}
use Rattle.mc_mol.specs.WellFormed.{IsMolecule}
use Rattle.mc_mol.specs.Parts.{are_connected, begins_part, part_count, independent_rings}
use Rattle.mc_mol.proofs.Labelled.{some_found}
use Rattle.mc_mol.proofs.Halves.{same_test}
use Rattle.smi_mean.specs.Order.{Graph, graph_of, Step, order, parent_rank, parents, rank, atoms, at}
use Rattle.smi_write.proofs.Counting.{count}
use Rattle.smi_write.proofs.Walk.{Grown, grown, length_parents, rank_le}
use Rattle.smi_write.proofs.Once.{length_steps, length_atoms, at_rank}
use Rattle.smi_write.proofs.Roots.{joined_connected, is_root, count_is, count_implied, roots_few}

-- a parent is an earlier rank, and its atom is joined to the atom at the rank
pub parent_before : (g : Graph) (before : List Step) → Grown g before → (l j : ℕ) → l < length before → get_or (parents before) l 0 ≡ suc j
    → (j < l) × (g.joined (get_or (atoms before) j 0) (get_or (atoms before) l 0) ≡ true)
parent_before g [] grown l j less h = absurd (omega arith)
parent_before g (s ∷ before) grown l j less h =
    let lp = length_parents before in
    let la = length_atoms before in
    elim (cases_lt l (length before)) [
      | inl lt ↦
          let pf = get_or_append_left (parents before) (parent_rank before s.parent ∷ []) 0 l (omega arith) in
          let r = parent_before g before grown.0 l j lt (sym pf ∙ h) in
          let earlier = r.0 in
          let at_l = get_or_append_left (atoms before) (s.atom ∷ []) 0 l (omega arith) in
          let at_j = get_or_append_left (atoms before) (s.atom ∷ []) 0 j (omega arith) in
          (earlier, ap (λ (x : ℕ). g.joined x (get_or (atoms before ++ s.atom ∷ []) l 0)) at_j ∙ ap (λ (x : ℕ). g.joined (get_or (atoms before) j 0) x) at_l ∙ r.1)
      | inr ge ↦
          let pl = get_or_push (parents before) (parent_rank before s.parent) 0 l (omega arith) in
          let at_l = get_or_push (atoms before) s.atom 0 l (omega arith) in
          elim grown.1.parent [
            | inl none ↦ let z : 0 ≡ suc j = ap (parent_rank before) (sym none) ∙ sym pl ∙ h in absurd (omega arith)
            | inr some ↦ let (p, r) = some in
                let there : rank before p ≡ suc j = ap (parent_rank before) (sym r.is) ∙ sym pl ∙ h in
                let le = rank_le before p in
                let at_j = get_or_append_left (atoms before) (s.atom ∷ []) 0 j (omega arith) ∙ at_rank before p j there in
                (omega arith, ap (λ (x : ℕ). g.joined x (get_or (atoms before ++ s.atom ∷ []) l 0)) at_j ∙ ap (λ (x : ℕ). g.joined p x) at_l ∙ r.joined)
          ]
    ]

pub parent_at : (g : Graph) (l j : ℕ) → l < g.count → get_or (parents (order g)) l 0 ≡ suc j → (j < l) × (g.joined (at g j) (at g l) ≡ true)
parent_at g l j less h = let len = length_steps g g.count (omega arith) in parent_before g (order g) (grown g g.count) l j (omega arith) h

pub parts_low : (m : Molecule) → IsMolecule m → (bonds : List Bond)
    → ((j l : ℕ) → j < l → l < length m.atoms → are_joined m.bonds (at (graph_of m) j) (at (graph_of m) l) ≡ true → are_joined bonds j l ≡ true)
    → part_count bonds (length m.atoms) ≤ part_count m.bonds (length m.atoms)
parts_low m is bonds kept =
    let g : Graph = graph_of m in
    let n : ℕ = length m.atoms in
    let roots = roots_few m is in
    let same = count_is (begins_part bonds) n in
    let le = count_implied (begins_part bonds) (λ l. is_root g l) n (λ l less begins. by_parent l less begins (get_or (parents (order g)) l 0) refl) in
    omega arith
  where
    by_parent : (l : ℕ) → l < length m.atoms → begins_part bonds l ≡ true → (p : ℕ) → get_or (parents (order (graph_of m))) l 0 ≡ p → is_root (graph_of m) l ≡ true
    by_parent l less begins zero e = ap (λ (x : ℕ). x == 0) e ∙ same_test 0
    by_parent l less begins (suc j) e =
        let up = parent_at (graph_of m) l j less e in
        let some = some_found (λ v. are_connected bonds v l) l j up.0 (joined_connected bonds j l (kept j l up.0 less up.1)) in
        absurd (false≢true (ap (λ (b : Bool). not b) (sym some) ∙ begins))

-- so it has no more independent rings where it has as many bonds
pub rings_low : (m : Molecule) → IsMolecule m → (bonds : List Bond) → length bonds ≡ length m.bonds
    → ((j l : ℕ) → j < l → l < length m.atoms → are_joined m.bonds (at (graph_of m) j) (at (graph_of m) l) ≡ true → are_joined bonds j l ≡ true)
    → independent_rings bonds (length m.atoms) ≤ independent_rings m.bonds (length m.atoms)
rings_low m is bonds count kept = let parts = parts_low m is bonds kept in omega arith
