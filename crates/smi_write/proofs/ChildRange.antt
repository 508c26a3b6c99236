-- The children of an atom stand behind it, and none stands behind its last one.
use Rattle.std.proofs.Common.{◌≡◌, ℕ, zero, suc, ◌+◌, ◌-◌, ◌≤◌, ◌<◌, List, [], ◌∷◌, length, take, drop, get_or, Bool, false, ap, sym, ◌∙◌, inl, inr, arith}
use Rattle.std.specs.Prelude.{◌==◌, nat_lt}
use Rattle.std.proofs.lemmas.Bool.{cases_lt, ne_eqb, or_parts}
use Rattle.std.proofs.lemmas.Bool.Decides.{nat_tests}
use Rattle.std.proofs.lemmas.List.{append-nil, get_or-drop, get_or_past, take_all}
use Rattle.mc_mol.specs.Molecule.{Molecule}
use Rattle.smi_mean.specs.Order.{graph_of, order, parents}
use Rattle.smi_mean.specs.RingNumbers.{has, passing}
use Rattle.smi_write.specs.declared.order.WrittenAtoms.{WrittenAtoms}
use Rattle.smi_write.specs.WrittenOrder.{IsWrittenOrder, LastChildren}
use Rattle.smi_write.proofs.Partners.{length_parent_list}
use Rattle.smi_write.proofs.Walk.{order_nested}

none_has : (p : ℕ) (qs : List ℕ) (i : ℕ) → has (suc p) qs ≡ false → (get_or qs i 0 == suc p) ≡ false
none_has p [] i h = ne_eqb 0 (suc p) (omega arith)
none_has p (q ∷ qs) zero h = (or_parts (q == suc p) (has (suc p) qs) h).0
none_has p (q ∷ qs) (suc i) h = none_has p qs i (or_parts (q == suc p) (has (suc p) qs) h).1

pub children_behind : (m : Molecule) (w : WrittenAtoms) (ps : List ℕ) (k l : ℕ) → IsWrittenOrder m w → ps ≡ w.parents.items → k < length m.atoms → l ≤ k → (get_or ps l 0 == suc k) ≡ false
children_behind m w ps k l h e less le =
    let same : ps ≡ parents (order (graph_of m)) = e ∙ h.parents_are in
    let len : length (parents (order (graph_of m))) ≡ length m.atoms = ap (λ (xs : List ℕ). length xs) (sym h.parents_are) ∙ length_parent_list m w h in
    let low : get_or (parents (order (graph_of m))) l 0 < 1 + l = (order_nested (graph_of m)).earlier l (omega arith) in
    let is : get_or ps l 0 ≡ get_or (parents (order (graph_of m))) l 0 = ap (λ (xs : List ℕ). get_or xs l 0) same in
    ne_eqb (get_or ps l 0) (suc k) (λ s. omega arith)

pub children_before : (m : Molecule) (w : WrittenAtoms) (ps last : List ℕ) (k l : ℕ) → IsWrittenOrder m w → ps ≡ w.parents.items → k < length m.atoms
    → LastChildren w.parents.items (length m.atoms) last → (l < length m.atoms → get_or last (k + 1) 0 < l) → (get_or ps l 0 == suc k) ≡ false
children_before m w ps last k l h e less is past = elim (cases_lt l (length m.atoms)) [
  | inl inside ↦ behind (past inside)
  | inr outside ↦ ap (λ (x : ℕ). x == suc k) (ap (λ (xs : List ℕ). get_or xs l 0) e ∙ get_or_past w.parents.items l 0 (let len = length_parent_list m w h in omega arith)) ∙ ne_eqb 0 (suc k) (omega arith)
]
  where
    behind : get_or last (k + 1) 0 < l → (get_or ps l 0 == suc k) ≡ false
    behind more =
        let qs : List ℕ = w.parents.items in
        let end : ℕ = get_or last (k + 1) 0 in
        let len : length qs ≡ length m.atoms = length_parent_list m w h in
        let one : k + 1 ≡ suc k = omega arith in
        let whole : take (length m.atoms) qs ≡ qs = take_all (length m.atoms) qs (omega arith) in
        let stop : nat_lt end end ≡ false = grind (arith, nat_tests) in
        let none : has (suc k) (drop (end + 1) qs) ≡ false =
        ap (λ (xs : List ℕ). has (suc k) (drop (end + 1) xs)) (sym whole) ∙ ap (λ (p : ℕ). has p (drop (end + 1) (take (length m.atoms) qs))) (sym one) ∙ is.later end (k + 1) (omega arith) ∙ stop in
        let there : get_or (drop (end + 1) qs) (l - (end + 1)) 0 ≡ get_or qs ((end + 1) + (l - (end + 1))) 0 = get_or-drop (end + 1) qs (l - (end + 1)) 0 in
        let back : (end + 1) + (l - (end + 1)) ≡ l = omega arith in
        ap (λ (x : ℕ). x == suc k) (ap (λ (xs : List ℕ). get_or xs l 0) e ∙ ap (λ (j : ℕ). get_or qs j 0) (sym back) ∙ sym there) ∙ none_has k (drop (end + 1) qs) (l - (end + 1)) none

pub none_passing : (p : ℕ → Bool) (a n : ℕ) → a ≤ n → ((l : ℕ) → a ≤ l → p l ≡ false) → passing p n ≡ passing p a
none_passing p a zero le none = ap (passing p) (let same : 0 ≡ a = omega arith in same)
none_passing p a (suc n) le none = elim (cases_lt n a) [
  | inl less ↦ ap (passing p) (let same : suc n ≡ a = omega arith in same)
  | inr more ↦ rw (none n (omega arith)) (append-nil (passing p n)) ∙ none_passing p a n (omega arith) none
]
