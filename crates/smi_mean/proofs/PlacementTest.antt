-- A placement is found by looking at the bonds and atoms that are there.
use Rattle.std.proofs.Common.{arith, ◌≡◌, ◌∙◌, ℕ, zero, suc, ◌+◌, ◌≤◌, ◌<◌, List, [], ◌∷◌, length, Bool, true, false, Option, Some, None, refl, ap, sym, inl, inr}
use Rattle.std.specs.List.{All}
use Rattle.std.specs.Prelude.{map, slice_get, ◌&&◌, ◌==◌, if◌then◌else◌}
use Rattle.std.proofs.lemmas.Bool.{cases_lt, false≢true}
use Rattle.std.proofs.lemmas.Bool.Decides.{nat_tests}
use Rattle.std.proofs.lemmas.Option.{slice_get_past, slice_get_within}
use Rattle.mc_mol.specs.declared.parts.Bond as bond
use Rattle.mc_mol.specs.Molecule.{bond_sum, touches}
use Rattle.mc_mol.specs.WellFormed.{IsBond}
use Rattle.smi_graph.specs.declared.skel_atom.SkelAtom.{SkelAtom}
use Rattle.smi_graph.specs.declared.text_bond.TextBond.{TextBond}
use Rattle.smi_graph.specs.Candidates.{marked}
use Rattle.smi_graph.specs.Links.{bond_of}
use Rattle.smi_graph.specs.Skeletons.{TextGraph, IsTextGraph}
use Rattle.smi_mean.specs.Needs.{needs_in}
use Rattle.smi_mean.specs.Placements.{placed_at, LiesOnce, IsPlacement}

other : (n a k : ℕ) → k < n → n ≤ a → (k == a) ≡ false
other n a k less past = grind (arith, nat_tests)

-- no bond touches an atom behind the last one
none_past : (n : ℕ) (bonds : List bond.Bond) (placed : List Bool) (a : ℕ) → n ≤ a → All (IsBond n) bonds → placed_at bonds placed a ≡ 0
none_past n [] placed a past each = refl
none_past n (b ∷ bonds) [] a past each = refl
none_past n (b ∷ bonds) (is_placed ∷ placed) a past each =
    let one = each 0 b (omega arith) in
    let rest = none_past n bonds placed a past (λ k d less. each (suc k) d (omega arith)) in
    let apart : touches b a ≡ false = rw (other n a b.first.0 one.first past, other n a b.second.0 one.second past) refl in
    by_touch is_placed (touches b a) (placed_at bonds placed a) apart rest
  where
    by_touch : (p t : Bool) (n : ℕ) → t ≡ false → n ≡ 0 → (if p && t then 1 else 0) + n ≡ 0
    by_touch p true n apart rest = absurd (false≢true (sym apart))
    by_touch true false n apart rest = omega arith
    by_touch false false n apart rest = omega arith

pub placement_by : (graph : TextGraph) (placed : List Bool) → IsTextGraph graph → length placed ≡ length graph.bonds
    → ((k : ℕ) → k < length graph.bonds → marked placed k ≡ true → marked graph.candidates k ≡ true)
    → ((a : ℕ) → a < length graph.atoms → LiesOnce graph.atoms (map bond_of graph.bonds) placed a) → IsPlacement graph.atoms graph.bonds placed
placement_by graph placed is count only once = record {
  count = count;
  candidates = λ k b at marked_here. (is.candidates k b at).0 (only k (slice_get_within graph.bonds k b at) marked_here);
  once = λ a. elim (cases_lt a (length graph.atoms)) [
    | inl less ↦ once a less
    | inr more ↦
        let bonds : List bond.Bond = map bond_of graph.bonds in
        none_past (length graph.atoms) bonds placed a (omega arith) is.sound.each
        ∙ sym (ap (λ (o : Option SkelAtom). if needs_in o (bond_sum bonds a) then 1 else 0) (slice_get_past graph.atoms a (omega arith)))
  ];
}

pub not_a_candidate : (graph : TextGraph) (placed : List Bool) (k : ℕ) → IsTextGraph graph → k < length graph.bonds → marked placed k ≡ true → marked graph.candidates k ≡ false
    → IsPlacement graph.atoms graph.bonds placed → ⊥
not_a_candidate graph placed k is less marked_here none p = by_bond (slice_get graph.bonds k) refl
  where
    there : (bonds : List TextBond) (k : ℕ) → k < length bonds → slice_get bonds k ≡ None → ⊥
    there [] k less at = omega arith
    there (b ∷ bonds) zero less at = cc
    there (b ∷ bonds) (suc k) less at = there bonds k (omega arith) at

    by_bond : (o : Option TextBond) → slice_get graph.bonds k ≡ o → ⊥
    by_bond None at = there graph.bonds k less at
    by_bond (Some b) at = false≢true (sym none ∙ (is.candidates k b at).1 (p.candidates k b at marked_here))
