-- An atom has a bond where it has half-edges.
use Rattle.std.proofs.Common.{◌≡◌, ◌∙◌, ℕ, ◌+◌, List, [], ◌∷◌, length, reverse, Bool, true, false, refl, ap, sym, arith}
use Rattle.std.specs.List.{list_any}
use Rattle.std.specs.Prelude.{nat_lt, ◌||◌, if◌then◌else◌}
use Rattle.std.proofs.lemmas.Bool.Decides.{nat_tests}
use Rattle.mc_mol.specs.declared.parts.Bond.{Bond}
use Rattle.mc_mol.specs.Molecule.{Molecule, touches}
use Rattle.mc_mol.specs.HalfEdges.{half_edges, degree}
use Rattle.mc_mol.proofs.Halves.{any_reverse, length-half_edges_by}
use Rattle.mc_same.specs.Stands.{has_bond}

any_by_degree : (bonds : List Bond) (a : ℕ) → list_any (λ (b : Bond). touches b a) bonds ≡ nat_lt 0 (degree bonds a)
any_by_degree [] a = refl
any_by_degree (bond ∷ bonds) a = by_test (touches bond a) (list_any (λ (b : Bond). touches b a) bonds) (degree bonds a) (any_by_degree bonds a)
  where
    by_test : (t any : Bool) (n : ℕ) → any ≡ nat_lt 0 n → (t || any) ≡ nat_lt 0 (n + (if t then 1 else 0))
    by_test true any n is = grind (arith, nat_tests)
    by_test false any n is = grind (arith, nat_tests)

pub has_bond_by : (m : Molecule) (k : ℕ) → has_bond m k ≡ nat_lt 0 (length (half_edges m k))
has_bond_by m k =
    sym (any_reverse (λ (b : Bond). touches b k) m.bonds) ∙ any_by_degree (reverse m.bonds) k ∙ ap (nat_lt 0) (sym (length-half_edges_by (reverse m.bonds) k))
