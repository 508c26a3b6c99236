-- How far the atoms of a molecule are written.
use Rattle.std.specs.Prelude.{◌≡◌, ℕ, Bool, true, false, Some, slice_get, ◌+◌, ◌*◌, ◌-◌, ◌<◌, ◌⊎◌, List, [], ◌∷◌, ◌++◌, None, length, map, get_or, reverse}
use Rattle.mc_base.specs.declared.ids.AtomId.{AtomId}
use Rattle.mc_mol.specs.declared.parts.HalfEdge.{HalfEdge}
use Rattle.mc_mol.specs.Molecule.{Molecule}
use Rattle.mc_mol.specs.HalfEdges.{half_edges}
use Rattle.smi_mean.specs.Order.{Graph, graph_of, Step, unwritten_neighbour, steps, rank, parents, atoms}
use Rattle.smi_write.specs.declared.order.Walk.{Walk}
use Rattle.smi_write.specs.Seen.{leads_back}
use Rattle.smi_write.specs.WrittenOrder.{parent_orders}

-- The stack has the atoms of these steps in their order, but some that have no unwritten neighbour.
abbrev pub Stacked : Graph → List Step → List Step → List ℕ → Type 0
Stacked g written [] stack = stack ≡ []
Stacked g written (s ∷ others) stack =
    ((unwritten_neighbour g written s.atom ≡ None) × Stacked g written others stack)
    ⊎ ((us : List ℕ) × (stack ≡ s.atom ∷ us) × Stacked g written others us)

-- the lists that are kept behind these steps: atoms and parents in the written order, and the rank of each atom
pub record HoldsSteps (g : Graph) (before : List Step) (atom_list : List AtomId) (parent_list rank_list stack : List ℕ) : Type 0 where
  pub atoms_are : atom_list ≡ map (λ u. record { 0 = u }) (atoms before)
  pub parents_are : parent_list ≡ parents before
  pub count : length rank_list ≡ g.count
  pub ranks_are : (u : ℕ) → u < g.count → get_or rank_list u 0 ≡ rank before u
  pub stacked : Stacked g before before (reverse stack)

-- Each ring bond that leads back from a written atom has its earlier end marked, by its rank from 0; those of the atom
-- above the stack aren't looked for yet.
pub record HoldsMarks (m : Molecule) (parent_list rank_list above : List ℕ) (opens : List Bool) : Type 0 where
  pub count : length opens ≡ length m.atoms
  pub marked : (v i : ℕ) (half : HalfEdge) → v < length m.atoms → 0 < get_or rank_list v 0 → (above ≡ v ∷ [] → ⊥) → slice_get (half_edges m v) i ≡ Some half
      → leads_back (get_or rank_list v 0) (get_or parent_list (get_or rank_list v 0 - 1) 0) (get_or rank_list half.to.0 0) ≡ true
      → get_or opens (get_or rank_list half.to.0 0 - 1) false ≡ true

-- the first steps are written, with these atoms above the stack
pub record IsWalkWith (m : Molecule) (w : Walk) (more : List ℕ) : Type 0 where
  pub holds : HoldsSteps (graph_of m) (steps (graph_of m) (length w.atoms.items)) w.atoms.items w.parents.items w.ranks.items (w.stack.items ++ more)
  pub orders_are : w.orders.items ≡ parent_orders (graph_of m) (steps (graph_of m) (length w.atoms.items))
  pub marks : HoldsMarks m w.parents.items w.ranks.items more w.opens.items

-- What is left to do, with these atoms above the stack: an atom comes onto the stack at most once behind each one that is
-- written, and is taken off once.
abbrev pub left : Molecule → Walk → List ℕ → ℕ
left m w more = 2 * (length m.atoms - length w.atoms.items) + length (w.stack.items ++ more)
