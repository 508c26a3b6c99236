-- The written order as the writer keeps it.
use Rattle.std.specs.Prelude.{◌≡◌, ℕ, ◌+◌, ◌-◌, ◌<◌, ◌≤◌, Bool, true, false, ◌&&◌, not, ◌==◌, nat_lt, List, [], ◌∷◌, ◌++◌, Option, Some, None, length, map, take, drop, get_or}
use Rattle.mc_mol.specs.declared.parts.HalfEdge.{HalfEdge}
use Rattle.mc_mol.specs.Molecule.{Molecule}
use Rattle.smi_mean.specs.Order.{Graph, graph_of, Step, order, rank, parents, atoms, has_ring}
use Rattle.smi_mean.specs.RingNumbers.{has}
use Rattle.smi_write.specs.declared.order.WrittenAtoms.{WrittenAtoms}

-- the order of the bond to a parent, and 1 where there is none
abbrev pub order_behind : Graph → Option ℕ → ℕ → ℕ
order_behind g None v = 1
order_behind g (Some u) v = g.order u v

-- the orders of the bonds to the parents of the written atoms, in the order in which they are written
abbrev pub parent_orders : Graph → List Step → List ℕ
parent_orders g [] = []
parent_orders g (s ∷ before) = parent_orders g before ++ order_behind g s.parent s.atom ∷ []

-- the atoms, their parents and the bonds to these by rank, the rank of each atom, and which atoms open ring numbers
pub record IsWrittenOrder (m : Molecule) (w : WrittenAtoms) : Type 0 where
  pub atoms_are : w.atoms.items ≡ map (λ u. record { 0 = u }) (atoms (order (graph_of m)))
  pub parents_are : w.parents.items ≡ parents (order (graph_of m))
  pub orders_are : w.orders.items ≡ parent_orders (graph_of m) (order (graph_of m))
  pub ranks_are : (u : ℕ) → u < length m.atoms → get_or w.ranks.items u 0 ≡ rank (order (graph_of m)) u
  pub rank_count : length w.ranks.items ≡ length m.atoms
  pub count : length w.atoms.items ≡ length m.atoms
  pub open_count : length w.opens.items ≡ length m.atoms
  pub opens_are : (j l : ℕ) → j < l → l < length m.atoms → has_ring (graph_of m) j l ≡ true → get_or w.opens.items j false ≡ true

-- the rank, from 0, to which a half-edge leads
abbrev pub rank_behind : List ℕ → HalfEdge → ℕ
rank_behind ranks half = get_or ranks half.to.0 0 - 1

-- A half-edge of the atom of rank k leads to a later rank than a given one, and its bond isn't the one to a child.
abbrev pub opens_ring : List ℕ → List ℕ → ℕ → ℕ → HalfEdge → Bool
opens_ring ranks parents k above half =
    nat_lt (above + 1) (get_or ranks half.to.0 0) && not (get_or parents (rank_behind ranks half) 0 == k + 1)

-- For each rank of a parent, from 1, the greatest rank of one of its children among the first n atoms: a later child
-- of this parent is to come as long as it isn't reached.
pub record LastChildren (parent_list : List ℕ) (n : ℕ) (last : List ℕ) : Type 0 where
  pub count : length last ≡ length parent_list + 1
  pub later : (k p : ℕ) → p ≤ length parent_list → has p (drop (k + 1) (take n parent_list)) ≡ nat_lt k (get_or last p 0)
