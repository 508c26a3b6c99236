-- Atoms and the bonds between them (a graph, in the words of graph theory).
use Rattle.std.specs.Prelude.{◌≡◌, ℕ, ◌≤◌, false, List, length, All, AllPairs}
use Rattle.mc_mol.specs.declared.limits.TheConstants.{ATOM_LIMIT, BOND_LIMIT}
use Rattle.mc_mol.specs.declared.parts.Bond.{Bond}
use Rattle.mc_mol.specs.Molecule.{joins}
use Rattle.mc_mol.specs.WellFormed.{IsBond}

pub record BondGraph : Type 0 where
  pub atoms : ℕ
  pub bonds : List Bond

-- no more atoms and bonds than the limits; bonds between atoms that are there, no pair twice
pub record IsGraph (graph : BondGraph) : Type 0 where
  pub few_atoms : graph.atoms ≤ ATOM_LIMIT
  pub few_bonds : length graph.bonds ≤ BOND_LIMIT
  pub bonds : All (IsBond graph.atoms) graph.bonds
  pub once : AllPairs (λ (b c : Bond). joins b c.first.0 c.second.0 ≡ false) graph.bonds
