-- What a written text is read as (this project's own).
use Rattle.std.specs.Prelude.{◌≡◌, ℕ, List}
use Rattle.mc_base.specs.declared.ids.AtomId.{AtomId}
use Rattle.mc_mol.specs.Molecule.{Molecule}
use Rattle.mc_mol.specs.Same.{Same}
use Rattle.smi_mean.specs.Rules.{SmilesStands}

-- The text of a molecule stands for exactly one molecule, and this is the same as the written one under the order
-- in which the atoms stand in the text.
pub record IsReadBack (m : Molecule) (text : List ℕ) (order : List AtomId) : Type 0 where
  pub molecule : Molecule
  pub reads : SmilesStands text molecule
  pub only : (other : Molecule) → SmilesStands text other → other ≡ molecule
  pub same : Same m molecule order
