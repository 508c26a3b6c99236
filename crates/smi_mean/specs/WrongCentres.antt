-- Where a mark stands at an atom that may be no centre (this project's own, after OpenSMILES 1.0, section 3.9).
use Rattle.std.specs.Prelude.{◌≡◌, ℕ, ◌+◌, true, List, Option, Some, length, slice_get}
use Rattle.mc_mol.specs.Molecule.{Molecule}
use Rattle.mc_rings.specs.Centres.{may_be_centre}
use Rattle.mc_rings.specs.RingSizes.{RingSizeAt}
use Rattle.smi_graph.specs.Rules.{atoms_in}
use Rattle.smi_mean.specs.Meaning.{meaning}
use Rattle.smi_mean.specs.MeantCentres.{is_wrong_centre}

-- the ring sizes of a molecule's bonds
pub record AreSizes (m : Molecule) (sizes : List (Option ℕ)) : Type 0 where
  pub count : length sizes ≡ length m.bonds
  pub each : (k : ℕ) (size : Option ℕ) → slice_get sizes k ≡ Some size → RingSizeAt m.bonds k size

-- The kind NotACentre stands at an atom of a text; atoms count from 1. Whether an atom in upper case may be a centre depends
-- on no placement.
pub record NotACentreAt (text : List ℕ) (place : ℕ) : Type 0 where
  pub k : ℕ
  pub place_is : place ≡ k + 1
  pub sizes : List (Option ℕ)
  pub are : AreSizes (meaning text) sizes
  pub wrong : is_wrong_centre (slice_get (atoms_in text) k) (may_be_centre (meaning text) sizes k) ≡ true
