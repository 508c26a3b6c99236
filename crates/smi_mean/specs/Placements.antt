-- Placements of double bonds, and the molecules that a text stands for (this project's own, after OpenSMILES 1.0,
-- section 3.5).
use Rattle.std.specs.Prelude.{◌≡◌, ℕ, ◌+◌, Bool, true, ◌&&◌, List, [], ◌∷◌, Some, slice_get, length, map, if◌then◌else◌}
use Rattle.mc_mol.specs.declared.parts.Bond as bond
use Rattle.mc_mol.specs.Molecule.{Molecule, touches}
use Rattle.smi_graph.specs.declared.skel_atom.SkelAtom.{SkelAtom}
use Rattle.smi_graph.specs.declared.text_bond.TextBond.{TextBond}
use Rattle.smi_graph.specs.Candidates.{IsCandidate, marked}
use Rattle.smi_graph.specs.Links.{bond_of}
use Rattle.smi_graph.specs.Rules.{atoms_in, text_bonds_in}
use Rattle.smi_mean.specs.Meaning.{atoms_with, without_stereo, with_centres}
use Rattle.smi_mean.specs.MeantCentres.{text_centres}
use Rattle.smi_mean.specs.Needs.{needs}

-- how many of the placed bonds touch an atom
abbrev pub placed_at : List bond.Bond → List Bool → ℕ → ℕ
placed_at [] placed a = 0
placed_at (b ∷ bonds) [] a = 0
placed_at (b ∷ bonds) (is_placed ∷ placed) a = (if is_placed && touches b a then 1 else 0) + placed_at bonds placed a

-- an atom lies on one placed bond where it needs a double bond, and on none where it needs none
abbrev pub LiesOnce : List SkelAtom → List bond.Bond → List Bool → ℕ → Type 0
LiesOnce atoms bonds placed a = placed_at bonds placed a ≡ (if needs atoms bonds a then 1 else 0)

-- A placement says of each bond whether it is placed: a set of candidates in which each atom that needs a double bond lies
-- exactly once and no other atom lies.
pub record IsPlacement (atoms : List SkelAtom) (bonds : List TextBond) (placed : List Bool) : Type 0 where
  pub count : length placed ≡ length bonds
  pub candidates : (k : ℕ) (b : TextBond) → slice_get bonds k ≡ Some b → marked placed k ≡ true → IsCandidate atoms bonds b
  pub once : (a : ℕ) → LiesOnce atoms (map bond_of bonds) placed a

-- no placement exists
abbrev pub HasNoPlacement : List SkelAtom → List TextBond → Type 0
HasNoPlacement atoms bonds = (placed : List Bool) → IsPlacement atoms bonds placed → ⊥

-- the placed bonds are double, and the others are as they were
abbrev pub raised_bond : Bool → bond.Bond → bond.Bond
raised_bond is_placed b = record b { order = if is_placed then 2 else b.order }

abbrev pub raised : List Bool → List bond.Bond → List bond.Bond
raised placed [] = []
raised [] (b ∷ bonds) = b ∷ bonds
raised (is_placed ∷ placed) (b ∷ bonds) = raised_bond is_placed b ∷ raised placed bonds

-- The molecule of a skeleton under a placement, but for its stereo. Its atoms depend on no placement.
abbrev pub meaning_under : List SkelAtom → List bond.Bond → List Bool → Molecule
meaning_under atoms bonds placed = without_stereo (atoms_with bonds 0 atoms) (raised placed bonds)

-- For some placement a molecule is that of the text under it. Its centres are those that the marks of the text say.
pub record IsMoleculeOf (text : List ℕ) (m : Molecule) : Type 0 where
  pub placed : List Bool
  pub placement : IsPlacement (atoms_in text) (text_bonds_in text) placed
  pub molecule : m ≡ with_centres (text_centres text) (meaning_under (atoms_in text) (map bond_of (text_bonds_in text)) placed)
