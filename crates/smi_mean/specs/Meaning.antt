-- The molecule of a skeleton: OpenSMILES 1.0, sections 3.1 (atoms), 3.1.5 (hydrogens of the organic subset), 3.5
-- (aromaticity) and 3.9.2 (centres). The hydrogens of a bare atom in lower case are this project's own.
use Rattle.std.specs.Prelude.{ℕ, ◌+◌, ◌-◌, Bool, List, [], ◌∷◌, Option, None, if◌then◌else◌}
use Rattle.mc_elements.specs.declared.element.Element.{Element}
use Rattle.mc_elements.specs.Valences.{smiles_valences, implied}
use Rattle.mc_mol.specs.declared.parts.Atom.{Atom}
use Rattle.mc_mol.specs.declared.parts.Bond.{Bond}
use Rattle.mc_mol.specs.declared.parts.Slot.{Slot}
use Rattle.mc_mol.specs.Molecule.{Molecule, bond_sum}
use Rattle.smi_graph.specs.declared.skel_atom.SkelAtom.{SkelAtom}
use Rattle.smi_graph.specs.Rules.{atoms_in, bonds_in}
use Rattle.smi_mean.specs.MeantCentres.{text_centres}

abbrev pub lowest : List ℕ → ℕ
lowest [] = 0
lowest (valence ∷ more) = valence

-- A bare atom in lower case leaves one valence for a double bond: it has its lowest normal valence less its bonds less 1.
abbrev pub lower_hydrogens : Element → ℕ → ℕ
lower_hydrogens element sum = lowest (smiles_valences element) - (sum + 1)

-- the hydrogens that its bonds leave a bare atom
abbrev pub bare_hydrogens : Bool → Element → ℕ → ℕ
bare_hydrogens lower element sum = if lower then lower_hydrogens element sum else implied (smiles_valences element) sum

-- the hydrogens of an atom with this bond sum, in which a bond that may be double counts 1: an atom in brackets has those
-- that it writes
abbrev pub hydrogens_of : SkelAtom → ℕ → ℕ
hydrogens_of atom sum = if atom.bare then bare_hydrogens atom.lower atom.element sum else atom.hydrogens

abbrev pub meant_atom : SkelAtom → ℕ → Atom
meant_atom atom sum =
    record { element = atom.element; isotope = atom.isotope; charge = atom.charge; hydrogens = hydrogens_of atom sum; class = atom.class }

-- the atoms from number k on
abbrev pub atoms_with : List Bond → ℕ → List SkelAtom → List Atom
atoms_with bonds k [] = []
atoms_with bonds k (atom ∷ atoms) = meant_atom atom (bond_sum bonds k) ∷ atoms_with bonds (k + 1) atoms

-- none for each
abbrev pub nones : {A B : Type 0} → List A → List (Option B)
nones [] = []
nones (x ∷ xs) = None ∷ nones xs

-- a molecule that has no stereocentre and no double bond with sides
abbrev pub without_stereo : List Atom → List Bond → Molecule
without_stereo atoms bonds = record { atoms = atoms; bonds = bonds; centres = nones atoms; sides = nones bonds }

-- the same molecule with these centres
abbrev pub with_centres : List (Option (List Slot)) → Molecule → Molecule
with_centres centres m = record m { centres = centres }

abbrev pub meaning_of : List SkelAtom → List Bond → Molecule
meaning_of atoms bonds = without_stereo (atoms_with bonds 0 atoms) bonds

-- the molecule of a text in which no double bond is placed
abbrev pub meaning : List ℕ → Molecule
meaning text = with_centres (text_centres text) (meaning_of (atoms_in text) (bonds_in text))
