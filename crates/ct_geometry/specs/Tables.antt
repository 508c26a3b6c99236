-- The atoms and bonds of a table (BIOVIA CTfile Formats, atom block and bond block: the valence field, places, bond types). Which
-- hydrogens an atom has without a valence field is this project's own.
use Rattle.std.specs.Prelude.{ℕ, ◌+◌, ◌-◌, List, [], ◌∷◌, Option, Some, None, length, map, replicate}
use Rattle.ct_sd.specs.declared.table.DrawMark.{DrawMark}
use Rattle.ct_sd.specs.declared.table.Table.{Table}
use Rattle.ct_sd.specs.declared.table.TableAtom.{TableAtom}
use Rattle.ct_sd.specs.declared.table.TableBond.{TableBond}
use Rattle.mc_base.specs.declared.ids.AtomId.{AtomId}
use Rattle.mc_elements.specs.Valences.{ct_valences, implied}
use Rattle.mc_mol.specs.declared.drawing.Point.{Point}
use Rattle.mc_mol.specs.declared.parts.Atom.{Atom}
use Rattle.mc_mol.specs.declared.parts.Bond.{Bond}
use Rattle.mc_mol.specs.Molecule.{Molecule, bond_sum}

abbrev pub bond_of : TableBond → Bond
bond_of bond = record { first = record { 0 = bond.first }; second = record { 0 = bond.second }; order = bond.order }

abbrev pub bonds_of : List TableBond → List Bond
bonds_of bonds = map bond_of bonds

-- A valence field says bond orders and hydrogens together; without one an atom has the hydrogens that fill up its bonds to a valence of
-- the list for its element and charge.
abbrev pub hydrogens_by : Option ℕ → List ℕ → ℕ → ℕ
hydrogens_by None list sum = implied list sum
hydrogens_by (Some valence) list sum = valence - sum

-- the hydrogens of an atom with this bond sum
abbrev pub hydrogens_of : TableAtom → ℕ → ℕ
hydrogens_of atom sum = hydrogens_by atom.valence (ct_valences atom.element atom.charge) sum

abbrev pub atom_of : TableAtom → ℕ → Atom
atom_of atom sum =
    record { element = atom.element; isotope = atom.isotope; charge = atom.charge; hydrogens = hydrogens_of atom sum; class = atom.class }

-- the atoms from number k on
abbrev pub atoms_with : List Bond → ℕ → List TableAtom → List Atom
atoms_with bonds k [] = []
atoms_with bonds k (atom ∷ atoms) = atom_of atom (bond_sum bonds k) ∷ atoms_with bonds (k + 1) atoms

abbrev pub atoms_of : Table → List Atom
atoms_of table = atoms_with (bonds_of table.bonds) 0 table.atoms

-- the molecule of a table as far as its atoms and bonds go
abbrev pub without_stereo : Table → Molecule
without_stereo table = record {
  atoms = atoms_of table;
  bonds = bonds_of table.bonds;
  centres = replicate (length (atoms_of table)) None;
  sides = replicate (length (bonds_of table.bonds)) None;
}

abbrev pub point_of : TableAtom → Point
point_of atom = record { x = atom.x; y = atom.y }

-- where the atoms are drawn
abbrev pub drawing_of : Table → List Point
drawing_of table = map point_of table.atoms

abbrev pub mark_of : TableBond → DrawMark
mark_of bond = bond.mark

abbrev pub marks_of : Table → List DrawMark
marks_of table = map mark_of table.bonds
