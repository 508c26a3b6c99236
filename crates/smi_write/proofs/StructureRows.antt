-- Worked examples of the written form.
use Rattle.std.proofs.Common.{◌≡◌, ℕ, [], ◌∷◌, map, reverse, false, refl}
use Rattle.std.specs.Prelude.{pos}
use Rattle.mc_elements.specs.declared.element.Element.{Element}
use Rattle.mc_elements.specs.declared.element.Element.TheVariants.{C, N, O}
use Rattle.mc_mol.specs.declared.parts.Atom.{Atom}
use Rattle.mc_mol.specs.Molecule.{Molecule}
use Rattle.smi_lex.specs.declared.token.BondMark.TheVariants.{Double}
use Rattle.smi_lex.specs.declared.token.TokenKind.TheVariants.{Bare, Bond, Ring, Enter, Leave, Dot}
use Rattle.smi_graph.specs.Roles.{role_of}
use Rattle.smi_graph.specs.Links.{bond_between, bonds_of}
use Rattle.smi_mean.specs.Written.{written_tokens}

abbrev bare : Element → ℕ → Atom
bare element hydrogens = record { element = element; isotope = 0; charge = pos 0; hydrogens = hydrogens; class = 0 }

-- a ring of three carbon atoms with an oxygen atom, and a nitrogen atom by itself
abbrev ring_and_part : Molecule
ring_and_part = record {
  atoms = bare C 1 ∷ bare C 0 ∷ bare O 0 ∷ bare C 1 ∷ bare N 3 ∷ [];
  bonds = bond_between 0 1 1 ∷ bond_between 3 0 2 ∷ bond_between 1 2 2 ∷ bond_between 1 3 1 ∷ [];
  centres = [];
  sides = [];
}

-- C=1C(=O)C1.N: the symbol of a ring bond stands at the atom that is written first
row_tokens : written_tokens ring_and_part
    ≡ Bare C false ∷ Bond Double ∷ Ring 1 ∷ Bare C false ∷ Enter ∷ Bond Double ∷ Bare O false ∷ Leave ∷ Bare C false ∷ Ring 1 ∷ Dot ∷ Bare N false ∷ []
row_tokens = refl

row_read : bonds_of (reverse (map role_of (written_tokens ring_and_part)))
    ≡ bond_between 0 1 1 ∷ bond_between 1 2 2 ∷ bond_between 1 3 1 ∷ bond_between 0 3 2 ∷ []
row_read = refl
