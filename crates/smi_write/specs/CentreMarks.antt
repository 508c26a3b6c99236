-- The marks of centres, as the writer finds them.
use Rattle.std.specs.Prelude.{◌≡◌, ℕ, Bool, List, Option, Some, slice_get}
use Rattle.mc_mol.specs.declared.parts.Slot.{Slot}
use Rattle.mc_mol.specs.HalfEdges.{degree}
use Rattle.mc_mol.specs.Molecule.{Molecule, bond_sum}
use Rattle.mc_rings.specs.Centres.{hydrogens_of}
use Rattle.smi_lex.specs.declared.token.TokenKind.{TokenKind}
use Rattle.smi_mean.specs.CentrePlaces.{Fits}
use Rattle.smi_mean.specs.Written.{token_in}

-- each centre has the number of neighbours and hydrogens of one
abbrev pub CentresFit : Molecule → Type 0
CentresFit m = (u : ℕ) (places : List Slot) → slice_get m.centres u ≡ Some (Some places) → Fits (degree m.bonds u) (hydrogens_of (slice_get m.atoms u))

-- the token of atom u of a molecule with this mark
abbrev pub marked_token : Molecule → ℕ → Option Bool → TokenKind
marked_token m u mark = token_in (slice_get m.atoms u) (bond_sum m.bonds u) mark
