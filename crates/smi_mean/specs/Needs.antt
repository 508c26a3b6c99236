-- Which atoms need a double bond (this project's own, after OpenSMILES 1.0, section 3.5).
use Rattle.std.specs.List.{list_any}
use Rattle.std.specs.Prelude.{ℕ, ◌+◌, Bool, false, not, ◌&&◌, ◌==◌, List, Option, Some, None, slice_get}
use Rattle.mc_elements.specs.Valences.{aromatic_valences}
use Rattle.mc_mol.specs.declared.parts.Bond.{Bond}
use Rattle.mc_mol.specs.Molecule.{bond_sum}
use Rattle.smi_graph.specs.declared.skel_atom.SkelAtom.{SkelAtom}
use Rattle.smi_mean.specs.Meaning.{hydrogens_of}

abbrev pub has_valence : List ℕ → ℕ → Bool
has_valence valences x = list_any (λ valence. valence == x) valences

-- x isn't a valence, and one more is
abbrev pub is_one_short : List ℕ → ℕ → Bool
is_one_short valences x = not (has_valence valences x) && has_valence valences (x + 1)

-- An atom in lower case with this bond sum, in which a candidate counts 1, needs a double bond where its bonds and
-- hydrogens are one short of an aromatic valence.
abbrev pub needs_double : SkelAtom → ℕ → Bool
needs_double atom sum = atom.lower && is_one_short (aromatic_valences atom.element atom.charge) (sum + hydrogens_of atom sum)

abbrev pub needs_in : Option SkelAtom → ℕ → Bool
needs_in None sum = false
needs_in (Some atom) sum = needs_double atom sum

-- atom k needs a double bond
abbrev pub needs : List SkelAtom → List Bond → ℕ → Bool
needs atoms bonds k = needs_in (slice_get atoms k) (bond_sum bonds k)
