-- Which atoms of a text lie on the double bonds that they need (this project's own).
use Rattle.std.specs.Prelude.{ℕ, ◌+◌, Bool, List, [], ◌∷◌, map, ◌==◌, if◌then◌else◌}
use Rattle.mc_mol.specs.declared.parts.Bond as bond
use Rattle.mc_mol.specs.Molecule.{bond_sum}
use Rattle.smi_graph.specs.declared.skel_atom.SkelAtom.{SkelAtom}
use Rattle.smi_graph.specs.declared.text_bond.TextBond.{TextBond}
use Rattle.smi_graph.specs.Links.{bond_of}
use Rattle.smi_mean.specs.Needs.{needs_double}
use Rattle.smi_mean.specs.Placements.{placed_at}

-- a number of placed bonds is 1 where a double bond is needed, and else 0
abbrev pub is_right : Bool → ℕ → Bool
is_right needing count = count == (if needing then 1 else 0)

-- of each atom from number k on whether it lies on one placed bond where it needs a double bond, and else on none
abbrev pub lying_from : List bond.Bond → List Bool → ℕ → List SkelAtom → List Bool
lying_from bonds placed k [] = []
lying_from bonds placed k (atom ∷ atoms) = is_right (needs_double atom (bond_sum bonds k)) (placed_at bonds placed k) ∷ lying_from bonds placed (k + 1) atoms

abbrev pub lying_of : List SkelAtom → List TextBond → List Bool → List Bool
lying_of atoms bonds placed = lying_from (map bond_of bonds) placed 0 atoms

-- how the program finds it: the placed bonds with order 1, and the comparison of their sums with the needs
abbrev pub counted_once : List Bool → List bond.Bond → List bond.Bond
counted_once [] bonds = []
counted_once (is_placed ∷ placed) [] = []
counted_once (is_placed ∷ placed) (b ∷ bonds) = if is_placed then record b { order = 1 } ∷ counted_once placed bonds else counted_once placed bonds

abbrev pub agree : List Bool → List ℕ → List Bool
agree [] counts = []
agree (needing ∷ needs) [] = []
agree (needing ∷ needs) (count ∷ counts) = is_right needing count ∷ agree needs counts
