-- The order in which the places of an atom are written, and the mark of a centre (this project's own). Atoms are numbered
-- by their ranks in the text, from 0.
use Rattle.std.specs.Option.{option_to_list}
use Rattle.std.specs.Prelude.{ℕ, zero, suc, Bool, List, ◌++◌, Option, Some, None, ◌==◌, slice_get, get_or, map}
use Rattle.mc_mol.specs.declared.parts.Slot.{Slot}
use Rattle.mc_mol.specs.Molecule.{Molecule}
use Rattle.mc_mol.specs.Permutations.{is_even_permutation}
use Rattle.mc_rings.specs.Centres.{hydrogens_of}
use Rattle.smi_lex.specs.declared.token.BondMark.{BondMark}
use Rattle.smi_mean.specs.Order.{Graph, graph_of, order, parents, at, rank_of, has_ring}
use Rattle.smi_mean.specs.RingNumbers.{passing, partners, closing}
use Rattle.smi_mean.specs.CentrePlaces.{place_list}

-- the rank of an atom whose number from 1 this is; none for 0
abbrev pub above : ℕ → Option ℕ
above zero = None
above (suc p) = Some p

abbrev pub parent_of : Graph → ℕ → Option ℕ
parent_of g k = above (get_or (parents (order g)) k 0)

abbrev pub children : Graph → ℕ → List ℕ
children g k = passing (λ l. get_or (parents (order g)) l 0 == suc k) g.count

-- which numbers are open doesn't depend on the symbols of bonds
abbrev pub unmarked : ℕ → ℕ → Option BondMark
unmarked j l = None

-- the atoms whose ring numbers close at atom k, in increasing order of the numbers
abbrev pub closers : Graph → ℕ → List ℕ
closers g k = map (λ p. p.opener) (closing (λ j l. unmarked j l) (λ j l. has_ring g j l) g.count k)

-- The neighbours of atom k but its parent: those whose numbers close here, those whose numbers open here, and its
-- children, the last two in the order in which they are written.
abbrev pub others : Graph → ℕ → List ℕ
others g k = (closers g k ++ partners (λ j l. has_ring g j l) g.count k) ++ children g k

-- the neighbours of atom k in the order in which they stand at it
abbrev pub written_neighbours : Graph → ℕ → List ℕ
written_neighbours g k = option_to_list (parent_of g k) ++ others g k

-- the atom of a rank, where there is one
abbrev pub atom_at : Graph → Option ℕ → Option ℕ
atom_at g None = None
atom_at g (Some k) = Some (at g k)

-- the written order of the places of the atom of rank k
abbrev pub written_places : Graph → ℕ → ℕ → List Slot
written_places g k hydrogens = place_list (atom_at g (parent_of g k)) (map (λ l. at g l) (others g k)) hydrogens

-- `@` where the list of a centre is an even permutation of the written order of its places, and `@@` where it isn't
abbrev pub parity_mark : Option (List Slot) → List Slot → Option Bool
parity_mark None list = None
parity_mark (Some places) list = Some (is_even_permutation places list)

-- the list of an atom, where it is a centre
abbrev pub list_of : Option (Option (List Slot)) → Option (List Slot)
list_of None = None
list_of (Some centre) = centre

-- the mark of atom u of a molecule
abbrev pub atom_mark : Molecule → ℕ → Option Bool
atom_mark m u =
    parity_mark (list_of (slice_get m.centres u)) (written_places (graph_of m) (rank_of (graph_of m) u) (hydrogens_of (slice_get m.atoms u)))
