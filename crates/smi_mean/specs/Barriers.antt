-- Sets of atoms that leave no placement: a set without which the needing atoms fall into more parts with an odd number of
-- atoms than the set has atoms (this project's own, after Tutte's condition).
use Rattle.std.specs.Prelude.{◌≡◌, ℕ, zero, suc, ◌+◌, ◌<◌, Bool, true, List, [], ◌∷◌, ◌++◌, length, map, All, ◌==◌, if◌then◌else◌}
use Rattle.mc_base.specs.declared.ids.AtomId.{AtomId}
use Rattle.mc_mol.specs.declared.parts.Bond as bond
use Rattle.mc_mol.specs.Molecule.{bond_sum}
use Rattle.match_barrier.specs.Barrier.{OddParts}
use Rattle.smi_graph.specs.declared.skel_atom.SkelAtom.{SkelAtom}
use Rattle.smi_graph.specs.declared.text_bond.TextBond.{TextBond}
use Rattle.smi_graph.specs.Candidates.{marked, AreCandidates}
use Rattle.smi_graph.specs.Links.{bond_of}
use Rattle.smi_graph.specs.Rules.{atoms_in, text_bonds_in}
use Rattle.smi_mean.specs.Needs.{needs_double}

-- of each atom from number k on whether it needs a double bond
abbrev pub needs_from : List bond.Bond → ℕ → List SkelAtom → List Bool
needs_from bonds k [] = []
needs_from bonds k (atom ∷ atoms) = needs_double atom (bond_sum bonds k) ∷ needs_from bonds (k + 1) atoms

-- the marked ones of the bonds from number k on
abbrev pub marked_from : List Bool → ℕ → List bond.Bond → List bond.Bond
marked_from marks k [] = []
marked_from marks k (b ∷ bonds) = if marked marks k then b ∷ marked_from marks (k + 1) bonds else marked_from marks (k + 1) bonds

-- f of the n numbers from k on
abbrev pub table : {X : Type 0} → (ℕ → X) → ℕ → ℕ → List X
table f k zero = []
table f k (suc n) = f k ∷ table f (suc k) n

-- the atoms to which bonds join atom k
abbrev pub joined_to : List bond.Bond → ℕ → List ℕ
joined_to [] k = []
joined_to (b ∷ bonds) k =
    if b.first.0 == k then b.second.0 ∷ joined_to bonds k else
    (if b.second.0 == k then b.first.0 ∷ joined_to bonds k else joined_to bonds k)

-- the graph of n atoms that these bonds join
abbrev pub graph_along : ℕ → List bond.Bond → List (List ℕ)
graph_along n bonds = table (joined_to bonds) 0 n

-- those from number k on that need nothing
abbrev pub needless : ℕ → List Bool → List ℕ
needless k [] = []
needless k (needing ∷ more) = if needing then needless (suc k) more else k ∷ needless (suc k) more

-- each number is less than those behind it
abbrev pub Rises : List ℕ → Type 0
Rises [] = Unit {0}
Rises (x ∷ xs) = All (λ y. x < y) xs × Rises xs

-- A set of needing atoms, in increasing order. Without it, and without the atoms that need nothing, the atoms fall along
-- candidates into parts, of which `odd` have an odd number of atoms; and `odd` is greater than the size of the set.
pub record IsNeedBarrier (needs : List Bool) (candidates : List bond.Bond) (set : List ℕ) (odd : ℕ) : Type 0 where
  pub increasing : Rises set
  pub needing : All (λ k. marked needs k ≡ true) set
  pub parts : OddParts (graph_along (length needs) candidates) (set ++ needless 0 needs) odd
  pub more : length set < odd

abbrev pub number_of : AtomId → ℕ
number_of atom = atom.0

-- the needs of the atoms of a skeleton, and those of its bonds that are marked
abbrev pub needs_of : List SkelAtom → List TextBond → List Bool
needs_of atoms bonds = needs_from (map bond_of bonds) 0 atoms

abbrev pub marked_bonds : List Bool → List TextBond → List bond.Bond
marked_bonds marks bonds = marked_from marks 0 (map bond_of bonds)

-- a set of atoms of a skeleton is a barrier
pub record IsBarrierIn (atoms : List SkelAtom) (bonds : List TextBond) (barrier : List AtomId) (odd : ℕ) : Type 0 where
  pub candidates : List Bool
  pub are : AreCandidates atoms bonds candidates
  pub is : IsNeedBarrier (needs_of atoms bonds) (marked_bonds candidates bonds) (map number_of barrier) odd

-- the barriers of a text
abbrev pub IsTextBarrier : List ℕ → List AtomId → ℕ → Type 0
IsTextBarrier text barrier odd = IsBarrierIn (atoms_in text) (text_bonds_in text) barrier odd
