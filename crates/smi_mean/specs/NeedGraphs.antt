-- The graph that a matching is looked for in: the needing atoms alone, along candidates. (What the program builds; the
-- rules of texts don't speak of it.)
use Rattle.std.specs.List.{list_any}
use Rattle.std.specs.Prelude.{◌≡◌, ◌≢◌, ℕ, zero, suc, ◌+◌, ◌<◌, Bool, true, false, ◌&&◌, ◌||◌, ◌==◌, List, [], ◌∷◌, length, get_or, All, if◌then◌else◌}
use Rattle.mc_mol.specs.declared.parts.Bond.{Bond}
use Rattle.mc_mol.specs.Molecule.{are_joined}
use Rattle.match_barrier.specs.Graph.{has, adjacent, IsGraph}
use Rattle.match_barrier.specs.Barrier.{one_if, count}
use Rattle.smi_graph.specs.Candidates.{marked}
use Rattle.smi_mean.specs.RingNumbers.{passing}

-- bonds between n atoms, each between two different ones, and no pair twice
abbrev pub AreApart : ℕ → List Bond → Type 0
AreApart n [] = Unit {0}
AreApart n (b ∷ bonds) = (b.first.0 < n) × (b.second.0 < n) × (b.first.0 ≢ b.second.0) × (are_joined bonds b.first.0 b.second.0 ≡ false) × AreApart n bonds

-- how many bonds pass
abbrev pub counted : (Bond → Bool) → List Bond → ℕ
counted p [] = 0
counted p (b ∷ bonds) = one_if (p b) + counted p bonds

-- The nodes are the needing atoms in order: the number of an atom's node is that of the needing atoms before it.
abbrev pub node_of : List Bool → ℕ → ℕ
node_of needs k = count k (marked needs)

-- the number, below n, that passes and that v passing numbers precede
abbrev pub nth : (ℕ → Bool) → ℕ → ℕ → ℕ
nth test zero v = 0
nth test (suc n) v = if test n && count n test == v then n else nth test n v

-- the atom of a node
abbrev pub atom_of : List Bool → ℕ → ℕ
atom_of needs v = nth (marked needs) (length needs) v

pub record IsNeedGraph (needs : List Bool) (candidates : List Bond) (g : List (List ℕ)) : Type 0 where
  pub graph : IsGraph g
  pub nodes : length g ≡ count (length needs) (marked needs)
  pub edges : (u v : ℕ) → u < length g → v < length g → adjacent g u v ≡ are_joined candidates (atom_of needs u) (atom_of needs v)

-- the numbers of the nodes, from n on
abbrev pub numbers_from : ℕ → List Bool → List ℕ
numbers_from n [] = []
numbers_from n (needing ∷ more) = n ∷ numbers_from (n + one_if needing) more

-- a bond between two needing atoms
abbrev pub is_edge : List Bool → Bond → Bool
is_edge needs b = marked needs b.first.0 && marked needs b.second.0

pub record Needing (needs : List Bool) (b : Bond) : Type 0 where
  pub first : marked needs b.first.0 ≡ true
  pub second : marked needs b.second.0 ≡ true

-- the ends of each bond are atoms
abbrev pub AreInRange : ℕ → List Bond → Type 0
AreInRange n bonds = All (λ b. (b.first.0 < n) × (b.second.0 < n)) bonds

-- it is between these two nodes
abbrev pub edge_of : List Bool → ℕ → ℕ → Bond → Bool
edge_of needs u v b =
    is_edge needs b
    && ((node_of needs b.first.0 == u && node_of needs b.second.0 == v) || (node_of needs b.first.0 == v && node_of needs b.second.0 == u))

abbrev pub node_edge : List Bool → List Bond → ℕ → ℕ → Bool
node_edge needs candidates u v = list_any (edge_of needs u v) candidates

-- the graph of the candidates so far
pub record IsNodeGraph (needs : List Bool) (candidates : List Bond) (g : List (List ℕ)) : Type 0 where
  pub nodes : length g ≡ count (length needs) (marked needs)
  pub edges : (u v : ℕ) → adjacent g u v ≡ node_edge needs candidates u v

-- a bond between two needing atoms whose nodes are mates
abbrev pub is_mated : List Bool → List ℕ → Bond → Bool
is_mated needs mates b = is_edge needs b && (get_or mates (node_of needs b.first.0) 0 == node_of needs b.second.0)

-- of each bond from number k on whether it is a candidate between mates
abbrev pub mated_from : List Bool → List ℕ → List Bool → ℕ → List Bond → List Bool
mated_from needs mates candidates k [] = []
mated_from needs mates candidates k (b ∷ bonds) = (marked candidates k && is_mated needs mates b) ∷ mated_from needs mates candidates (k + 1) bonds

-- an atom that needs a double bond and whose node is in a set
abbrev pub is_chosen : List Bool → List ℕ → ℕ → Bool
is_chosen needs set k = marked needs k && has set (node_of needs k)

-- the atoms of a set of nodes, in increasing order
abbrev pub chosen : List Bool → List ℕ → List ℕ
chosen needs set = passing (is_chosen needs set) (length needs)
