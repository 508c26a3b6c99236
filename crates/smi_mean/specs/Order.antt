-- The order in which the atoms of a molecule are written (this project's own). Steps stand the latest first.
use Rattle.std.specs.Prelude.{ℕ, zero, suc, Bool, true, false, not, ◌&&◌, ◌||◌, List, [], ◌∷◌, ◌++◌, Option, Some, None, ◌==◌, length, get_or, option_map, if◌then◌else◌}
use Rattle.mc_mol.specs.declared.parts.Bond.{Bond}
use Rattle.mc_mol.specs.Molecule.{Molecule, joins, are_joined}
use Rattle.smi_graph.specs.Links.{or_else}

-- how many atoms there are, which are joined, and by bonds of which order
pub record Graph : Type 0 where
  pub count : ℕ
  pub joined : ℕ → ℕ → Bool
  pub order : ℕ → ℕ → ℕ

-- the order of the bond between two atoms, and 1 where there is none
abbrev pub order_between : List Bond → ℕ → ℕ → ℕ
order_between [] u v = 1
order_between (b ∷ bonds) u v = if joins b u v then b.order else order_between bonds u v

abbrev pub graph_of : Molecule → Graph
graph_of m = record { count = length m.atoms; joined = are_joined m.bonds; order = order_between m.bonds }

-- an atom that is written, and the atom that it is written behind, where there is one
pub record Step : Type 0 where
  pub atom : ℕ
  pub parent : Option ℕ

abbrev pub some_if : Bool → ℕ → Option ℕ
some_if true n = Some n
some_if false n = None

-- the least number below n that passes
abbrev pub least : (ℕ → Bool) → ℕ → Option ℕ
least p zero = None
least p (suc n) = or_else (least p n) (some_if (p n) n)

abbrev pub is_written : List Step → ℕ → Bool
is_written [] u = false
is_written (s ∷ before) u = s.atom == u || is_written before u

abbrev pub unwritten_neighbour : Graph → List Step → ℕ → Option ℕ
unwritten_neighbour g written u = least (λ v. g.joined u v && not (is_written written v)) g.count

abbrev pub behind : ℕ → ℕ → Step
behind u v = record { atom = v; parent = Some u }

abbrev pub beginning : ℕ → Step
beginning v = record { atom = v; parent = None }

-- the next step behind the first of these steps whose atom has an unwritten neighbour: to the least of these
abbrev pub next_behind : Graph → List Step → List Step → Option Step
next_behind g written [] = None
next_behind g written (s ∷ others) =
    or_else (option_map (λ v. behind s.atom v) (unwritten_neighbour g written s.atom)) (next_behind g written others)

-- The next step: behind the latest written atom that has an unwritten neighbour; where there is none, to the least
-- unwritten atom, which has no parent.
abbrev pub next_step : Graph → List Step → Option Step
next_step g written =
    or_else (next_behind g written written) (option_map (λ v. beginning v) (least (λ v. not (is_written written v)) g.count))

abbrev pub onto : {A : Type 0} → Option A → List A → List A
onto None xs = xs
onto (Some x) xs = x ∷ xs

-- the first k steps
abbrev pub steps : Graph → ℕ → List Step
steps g zero = []
steps g (suc k) = onto (next_step g (steps g k)) (steps g k)

abbrev pub order : Graph → List Step
order g = steps g g.count

-- the rank of an atom among the written ones, from 1; 0 where it isn't written
abbrev pub rank : List Step → ℕ → ℕ
rank [] u = 0
rank (s ∷ before) u = if s.atom == u then suc (length before) else rank before u

-- the rank of a parent; 0 where there is none
abbrev pub parent_rank : List Step → Option ℕ → ℕ
parent_rank before None = 0
parent_rank before (Some p) = rank before p

-- the ranks of the parents of the written atoms, in the order in which they are written
abbrev pub parents : List Step → List ℕ
parents [] = []
parents (s ∷ before) = parents before ++ parent_rank before s.parent ∷ []

-- the atoms in the order in which they are written
abbrev pub atoms : List Step → List ℕ
atoms [] = []
atoms (s ∷ before) = atoms before ++ s.atom ∷ []

-- the atom of a rank, from 0
abbrev pub at : Graph → ℕ → ℕ
at g k = get_or (atoms (order g)) k 0

abbrev pub before_one : ℕ → ℕ
before_one zero = 0
before_one (suc k) = k

-- the rank, from 0, of an atom
abbrev pub rank_of : Graph → ℕ → ℕ
rank_of g u = before_one (rank (order g) u)

-- whether the atoms of these ranks have a bond that leads to no parent
abbrev pub has_ring : Graph → ℕ → ℕ → Bool
has_ring g j l = g.joined (at g j) (at g l) && not (get_or (parents (order g)) l 0 == suc j)
