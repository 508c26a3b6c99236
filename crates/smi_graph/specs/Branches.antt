-- What a reader keeps of the branches that are open behind the tokens so far.
use Rattle.std.specs.Prelude.{◌≡◌, ℕ, zero, suc, Bool, true, false, List, [], ◌∷◌, Option, Some, None, drop, reverse}
use Rattle.smi_graph.specs.declared.branches.Branches.{Branches}
use Rattle.smi_graph.specs.declared.role.Role.{Role}
use Rattle.smi_graph.specs.declared.role.Role.TheVariants.{Atom, Bond, Ring, Enter, Leave, Dot}
use Rattle.smi_graph.specs.Bonds.{atom_count}

-- The latest atom that is open once `closed` more branches are closed: going back, each `)` hides what stands
-- behind its `(`.
abbrev pub open_once_closed : ℕ → List Role → Option ℕ
open_once_closed closed [] = None
open_once_closed zero (Atom lower ∷ before) = Some (atom_count before)
open_once_closed (suc closed) (Atom lower ∷ before) = open_once_closed (suc closed) before
open_once_closed closed (Leave ∷ before) = open_once_closed (suc closed) before
open_once_closed zero (Enter ∷ before) = open_once_closed zero before
open_once_closed (suc closed) (Enter ∷ before) = open_once_closed closed before
open_once_closed closed (Bond mark ∷ before) = open_once_closed closed before
open_once_closed closed (Ring number ∷ before) = open_once_closed closed before
open_once_closed closed (Dot ∷ before) = open_once_closed closed before

-- the atoms to which one goes back when the open branches are closed, the latest first
abbrev pub return_atoms : List Role → List (Option ℕ)
return_atoms [] = []
return_atoms (Atom lower ∷ before) = return_atoms before
return_atoms (Bond mark ∷ before) = return_atoms before
return_atoms (Ring number ∷ before) = return_atoms before
return_atoms (Dot ∷ before) = return_atoms before
return_atoms (Enter ∷ before) = open_once_closed 0 before ∷ return_atoms before
return_atoms (Leave ∷ before) = drop 1 (return_atoms before)

abbrev pub is_dot : Option Role → Bool
is_dot (Some Dot) = true
is_dot other = false

abbrev pub unless_dot : Bool → Option ℕ → Option ℕ
unless_dot true atom = None
unless_dot false atom = atom

-- the latest open atom behind these tokens, and the atoms to which closing branches go back
pub record AreOpen (b : Branches) (before : List Role) : Type 0 where
  pub latest : b.latest ≡ open_once_closed 0 before
  pub returns : b.returns.items ≡ reverse (return_atoms before)
