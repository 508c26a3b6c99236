-- What a text is read as.
use Rattle.std.specs.Prelude.{◌≡◌, ℕ, ◌≤◌, ◌<◌, Bool, true, false, List, Option, Some, None, length, map, option_map, slice_get, All, AllPairs}
use Rattle.mc_base.specs.declared.ids.AtomId.{AtomId}
use Rattle.mc_base.specs.declared.kind.Kind.{Kind}
use Rattle.mc_base.specs.declared.refusal.Stop.{Stop}
use Rattle.mc_base.specs.declared.refusal.Stop.TheVariants.{Refused, NoMemory}
use Rattle.mc_base.specs.Shown.{IsFirst}
use Rattle.mc_mol.specs.declared.parts.Bond as bond
use Rattle.mc_mol.specs.Molecule.{joins}
use Rattle.mc_mol.specs.WellFormed.{IsBond}
use Rattle.smi_graph.specs.declared.skel_atom.SkelAtom.{SkelAtom}
use Rattle.smi_graph.specs.declared.skeleton.Link.{Link}
use Rattle.smi_graph.specs.declared.skeleton.Link.TheVariants.{Order, Candidate}
use Rattle.smi_graph.specs.declared.skeleton.SkelBond.{SkelBond}
use Rattle.smi_graph.specs.declared.text_bond.TextBond.{TextBond}
use Rattle.smi_graph.specs.Links.{bond_of, order_of, symbol}
use Rattle.smi_graph.specs.Candidates.{marked, AreCandidates}
use Rattle.smi_graph.specs.declared.role.Role.{Role}
use Rattle.smi_graph.specs.TextOrder.{neighbours, has_predecessor}
use Rattle.smi_graph.specs.RingSlots.{atom_id}
use Rattle.smi_graph.specs.NeighbourLists.{AreNeighboursOf}
use Rattle.smi_graph.specs.Rules.{roles_in, atoms_in, text_bonds_in, BreaksAt}

-- the atoms of a text, in its order, its bonds, in the order of the tokens that complete them, and which of these are
-- marked as candidates; for each atom its neighbours and whether the first of them is its predecessor
pub record TextGraph : Type 0 where
  pub atoms : List SkelAtom
  pub bonds : List TextBond
  pub candidates : List Bool
  pub neighbours : List (List AtomId)
  pub led : List Bool

-- bonds between so many atoms, no pair twice
pub record AreBonds (atoms : ℕ) (bonds : List bond.Bond) : Type 0 where
  pub each : All (IsBond atoms) bonds
  pub once : AllPairs (λ (b c : bond.Bond). joins b c.first.0 c.second.0 ≡ false) bonds

-- at most 999 atoms and bonds; bonds between these atoms, no pair twice; the candidates are marked; each list is that of an
-- atom's neighbours; a mark stands in brackets
pub record IsTextGraph (graph : TextGraph) : Type 0 where
  pub few_atoms : length graph.atoms ≤ 999
  pub few_bonds : length graph.bonds ≤ 999
  pub sound : AreBonds (length graph.atoms) (map bond_of graph.bonds)
  pub candidates : AreCandidates graph.atoms graph.bonds graph.candidates
  pub lists : length graph.neighbours ≡ length graph.atoms
  pub led : length graph.led ≡ length graph.atoms
  pub brackets : (k : ℕ) (atom : SkelAtom) → slice_get graph.atoms k ≡ Some atom → atom.bare ≡ true → atom.chiral ≡ None
  pub neighbours : (a : ℕ) (list : List AtomId) → slice_get graph.neighbours a ≡ Some list → AreNeighboursOf (map bond_of graph.bonds) a list

-- a candidate is single or double; of every other bond the order is known
abbrev pub link_of : Bool → TextBond → Link
link_of true b = Candidate
link_of false b = Order (order_of (symbol b))

abbrev pub linked : Bool → TextBond → SkelBond
linked is_candidate b = record { first = b.first; second = b.second; link = link_of is_candidate b }

-- bond k of a skeleton
abbrev pub linked_at : TextGraph → ℕ → Option SkelBond
linked_at graph k = option_map (linked (marked graph.candidates k)) (slice_get graph.bonds k)

-- each atom has the neighbours that these tokens give it, in the order in which they stand at it
pub record AreNeighbours (ks : List Role) (graph : TextGraph) : Type 0 where
  pub lists : (a : ℕ) → a < length graph.atoms → slice_get graph.neighbours a ≡ Some (map atom_id (neighbours a ks))
  pub led : (a : ℕ) → a < length graph.atoms → slice_get graph.led a ≡ Some (has_predecessor a ks)

-- the skeleton of a text of which no kind stands: its atoms, its bonds and the neighbours of each atom
pub record IsSkeleton (text : List ℕ) (graph : TextGraph) : Type 0 where
  pub accepted : (kind : Kind) (place : ℕ) → BreaksAt text kind place → ⊥
  pub atoms : graph.atoms ≡ atoms_in text
  pub bonds : graph.bonds ≡ text_bonds_in text
  pub neighbours : AreNeighbours (roles_in text) graph
  pub limits : IsTextGraph graph

-- nothing is a barrier: no double bond is placed
abbrev pub IsNoBarrier : List AtomId → ℕ → Type 0
IsNoBarrier barrier odd = ⊥

-- Why a text has no skeleton: the first kind that stands is the one that is answered; want of memory is free.
abbrev pub IsBroken : List ℕ → Stop → Type 0
IsBroken text (Refused refusal) = IsFirst (BreaksAt text) IsNoBarrier refusal
IsBroken text NoMemory = Unit {0}
