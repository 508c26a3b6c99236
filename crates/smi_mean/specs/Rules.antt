-- What a text stands for, and the rules of the kinds for which it is refused.
use Rattle.std.specs.Prelude.{◌≡◌, ℕ, ◌+◌, Bool, true, List, slice_get, if◌then◌else◌}
use Rattle.mc_base.specs.declared.kind.Kind.{Kind}
use Rattle.mc_base.specs.declared.kind.Kind.TheVariants.{LimitValence, HydrogenOnHydrogen, NoPlacement, NotACentre}
use Rattle.mc_base.specs.declared.refusal.Stop.{Stop}
use Rattle.mc_base.specs.declared.refusal.Stop.TheVariants.{Refused, NoMemory}
use Rattle.mc_base.specs.Shown.{IsFirst}
use Rattle.mc_mol.specs.Limits.{is_over, overvalent_at, hydrogen_on_hydrogen_at}
use Rattle.mc_mol.specs.Molecule.{Molecule, bond_sum}
use Rattle.mc_mol.specs.declared.parts.Bond.{Bond}
use Rattle.smi_graph.specs.declared.skel_atom.SkelAtom.{SkelAtom}
use Rattle.smi_graph.specs.Rules.{BreaksAt, atoms_in, bonds_in, text_bonds_in}
use Rattle.smi_mean.specs.Barriers.{IsTextBarrier}
use Rattle.smi_mean.specs.Meaning.{atoms_with, meaning_of}
use Rattle.smi_mean.specs.Needs.{needs}
use Rattle.smi_mean.specs.Placements.{HasNoPlacement, IsMoleculeOf}
use Rattle.smi_mean.specs.WrongCentres.{NotACentreAt}

-- some atom of a molecule is wrong by a test; atoms count from 1
abbrev pub AtomOf : Molecule → (Molecule → ℕ → Bool) → ℕ → Type 0
AtomOf m fails place = (k : ℕ) × (place ≡ k + 1) × (fails m k ≡ true)

-- a kind stands at an atom of a molecule
abbrev pub IsWrongAtom : Molecule → Kind → ℕ → Type 0
IsWrongAtom m LimitValence place = AtomOf m overvalent_at place
IsWrongAtom m HydrogenOnHydrogen place = AtomOf m hydrogen_on_hydrogen_at place
IsWrongAtom m _ place = ⊥

-- the bonds and hydrogens of atom k of a skeleton are above the limit, where a candidate counts 1 and a need counts 1 more
abbrev pub overvalent_in : List SkelAtom → List Bond → ℕ → Bool
overvalent_in atoms bonds k = is_over (slice_get (atoms_with bonds 0 atoms) k) (bond_sum bonds k + (if needs atoms bonds k then 1 else 0))

-- a kind stands at an atom of a skeleton
abbrev pub IsWrongIn : List SkelAtom → List Bond → Kind → ℕ → Type 0
IsWrongIn atoms bonds LimitValence place = (k : ℕ) × (place ≡ k + 1) × (overvalent_in atoms bonds k ≡ true)
IsWrongIn atoms bonds HydrogenOnHydrogen place = AtomOf (meaning_of atoms bonds) hydrogen_on_hydrogen_at place
IsWrongIn atoms bonds _ place = ⊥

-- A kind stands at a place of a text: the rules of its tokens, those of its atoms, that its atoms have no placement of
-- double bonds, and that a mark stands at an atom that may be no centre.
abbrev pub StandsAt : List ℕ → Kind → ℕ → Type 0
StandsAt text NoPlacement place = (place ≡ 0) × HasNoPlacement (atoms_in text) (text_bonds_in text)
StandsAt text NotACentre place = NotACentreAt text place
StandsAt text LimitValence place = IsWrongIn (atoms_in text) (bonds_in text) LimitValence place
StandsAt text HydrogenOnHydrogen place = IsWrongIn (atoms_in text) (bonds_in text) HydrogenOnHydrogen place
StandsAt text kind place = BreaksAt text kind place

-- no kind stands in a text
abbrev pub NoneStands : List ℕ → Type 0
NoneStands text = (kind : Kind) (place : ℕ) → StandsAt text kind place → ⊥

-- a text stands for a molecule: no kind stands in it, and for some placement the molecule is that of its skeleton
pub record SmilesStands (text : List ℕ) (m : Molecule) : Type 0 where
  pub accepted : NoneStands text
  pub molecule : IsMoleculeOf text m

-- The first kind that stands in a text is the one that is answered, and beside NoPlacement any barrier; want of memory is
-- free.
abbrev pub IsRefused : List ℕ → Stop → Type 0
IsRefused text (Refused refusal) = IsFirst (StandsAt text) (IsTextBarrier text) refusal
IsRefused text NoMemory = Unit {0}
