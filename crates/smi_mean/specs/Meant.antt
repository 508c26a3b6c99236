-- What a skeleton stands for, as its reader answers it.
use Rattle.std.specs.Prelude.{map, ◌≡◌, ◌⊎◌, ℕ, Bool, false, List, Some, slice_get}
use Rattle.mc_base.specs.declared.ids.AtomId.{AtomId}
use Rattle.mc_base.specs.declared.kind.Kind.TheVariants.{NoPlacement as NoPlacementKind}
use Rattle.mc_base.specs.declared.refusal.Refusal.{Refusal}
use Rattle.mc_base.specs.declared.refusal.Stop.{Stop}
use Rattle.mc_base.specs.declared.refusal.Stop.TheVariants.{Refused, NoMemory}
use Rattle.mc_base.specs.Shown.{IsFirst}
use Rattle.mc_mol.specs.declared.parts.Bond.{Bond}
use Rattle.mc_mol.specs.Molecule.{Molecule}
use Rattle.mc_rings.specs.Rings.{RingList, AreRingsOf}
use Rattle.mc_mol.specs.Limits.{overvalent_at, hydrogen_on_hydrogen_at}
use Rattle.smi_graph.specs.declared.skel_atom.SkelAtom.{SkelAtom}
use Rattle.smi_graph.specs.Links.{bond_of}
use Rattle.smi_graph.specs.Skeletons.{TextGraph, IsNoBarrier}
use Rattle.smi_mean.specs.declared.place.Placing.{Placing}
use Rattle.smi_mean.specs.declared.place.Placing.TheVariants.{Placed, Barred}
use Rattle.smi_mean.specs.Meaning.{meaning_of, with_centres}
use Rattle.smi_mean.specs.MeantCentres.{centres_in, IsWrongMark}
use Rattle.smi_mean.specs.Placements.{IsPlacement, HasNoPlacement, meaning_under}
use Rattle.smi_mean.specs.Barriers.{IsBarrierIn}
use Rattle.smi_mean.specs.Rules.{IsWrongAtom}
use Rattle.smi_mean.specs.Sound.{MayBeCentre}

-- no kind stands at an atom of a skeleton
pub record IsRight (atoms : List SkelAtom) (bonds : List Bond) : Type 0 where
  pub valences : (k : ℕ) → overvalent_at (meaning_of atoms bonds) k ≡ false
  pub hydrogens : (k : ℕ) → hydrogen_on_hydrogen_at (meaning_of atoms bonds) k ≡ false

-- the molecule of a skeleton under some placement, but for its stereo
pub record IsUnmarkedUnder (skeleton : TextGraph) (m : Molecule) : Type 0 where
  pub placed : List Bool
  pub placement : IsPlacement skeleton.atoms skeleton.bonds placed
  pub molecule : m ≡ meaning_under skeleton.atoms (map bond_of skeleton.bonds) placed

-- the molecule of a skeleton in which these bonds are double
abbrev pub molecule_under : TextGraph → List Bool → Molecule
molecule_under skeleton placed = with_centres (centres_in skeleton) (meaning_under skeleton.atoms (map bond_of skeleton.bonds) placed)

-- the molecule of a skeleton under some placement
pub record IsUnder (skeleton : TextGraph) (m : Molecule) : Type 0 where
  pub placed : List Bool
  pub placement : IsPlacement skeleton.atoms skeleton.bonds placed
  pub molecule : m ≡ molecule_under skeleton placed

-- each atom with a mark is in upper case and may be a centre of the molecule
abbrev pub AreRightMarks : TextGraph → Molecule → Type 0
AreRightMarks skeleton m = (k : ℕ) (atom : SkelAtom) (mark : Bool) → slice_get skeleton.atoms k ≡ Some atom → atom.chiral ≡ Some mark → (atom.lower ≡ false) × MayBeCentre m k

-- the same where no kind stands at its atoms
pub record IsUnmarkedBy (skeleton : TextGraph) (m : Molecule) : Type 0 where
  pub right : IsRight skeleton.atoms (map bond_of skeleton.bonds)
  pub under : IsUnmarkedUnder skeleton m

-- the molecule of a skeleton under some placement, where no kind stands
pub record IsMeantBy (skeleton : TextGraph) (m : Molecule) : Type 0 where
  pub right : IsRight skeleton.atoms (map bond_of skeleton.bonds)
  pub under : IsUnder skeleton m
  pub marks : AreRightMarks skeleton m

-- a barrier, where there is no placement
pub record IsBarred (skeleton : TextGraph) (barrier : List AtomId) (odd : ℕ) : Type 0 where
  pub barrier_is : IsBarrierIn skeleton.atoms skeleton.bonds barrier odd
  pub none : HasNoPlacement skeleton.atoms skeleton.bonds

-- a placement, or a barrier
abbrev pub IsPlacing : TextGraph → Placing → Type 0
IsPlacing skeleton (Placed placed) = IsPlacement skeleton.atoms skeleton.bonds placed.items
IsPlacing skeleton (Barred barrier odd) = IsBarred skeleton barrier odd

-- the refusal of a skeleton that has no placement
pub record IsUnplaced (skeleton : TextGraph) (refusal : Refusal) : Type 0 where
  pub kind : refusal.kind ≡ NoPlacementKind
  pub place : refusal.place ≡ 0
  pub barred : IsBarred skeleton refusal.barrier refusal.odd

-- the same where no kind stands at an atom
pub record IsUnplacedRight (skeleton : TextGraph) (refusal : Refusal) : Type 0 where
  pub right : IsRight skeleton.atoms (map bond_of skeleton.bonds)
  pub unplaced : IsUnplaced skeleton refusal

-- the first kind that stands at an atom of a skeleton, or that there is no placement; want of memory is free
abbrev pub IsFaulty : TextGraph → Stop → Type 0
IsFaulty skeleton (Refused refusal) = IsFirst (IsWrongAtom (meaning_of skeleton.atoms (map bond_of skeleton.bonds))) IsNoBarrier refusal ⊎ IsUnplacedRight skeleton refusal
IsFaulty skeleton NoMemory = Unit {0}

-- the first atom with a mark that may be no centre of a molecule of the skeleton
pub record IsWronglyMarked (skeleton : TextGraph) (m : Molecule) (refusal : Refusal) : Type 0 where
  pub rings : RingList
  pub are_rings : AreRingsOf m rings
  pub wrong : IsWrongMark skeleton m rings.sizes refusal

-- the same, where want of memory is free
abbrev pub CantBeMarked : TextGraph → Molecule → Stop → Type 0
CantBeMarked skeleton m (Refused refusal) = IsWronglyMarked skeleton m refusal
CantBeMarked skeleton m NoMemory = Unit {0}

-- no other kind stands; which molecule of the skeleton it is doesn't matter
pub record IsMarkedWrongly (skeleton : TextGraph) (refusal : Refusal) : Type 0 where
  pub m : Molecule
  pub unmarked : IsUnmarkedBy skeleton m
  pub marked : IsWronglyMarked skeleton m refusal

-- the first kind that stands at an atom of a skeleton, or that there is no placement, or the first wrong mark
abbrev pub IsRefusedBy : TextGraph → Stop → Type 0
IsRefusedBy skeleton (Refused refusal) = IsFaulty skeleton (Refused refusal) ⊎ IsMarkedWrongly skeleton refusal
IsRefusedBy skeleton NoMemory = Unit {0}

-- the answer of a placing alone
abbrev pub CantBePlaced : TextGraph → Stop → Type 0
CantBePlaced skeleton (Refused refusal) = IsUnplaced skeleton refusal
CantBePlaced skeleton NoMemory = Unit {0}
