-- The centres that the marks of a text say: OpenSMILES 1.0, section 3.9.2. A mark stands in brackets, so the hydrogens of its
-- atom are those that are written, and no centre depends on a placement of double bonds.
use Rattle.std.specs.Prelude.{◌≡◌, ◌+◌, ◌<◌, ℕ, zero, suc, Bool, true, false, not, ◌&&◌, ◌||◌, List, [], ◌∷◌, ◌++◌, Option, Some, None, is_some, length, map, slice_get}
use Rattle.mc_base.specs.declared.ids.AtomId.{AtomId}
use Rattle.mc_base.specs.declared.kind.Kind.TheVariants.{NotACentre}
use Rattle.mc_base.specs.declared.refusal.Refusal.{Refusal}
use Rattle.mc_mol.specs.declared.parts.Slot.{Slot}
use Rattle.mc_mol.specs.Molecule.{Molecule}
use Rattle.mc_rings.specs.Centres.{may_be_centre}
use Rattle.smi_graph.specs.Firsts.{NoneBelow}
use Rattle.smi_graph.specs.declared.role.Role.{Role}
use Rattle.smi_graph.specs.declared.skel_atom.SkelAtom.{SkelAtom}
use Rattle.smi_graph.specs.NeighbourLists.{atom_number}
use Rattle.smi_graph.specs.Rules.{atoms_in, roles_in}
use Rattle.smi_graph.specs.Skeletons.{TextGraph}
use Rattle.smi_mean.specs.CentrePlaces.{Fits, places, places_by, centre_of}

-- the centres of the atoms of a text from number k on, or none
abbrev pub centres_with : List Role → ℕ → List SkelAtom → List (Option (List Slot))
centres_with ks k [] = []
centres_with ks k (atom ∷ atoms) = centre_of atom.chiral (places ks k atom.hydrogens) ∷ centres_with ks (suc k) atoms

-- the centres of a text
abbrev pub text_centres : List ℕ → List (Option (List Slot))
text_centres text = centres_with (roles_in text) 0 (atoms_in text)

-- the centre of an atom with these neighbours, of which the first is its predecessor or there is none
abbrev pub centre_in : Option SkelAtom → Option (List AtomId) → Option Bool → Option (List Slot)
centre_in None list led = None
centre_in (Some atom) None led = None
centre_in (Some atom) (Some list) None = None
centre_in (Some atom) (Some list) (Some led) = centre_of atom.chiral (places_by led (map atom_number list) atom.hydrogens)

-- the centre of atom k of a skeleton, or none
abbrev pub centre_at : TextGraph → ℕ → Option (List Slot)
centre_at graph k = centre_in (slice_get graph.atoms k) (slice_get graph.neighbours k) (slice_get graph.led k)

-- those of its first n atoms
abbrev pub first_centres : TextGraph → ℕ → List (Option (List Slot))
first_centres graph zero = []
first_centres graph (suc n) = first_centres graph n ++ centre_at graph n ∷ []

abbrev pub centres_in : TextGraph → List (Option (List Slot))
centres_in graph = first_centres graph (length graph.atoms)

-- atom k of a skeleton has the number of neighbours and hydrogens of a centre, if it has a mark
abbrev pub MarkFits : TextGraph → ℕ → Type 0
MarkFits graph k = (atom : SkelAtom) (list : List AtomId) (mark : Bool) → slice_get graph.atoms k ≡ Some atom → slice_get graph.neighbours k ≡ Some list → atom.chiral ≡ Some mark
    → Fits (length list) atom.hydrogens

-- an atom has a mark
abbrev pub is_marked : Option SkelAtom → Bool
is_marked None = false
is_marked (Some atom) = is_some atom.chiral

-- an atom has a mark, and is in lower case or may be no centre
abbrev pub is_wrong_centre : Option SkelAtom → Bool → Bool
is_wrong_centre None may_be = false
is_wrong_centre (Some atom) may_be = is_some atom.chiral && (atom.lower || not may_be)

-- the first atom of a skeleton that has a mark and may be no centre is refused
pub record IsWrongMark (graph : TextGraph) (m : Molecule) (sizes : List (Option ℕ)) (refusal : Refusal) : Type 0 where
  pub k : ℕ
  pub within : k < length graph.atoms
  pub is : refusal ≡ record { kind = NotACentre; place = k + 1; barrier = []; odd = 0 }
  pub wrong : is_wrong_centre (slice_get graph.atoms k) (may_be_centre m sizes k) ≡ true
  pub before : NoneBelow (λ j. is_wrong_centre (slice_get graph.atoms j) (may_be_centre m sizes j)) k
