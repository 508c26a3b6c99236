-- What a skeleton's marks say of its molecule: nothing where there is none, and else that each may be a centre.
use Rattle.std.proofs.Common.{arith, ◌≡◌, ◌∙◌, ℕ, zero, suc, ◌+◌, ◌<◌, List, [], ◌∷◌, ◌++◌, length, map, Bool, true, false, Option, Some, None, refl, ap, sym, subst, inl, inr}
use Rattle.std.specs.Prelude.{not, ◌&&◌, ◌||◌, is_some, ◌⊎◌, ◌↔◌, IsTrue, replicate, slice_get}
use Rattle.std.proofs.lemmas.Bool.{false≢true}
use Rattle.std.proofs.lemmas.Option.{same_Some, slice_get_within}
use Rattle.mc_base.specs.declared.ids.AtomId.{AtomId}
use Rattle.mc_mol.specs.declared.parts.Slot.{Slot}
use Rattle.mc_mol.specs.Molecule.{Molecule}
use Rattle.mc_rings.specs.Centres.{may_be_centre}
use Rattle.mc_rings.specs.Rings.{AreRingsOf, RingList}
use Rattle.smi_graph.specs.declared.skel_atom.SkelAtom.{SkelAtom}
use Rattle.smi_graph.specs.Firsts.{NoneBelow}
use Rattle.smi_graph.specs.Links.{bond_of}
use Rattle.smi_graph.specs.NeighbourLists.{atom_number}
use Rattle.smi_graph.specs.declared.role.Role.{Role}
use Rattle.smi_graph.specs.declared.text_bond.TextBond.{TextBond}
use Rattle.smi_graph.specs.Rules.{atoms_in, roles_in}
use Rattle.smi_graph.specs.Skeletons.{TextGraph, IsSkeleton, IsTextGraph}
use Rattle.smi_mean.specs.CentrePlaces.{Fits, centre_of, places, places_by, said}
use Rattle.smi_mean.specs.Meaning.{atoms_with, with_centres}
use Rattle.smi_mean.specs.Meant.{AreRightMarks, IsUnder, IsUnmarkedUnder}
use Rattle.smi_mean.specs.MeantCentres.{MarkFits, centre_at, centre_in, centres_in, centres_with, first_centres, is_marked, is_wrong_centre}
use Rattle.smi_mean.specs.Placements.{IsMoleculeOf, meaning_under}
use Rattle.smi_mean.specs.Sound.{IsSound, MayBeCentre}
use Rattle.smi_mean.proofs.Building.{nones_are}
use Rattle.smi_mean.proofs.CentreFits.{first_count, fits_by}
use Rattle.smi_mean.proofs.MeantAtoms.{length_atoms}

abbrev Centre : Type 0
Centre = Option (List Slot)

slice_get_snoc : {A : Type 0} (xs : List A) (x : A) (k : ℕ) (y : A) {n : ℕ} → length xs ≡ n → slice_get (xs ++ x ∷ []) k ≡ Some y → (slice_get xs k ≡ Some y) ⊎ ((k ≡ n) × (x ≡ y))
slice_get_snoc [] x zero y e at = inr (omega arith, same_Some x y at)
slice_get_snoc [] x (suc k) y e at = cc
slice_get_snoc (z ∷ xs) x zero y e at = inl at
slice_get_snoc (z ∷ xs) x (suc k) y {n} e at = by_rest (slice_get_snoc xs x k y refl at)
  where
    by_rest : (slice_get xs k ≡ Some y) ⊎ ((k ≡ length xs) × (x ≡ y)) → (slice_get xs k ≡ Some y) ⊎ ((suc k ≡ n) × (x ≡ y))
    by_rest (inl h) = inl h
    by_rest (inr (f, is)) = inr (omega arith, is)

first_past : (graph : TextGraph) (n k : ℕ) (c : Option (List Slot)) → slice_get (first_centres graph n) k ≡ Some c → (k < n) × (centre_at graph k ≡ c)
first_past graph zero k c at = cc
first_past graph (suc n) k c at = by_place (slice_get_snoc (first_centres graph n) (centre_at graph n) k c (first_count graph n) at) (λ before. first_past graph n k c before)
  where
    by_place : (slice_get (first_centres graph n) k ≡ Some c) ⊎ ((k ≡ n) × (centre_at graph n ≡ c))
        → (slice_get (first_centres graph n) k ≡ Some c → (k < n) × (centre_at graph k ≡ c)) → (k < suc n) × (centre_at graph k ≡ c)
    by_place (inl before) more = let r = more before in let less = r.0 in (omega arith, r.1)
    by_place (inr (e, is)) more = (omega arith, ap (centre_at graph) e ∙ is)

-- Without a mark

no_mark : (c : Option Bool) (places : List Slot) → is_some c ≡ false → centre_of c places ≡ None
no_mark None places none = refl
no_mark (Some mark) places none = absurd (false≢true (sym none))

no_centre : (o : Option SkelAtom) (l : Option (List AtomId)) (d : Option Bool) → is_marked o ≡ false → centre_in o l d ≡ None
no_centre None l d none = refl
no_centre (Some atom) None d none = refl
no_centre (Some atom) (Some list) None none = refl
no_centre (Some atom) (Some list) (Some led) none = no_mark atom.chiral _ none

one_more : (n : ℕ) → replicate {A = Centre} n None ++ None ∷ [] ≡ replicate (suc n) None
one_more zero = refl
one_more (suc n) = ap (λ (cs : List Centre). None ∷ cs) (one_more n)

none_first : (graph : TextGraph) (n : ℕ) → NoneBelow (λ k. is_marked (slice_get graph.atoms k)) n → first_centres graph n ≡ replicate n None
none_first graph zero none = refl
none_first graph (suc n) none =
    ap (λ (cs : List Centre). cs ++ centre_at graph n ∷ []) (none_first graph n (λ k less. none k (omega arith)))
    ∙ ap (λ (c : Centre). replicate n None ++ c ∷ []) (no_centre (slice_get graph.atoms n) _ _ (none n (omega arith)))
    ∙ one_more n

pub unmarked_same : (graph : TextGraph) (m : Molecule) → IsUnmarkedUnder graph m → NoneBelow (λ k. is_marked (slice_get graph.atoms k)) (length graph.atoms) → m ≡ with_centres (centres_in graph) m
unmarked_same graph m under none =
    let atoms = atoms_with (map bond_of graph.bonds) 0 graph.atoms in
    under.molecule
    ∙ ap (λ (cs : List Centre). with_centres cs (meaning_under graph.atoms (map bond_of graph.bonds) under.placed))
    (nones_are atoms ∙ ap (λ (n : ℕ). replicate n None) (length_atoms (map bond_of graph.bonds) 0 graph.atoms) ∙ sym (none_first graph (length graph.atoms) none))
    ∙ ap (with_centres (centres_in graph)) (sym under.molecule)

unmarked : (o : Option SkelAtom) (atom : SkelAtom) (mark : Bool) → o ≡ Some atom → atom.chiral ≡ Some mark → is_marked o ≡ false → ⊥
unmarked o atom mark at marked none = false≢true (sym none ∙ ap is_marked at ∙ ap is_some marked)

pub no_marks_right : (graph : TextGraph) (m : Molecule) → NoneBelow (λ k. is_marked (slice_get graph.atoms k)) (length graph.atoms) → AreRightMarks graph m
no_marks_right graph m none k atom mark at marked = absurd (unmarked (slice_get graph.atoms k) atom mark at marked (none k (slice_get_within graph.atoms k atom at)))

-- With marks of which none is wrong

record IsRightAt (lower may : Bool) : Type 0 where
  upper : lower ≡ false
  test : may ≡ true

right_at : (c : Option Bool) (mark lower may : Bool) → c ≡ Some mark → (is_some c && (lower || not may)) ≡ false → IsRightAt lower may
right_at None mark lower may e h = cc
right_at (Some x) mark true may e h = absurd (false≢true (sym h))
right_at (Some x) mark false true e h = record { upper = refl; test = refl }
right_at (Some x) mark false false e h = absurd (false≢true (sym h))

pub marks_right : (graph : TextGraph) (m new : Molecule) (centres : List Centre) (rings : RingList) → AreRingsOf m rings
    → NoneBelow (λ k. is_wrong_centre (slice_get graph.atoms k) (may_be_centre m rings.sizes k)) (length graph.atoms) → new ≡ with_centres centres m → AreRightMarks graph new
marks_right graph m new centres rings are right is k atom mark at marked =
    let here = right_at atom.chiral mark atom.lower (may_be_centre m rings.sizes k) marked
    (ap (λ (o : Option SkelAtom). is_wrong_centre o (may_be_centre m rings.sizes k)) (sym at) ∙ right k (slice_get_within graph.atoms k atom at)) in
    (here.upper, subst (λ (x : Molecule). MayBeCentre x k) (sym is) (record { sizes = rings.sizes; are = record { count = are.count; each = are.sizes }; may = here.test }))

-- A mark that is right is at an atom with the neighbours and hydrogens of a centre, and each centre is at a mark

pub right_fits : (graph : TextGraph) (m : Molecule) (k : ℕ) → IsTextGraph graph → IsUnder graph m → AreRightMarks graph m → MarkFits graph k
right_fits graph m k is under right atom list mark at here marked =
    let r = right k atom mark at marked in
    fits_by graph under.placed r.1.sizes k is atom list mark at here marked (ap (λ (x : Molecule). may_be_centre x r.1.sizes k) (sym under.molecule) ∙ r.1.may)

marked_some : (c : Option Bool) (places list : List Slot) → centre_of c places ≡ Some list → (mark : Bool) × (c ≡ Some mark)
marked_some None places list h = cc
marked_some (Some mark) places list h = (mark, refl)

pub centres_may : (graph : TextGraph) (m : Molecule) (a : ℕ) (places : List Slot) → IsUnder graph m → AreRightMarks graph m → slice_get m.centres a ≡ Some (Some places) → MayBeCentre m a
centres_may graph m a places under right at =
    by_parts (slice_get graph.atoms a) refl (slice_get graph.neighbours a) (slice_get graph.led a)
    (first_past graph (length graph.atoms) a (Some places) (ap (λ (x : Molecule). slice_get x.centres a) (sym under.molecule) ∙ at)).1
  where
    by_parts : (o : Option SkelAtom) → slice_get graph.atoms a ≡ o → (l : Option (List AtomId)) (d : Option Bool) → centre_in o l d ≡ Some places → MayBeCentre m a
    by_parts None e l d h = cc
    by_parts (Some atom) e None d h = cc
    by_parts (Some atom) e (Some list) None h = cc
    by_parts (Some atom) e (Some list) (Some led) h = let w = marked_some atom.chiral (places_by led (map atom_number list) atom.hydrogens) places h in (right a atom w.0 e w.1).1

-- As it is looked at

pub unmarked_fits : (graph : TextGraph) (k : ℕ) (atom : SkelAtom) → Some atom ≡ slice_get graph.atoms k → atom.chiral ≡ None → IsTrue true ↔ MarkFits graph k
unmarked_fits graph k atom at none = ((λ h other list mark there here marked. absurd (unmarked (slice_get graph.atoms k) other mark there marked (ap is_marked (sym at) ∙ ap is_some none))), (λ h. refl))

pub marked_fits : (graph : TextGraph) (k : ℕ) (atom : SkelAtom) (list : List AtomId) (mark r : Bool) → Some atom ≡ slice_get graph.atoms k → Some list ≡ slice_get graph.neighbours k
    → atom.chiral ≡ Some mark → (IsTrue r ↔ Fits (length list) atom.hydrogens) → IsTrue r ↔ MarkFits graph k
marked_fits graph k atom list mark r at here marked is = (
  (λ h other another sign there near signed.
      subst (λ (a : SkelAtom). Fits (length another) a.hydrogens) (same_Some atom other (at ∙ there))
      (subst (λ (l : List AtomId). Fits (length l) atom.hydrogens) (same_Some list another (here ∙ near)) (is.0 h))),
  (λ fit. is.1 (fit atom list mark (sym at) (sym here) marked)),
)

-- The marks of a text that stands for a sound molecule are at atoms with the neighbours and hydrogens of a centre.
pub sound_fits : (text : List ℕ) (graph : TextGraph) (m : Molecule) (k : ℕ) → IsSkeleton text graph → IsMoleculeOf text m → IsSound m → MarkFits graph k
sound_fits text graph m k is of sound atom list mark at here marked =
    let less = slice_get_within graph.atoms k atom at in
    let centre : slice_get m.centres k ≡ Some (Some (said mark (places (roles_in text) (0 + k) atom.hydrogens))) =
    ap (λ (x : Molecule). slice_get x.centres k) of.molecule
    ∙ centre_with (roles_in text) (atoms_in text) 0 k atom (ap (λ (x : List SkelAtom). slice_get x k) (sym is.atoms) ∙ at)
    ∙ ap (λ (c : Option Bool). Some (centre_of c (places (roles_in text) (0 + k) atom.hydrogens))) marked in
    let may = sound.centres k (said mark (places (roles_in text) (0 + k) atom.hydrogens)) centre in
    fits_by graph of.placed may.sizes k is.limits atom list mark at here marked
    (ap (λ (x : List SkelAtom). may_be_centre (meaning_under x (map bond_of graph.bonds) of.placed) may.sizes k) is.atoms
    ∙ ap (λ (x : List TextBond). may_be_centre (meaning_under (atoms_in text) (map bond_of x) of.placed) may.sizes k) is.bonds
    ∙ ap (λ (x : Molecule). may_be_centre x may.sizes k) (sym of.molecule) ∙ may.may)
  where
    centre_with : (ks : List Role) (atoms : List SkelAtom) (j k : ℕ) (atom : SkelAtom) → slice_get atoms k ≡ Some atom
        → slice_get (centres_with ks j atoms) k ≡ Some (centre_of atom.chiral (places ks (j + k) atom.hydrogens))
    centre_with ks [] j k atom at = cc
    centre_with ks (x ∷ atoms) j zero atom at =
        let e : j ≡ j + 0 = omega arith in
        ap (λ (a : SkelAtom). Some (centre_of a.chiral (places ks j a.hydrogens))) (same_Some x atom at) ∙ ap (λ (n : ℕ). Some (centre_of atom.chiral (places ks n atom.hydrogens))) e
    centre_with ks (x ∷ atoms) j (suc k) atom at =
        let e : suc j + k ≡ j + suc k = omega arith in
        centre_with ks atoms (suc j) k atom at ∙ ap (λ (n : ℕ). Some (centre_of atom.chiral (places ks n atom.hydrogens))) e
