-- Where no mark is wrong, each centre of a skeleton has a list of places, under every placement.
use Rattle.std.proofs.Common.{arith, ◌≡◌, ◌∙◌, ℕ, zero, suc, ◌+◌, ◌<◌, List, [], ◌∷◌, length, map, Bool, true, false, Option, Some, None, refl, ap, sym, subst, inl, inr}
use Rattle.std.specs.Prelude.{not, ◌&&◌, ◌||◌, is_some, slice_get, option_map, if◌then◌else◌}
use Rattle.std.proofs.lemmas.Bool.{cases_lt, false≢true, false_from_ne_true}
use Rattle.std.proofs.lemmas.List.{length-append}
use Rattle.std.proofs.lemmas.Option.{same_Some}
use Rattle.mc_base.specs.declared.ids.AtomId.{AtomId}
use Rattle.mc_mol.specs.declared.parts.Bond.{Bond}
use Rattle.mc_mol.specs.declared.parts.Slot.{Slot}
use Rattle.mc_mol.specs.Molecule.{Molecule, bond_sum}
use Rattle.mc_mol.specs.HalfEdges.{degree}
use Rattle.mc_mol.specs.WellFormed.{IsPlaceList}
use Rattle.mc_rings.specs.Centres.{may_be_centre, hydrogens_of}
use Rattle.smi_graph.specs.declared.skel_atom.SkelAtom.{SkelAtom}
use Rattle.smi_graph.specs.Firsts.{NoneBelow}
use Rattle.smi_graph.specs.Links.{bond_of}
use Rattle.smi_graph.specs.NeighbourLists.{atom_number}
use Rattle.smi_graph.specs.Skeletons.{TextGraph, IsTextGraph}
use Rattle.smi_mean.specs.CentrePlaces.{Fits, places_by, said, centre_of}
use Rattle.smi_mean.specs.Meaning.{bare_hydrogens, meant_atom}
use Rattle.smi_mean.specs.Meant.{IsUnmarkedUnder}
use Rattle.smi_mean.specs.MeantCentres.{MarkFits, centre_at, centre_in, first_centres, is_wrong_centre}
use Rattle.smi_mean.specs.Placements.{raised, meaning_under}
use Rattle.smi_mean.proofs.CentreLists.{degree_raised, fits_degree, list_is, neighbours_raised}
use Rattle.smi_mean.proofs.MeantAtoms.{length_atoms, meant_at}

not_wrong : (c : Option Bool) (mark lower may : Bool) → c ≡ Some mark → (is_some c && (lower || not may)) ≡ false → may ≡ true
not_wrong None mark lower may e h = cc
not_wrong (Some x) mark true may e h = absurd (false≢true (sym h))
not_wrong (Some x) mark false true e h = refl
not_wrong (Some x) mark false false e h = absurd (false≢true (sym h))

some_none : (c : Option Bool) (mark : Bool) → c ≡ None → c ≡ Some mark → ⊥
some_none None mark e f = cc
some_none (Some x) mark e f = cc

pub fits_by : (graph : TextGraph) (placed : List Bool) (sizes : List (Option ℕ)) (k : ℕ) → IsTextGraph graph → (atom : SkelAtom) (list : List AtomId) (mark : Bool)
    → slice_get graph.atoms k ≡ Some atom → slice_get graph.neighbours k ≡ Some list → atom.chiral ≡ Some mark
    → may_be_centre (meaning_under graph.atoms (map bond_of graph.bonds) placed) sizes k ≡ true → Fits (length list) atom.hydrogens
fits_by graph placed sizes k is atom list mark at here marked may =
    let bonds : List Bond = map bond_of graph.bonds in
    let m : Molecule = meaning_under graph.atoms bonds placed in
    let bracket : atom.bare ≡ false = false_from_ne_true atom.bare (λ bare. some_none atom.chiral mark (is.brackets k atom at bare) marked) in
    let hydrogens : hydrogens_of (slice_get m.atoms k) ≡ atom.hydrogens =
    ap hydrogens_of (meant_at bonds 0 graph.atoms k ∙ ap (option_map (λ (a : SkelAtom). meant_atom a (bond_sum bonds (0 + k)))) at)
    ∙ ap (λ (t : Bool). if t then bare_hydrogens atom.lower atom.element (bond_sum bonds (0 + k)) else atom.hydrogens) bracket in
    subst (λ (n : ℕ). Fits n atom.hydrogens) (degree_raised placed bonds k ∙ sym (is.neighbours k list here).count)
    (subst (λ (h : ℕ). Fits (degree m.bonds k) h) hydrogens (fits_degree m sizes k may))

pub marks_fit : (graph : TextGraph) (placed : List Bool) (sizes : List (Option ℕ)) (k : ℕ) → IsTextGraph graph
    → is_wrong_centre (slice_get graph.atoms k) (may_be_centre (meaning_under graph.atoms (map bond_of graph.bonds) placed) sizes k) ≡ false → MarkFits graph k
marks_fit graph placed sizes k is right atom list mark at here marked =
    let m : Molecule = meaning_under graph.atoms (map bond_of graph.bonds) placed in
    fits_by graph placed sizes k is atom list mark at here marked
    (not_wrong atom.chiral mark atom.lower (may_be_centre m sizes k) marked (ap (λ (o : Option SkelAtom). is_wrong_centre o (may_be_centre m sizes k)) (sym at) ∙ right))

by_mark : (graph : TextGraph) (placed : List Bool) (k hydrogens : ℕ) (led : Bool) (list : List AtomId) (places : List Slot) → IsTextGraph graph → slice_get graph.neighbours k ≡ Some list
    → (c : Option Bool) → ((mark : Bool) → c ≡ Some mark → Fits (length list) hydrogens) → centre_of c (places_by led (map atom_number list) hydrogens) ≡ Some places
    → IsPlaceList (raised placed (map bond_of graph.bonds)) k places
by_mark graph placed k hydrogens led list places is here None fits h = cc
by_mark graph placed k hydrogens led list places is here (Some mark) fits h =
    subst (λ (x : List Slot). IsPlaceList (raised placed (map bond_of graph.bonds)) k x) (same_Some (said mark (places_by led (map atom_number list) hydrogens)) places h)
    (list_is (raised placed (map bond_of graph.bonds)) k hydrogens mark led list
    (neighbours_raised placed (map bond_of graph.bonds) k list (is.neighbours k list here)) (fits mark refl))

-- what `set_centre` asks for
pub centre_is : (graph : TextGraph) (placed : List Bool) (k : ℕ) (places : List Slot) → IsTextGraph graph → MarkFits graph k → centre_at graph k ≡ Some places
    → IsPlaceList (raised placed (map bond_of graph.bonds)) k places
centre_is graph placed k places is fits h = by_parts (slice_get graph.atoms k) refl (slice_get graph.neighbours k) refl (slice_get graph.led k) h
  where
    by_parts : (o : Option SkelAtom) → slice_get graph.atoms k ≡ o → (l : Option (List AtomId)) → slice_get graph.neighbours k ≡ l → (d : Option Bool) → centre_in o l d ≡ Some places
        → IsPlaceList (raised placed (map bond_of graph.bonds)) k places
    by_parts None e l f d h = cc
    by_parts (Some atom) e None f d h = cc
    by_parts (Some atom) e (Some list) f None h = cc
    by_parts (Some atom) e (Some list) f (Some led) h = by_mark graph placed k atom.hydrogens led list places is f atom.chiral (λ mark marked. fits atom list mark e f marked) h

pub none_more : (p : ℕ → Bool) (n : ℕ) → NoneBelow p n → p n ≡ false → NoneBelow p (n + 1)
none_more p n none last j less = elim (cases_lt j n) [
  | inl below ↦ none j below
  | inr past ↦ ap p (let e : j ≡ n = omega arith in e) ∙ last
]

pub first_count : (graph : TextGraph) (n : ℕ) → length (first_centres graph n) ≡ n
first_count graph zero = refl
first_count graph (suc n) = let h = first_count graph n in length-append (first_centres graph n) (centre_at graph n ∷ []) ∙ omega arith

pub under_count : (graph : TextGraph) (m : Molecule) → IsUnmarkedUnder graph m → length m.atoms ≡ length graph.atoms
under_count graph m under = ap (λ (x : Molecule). length x.atoms) under.molecule ∙ length_atoms (map bond_of graph.bonds) 0 graph.atoms

-- the same of all atoms, for a molecule of the skeleton
pub all_fit : (graph : TextGraph) (m : Molecule) (sizes : List (Option ℕ)) → IsTextGraph graph → IsUnmarkedUnder graph m
    → ((k : ℕ) → k < length graph.atoms → is_wrong_centre (slice_get graph.atoms k) (may_be_centre m sizes k) ≡ false) → (k : ℕ) → k < length graph.atoms → MarkFits graph k
all_fit graph m sizes is under right k less =
    marks_fit graph under.placed sizes k is (ap (λ (x : Molecule). is_wrong_centre (slice_get graph.atoms k) (may_be_centre x sizes k)) (sym under.molecule) ∙ right k less)

pub all_places : (graph : TextGraph) (m : Molecule) (sizes : List (Option ℕ)) → IsTextGraph graph → IsUnmarkedUnder graph m
    → ((k : ℕ) → k < length graph.atoms → is_wrong_centre (slice_get graph.atoms k) (may_be_centre m sizes k) ≡ false)
    → (k : ℕ) (places : List Slot) → k < length graph.atoms → centre_at graph k ≡ Some places → IsPlaceList m.bonds k places
all_places graph m sizes is under right k places less at =
    subst (λ (x : Molecule). IsPlaceList x.bonds k places) (sym under.molecule)
    (centre_is graph under.placed k places is (all_fit graph m sizes is under right k less) at)
