-- A mark is wrong in a molecule of a skeleton, whichever of its bonds are placed, exactly where the kind NotACentre stands in
-- the text.
use Rattle.std.proofs.Common.{arith, ◌≡◌, ◌∙◌, ℕ, zero, suc, ◌+◌, ◌≤◌, List, [], ◌∷◌, length, map, Bool, true, false, Option, Some, None, refl, ap, sym, subst, inl, inr}
use Rattle.std.specs.Prelude.{All, ◌⊎◌, not, ◌&&◌, ◌||◌, is_some, slice_get}
use Rattle.std.proofs.lemmas.Bool.{cases_lt, false≢true}
use Rattle.std.proofs.lemmas.List.{length-map}
use Rattle.std.proofs.lemmas.Option.{same_Some, slice_get_past}
use Rattle.mc_mol.specs.declared.parts.Bond as bond
use Rattle.mc_mol.specs.declared.parts.HalfEdge.{HalfEdge}
use Rattle.mc_mol.specs.declared.parts.Slot.{Slot}
use Rattle.mc_mol.specs.ClosedPaths.{Follows, IsRingOf}
use Rattle.mc_mol.specs.Molecule.{Molecule, are_joined}
use Rattle.mc_mol.specs.HalfEdges.{half_edges}
use Rattle.mc_mol.specs.WellFormed.{IsBond, IsMolecule}
use Rattle.mc_rings.specs.Centres.{centre_test, has_order, hydrogens_of, lies_in_no_ring, may_be_centre, singles_at, size_is_none}
use Rattle.mc_rings.specs.RingSizes.{RingSizeIs}
use Rattle.mc_rings.specs.Rings.{AreRingsOf, RingList}
use Rattle.smi_graph.specs.declared.skel_atom.SkelAtom.{SkelAtom}
use Rattle.smi_graph.specs.declared.text_bond.TextBond.{TextBond}
use Rattle.smi_graph.specs.Candidates.{lower}
use Rattle.smi_graph.specs.Firsts.{NoneBelow}
use Rattle.smi_graph.specs.Links.{bond_of}
use Rattle.smi_graph.specs.Rules.{atoms_in}
use Rattle.smi_graph.specs.Skeletons.{TextGraph, IsSkeleton, IsTextGraph}
use Rattle.smi_mean.specs.Meaning.{atoms_with, meaning, meaning_of, nones, with_centres}
use Rattle.smi_mean.specs.Meant.{AreRightMarks, IsUnder, IsUnmarkedUnder}
use Rattle.smi_mean.specs.MeantCentres.{is_wrong_centre, text_centres}
use Rattle.smi_mean.specs.Placements.{raised, raised_bond}
use Rattle.smi_mean.specs.Sound.{MayBeCentre}
use Rattle.smi_mean.specs.WrongCentres.{AreSizes, NotACentreAt}
use Rattle.smi_mean.proofs.CentreLists.{joined_raised}
use Rattle.smi_mean.proofs.CentreTests.{Ends, count_same, ends, may_be_under}
use Rattle.smi_mean.proofs.MeantAtoms.{length_atoms}
use Rattle.smi_mean.proofs.Placing.{length_raised}
use Rattle.smi_mean.proofs.PlacedBonds.{bond_at}

-- Ring sizes don't depend on orders

ring_same : (xs ys : List bond.Bond) → ((u v : ℕ) → are_joined xs u v ≡ are_joined ys u v) → (b c : bond.Bond) → ends b ≡ ends c → (path : List ℕ) → IsRingOf xs b path → IsRingOf ys c path
ring_same xs ys same b c e path is = record {
  closed_path = record {
    long = is.closed_path.long;
    different = is.closed_path.different;
    joined = λ i less. sym (same _ _) ∙ is.closed_path.joined i less;
    closed = sym (same _ _) ∙ is.closed_path.closed;
  };
  uses = subst (λ (p : Ends). Follows path p.0.0 p.1.0 ⊎ Follows path p.1.0 p.0.0) e is.uses;
}

size_same : (xs ys : List bond.Bond) → ((u v : ℕ) → are_joined xs u v ≡ are_joined ys u v) → (b c : bond.Bond) → ends b ≡ ends c → (size : Option ℕ) → RingSizeIs xs b size → RingSizeIs ys c size
size_same xs ys same b c e None is = λ path ring. is path (ring_same ys xs (λ u v. sym (same u v)) c b (sym e) path ring)
size_same xs ys same b c e (Some n) is = record {
  path = is.path;
  ring = ring_same xs ys same b c e is.path is.ring;
  size_is = is.size_is;
  least = λ other ring. is.least other (ring_same ys xs (λ u v. sym (same u v)) c b (sym e) other ring);
}

record RaisedAt (placed : List Bool) (bonds : List bond.Bond) (k : ℕ) (b : bond.Bond) : Type 0 where
  new : bond.Bond
  at : slice_get (raised placed bonds) k ≡ Some new
  same : ends new ≡ ends b

raised_get : (placed : List Bool) (bonds : List bond.Bond) (k : ℕ) (b : bond.Bond) → slice_get bonds k ≡ Some b → RaisedAt placed bonds k b
raised_get placed [] k b at = cc
raised_get [] (x ∷ bonds) k b at = record { new = b; at = at; same = refl }
raised_get (p ∷ placed) (x ∷ bonds) zero b at = record { new = raised_bond p x; at = refl; same = ap ends (same_Some x b at) }
raised_get (p ∷ placed) (x ∷ bonds) (suc k) b at = let r = raised_get placed bonds k b at in record { new = r.new; at = r.at; same = r.same }

-- the ring sizes of a molecule of the skeleton are those of the molecule in which nothing is placed
plain_sizes : (graph : TextGraph) (m : Molecule) (placed : List Bool) (sizes : List (Option ℕ)) → m.bonds ≡ raised placed (map bond_of graph.bonds) → AreSizes m sizes
    → AreSizes (meaning_of graph.atoms (map bond_of graph.bonds)) sizes
plain_sizes graph m placed sizes same are =
    let bonds : List bond.Bond = map bond_of graph.bonds in
    record {
      count = are.count ∙ ap (λ (x : List bond.Bond). length x) same ∙ length_raised placed bonds;
      each = λ k size at b here.
          let r = raised_get placed bonds k b here in
          size_same (raised placed bonds) bonds (λ u v. joined_raised placed bonds u v) r.new b r.same size
          (subst (λ (x : List bond.Bond). RingSizeIs x r.new size) same (are.each k size at r.new (ap (λ (x : List bond.Bond). slice_get x k) same ∙ r.at)));
    }

-- There is one list of ring sizes, as far as a bond lies in a ring or in none

lies_same : (bonds : List bond.Bond) (b : bond.Bond) (p q : Option ℕ) → RingSizeIs bonds b p → RingSizeIs bonds b q → size_is_none (Some p) ≡ size_is_none (Some q)
lies_same bonds b None None x y = refl
lies_same bonds b None (Some n) x y = absurd (x y.path y.ring)
lies_same bonds b (Some n) None x y = absurd (y x.path x.ring)
lies_same bonds b (Some n) (Some k) x y = refl

free_same : (m : Molecule) (s t : List (Option ℕ)) → AreSizes m s → AreSizes m t → (k : ℕ) → lies_in_no_ring s k ≡ lies_in_no_ring t k
free_same m s t x y k =
    let left = x.count in
    let right = y.count in
    elim (cases_lt k (length m.bonds)) [
      | inl less ↦
          let b = bond_at m.bonds k less in
          let p = bond_at s k (omega arith) in
          let q = bond_at t k (omega arith) in
          ap size_is_none p.1 ∙ lies_same m.bonds b.0 p.0 q.0 (x.each k p.0 p.1 b.0 b.1) (y.each k q.0 q.1 b.0 b.1) ∙ sym (ap size_is_none q.1)
      | inr past ↦ ap size_is_none (slice_get_past s k (omega arith)) ∙ sym (ap size_is_none (slice_get_past t k (omega arith)))
    ]

pub may_same : (m : Molecule) (s t : List (Option ℕ)) → AreSizes m s → AreSizes m t → (a : ℕ) → may_be_centre m s a ≡ may_be_centre m t a
may_same m s t x y a =
    ap (λ (n : ℕ). centre_test (length (half_edges m a)) (hydrogens_of (slice_get m.atoms a)) (singles_at m a) n)
    (count_same (λ (half : HalfEdge). has_order m.bonds half.bond.0 2 && lies_in_no_ring s half.bond.0) (λ (half : HalfEdge). has_order m.bonds half.bond.0 2 && lies_in_no_ring t half.bond.0) (half_edges m a)
    (λ i half at. ap (λ (free : Bool). has_order m.bonds half.bond.0 2 && free) (free_same m s t x y half.bond.0)))

-- The molecule in which nothing is placed

no_entry : {A B : Type 0} (xs : List A) (k : ℕ) (y : B) → slice_get (nones {B = B} xs) k ≡ Some (Some y) → ⊥
no_entry [] k y at = cc
no_entry (x ∷ xs) zero y at = cc
no_entry (x ∷ xs) (suc k) y at = no_entry xs k y at

length_nones : {A : Type 0} (B : Type 0) (xs : List A) → length (nones {B = B} xs) ≡ length xs
length_nones B [] = refl
length_nones B (x ∷ xs) = ap suc (length_nones B xs)

plain_molecule : (graph : TextGraph) → IsTextGraph graph → IsMolecule (meaning_of graph.atoms (map bond_of graph.bonds))
plain_molecule graph is =
    let bonds : List bond.Bond = map bond_of graph.bonds in
    let count = length_atoms bonds 0 graph.atoms in
    let few = is.few_atoms in
    let size = length-map graph.bonds bond_of in
    let few_bonds = is.few_bonds in
    record {
      few_atoms = omega arith;
      few_bonds = omega arith;
      centre_count = length_nones _ (atoms_with bonds 0 graph.atoms);
      side_count = length_nones _ bonds;
      bonds = subst (λ (n : ℕ). All (IsBond n) bonds) (sym count) is.sound.each;
      once = is.sound.once;
      centres = λ a places at. absurd (no_entry (atoms_with bonds 0 graph.atoms) a places at);
      sides = λ k b sides here at. absurd (no_entry bonds k sides at);
    }

-- The mark of an atom is wrong, whatever is placed

by_case : (c l x y : Bool) → (l ≡ false → x ≡ y) → (c && (l || not x)) ≡ (c && (l || not y))
by_case c true x y same = refl
by_case c false x y same = ap (λ (t : Bool). c && not t) (same refl)

wrong_same : (graph : TextGraph) (m : Molecule) (sizes : List (Option ℕ)) (k : ℕ) → IsTextGraph graph → IsUnmarkedUnder graph m
    → is_wrong_centre (slice_get graph.atoms k) (may_be_centre m sizes k) ≡ is_wrong_centre (slice_get graph.atoms k) (may_be_centre (meaning_of graph.atoms (map bond_of graph.bonds)) sizes k)
wrong_same graph m sizes k is under = by_atom (slice_get graph.atoms k) refl
  where
    by_atom : (o : Option SkelAtom) → slice_get graph.atoms k ≡ o → is_wrong_centre o (may_be_centre m sizes k) ≡ is_wrong_centre o (may_be_centre (meaning_of graph.atoms (map bond_of graph.bonds)) sizes k)
    by_atom None at = refl
    by_atom (Some atom) at = by_case (is_some atom.chiral) atom.lower _ _ (λ upper.
        ap (λ (x : Molecule). may_be_centre x sizes k) under.molecule
        ∙ may_be_under graph.atoms graph.bonds under.placed sizes k under.placement (ap lower at ∙ upper) (plain_molecule graph is))

meant : (text : List ℕ) (graph : TextGraph) → IsSkeleton text graph → with_centres (text_centres text) (meaning_of graph.atoms (map bond_of graph.bonds)) ≡ meaning text
meant text graph is =
    ap (λ (x : List SkelAtom). with_centres (text_centres text) (meaning_of x (map bond_of graph.bonds))) is.atoms
    ∙ ap (λ (x : List TextBond). with_centres (text_centres text) (meaning_of (atoms_in text) (map bond_of x))) is.bonds

-- centres change no ring
pub sizes_with : (m : Molecule) (centres : List (Option (List Slot))) (sizes : List (Option ℕ)) → AreSizes m sizes → AreSizes (with_centres centres m) sizes
sizes_with m centres sizes are = record { count = are.count; each = are.each }

text_sizes : (text : List ℕ) (graph : TextGraph) (m : Molecule) (placed : List Bool) (sizes : List (Option ℕ)) → IsSkeleton text graph → m.bonds ≡ raised placed (map bond_of graph.bonds) → AreSizes m sizes
    → AreSizes (meaning text) sizes
text_sizes text graph m placed sizes is same are =
    subst (λ (x : Molecule). AreSizes x sizes) (meant text graph is)
    (sizes_with (meaning_of graph.atoms (map bond_of graph.bonds)) (text_centres text) sizes (plain_sizes graph m placed sizes same are))

ring_sizes : (text : List ℕ) (graph : TextGraph) (m : Molecule) (rings : RingList) → IsSkeleton text graph → IsUnmarkedUnder graph m → AreRingsOf m rings → AreSizes (meaning text) rings.sizes
ring_sizes text graph m rings is under are =
    text_sizes text graph m under.placed rings.sizes is (ap (λ (x : Molecule). x.bonds) under.molecule) (record { count = are.count; each = are.sizes })

pub wrong_stands : (text : List ℕ) (graph : TextGraph) (m : Molecule) (rings : RingList) (k : ℕ) → IsSkeleton text graph → IsUnmarkedUnder graph m → AreRingsOf m rings
    → is_wrong_centre (slice_get graph.atoms k) (may_be_centre m rings.sizes k) ≡ true → NotACentreAt text (k + 1)
wrong_stands text graph m rings k is under are wrong = record {
  k = k;
  place_is = refl;
  sizes = rings.sizes;
  are = ring_sizes text graph m rings is under are;
  wrong =
      ap (λ (x : List SkelAtom). is_wrong_centre (slice_get x k) (may_be_centre (meaning text) rings.sizes k)) (sym is.atoms)
      ∙ ap (λ (x : Molecule). is_wrong_centre (slice_get graph.atoms k) (may_be_centre x rings.sizes k)) (sym (meant text graph is))
      ∙ sym (wrong_same graph m rings.sizes k is.limits under) ∙ wrong;
}

pub stands_wrong : (text : List ℕ) (graph : TextGraph) (m : Molecule) (rings : RingList) (place : ℕ) → IsSkeleton text graph → IsUnmarkedUnder graph m → AreRingsOf m rings
    → NotACentreAt text place → (k : ℕ) × (place ≡ k + 1) × (is_wrong_centre (slice_get graph.atoms k) (may_be_centre m rings.sizes k) ≡ true)
stands_wrong text graph m rings place is under are stands =
    let k : ℕ = stands.k in
    let sizes : AreSizes (meaning text) rings.sizes = ring_sizes text graph m rings is under are in (
      k,
      stands.place_is,
      wrong_same graph m rings.sizes k is.limits under
          ∙ ap (λ (x : Molecule). is_wrong_centre (slice_get graph.atoms k) (may_be_centre x rings.sizes k)) (meant text graph is)
          ∙ ap (λ (x : List SkelAtom). is_wrong_centre (slice_get x k) (may_be_centre (meaning text) rings.sizes k)) is.atoms
          ∙ ap (is_wrong_centre (slice_get (atoms_in text) k)) (may_same (meaning text) rings.sizes stands.sizes sizes stands.are k)
          ∙ stands.wrong,
    )

-- where no mark below an atom is wrong, the kind stands at no lesser place
pub none_before : (text : List ℕ) (graph : TextGraph) (m : Molecule) (rings : RingList) (k : ℕ) → IsSkeleton text graph → IsUnmarkedUnder graph m → AreRingsOf m rings
    → NoneBelow (λ j. is_wrong_centre (slice_get graph.atoms j) (may_be_centre m rings.sizes j)) k → (place : ℕ) → NotACentreAt text place → k + 1 ≤ place
none_before text graph m rings k is under are none place stands =
    let (j, at, wrong) = stands_wrong text graph m rings place is under are stands in
    elim (cases_lt j k) [
      | inl less ↦ absurd (false≢true (sym (none j less) ∙ wrong))
      | inr past ↦ omega arith
    ]

-- where each mark is right, it stands nowhere

right_mark : (c : Option Bool) (lower may : Bool) → ((mark : Bool) → c ≡ Some mark → (lower ≡ false) × (may ≡ true)) → (is_some c && (lower || not may)) ≡ true → ⊥
right_mark None lower may right wrong = false≢true wrong
right_mark (Some mark) lower may right wrong =
    let r = right mark refl in false≢true (sym (ap (λ (t : Bool). t || not may) r.0 ∙ ap not r.1) ∙ wrong)

pub right_nowhere : (text : List ℕ) (graph : TextGraph) (m : Molecule) (place : ℕ) → IsSkeleton text graph → IsUnder graph m → AreRightMarks graph m → NotACentreAt text place → ⊥
right_nowhere text graph m place is under right stands =
    by_atom (slice_get graph.atoms stands.k) refl
    (ap (λ (x : List SkelAtom). is_wrong_centre (slice_get x stands.k) (may_be_centre (meaning text) stands.sizes stands.k)) is.atoms ∙ stands.wrong)
  where
    may : (k : ℕ) (atom : SkelAtom) (sizes : List (Option ℕ)) → AreSizes (meaning text) sizes → slice_get graph.atoms k ≡ Some atom → atom.lower ≡ false → MayBeCentre m k → may_be_centre (meaning text) sizes k ≡ true
    may k atom sizes are at upper centre =
        may_same (meaning text) sizes centre.sizes are (text_sizes text graph m under.placed centre.sizes is (ap (λ (x : Molecule). x.bonds) under.molecule) centre.are) k
        ∙ ap (λ (x : Molecule). may_be_centre x centre.sizes k) (sym (meant text graph is))
        ∙ sym (may_be_under graph.atoms graph.bonds under.placed centre.sizes k under.placement (ap lower at ∙ upper) (plain_molecule graph is.limits))
        ∙ ap (λ (x : Molecule). may_be_centre x centre.sizes k) (sym under.molecule)
        ∙ centre.may

    by_atom : (o : Option SkelAtom) → slice_get graph.atoms stands.k ≡ o → is_wrong_centre o (may_be_centre (meaning text) stands.sizes stands.k) ≡ true → ⊥
    by_atom None at wrong = false≢true wrong
    by_atom (Some atom) at wrong = right_mark atom.chiral atom.lower _
        (λ mark marked. let r = right stands.k atom mark at marked in (r.0, may stands.k atom stands.sizes stands.are at r.0 r.1)) wrong
