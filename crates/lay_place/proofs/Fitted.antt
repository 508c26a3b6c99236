-- What the tests need: places of a centre, and the condition of `place` from its tests.
use Rattle.std.proofs.Common.{◌≡◌, ◌≢◌, ◌∙◌, ℕ, zero, suc, ◌+◌, ◌<◌, ◌≤◌, ◌⊎◌, true, arith, refl, sym, ap, subst, inl, inr, List, [], ◌∷◌, Some, length, get_or, slice_get}
use Rattle.std.proofs.lemmas.Bool.{cases_lt}
use Rattle.std.proofs.lemmas.Option.{slice_get_within, get_or_from_slice_get}
use Rattle.std.specs.Prelude.{AllPairs, Contains}
use Rattle.mc_base.specs.declared.ids.AtomId.{AtomId}
use Rattle.mc_mol.specs.declared.parts.Bond.{Bond}
use Rattle.mc_mol.specs.declared.parts.HalfEdge.{HalfEdge}
use Rattle.mc_mol.specs.declared.parts.Sides.{Sides}
use Rattle.mc_mol.specs.declared.parts.Slot.{Slot}
use Rattle.mc_mol.specs.declared.parts.Slot.TheVariants.{At, Rest}
use Rattle.mc_mol.specs.Molecule.{Molecule, are_joined}
use Rattle.mc_mol.specs.HalfEdges.{half_edges, AllHaveTwins}
use Rattle.mc_mol.specs.WellFormed.{IsMolecule, IsPlaceList, IsSides, SidesFit}
use Rattle.mc_mol.proofs.Apart.{lead_apart}
use Rattle.mc_mol.proofs.Twins.{all_have_twins}
use Rattle.mc_rings.specs.Rings.{RingList, AreRingsOf}
use Rattle.mc_mol.proofs.Neighbours.{joined_at}
use Rattle.lay_place.specs.Wanted.{MayBePlaced}
use Rattle.lay_place.specs.Fitting.{CentreFits, SideFits, IsNeighbourBut}
use Rattle.lay_place.proofs.HalfFacts.{there}
use Rattle.lay_place.proofs.Drawings.{neighbour_place}

pub may_be : (m : Molecule) (rings : RingList) → IsMolecule m → AreRingsOf m rings → ((a : ℕ) → a < length m.atoms → CentreFits m rings.sizes a) → ((k : ℕ) → k < length m.bonds → SideFits m rings.sizes k) → MayBePlaced m rings
may_be m rings is are centres sides = record {
  well_formed = is;
  are_rings = are;
  centres = λ a places at. centres a (let within = slice_get_within m.centres a (Some places) at in let count = is.centre_count in omega arith) places at;
  sides = λ k s at. (sides k (bond_small k s at) s at).0;
  free = λ k s at. (sides k (bond_small k s at) s at).1;
}
  where
    bond_small : (k : ℕ) (s : Sides) → slice_get m.sides k ≡ Some (Some s) → k < length m.bonds
    bond_small k s at = let within = slice_get_within m.sides k (Some s) at in let count = is.side_count in omega arith

-- a half-edge leads to a joined atom
pub leads_joined : (m : Molecule) (a : AtomId) → AllHaveTwins m a → (i : ℕ) (half : HalfEdge) → slice_get (half_edges m a.0) i ≡ Some half → are_joined m.bonds a.0 half.to.0 ≡ true
leads_joined m a twins i half at = let t = twins i half at in joined_at m.bonds half.bond.0 t.bond a.0 half.to.0 t.is_bond t.joined

pub neighbour_but : (m : Molecule) (a : AtomId) (w : ℕ) (halves : List HalfEdge) (i : ℕ) (d : HalfEdge) → halves ≡ half_edges m a.0 → AllHaveTwins m a → i < length halves → (get_or halves i d).to.0 ≢ w → IsNeighbourBut m.bonds a.0 w (get_or halves i d).to.0
neighbour_but m a w halves i d are twins within other = (leads_joined m a twins i (get_or halves i d) (there m a.0 halves i d are within), other)

-- ---- the places of a centre

same_slot : (x y : AtomId) → At x ≡ At y → x.0 ≡ y.0
same_slot x y e = ap (λ (a : AtomId). a.0) (same_atom x y e)
  where
    same_atom : (x y : AtomId) → At x ≡ At y → x ≡ y
    same_atom x y e = cc

no_rest : (x : AtomId) → At x ≡ Rest → ⊥
no_rest x e = cc

rest_not : (x : AtomId) → Rest ≡ At x → ⊥
rest_not x e = cc

at_same : (x y : AtomId) → x.0 ≡ y.0 → At x ≡ At y
at_same x y e = ap (λ (n : ℕ). At (record { 0 = n })) e

-- the places of these half-edges' atoms, and then the rest
abbrev slots : List HalfEdge → List Slot → List Slot
slots [] rest = rest
slots (half ∷ halves) rest = At half.to ∷ slots halves rest

slot_at : (halves : List HalfEdge) (rest : List Slot) (i : ℕ) (d : Slot) (e : HalfEdge) → i < length halves → get_or (slots halves rest) i d ≡ At (get_or halves i e).to
slot_at [] rest i d e within = absurd (omega arith)
slot_at (half ∷ halves) rest zero d e within = refl
slot_at (half ∷ halves) rest (suc i) d e within = slot_at halves rest i d e (omega arith)

last_at : (halves : List HalfEdge) (d : Slot) → get_or (slots halves (Rest ∷ [])) (length halves) d ≡ Rest
last_at [] d = refl
last_at (half ∷ halves) d = last_at halves d

slot_count : (halves : List HalfEdge) (rest : List Slot) → length (slots halves rest) ≡ length halves + length rest
slot_count [] rest = omega arith
slot_count (half ∷ halves) rest = let more = slot_count halves rest in omega arith

module _ (m : Molecule) (a : AtomId) (is : IsMolecule m) (halves : List HalfEdge) (d : HalfEdge) (are : halves ≡ half_edges m a.0) (rest : List Slot) (few : (rest ≡ []) ⊎ (rest ≡ Rest ∷ [])) (long : length halves + length rest ≡ 4) where
  at_half : (i : ℕ) → i < length halves → slice_get (half_edges m a.0) i ≡ Some (get_or halves i d)
  at_half i within = there m a.0 halves i d are within

  rest_at : (i : ℕ) (s : Slot) → length halves ≤ i → i < length (slots halves rest) → get_or (slots halves rest) i s ≡ Rest
  rest_at i s past within =
      let count = slot_count halves rest in
      elim few [
        | inl none ↦ let nothing : length rest ≡ 0 = ap (λ (xs : List Slot). length xs) none in absurd (omega arith)
        | inr one ↦
            let single : length rest ≡ 1 = ap (λ (xs : List Slot). length xs) one in
            let same : i ≡ length halves = omega arith in
            rw (one, same) (last_at halves s)
      ]

  differ : AllPairs (λ (s t : Slot). s ≢ t) (slots halves rest)
  differ i j s less within e =
      let count = slot_count halves rest in
      elim (cases_lt j (length halves)) [
        | inl both ↦ lead_apart m a.0 is i j (get_or halves i d) (get_or halves j d) (λ same. absurd (omega arith)) (at_half i (omega arith)) (at_half j both)
            (same_slot (get_or halves i d).to (get_or halves j d).to (sym (slot_at halves rest i s d (omega arith)) ∙ e ∙ slot_at halves rest j s d both))
        | inr past ↦ elim (cases_lt i (length halves)) [
          | inl first ↦ no_rest (get_or halves i d).to (sym (slot_at halves rest i s d first) ∙ e ∙ rest_at j s (omega arith) within)
          | inr beyond ↦ elim few [
            | inl none ↦ let nothing : length rest ≡ 0 = ap (λ (xs : List Slot). length xs) none in absurd (omega arith)
            | inr one ↦ let single : length rest ≡ 1 = ap (λ (xs : List Slot). length xs) one in absurd (omega arith)
          ]
        ]
      ]

  joins_of : (v : ℕ) → Contains (slots halves rest) (At (record { 0 = v })) → are_joined m.bonds a.0 v ≡ true
  joins_of v (k, within, e) = elim (cases_lt k (length halves)) [
    | inl here ↦ subst (λ (n : ℕ). are_joined m.bonds a.0 n ≡ true)
        (same_slot (get_or halves k d).to (record { 0 = v }) (sym (slot_at halves rest k (At (record { 0 = v })) d here) ∙ e))
        (leads_joined m a (all_have_twins m a is) k (get_or halves k d) (at_half k here))
    | inr past ↦ absurd (rest_not (record { 0 = v }) (sym (rest_at k (At (record { 0 = v })) (omega arith) within) ∙ e))
  ]

  slot_of : (v : ℕ) → are_joined m.bonds a.0 v ≡ true → Contains (slots halves rest) (At (record { 0 = v }))
  slot_of v joined =
      let n = neighbour_place m is a.0 v joined in
      let count = slot_count halves rest in
      let at_here = ap (λ (xs : List HalfEdge). slice_get xs n.0) are ∙ n.2 in
      let within = slice_get_within halves n.0 n.1 at_here in
      let half : get_or halves n.0 d ≡ n.1 = get_or_from_slice_get halves n.0 n.1 d at_here in (
        n.0,
        omega arith,
        slot_at halves rest n.0 (At (record { 0 = v })) d within ∙ at_same (get_or halves n.0 d).to (record { 0 = v }) (ap (λ (h : HalfEdge). h.to.0) half ∙ n.3),
      )

  places : IsPlaceList m.bonds a.0 (slots halves rest)
  places = record { four = slot_count halves rest ∙ long; different = differ; neighbours = λ v. (joins_of v, slot_of v) }

three_slots : (halves : List HalfEdge) (d : HalfEdge) → length halves ≡ 3 → slots halves (Rest ∷ []) ≡ At (get_or halves 0 d).to ∷ At (get_or halves 1 d).to ∷ At (get_or halves 2 d).to ∷ Rest ∷ []
three_slots [] d long = absurd (omega arith)
three_slots (p ∷ []) d long = absurd (omega arith)
three_slots (p ∷ q ∷ []) d long = absurd (omega arith)
three_slots (p ∷ q ∷ r ∷ []) d long = refl
three_slots (p ∷ q ∷ r ∷ s ∷ more) d long = absurd (omega arith)

four_slots : (halves : List HalfEdge) (d : HalfEdge) → length halves ≡ 4 → slots halves [] ≡ At (get_or halves 0 d).to ∷ At (get_or halves 1 d).to ∷ At (get_or halves 2 d).to ∷ At (get_or halves 3 d).to ∷ []
four_slots [] d long = absurd (omega arith)
four_slots (p ∷ []) d long = absurd (omega arith)
four_slots (p ∷ q ∷ []) d long = absurd (omega arith)
four_slots (p ∷ q ∷ r ∷ []) d long = absurd (omega arith)
four_slots (p ∷ q ∷ r ∷ s ∷ []) d long = refl
four_slots (p ∷ q ∷ r ∷ s ∷ t ∷ more) d long = absurd (omega arith)

pub three_places : (m : Molecule) (a : AtomId) (halves : List HalfEdge) (d : HalfEdge) → IsMolecule m → halves ≡ half_edges m a.0 → length halves ≡ 3
    → IsPlaceList m.bonds a.0 (At (get_or halves 0 d).to ∷ At (get_or halves 1 d).to ∷ At (get_or halves 2 d).to ∷ Rest ∷ [])
three_places m a halves d is are long = subst (IsPlaceList m.bonds a.0) (three_slots halves d long) (places m a is halves d are (Rest ∷ []) (inr refl) (let sum : length halves + 1 ≡ 4 = omega arith in sum))

pub four_places : (m : Molecule) (a : AtomId) (halves : List HalfEdge) (d : HalfEdge) → IsMolecule m → halves ≡ half_edges m a.0 → length halves ≡ 4
    → IsPlaceList m.bonds a.0 (At (get_or halves 0 d).to ∷ At (get_or halves 1 d).to ∷ At (get_or halves 2 d).to ∷ At (get_or halves 3 d).to ∷ [])
four_places m a halves d is are long = subst (IsPlaceList m.bonds a.0) (four_slots halves d long) (places m a is halves d are [] (inl refl) (let sum : length halves + 0 ≡ 4 = omega arith in sum))

-- ---- the sides of a bond

pub sides_fit_of : (bonds : List Bond) (k : ℕ) (bond : Bond) (sides : Sides) → slice_get bonds k ≡ Some bond → bond.order ≡ 2 → IsNeighbourBut bonds bond.first.0 bond.second.0 sides.first.0 → IsNeighbourBut bonds bond.second.0 bond.first.0 sides.second.0
    → SidesFit bonds k sides
sides_fit_of bonds k bond sides at double first second other at_other =
    let same : bond ≡ other = value bond other (sym at ∙ at_other) in
    subst (λ (b : Bond). IsSides bonds b sides) same (record { double = double; at_first = first.0; at_second = second.0; first = first.1; second = second.1 })
  where
    value : (x y : Bond) → Some x ≡ Some y → x ≡ y
    value x y e = cc
