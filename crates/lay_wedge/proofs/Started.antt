-- Before the first wedge, and behind the last.
use Rattle.std.proofs.Common.{◌≡◌, ◌≢◌, ◌∙◌, ◌⊎◌, ℕ, zero, suc, Bool, true, false, not, ◌==◌, List, [], ◌∷◌, Option, Some, None, length, map, get_or, slice_get, refl, sym, ap, subst, arith, inl, inr}
use Rattle.std.specs.Prelude.{replicate}
use Rattle.std.proofs.lemmas.Bool.{and_from, and_parts}
use Rattle.std.proofs.lemmas.Bool.Decides.{nat_tests}
use Rattle.std.specs.Prelude.{ℤ, pos}
use Rattle.std.proofs.lemmas.Int.{ints}
use Rattle.std.proofs.lemmas.List.{length-replicate, get_or_default}
use Rattle.ct_sd.specs.declared.table.DrawMark.{DrawMark}
use Rattle.ct_sd.specs.declared.table.DrawMark.TheVariants.{Plain}
use Rattle.mc_mol.specs.declared.drawing.Point.{Point}
use Rattle.mc_mol.specs.declared.parts.Bond.{Bond}
use Rattle.mc_mol.specs.declared.parts.Slot.{Slot}
use Rattle.mc_mol.specs.Molecule.{Molecule}
use Rattle.mc_mol.specs.HalfEdges.{half_edges}
use Rattle.mc_mol.specs.WellFormed.{IsMolecule}
use Rattle.mc_mol.proofs.Apart.{lead_apart}
use Rattle.mc_rings.specs.Centres.{has_order, may_be_centre, centre_test, order_is, hydrogens_of, singles_at, free_doubles_at}
use Rattle.ct_geometry.specs.declared.wedge.Wedge.{Wedge}
use Rattle.ct_geometry.specs.declared.wedge_read.WedgeRead.TheVariants as read
use Rattle.ct_geometry.specs.Bounds.{ArePlaces, IsCoordinate, IsPlace}
use Rattle.ct_geometry.specs.Drawn.{IsDrawn, IsUsable, IsWithin, rays_from}
use Rattle.ct_geometry.specs.Neighbours.{AreOfCentre}
use Rattle.ct_geometry.specs.Wedges.{begins_by, wedge_at_end, is_middle_one, is_wedge, reading, wedge_list}
use Rattle.ct_geometry.proofs.Alone.{IsAlone, read_alone}
use Rattle.ct_geometry.proofs.Usable.{coincide_not, joined_of, middle_not}
use Rattle.lay_wedge.specs.Plans.{HasOwnWedge, IsCentre, IsPlan, plain}
use Rattle.lay_wedge.specs.Underway.{AreAmong, Carries, HasFree, IsPlannable, Underway, is_plain_wedge, may_serve}
use Rattle.lay_wedge.proofs.Giving.{bonds_differ}

-- ---- no wedge yet

none_at : (bonds : List Bond) (k : ℕ) (bond : Bond) → slice_get bonds k ≡ Some bond → slice_get (map (λ (b : Bond). plain b) bonds) k ≡ Some (plain bond)
none_at [] k bond at = cc
none_at (b ∷ bonds) zero bond at = (let same : b ≡ bond = cc in ap (λ (x : Bond). Some (plain x)) same)
none_at (b ∷ bonds) (suc k) bond at = none_at bonds k bond at

count_none : (bonds : List Bond) → length (map (λ (b : Bond). plain b) bonds) ≡ length bonds
count_none [] = refl
count_none (b ∷ bonds) = (let h = count_none bonds in omega arith)

false_at : (n k : ℕ) → slice_get (replicate n false) k ≡ Some true → ⊥
false_at zero k at = cc
false_at (suc n) zero at = cc
false_at (suc n) (suc k) at = false_at n k at

order_test : (bonds : List Bond) (k : ℕ) (bond : Bond) → slice_get bonds k ≡ Some bond → bond.order ≡ 1 → has_order bonds k 1 ≡ true
order_test bonds k bond at one = ap (λ o. order_is o 1) at ∙ (let e : (bond.order == 1) ≡ true = grind (arith, nat_tests) in e)

module _ (m : Molecule) (drawing : List Point) (ok : IsPlannable m drawing) where
  serves_of : (a place : ℕ) (u : IsUsable m drawing a place) → may_serve m drawing a u.half ≡ true
  serves_of a place u =
      and_from (has_order m.bonds u.half.bond.0 1) (not (is_middle_one (half_edges m a) (rays_from drawing a) u.half.to)) (order_test m.bonds u.half.bond.0 u.bond u.is_bond u.single)
      (ap not (middle_not m drawing a u.half.to ok.molecule u.may_carry))

  free_of : (a place : ℕ) → IsUsable m drawing a place → HasFree m drawing (map (λ (b : Bond). plain b) m.bonds) a place
  free_of a place u = record {
    half = u.half;
    is_half = u.is_half;
    serves = serves_of a place u;
    free = ap is_plain_wedge (none_at m.bonds u.half.bond.0 u.bond u.is_bond);
  }

  pub started : Underway m drawing (map (λ (b : Bond). plain b) m.bonds) (replicate (length m.atoms) false) None
  started = record {
    count = count_none m.bonds;
    marks = length-replicate (length m.atoms) false;
    bonds = λ k bond wedge at_bond at_wedge. inl (let e = none_at m.bonds k bond at_bond in cc);
    done = λ a places centre at. absurd (false_at (length m.atoms) a at);
    others = λ a places centre at ne. (let two = ok.drawn.centres a places centre in record {
      first = two.first;
      second = two.second;
      different = two.different;
      one = free_of a two.first two.one;
      other = free_of a two.second two.other;
    });
    waits = λ a e. cc;
    is_centre = λ a e. cc;
    here = λ a e. cc;
  }

  -- ---- each centre has its wedge

  module _ (wedges : List Wedge) (planned : List Bool) (state : Underway m drawing wedges planned None) where
    begins_at : (a k : ℕ) (wedge : Wedge) → slice_get wedges k ≡ Some wedge → wedge.narrow.0 ≡ a → begins_by wedges a k ≡ wedge.mark
    begins_at a k wedge at narrow =
        let test : (wedge.narrow.0 == a) ≡ true = grind (arith, nat_tests) in
        ap (λ o. wedge_at_end o a) at ∙ rw test refl

    begins_else : (a : ℕ) (places : List Slot) (c : Carries m drawing wedges a places) (k : ℕ) → k ≢ c.half.bond.0 → begins_by wedges a k ≡ Plain
    begins_else a places c k ne = by_wedge (slice_get wedges k) refl
      where
        by_end : (wedge : Wedge) (b : Bool) → (wedge.narrow.0 == a) ≡ b → slice_get wedges k ≡ Some wedge → begins_by wedges a k ≡ Plain
        by_end wedge true e at = (let narrow : wedge.narrow.0 ≡ a = grind (arith, nat_tests) in begins_at a k wedge at narrow ∙ c.only k wedge at narrow ne)
        by_end wedge false e at = ap (λ o. wedge_at_end o a) at ∙ rw e refl

        by_wedge : (found : Option Wedge) → slice_get wedges k ≡ found → begins_by wedges a k ≡ Plain
        by_wedge None e = ap (λ o. wedge_at_end o a) e
        by_wedge (Some wedge) e = by_end wedge (wedge.narrow.0 == a) refl e

    alone : (a : ℕ) (places : List Slot) (c : Carries m drawing wedges a places) → IsAlone (begins_by wedges a) (half_edges m a) c.place c.half
    alone a places c = record {
      is_half = c.is_half;
      wedge = ap is_wedge (begins_at a c.half.bond.0 c.wedge c.at_bond c.narrow) ∙ c.marked;
      rest = λ i h ne at. begins_else a places c h.bond.0 (bonds_differ m a i c.place h c.half ne at c.is_half);
    }

    own_wedge : (a : ℕ) (places : List Slot) → Carries m drawing wedges a places → HasOwnWedge m drawing wedges a places
    own_wedge a places c = record {
      bond = c.half.bond.0;
      one = (alone a places c).wedge;
      only = begins_else a places c;
      list = wedge_list (half_edges m a) (rays_from drawing a) c.half.to c.wedge.mark;
      reads = λ sizes may.
          ap (λ (b : Bool). reading b (begins_by wedges a) (half_edges m a) (rays_from drawing a)) may
          ∙ read_alone (begins_by wedges a) (rays_from drawing a) (half_edges m a) c.place c.half (alone a places c) (coincide_not m drawing a ok.molecule ok.drawn) (not_true_is (is_middle_one (half_edges m a) (rays_from drawing a) c.half.to) (and_parts (has_order m.bonds c.half.bond.0 1) (not (is_middle_one (half_edges m a) (rays_from drawing a) c.half.to)) c.serves).1)
          ∙ ap (λ (mark : DrawMark). read.Centre (wedge_list (half_edges m a) (rays_from drawing a) c.half.to mark)) (begins_at a c.half.bond.0 c.wedge c.at_bond c.narrow);
      even = c.even;
    }
      where
        not_true_is : (b : Bool) → not b ≡ true → b ≡ false
        not_true_is true e = cc
        not_true_is false e = refl

    pub planned_all : ((a : ℕ) (places : List Slot) → IsCentre m a places → slice_get planned a ≡ Some true) → IsPlan m drawing wedges
    planned_all all = record {
      count = state.count;
      bonds = λ k bond wedge at_bond at_wedge. elim (state.bonds k bond wedge at_bond at_wedge) [
        | inl none ↦ inl none
        | inr one ↦ inr one.0
      ];
      centres = λ a places centre. own_wedge a places (state.done a places centre (all a places centre));
    }

-- the half-edges of a centre
pub of_centre : (m : Molecule) (a : ℕ) (sizes : List (Option ℕ)) → IsMolecule m → may_be_centre m sizes a ≡ true → AreOfCentre (half_edges m a)
of_centre m a sizes is may = record {
  few = by_count (length (half_edges m a)) (hydrogens_of (slice_get m.atoms a)) (singles_at m a) (free_doubles_at m sizes a) may;
  apart = lead_apart m a is;
}
  where
    by_count : (n h s f : ℕ) → centre_test n h s f ≡ true → (n ≡ 3) ⊎ (n ≡ 4)
    by_count n h s f e = grind (arith, nat_tests)

pub of_sound : (m : Molecule) (drawing : List Point) (a : ℕ) (places : List Slot) → IsPlannable m drawing → IsCentre m a places → AreOfCentre (half_edges m a)
of_sound m drawing a places ok centre = (let sizes = ok.sound a places centre in of_centre m a sizes.0 ok.molecule sizes.1)

pub of_some : (m : Molecule) (drawing : List Point) (a : ℕ) → IsPlannable m drawing → (places : List Slot) × IsCentre m a places → AreOfCentre (half_edges m a)
of_some m drawing a ok (places, centre) = of_sound m drawing a places ok centre

-- the neighbours of a centre stand in its list
pub among_of : (m : Molecule) (a : ℕ) (places : List Slot) → IsMolecule m → IsCentre m a places → AreAmong (half_edges m a) places
among_of m a places is centre i half at = ((is.centres a places centre).neighbours half.to.0).1 (joined_of m a i half is at)

-- all places of a drawing are within the limits
pub are_places : (m : Molecule) (drawing : List Point) → IsDrawn m drawing → ArePlaces drawing
are_places m drawing drawn i d within =
    let count = drawn.count in
    let both = drawn.within i (omega arith) in
    let e : get_or drawing i (record { x = pos 0; y = pos 0 }) ≡ get_or drawing i d = get_or_default drawing i (record { x = pos 0; y = pos 0 }) d within in
    subst (λ (p : Point). IsPlace p) e (record { x = coordinate (get_or drawing i (record { x = pos 0; y = pos 0 })).x both.0; y = coordinate (get_or drawing i (record { x = pos 0; y = pos 0 })).y both.1 })
  where
    coordinate : (z : ℤ) → IsWithin z → IsCoordinate z
    coordinate z (n, e, high) = subst (λ (y : ℤ). IsCoordinate y) (sym e) (record { low = omega (arith, ints); high = omega (arith, ints) })
