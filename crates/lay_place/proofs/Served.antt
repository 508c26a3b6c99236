-- What the search finds suits the next atom; and where it finds nothing, any place does.
use Rattle.std.proofs.Common.{◌≡◌, ◌≢◌, ◌∙◌, ℕ, ◌+◌, ◌<◌, ◌≤◌, ◌⊎◌, Bool, true, false, arith, refl, sym, ap, subst, inl, inr, ◌==◌, ◌&&◌, not, List, Option, Some, None, length, slice_get, if◌then◌else◌, nat_lt}
use Rattle.std.proofs.lemmas.Bool.Decides.{nat_tests}
use Rattle.std.proofs.lemmas.Option.{slice_get_within, same_Some}
use Rattle.std.specs.Prelude.{is_some}
use Rattle.std.proofs.lemmas.Bool.{and_parts, ne_eqb}
use Rattle.mc_base.specs.declared.ids.AtomId.{AtomId}
use Rattle.mc_mol.specs.declared.parts.Bond.{Bond}
use Rattle.mc_mol.specs.declared.parts.HalfEdge.{HalfEdge}
use Rattle.mc_mol.specs.Molecule.{Molecule, joins}
use Rattle.mc_mol.specs.HalfEdges.{half_edges}
use Rattle.mc_mol.proofs.Twins.{all_have_twins}
use Rattle.mc_rings.specs.Rings.{RingList}
use Rattle.mc_rings.specs.Centres.{has_order, order_is, lies_in_no_ring, size_is_none}
use Rattle.mc_mol.specs.Numbered.{Mark}
use Rattle.lay_place.specs.Curve.{has_place}
use Rattle.lay_place.specs.declared.asking.Named.{Named}
use Rattle.lay_place.specs.Rows.{is_inside, same, shift, beside, parting}
use Rattle.lay_place.specs.declared.wish.Wish.{Wish}
use Rattle.lay_place.specs.declared.wish.Wish.TheVariants.{Anywhere, Beside, Parting}
use Rattle.lay_place.proofs.Asks.{same_true}
use Rattle.lay_place.proofs.Inserts.{beside_inside, parting_parts}
use Rattle.ct_geometry.specs.Drawn.{IsOther}
use Rattle.lay_place.specs.Wanted.{MayBePlaced, FreeDouble, Wanted, named_at, side_from}
use Rattle.lay_place.specs.Asks.{Suits}
use Rattle.lay_place.specs.Walk.{IsBefore, IsLastEnd, IsLastSide}
use Rattle.lay_place.specs.Curve.{place_or, place_of, IsRow, AreLow}
use Rattle.lay_place.specs.Search.{is_free, asks_here, FoundPlaced, FoundAsking, FoundEnd, IsEndWish, NoEnd, FoundSide, IsSideWish, NoSide}
use Rattle.lay_place.specs.Wishes.{meets, IsOpen, IsWish}
use Rattle.lay_place.proofs.Neighbours.{bond_at, joins_back, across, half_at}
use Rattle.lay_place.proofs.Wanted.{turned_ends, one_pair}
use Rattle.lay_place.proofs.Ends.{asks_once}
use Rattle.lay_place.proofs.Walk.{one_far}
use Rattle.lay_place.proofs.Choices.{wanted, suits_any, suits_end, suits_side}

order_of : (o : Option Bond) (n : ℕ) (bond : Bond) → o ≡ Some bond → order_is o n ≡ true → bond.order ≡ n
order_of None n bond e f = cc
order_of (Some b) n bond e f = let same = same_Some b bond e in let is : b.order ≡ n = grind (arith, nat_tests) in sym (ap (λ (y : Bond). y.order) same) ∙ is

none_of : (o : Option (Option ℕ)) → size_is_none o ≡ true → o ≡ Some None
none_of None e = cc
none_of (Some None) e = refl
none_of (Some (Some n)) e = cc

is_double : (n : ℕ) → n ≡ 2 → (n == 2) ≡ true
is_double n e = grind (arith, nat_tests)

-- the test of a bond in no ring that is double
pub free_of : (m : Molecule) (sizes : List (Option ℕ)) (k u w : ℕ) (bond : Bond) → slice_get m.bonds k ≡ Some bond → joins bond u w ≡ true → is_free m sizes k ≡ true → FreeDouble m sizes k u w
free_of m sizes k u w bond at joined test =
    let both = and_parts (has_order m.bonds k 2) (lies_in_no_ring sizes k) test in
    record { bond = bond; is_bond = at; joined = joined; double = order_of (slice_get m.bonds k) 2 bond at both.0; free = none_of (slice_get sizes k) both.1 }

pub free_is : (m : Molecule) (sizes : List (Option ℕ)) (k u w : ℕ) → FreeDouble m sizes k u w → is_free m sizes k ≡ true
free_is m sizes k u w d = rw (d.is_bond, is_double d.bond.order d.double, d.free) refl

all_pass : (p q r s : Bool) → p ≡ true → q ≡ true → r ≡ true → s ≡ true → (p && (q && (r && s))) ≡ true
all_pass p q r s a b c d = rw (a, b, c, d) refl

some_is : (o : Option Named) (name : Named) → o ≡ Some name → is_some o ≡ true
some_is o name e = rw e refl

is_some_of : (o : Option Named) → is_some o ≡ true → (name : Named) × (o ≡ Some name)
is_some_of None e = cc
is_some_of (Some name) e = (name, refl)

parting_low : (f a b n : ℕ) → f < n → a < n → b < n → parting f a b ≤ n
parting_low f a b n p q r = grind (arith, nat_tests)

beside_low : (f p n : ℕ) (inside : Bool) → f < n → beside f p inside ≤ n
beside_low f p n inside less = by (same (nat_lt f p) inside)
  where
    by : (t : Bool) → (if t then f + 1 else f) ≤ n
    by true = omega arith
    by false = omega arith

parted_true : (s t : Bool) → s ≡ not t → not (same s t) ≡ true
parted_true s true e = rw e refl
parted_true s false e = rw e refl

true_parted : (s t : Bool) → not (same s t) ≡ true → s ≡ not t
true_parted true true e = cc
true_parted true false e = refl
true_parted false true e = refl
true_parted false false e = cc

when_same : (s t : Bool) → s ≡ t → same s t ≡ true
when_same s true e = rw e refl
when_same s false e = rw e refl

-- ---- places are low

pub in_range : (m : Molecule) (rings : RingList) → MayBePlaced m rings → (i : ℕ) (a : AtomId) → slice_get rings.order i ≡ Some a → a.0 < length m.atoms
in_range m rings may i a at = may.are_rings.order.within i a at

pub row_low : (m : Molecule) (rings : RingList) → MayBePlaced m rings → (done : ℕ) (v : AtomId) → slice_get rings.order done ≡ Some v → (places : List (Option ℕ)) → IsRow m rings done places → AreLow places
row_low m rings may done v at places row a place mark =
    let less = (row.placed a place mark).1 in
    let within = slice_get_within rings.order done v at in
    let count : length rings.order ≡ length m.atoms = may.are_rings.order.count in
    let few : length m.atoms ≤ 999 = may.well_formed.few_atoms in
    omega arith

pub done_few : (m : Molecule) (rings : RingList) → MayBePlaced m rings → (done : ℕ) (v : AtomId) → slice_get rings.order done ≡ Some v → done < 4999
done_few m rings may done v at =
    let within = slice_get_within rings.order done v at in
    let count : length rings.order ≡ length m.atoms = may.are_rings.order.count in
    let few : length m.atoms ≤ 999 = may.well_formed.few_atoms in
    omega arith

module _ (m : Molecule) (rings : RingList) (may : MayBePlaced m rings) (done v : ℕ) (at_v : slice_get rings.order done ≡ Some (record { 0 = v })) (places : List (Option ℕ)) (row : IsRow m rings done places) where
  place_at : (a p : ℕ) → Mark places a p → place_of places a ≡ p
  place_at a p mark = ap place_or mark

  before : (a p : ℕ) → Mark places a p → IsBefore rings.order done a
  before a p mark = (row.placed a p mark).0

  below : (a p : ℕ) → Mark places a p → p < done
  below a p mark = (row.placed a p mark).1

  other_found : (k e skip a p : ℕ) → FoundPlaced (half_edges m e) places k skip a p → IsOther m k e a
  other_found k e skip a p f = record { place = f.i; half = f.half; is_half = f.is_half; other = f.other; leads = f.leads }

  placed_other : (k e skip a p : ℕ) → IsOther m k e a → a ≢ skip → Mark places a p → FoundPlaced (half_edges m e) places k skip a p
  placed_other k e skip a p o apart mark = record { i = o.place; half = o.half; is_half = o.is_half; other = o.other; leads = o.leads; apart = apart; mark = mark }

  -- ---- found

  apart_places : (a b p q : ℕ) → a ≢ b → Mark places a p → Mark places b q → p ≢ q
  apart_places a b p q different mark_a mark_b e = row.stands.apart a b (before a p mark_a) (before b q mark_b) different (place_at a p mark_a ∙ e ∙ sym (place_at b q mark_b))

  few : done < 4999
  few = done_few m rings may done (record { 0 = v }) at_v

  low_place : (a p : ℕ) → Mark places a p → p < 4999
  low_place a p mark = let less = below a p mark in let n = few in omega arith

  end_open : (k u end at_c at_d : ℕ) → FoundEnd m rings.sizes places k u end at_c at_d → IsOpen (Parting end at_c at_d) done
  end_open k u end at_c at_d f =
      let c = f.two.first in
      let d = f.two.second in
      record {
        low = (low_place u end f.mark, (low_place f.two.c at_c c.mark, low_place f.two.d at_d d.mark));
        within = parting_low end at_c at_d done (below u end f.mark) (below f.two.c at_c c.mark) (below f.two.d at_d d.mark);
        met = parted_true (is_inside (shift (parting end at_c at_d) end) (shift (parting end at_c at_d) at_c) (parting end at_c at_d)) (is_inside (shift (parting end at_c at_d) end) (shift (parting end at_c at_d) at_d) (parting end at_c at_d))
            (parting_parts end at_c at_d (parting end at_c at_d) (apart_places u f.two.c end at_c (λ e. c.apart (sym e)) f.mark c.mark)
            (apart_places u f.two.d end at_d (λ e. (across m may.well_formed k u f.two.d (other_found k u f.two.c f.two.d at_d d)).different (sym e)) f.mark d.mark)
            (apart_places f.two.c f.two.d at_c at_d (λ e. d.apart (sym e)) c.mark d.mark) refl);
      }

  end_suits : (i end at_c at_d : ℕ) (half : HalfEdge) → slice_get (half_edges m v) i ≡ Some half → FoundEnd m rings.sizes places half.bond.0 half.to.0 end at_c at_d → (at : ℕ) → meets (Parting end at_c at_d) at ≡ true
      → Suits (FreeDouble m rings.sizes) (Wanted m rings.sizes) (IsBefore rings.order done) (place_of places) v at
  end_suits i end at_c at_d half is_half f at wished =
      let t = all_have_twins m (record { 0 = v }) may.well_formed i half is_half in
      let ends : FreeDouble m rings.sizes half.bond.0 half.to.0 v = free_of m rings.sizes half.bond.0 half.to.0 v t.bond t.is_bond (joins_back t.bond v half.to.0 t.joined) f.free in
      let c = f.two.first in
      let d = f.two.second in
      let last : IsLastEnd m rings done v half.bond.0 = record {
        u = half.to.0;
        ends = ends;
        placed = before half.to.0 end f.mark;
        name = f.name;
        named = f.named;
        c = f.two.c;
        d = f.two.d;
        apart = λ e. d.apart (sym e);
        other_c = other_found half.bond.0 half.to.0 half.to.0 f.two.c at_c c;
        other_d = other_found half.bond.0 half.to.0 f.two.c f.two.d at_d d;
        placed_c = before f.two.c at_c c.mark;
        placed_d = before f.two.d at_d d.mark;
      } in
      suits_end m rings may done v at_v (place_of places) half.bond.0 last at
      (rw (place_at half.to.0 end f.mark, place_at f.two.c at_c c.mark, place_at f.two.d at_d d.mark)
      (true_parted (is_inside (shift at end) (shift at at_c) at) (is_inside (shift at end) (shift at at_d) at) wished))

  end_serves : (i : ℕ) (half : HalfEdge) (wish : Wish) → slice_get (half_edges m v) i ≡ Some half → IsEndWish m rings.sizes places half.bond.0 half.to.0 wish → IsWish m rings done places v wish
  end_serves i half Anywhere at f = absurd f
  end_serves i half (Beside near far inside) at f = absurd f
  end_serves i half (Parting end one other) at f = record { may_be_met = end_open half.bond.0 half.to.0 end one other f; suits = end_suits i end one other half at f }

  side_open : (k e near far : ℕ) (inside : Bool) → FoundSide m rings.sizes places k e v near far inside → IsOpen (Beside near far inside) done
  side_open k e near far inside f =
      let t = all_have_twins m (record { 0 = e }) may.well_formed f.asking.i f.half f.asking.is_half in record {
        low = (low_place e near f.mark, low_place f.half.to.0 far f.mark_far);
        within = beside_low near far done inside (below e near f.mark);
        met = when_same (is_inside (shift (beside near far inside) near) (beside near far inside) (shift (beside near far inside) far)) inside
            (beside_inside near far (beside near far inside) inside (apart_places e f.half.to.0 near far (λ x. t.different (sym x)) f.mark f.mark_far) refl);
      }

  side_suits : (i near far : ℕ) (inside : Bool) (half : HalfEdge) → slice_get (half_edges m v) i ≡ Some half → FoundSide m rings.sizes places half.bond.0 half.to.0 v near far inside → (at : ℕ) → meets (Beside near far inside) at ≡ true
      → Suits (FreeDouble m rings.sizes) (Wanted m rings.sizes) (IsBefore rings.order done) (place_of places) v at
  side_suits i near far inside half is_half f at wished =
      let t = all_have_twins m (record { 0 = v }) may.well_formed i half is_half in
      let h = half_at m half.to.0 v half.bond.0 t.bond t.is_bond (joins_back t.bond v half.to.0 t.joined) in
      let g = all_have_twins m half.to may.well_formed f.asking.i f.half f.asking.is_half in
      let tests = asks_parts (f.half.bond.0 == half.bond.0) (is_free m rings.sizes f.half.bond.0) (has_place (slice_get places f.half.to.0) && is_some (named_at m f.half.bond.0 half.to.0)) f.asking.asks in
      let ends : FreeDouble m rings.sizes f.half.bond.0 half.to.0 f.half.to.0 = free_of m rings.sizes f.half.bond.0 half.to.0 f.half.to.0 g.bond g.is_bond g.joined tests.1 in
      let other : IsOther m f.half.bond.0 half.to.0 v = record { place = h.place; half = h.half; is_half = h.is_half; other = λ e. differ (f.half.bond.0) half.bond.0 tests.0 (sym e ∙ h.bond_is); leads = h.leads } in
      let told = f.told.told in
      let far_end = turned f.told.end f.told.is_end ends in
      let last : IsLastSide m rings done v f.half.bond.0 = record {
        e = half.to.0;
        p = f.half.to.0;
        ends = ends;
        placed_e = before half.to.0 near f.mark;
        placed_p = before f.half.to.0 far f.mark_far;
        name = f.name;
        named = f.named;
        other = other;
        d = told.atom;
        side = side_from told.name told.atom;
        wanted = wanted m rings may f.half.bond.0 f.told.end far_end.0 told.atom told.name far_end.1 told.named (other_found f.half.bond.0 f.told.end f.told.end told.atom f.at told.found);
        placed_d = before told.atom f.at told.found.mark;
      } in
      suits_side m rings may done v at_v (place_of places) f.half.bond.0 last at
      (rw (place_at half.to.0 near f.mark, place_at f.half.to.0 far f.mark_far, place_at told.atom f.at told.found.mark)
      (same_true (is_inside (shift at near) at (shift at far)) inside wished ∙ f.is ∙ ap (λ (s : Bool). same (is_inside near f.at far) (same (side_from f.name v) s)) told.is))
    where
      asks_parts : (p q r : Bool) → (not p && (q && r)) ≡ true → (p ≡ false) × (q ≡ true)
      asks_parts true q r e = cc
      asks_parts false true r e = (refl, refl)
      asks_parts false false r e = cc

      differ : (x y : ℕ) → (x == y) ≡ false → x ≡ y → ⊥
      differ x y e g = let h : (x == y) ≡ true = grind (arith, nat_tests) in cc

      turned : (z : ℕ) → (z ≡ half.to.0) ⊎ (z ≡ f.half.to.0) → FreeDouble m rings.sizes f.half.bond.0 half.to.0 f.half.to.0 → (q : ℕ) × FreeDouble m rings.sizes f.half.bond.0 z q
      turned z (inl e) d = (f.half.to.0, subst (λ (y : ℕ). FreeDouble m rings.sizes f.half.bond.0 y f.half.to.0) (sym e) d)
      turned z (inr e) d = (half.to.0, subst (λ (y : ℕ). FreeDouble m rings.sizes f.half.bond.0 y half.to.0) (sym e) (turned_ends m rings may f.half.bond.0 half.to.0 f.half.to.0 d))

  side_serves : (i : ℕ) (half : HalfEdge) (wish : Wish) → slice_get (half_edges m v) i ≡ Some half → IsSideWish m rings.sizes places half.bond.0 half.to.0 v wish → IsWish m rings done places v wish
  side_serves i half Anywhere at f = absurd f
  side_serves i half (Parting end one other) at f = absurd f
  side_serves i half (Beside near far inside) at f = record { may_be_met = side_open half.bond.0 half.to.0 near far inside f; suits = side_suits i near far inside half at f }

  -- ---- not found

  no_end : (k : ℕ) → ((i : ℕ) (half : HalfEdge) → slice_get (half_edges m v) i ≡ Some half → NoEnd m rings.sizes places half.bond.0 half.to.0) → IsLastEnd m rings done v k → ⊥
  no_end k none l =
      let h = half_at m v l.u k l.ends.bond l.ends.is_bond (joins_back l.ends.bond l.u v l.ends.joined) in
      let off : NoEnd m rings.sizes places k l.u = subst (λ (z : ℕ). NoEnd m rings.sizes places k z) h.leads (subst (λ (z : ℕ). NoEnd m rings.sizes places z h.half.to.0) h.bond_is (none h.place h.half h.is_half)) in
      let u = row.all l.u l.placed in
      let c = row.all l.c l.placed_c in
      let d = row.all l.d l.placed_d in
      off l.name u.0 l.named (free_is m rings.sizes k l.u v l.ends) u.1 c.0 d.0 (record {
        c = l.c;
        d = l.d;
        first = placed_other k l.u l.u l.c c.0 l.other_c (across m may.well_formed k l.u l.c l.other_c).different c.1;
        second = placed_other k l.u l.c l.d d.0 l.other_d (λ e. l.apart (sym e)) d.1;
      })

  no_side : (k : ℕ) → ((i : ℕ) (half : HalfEdge) → slice_get (half_edges m v) i ≡ Some half → NoSide m rings.sizes places half.bond.0 half.to.0) → IsLastSide m rings done v k → ⊥
  no_side k none l =
      let a = across m may.well_formed k l.e v l.other in
      let h = half_at m v l.e a.number a.bond a.is_bond (joins_back a.bond l.e v a.joined) in
      let off : NoSide m rings.sizes places a.number l.e = subst (λ (z : ℕ). NoSide m rings.sizes places a.number z) h.leads (subst (λ (z : ℕ). NoSide m rings.sizes places z h.half.to.0) h.bond_is (none h.place h.half h.is_half)) in
      let g = half_at m l.e l.p k l.ends.bond l.ends.is_bond l.ends.joined in
      let e = row.all l.e l.placed_e in
      let p = row.all l.p l.placed_p in
      let d = row.all l.d l.placed_d in
      let w = l.wanted in
      let asks : asks_here m rings.sizes places a.number l.e g.half ≡ true = all_pass (not (g.half.bond.0 == a.number)) (is_free m rings.sizes g.half.bond.0) (has_place (slice_get places g.half.to.0)) (is_some (named_at m g.half.bond.0 l.e))
      (ap not (ne_eqb g.half.bond.0 a.number (λ x. a.other (sym x ∙ g.bond_is))))
      (ap (is_free m rings.sizes) g.bond_is ∙ free_is m rings.sizes k l.e l.p l.ends)
      (ap (λ (z : ℕ). has_place (slice_get places z)) g.leads ∙ ap has_place p.1)
      (ap (λ (z : ℕ). is_some (named_at m z l.e)) g.bond_is ∙ some_is (named_at m k l.e) l.name l.named) in
      let asking : FoundAsking m rings.sizes places a.number l.e g.half = record { i = g.place; is_half = g.is_half; asks = asks } in
      let none_told = off g.half e.0 e.1 asking (only g.half g.bond_is g.leads a.number) in
      let found : FoundPlaced (half_edges m w.e) places g.half.bond.0 w.e l.d d.0 = subst (λ (z : ℕ). FoundPlaced (half_edges m w.e) places z w.e l.d d.0) (sym g.bond_is) (placed_other k w.e w.e l.d d.0 w.other (across m may.well_formed k w.e l.d w.other).different d.1) in
      let named : named_at m g.half.bond.0 w.e ≡ Some w.name = ap (λ (z : ℕ). named_at m z w.e) g.bond_is ∙ w.named in
      elim (ends g.half g.leads (one_pair m rings may k w.e w.p l.e l.p w.ends l.ends)) [
        | inl at_e ↦ none_told.0 w.name l.d d.0 (subst (λ (z : ℕ). named_at m g.half.bond.0 z ≡ Some w.name) at_e named) (subst (λ (z : ℕ). FoundPlaced (half_edges m z) places g.half.bond.0 z l.d d.0) at_e found)
        | inr at_p ↦ none_told.1 w.name l.d d.0 (subst (λ (z : ℕ). named_at m g.half.bond.0 z ≡ Some w.name) at_p named) (subst (λ (z : ℕ). FoundPlaced (half_edges m z) places g.half.bond.0 z l.d d.0) at_p found)
      ]
    where
      ends : (half : HalfEdge) → half.to.0 ≡ l.p → ((l.wanted.e ≡ l.e) × (l.wanted.p ≡ l.p)) ⊎ ((l.wanted.e ≡ l.p) × (l.wanted.p ≡ l.e)) → (l.wanted.e ≡ l.e) ⊎ (l.wanted.e ≡ half.to.0)
      ends half leads (inl (a, b)) = inl a
      ends half leads (inr (a, b)) = inr (a ∙ sym leads)

      free_part : (p q r : Bool) → (p && (q && r)) ≡ true → q ≡ true
      free_part true true r e = refl
      free_part true false r e = cc
      free_part false q r e = cc

      only : (half : HalfEdge) → half.bond.0 ≡ k → half.to.0 ≡ l.p → (number : ℕ) → (other : HalfEdge) → FoundAsking m rings.sizes places number l.e other → (other.bond.0 ≡ half.bond.0) × (other.to.0 ≡ half.to.0)
      only half is_k leads number other f =
          let t = all_have_twins m (record { 0 = l.e }) may.well_formed f.i other f.is_half in
          let free = free_part (not (other.bond.0 == number)) (is_free m rings.sizes other.bond.0) (has_place (slice_get places other.to.0) && is_some (named_at m other.bond.0 l.e)) f.asks in
          let d : FreeDouble m rings.sizes other.bond.0 l.e other.to.0 = free_of m rings.sizes other.bond.0 l.e other.to.0 t.bond t.is_bond t.joined free in
          let same : other.bond.0 ≡ k = asks_once m rings may k other.bond.0 l.e l.p other.to.0 l.name l.ends l.named d in
          let bond : t.bond ≡ l.ends.bond = same_Some t.bond l.ends.bond (sym t.is_bond ∙ ap (slice_get m.bonds) same ∙ l.ends.is_bond) in
          (same ∙ sym is_k, one_far l.ends.bond l.e other.to.0 l.p (bond_at (length m.atoms) m.bonds k l.ends.bond may.well_formed.bonds l.ends.is_bond).different (subst (λ (b : Bond). joins b l.e other.to.0 ≡ true) bond t.joined) l.ends.joined ∙ sym leads)

  pub found_serves : (i : ℕ) (half : HalfEdge) (wish : Wish) → slice_get (half_edges m v) i ≡ Some half → IsEndWish m rings.sizes places half.bond.0 half.to.0 wish ⊎ IsSideWish m rings.sizes places half.bond.0 half.to.0 v wish → IsWish m rings done places v wish
  found_serves i half wish at (inl f) = end_serves i half wish at f
  found_serves i half wish at (inr f) = side_serves i half wish at f

  pub none_serves : ((i : ℕ) (half : HalfEdge) → slice_get (half_edges m v) i ≡ Some half → NoEnd m rings.sizes places half.bond.0 half.to.0 × NoSide m rings.sizes places half.bond.0 half.to.0) → IsWish m rings done places v Anywhere
  none_serves none = record {
    may_be_met = record { low = tt; within = omega arith; met = refl };
    suits = λ at met. suits_any m rings may done v at_v (place_of places) at (λ k l. elim l [
      | inl end ↦ no_end k (λ i half e. (none i half e).0) end
      | inr side ↦ no_side k (λ i half e. (none i half e).1) side
    ]);
  }
