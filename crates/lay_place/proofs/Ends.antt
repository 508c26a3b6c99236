-- An end at which a double bond asks: no other double bond, and at most two other neighbours.
use Rattle.std.proofs.Common.{◌≡◌, ◌≢◌, ◌∙◌, ℕ, ◌+◌, ◌≤◌, ◌⊎◌, Bool, true, false, arith, refl, sym, ap, subst, inl, inr, ◌==◌, ◌&&◌, ◌||◌, not, List, Option, Some, None, length, slice_get, if◌then◌else◌}
use Rattle.std.proofs.lemmas.Option.{same_Some}
use Rattle.std.proofs.lemmas.Bool.{cases_eq, cases_Bool, and_parts, ne_eqb}
use Rattle.std.proofs.lemmas.Bool.Decides.{nat_tests}
use Rattle.std.specs.Prelude.{count_by, nat_le}
use Rattle.mc_mol.specs.declared.parts.Bond.{Bond}
use Rattle.mc_mol.specs.declared.parts.HalfEdge.{HalfEdge}
use Rattle.mc_mol.specs.declared.parts.Sides.{Sides}
use Rattle.mc_mol.specs.declared.parts.Slot.{Slot}
use Rattle.mc_mol.specs.Molecule.{Molecule}
use Rattle.mc_mol.specs.HalfEdges.{half_edges}
use Rattle.mc_mol.proofs.Halves.{same_test}
use Rattle.mc_rings.specs.Rings.{RingList}
use Rattle.mc_rings.specs.Centres.{centre_test, singles_at, free_doubles_at, has_order, hydrogens_of}
use Rattle.mc_rings.specs.SidePlaces.{may_have_sides, sides_at, is_side_end, others_count, others_are_single, have_equal_leaves, size_allows_sides}
use Rattle.mc_mol.proofs.Apart.{joins_cases}
use Rattle.lay_place.specs.declared.asking.Named.{Named}
use Rattle.ct_geometry.specs.Drawn.{IsOther}
use Rattle.lay_place.specs.Wanted.{MayBePlaced, FreeDouble, named_at, named_by, is_centre, others, first_named}
use Rattle.lay_place.proofs.Neighbours.{half_at, places_apart}
use Rattle.ct_geometry.proofs.Counted.{one_no, two_no, three_yes, all_pass}

-- ---- what the tests say

pub record SideEnd (m : Molecule) (k a : ℕ) : Type 0 where
  pub few : others_count (half_edges m a) k ≤ 2
  pub single : others_are_single m.bonds (half_edges m a) k ≡ true

pub side_end : (m : Molecule) (k a : ℕ) → is_side_end m k a ≡ true → SideEnd m k a
side_end m k a e =
    let p1 = and_parts (nat_le 1 (others_count (half_edges m a) k) && nat_le (others_count (half_edges m a) k) 2 && nat_le (hydrogens_of (slice_get m.atoms a)) 1 && others_are_single m.bonds (half_edges m a) k) (not (have_equal_leaves m (half_edges m a) k)) e in
    let p2 = and_parts (nat_le 1 (others_count (half_edges m a) k) && nat_le (others_count (half_edges m a) k) 2 && nat_le (hydrogens_of (slice_get m.atoms a)) 1) (others_are_single m.bonds (half_edges m a) k) p1.0 in
    let p3 = and_parts (nat_le 1 (others_count (half_edges m a) k) && nat_le (others_count (half_edges m a) k) 2) (nat_le (hydrogens_of (slice_get m.atoms a)) 1) p2.0 in
    let p4 = and_parts (nat_le 1 (others_count (half_edges m a) k)) (nat_le (others_count (half_edges m a) k) 2) p3.0 in
    let two = p4.1 in
    record { few = grind (arith, nat_tests); single = p2.1 }

pub side_ends : (m : Molecule) (sizes : List (Option ℕ)) (k : ℕ) (bond : Bond) → slice_get m.bonds k ≡ Some bond → may_have_sides m sizes k ≡ true → SideEnd m k bond.first.0 × SideEnd m k bond.second.0
side_ends m sizes k bond at e =
    let h : sides_at m sizes k (Some bond) ≡ true = subst (λ (b : Option Bond). sides_at m sizes k b ≡ true) at e in
    let p1 = and_parts (bond.order == 2 && size_allows_sides (slice_get sizes k) && is_side_end m k bond.first.0) (is_side_end m k bond.second.0) h in
    let p2 = and_parts (bond.order == 2 && size_allows_sides (slice_get sizes k)) (is_side_end m k bond.first.0) p1.0 in
    (side_end m k bond.first.0 p2.1, side_end m k bond.second.0 p1.1)

-- a centre with three neighbours has two single bonds at least
pub two_singles : (hydrogens singles free : ℕ) → centre_test 3 hydrogens singles free ≡ true → 2 ≤ singles
two_singles hydrogens singles free e = grind (arith, nat_tests)

pub four_singles : (hydrogens singles free : ℕ) → centre_test 4 hydrogens singles free ≡ true → 2 ≤ singles
four_singles hydrogens singles free e = grind (arith, nat_tests)

-- ---- names

-- a bond with a name at one end is specified, or the end is a centre with three neighbours
pub named_cases : (m : Molecule) (k a : ℕ) (bond : Bond) (name : Named) → slice_get m.bonds k ≡ Some bond → named_at m k a ≡ Some name
    → ((sides : Sides) × (slice_get m.sides k ≡ Some (Some sides))) ⊎ ((is_centre (slice_get m.centres a) && (length (half_edges m a) == 3)) ≡ true)
named_cases m k a bond name at e = by (slice_get m.sides k) refl (ap (λ (b : Option Bond). named_by m k a b (slice_get m.sides k)) (sym at) ∙ e)
  where
    by : (o : Option (Option Sides)) → slice_get m.sides k ≡ o → named_by m k a (Some bond) o ≡ Some name → ((sides : Sides) × (slice_get m.sides k ≡ Some (Some sides))) ⊎ ((is_centre (slice_get m.centres a) && (length (half_edges m a) == 3)) ≡ true)
    by None is f = cc
    by (Some (Some sides)) is f = inl (sides, is)
    by (Some None) is f = elim (cases_Bool (is_centre (slice_get m.centres a) && (length (half_edges m a) == 3))) [
      | inl centre ↦ inr centre
      | inr other ↦ absurd (none_some name (sym (ap (λ (t : Bool). if t then first_name else None) other) ∙ f))
    ]
      where
        first_name : Option Named
        first_name = first_named (others m k a)

        none_some : (x : Named) → None ≡ Some x → ⊥
        none_some x g = cc

centre_list : (o : Option (Option (List Slot))) → is_centre o ≡ true → (places : List Slot) × (o ≡ Some (Some places))
centre_list None e = cc
centre_list (Some None) e = cc
centre_list (Some (Some places)) e = (places, refl)

-- a double bond isn't single
double_not_single : (bonds : List Bond) (k : ℕ) (bond : Bond) → slice_get bonds k ≡ Some bond → bond.order ≡ 2 → has_order bonds k 1 ≡ false
double_not_single bonds k bond at double = rw (at, double) refl

module _ (m : Molecule) (rings : RingList) (may : MayBePlaced m rings) where
  specified_end : (k e p : ℕ) (sides : Sides) → FreeDouble m rings.sizes k e p → slice_get m.sides k ≡ Some (Some sides) → SideEnd m k e
  specified_end k e p sides d is =
      let both = side_ends m rings.sizes k d.bond d.is_bond (may.sides k sides is) in
      elim (joins_cases d.bond e p d.joined) [
        | inl h ↦ subst (SideEnd m k) h.0 both.0
        | inr h ↦ subst (SideEnd m k) h.1 both.1
      ]

  -- the centre's tests, where there are three neighbours
  centre_end : (e : ℕ) → (is_centre (slice_get m.centres e) && (length (half_edges m e) == 3)) ≡ true → (length (half_edges m e) ≡ 3) × (2 ≤ singles_at m e)
  centre_end e h =
      let both = and_parts (is_centre (slice_get m.centres e)) (length (half_edges m e) == 3) h in
      let three : length (half_edges m e) ≡ 3 = let t = both.1 in grind (arith, nat_tests) in
      let places = centre_list (slice_get m.centres e) both.0 in
      let test : centre_test (length (half_edges m e)) (hydrogens_of (slice_get m.atoms e)) (singles_at m e) (free_doubles_at m rings.sizes e) ≡ true = may.centres e places.0 places.1 in
      (three, two_singles (hydrogens_of (slice_get m.atoms e)) (singles_at m e) (free_doubles_at m rings.sizes e) (ap (λ (n : ℕ). centre_test n (hydrogens_of (slice_get m.atoms e)) (singles_at m e) (free_doubles_at m rings.sizes e)) (sym three) ∙ test))

  -- at an end with a name there is no other double bond in no ring
  pub asks_once : (k j e p q : ℕ) (name : Named) → FreeDouble m rings.sizes k e p → named_at m k e ≡ Some name → FreeDouble m rings.sizes j e q → j ≡ k
  asks_once k j e p q name d named other = elim (cases_eq j k) [
    | inl same ↦ same
    | inr different ↦ elim (named_cases m k e d.bond name d.is_bond named) [
      | inl specified ↦
          let end = specified_end k e p specified.0 d specified.1 in
          let h = half_at m e q j other.bond other.is_bond other.joined in
          let ok = all_pass (λ (half : HalfEdge). half.bond.0 == k || has_order m.bonds half.bond.0 1) (half_edges m e) end.single h.place h.half h.is_half in
          absurd (clash (h.half.bond.0 == k) (has_order m.bonds h.half.bond.0 1)
          (ne_eqb h.half.bond.0 k (λ x. different (sym h.bond_is ∙ x)))
          (ap (λ (x : ℕ). has_order m.bonds x 1) h.bond_is ∙ double_not_single m.bonds j other.bond other.is_bond other.double) ok)
      | inr centre ↦
          let three = centre_end e centre in
          let g = half_at m e p k d.bond d.is_bond d.joined in
          let h = half_at m e q j other.bond other.is_bond other.joined in
          let apart : g.place ≢ h.place = λ x. different (sym (sym g.bond_is ∙ ap (λ (y : HalfEdge). y.bond.0) (same_Some g.half h.half (sym g.is_half ∙ ap (slice_get (half_edges m e)) x ∙ h.is_half)) ∙ h.bond_is)) in
          let few = two_no (λ (half : HalfEdge). has_order m.bonds half.bond.0 1) (half_edges m e) g.place h.place g.half h.half apart g.is_half h.is_half
          (ap (λ (x : ℕ). has_order m.bonds x 1) g.bond_is ∙ double_not_single m.bonds k d.bond d.is_bond d.double)
          (ap (λ (x : ℕ). has_order m.bonds x 1) h.bond_is ∙ double_not_single m.bonds j other.bond other.is_bond other.double) in
          let long = three.0 in
          let singles : 2 ≤ singles_at m e = three.1 in
          absurd (too_few (singles_at m e) (length (half_edges m e)) few long singles)
    ]
  ]
    where
      clash : (s t : Bool) → s ≡ false → t ≡ false → (s || t) ≡ true → ⊥
      clash false false a b c = cc
      clash false true a b c = cc
      clash true t a b c = cc

      too_few : (s n : ℕ) → s + 2 ≤ n → n ≡ 3 → 2 ≤ s → ⊥
      too_few s n a b c = absurd (omega arith)

  -- and there are at most two other neighbours
  pub only_two : (k e p c d f : ℕ) (name : Named) → FreeDouble m rings.sizes k e p → named_at m k e ≡ Some name → c ≢ d → d ≢ f → c ≢ f → IsOther m k e c → IsOther m k e d → IsOther m k e f → ⊥
  only_two k e p c d f name free named cd df cf oc od of =
      let test = λ (half : HalfEdge). not (half.bond.0 == k) in
      let many : 3 ≤ count_by test (half_edges m e) = three_yes test (half_edges m e) oc.place od.place of.place oc.half od.half of.half
      (places_apart m e oc.place od.place c d oc.half od.half oc.is_half od.is_half oc.leads od.leads cd)
      (places_apart m e od.place of.place d f od.half of.half od.is_half of.is_half od.leads of.leads df)
      (places_apart m e oc.place of.place c f oc.half of.half oc.is_half of.is_half oc.leads of.leads cf)
      oc.is_half od.is_half of.is_half (passes oc.half oc.other) (passes od.half od.other) (passes of.half of.other) in
      elim (named_cases m k e free.bond name free.is_bond named) [
        | inl specified ↦
            let few = (specified_end k e p specified.0 free specified.1).few in
            absurd (too_many (count_by test (half_edges m e)) many few)
        | inr centre ↦
            let three = centre_end e centre in
            let long = three.0 in
            let g = half_at m e p k free.bond free.is_bond free.joined in
            let less = one_no test (half_edges m e) g.place g.half g.is_half (ap not (ap (λ (x : ℕ). x == k) g.bond_is ∙ same_test k)) in
            absurd (too_long (count_by test (half_edges m e)) (length (half_edges m e)) many less long)
      ]
    where
      passes : (half : HalfEdge) → half.bond.0 ≢ k → not (half.bond.0 == k) ≡ true
      passes half different = ap not (ne_eqb half.bond.0 k different)

      too_many : (n : ℕ) → 3 ≤ n → n ≤ 2 → ⊥
      too_many n a b = absurd (omega arith)

      too_long : (n l : ℕ) → 3 ≤ n → n + 1 ≤ l → l ≡ 3 → ⊥
      too_long n l a b c = absurd (omega arith)
