-- A row in which all stands as asked gives a drawing in which rays differ, double bonds read right and centres have their bonds.
use Rattle.std.proofs.Common.{◌≡◌, ◌≢◌, ◌∙◌, ℕ, zero, suc, ◌+◌, ◌<◌, ◌≤◌, ◌⊎◌, ◌↔◌, Bool, true, false, arith, refl, sym, ap, subst, inl, inr, ◌==◌, ◌&&◌, not, List, [], ◌∷◌, Option, Some, None, length, get_or, slice_get, if◌then◌else◌, nat_lt}
use Rattle.std.proofs.lemmas.Bool.{cases_eq, cases_Bool, and_parts, ne_eqb}
use Rattle.std.proofs.lemmas.Bool.Decides.{nat_tests}
use Rattle.std.proofs.lemmas.Option.{slice_get_within, slice_get-get_or, same_Some}
use Rattle.std.proofs.lemmas.Int.{ints}
use Rattle.std.specs.Prelude.{filter, ℤ, pos, negsuc, ◌-ℤ◌}
use Rattle.mc_mol.specs.declared.drawing.Point.{Point}
use Rattle.mc_mol.specs.declared.parts.Bond.{Bond}
use Rattle.mc_mol.specs.declared.parts.HalfEdge.{HalfEdge}
use Rattle.mc_mol.specs.declared.parts.Sides.{Sides}
use Rattle.mc_mol.specs.declared.parts.Slot.{Slot}
use Rattle.mc_mol.specs.Molecule.{Molecule, are_joined}
use Rattle.mc_mol.specs.HalfEdges.{half_edges}
use Rattle.mc_mol.specs.WellFormed.{IsMolecule, IsBond}
use Rattle.mc_mol.proofs.Halves.{same_test, are_joined-half_edges}
use Rattle.mc_mol.proofs.Apart.{lead_apart}
use Rattle.mc_mol.proofs.Twins.{all_have_twins}
use Rattle.mc_rings.specs.Rings.{RingList}
use Rattle.mc_rings.specs.Centres.{centre_test, singles_at, free_doubles_at, has_order, order_is, lies_in_no_ring, size_is_none, hydrogens_of}
use Rattle.mc_mol.proofs.Numbered.{leads_to}
use Rattle.mc_mol.proofs.Neighbours.{joined_ends}
use Rattle.lay_place.specs.declared.asking.Named.{Named}
use Rattle.ct_geometry.specs.Turns.{Sign, Negative, Null, Positive, sign, Vector, ray, dot, turn, side_of, is_null, is_positive, is_zero, have_one_direction, is_middle, flipped}
use Rattle.lay_place.specs.Rows.{Bends, is_inside, same}
use Rattle.ct_geometry.specs.Drawn.{at, ray_of, IsOther, ReadsAs, side_at, MayCarry, IsUsable, HasTwoUsable}
use Rattle.mc_mol.specs.Same.{turned, stand_together}
use Rattle.lay_place.specs.Wanted.{MayBePlaced, FreeDouble, Wanted, named_at, first_named, side_from}
use Rattle.lay_place.specs.Asks.{Stands}
use Rattle.lay_place.proofs.Middles.{middle_either, one_middle, not_middle}
use Rattle.lay_place.proofs.Bends.{side_by, side_is, side_some}
use Rattle.lay_place.proofs.Neighbours.{one_half, bond_at, across}
use Rattle.ct_geometry.proofs.Counted.{find_one, find_two, one_no}
use Rattle.lay_place.proofs.Wanted.{other_apart, turned_ends}
use Rattle.lay_place.proofs.Ends.{two_singles, four_singles}
use Rattle.lay_place.proofs.Choices.{wanted, two_sides}

module _ (m : Molecule) (is_molecule : IsMolecule m) where
  -- a neighbour has a half-edge
  pub neighbour_place : (a b : ℕ) → are_joined m.bonds a b ≡ true → (i : ℕ) × (half : HalfEdge) × (slice_get (half_edges m a) i ≡ Some half) × (half.to.0 ≡ b)
  neighbour_place a b joined =
      let ends = joined_ends (length m.atoms) m.bonds a b is_molecule.bonds joined in
      leads_to (half_edges m a) b (are_joined-half_edges m a b ends.different ∙ joined)

  -- the other two of three neighbours
  other_two : (a : ℕ) → length (half_edges m a) ≡ 3 → (i j l : ℕ) (g h r : HalfEdge) → i ≢ j → j ≢ l → i ≢ l → slice_get (half_edges m a) i ≡ Some g → slice_get (half_edges m a) j ≡ Some h → slice_get (half_edges m a) l ≡ Some r
      → (b d : ℕ) → are_joined m.bonds a b ≡ true → are_joined m.bonds a d ≡ true → b ≢ g.to.0 → d ≢ g.to.0 → b ≢ d → ((b ≡ h.to.0) × (d ≡ r.to.0)) ⊎ ((b ≡ r.to.0) × (d ≡ h.to.0))
  other_two a long i j l g h r ij jl il at_g at_h at_r b d to_b to_d not_b not_d apart = by (one_of b to_b not_b) (one_of d to_d not_d)
    where
      within_three : (k : ℕ) (x : HalfEdge) → slice_get (half_edges m a) k ≡ Some x → k < 3
      within_three k x e = let w = slice_get_within (half_edges m a) k x e in omega arith

      one_of : (c : ℕ) → are_joined m.bonds a c ≡ true → c ≢ g.to.0 → (c ≡ h.to.0) ⊎ (c ≡ r.to.0)
      one_of c to_c not_c =
          let n = neighbour_place a c to_c in
          elim (cases_eq n.0 j) [
            | inl same ↦ inl (sym n.3 ∙ ap (λ (x : HalfEdge). x.to.0) (one_half (half_edges m a) n.0 j n.1 h same n.2 at_h))
            | inr not_j ↦ elim (cases_eq n.0 i) [
              | inl same ↦ absurd (not_c (sym n.3 ∙ ap (λ (x : HalfEdge). x.to.0) (one_half (half_edges m a) n.0 i n.1 g same n.2 at_g)))
              | inr not_i ↦
                  let wi = within_three i g at_g in
                  let wj = within_three j h at_h in
                  let wl = within_three l r at_r in
                  let wn = within_three n.0 n.1 n.2 in
                  let same : n.0 ≡ l = last n.0 i j l wn wi wj wl ij jl il not_i not_j in
                  inr (sym n.3 ∙ ap (λ (x : HalfEdge). x.to.0) (one_half (half_edges m a) n.0 l n.1 r same n.2 at_r))
            ]
          ]
        where
          last : (n i j l : ℕ) → n < 3 → i < 3 → j < 3 → l < 3 → i ≢ j → j ≢ l → i ≢ l → n ≢ i → n ≢ j → n ≡ l
          last n i j l a b c d p q s t u = omega arith

      by : (b ≡ h.to.0) ⊎ (b ≡ r.to.0) → (d ≡ h.to.0) ⊎ (d ≡ r.to.0) → ((b ≡ h.to.0) × (d ≡ r.to.0)) ⊎ ((b ≡ r.to.0) × (d ≡ h.to.0))
      by (inl p) (inl q) = absurd (apart (p ∙ sym q))
      by (inl p) (inr q) = inl (p, q)
      by (inr p) (inl q) = inr (p, q)
      by (inr p) (inr q) = absurd (apart (p ∙ sym q))

-- ---- rays

some_sign : (s : Sign) → s ≢ Null → is_null s ≡ false
some_sign Negative some = refl
some_sign Null some = absurd (some refl)
some_sign Positive some = refl

null_is : (z : ℤ) → sign z ≡ Null → z ≡ pos 0
null_is (pos zero) e = refl
null_is (pos (suc n)) e = cc
null_is (negsuc n) e = cc

not_zero : (p q : Vector) → p.0 ≢ q.0 → is_zero (ray p q) ≡ false
not_zero p q apart =
    let some : is_null (sign (q.0 -ℤ p.0)) ≡ false = some_sign (sign (q.0 -ℤ p.0)) (λ e. let z = null_is (q.0 -ℤ p.0) e in apart (omega (arith, ints))) in
    rw some refl

not_along : (across along : Sign) → across ≢ Null → (is_null across && is_positive along) ≡ false
not_along across along some = rw (some_sign across some) refl

-- ---- signs from places

on_both_sides : (f i j : Bool) → same i j ≡ false → side_by f i ≡ flipped (side_by f j)
on_both_sides true true true e = cc
on_both_sides true true false e = refl
on_both_sides true false true e = refl
on_both_sides true false false e = cc
on_both_sides false true true e = cc
on_both_sides false true false e = refl
on_both_sides false false true e = refl
on_both_sides false false false e = cc

sides_agree : (f i j : Bool) → (side_by f i ≡ side_by f j) ↔ (same i j ≡ true)
sides_agree true true true = ((λ e. refl), (λ e. refl))
sides_agree true true false = ((λ e. cc), (λ e. cc))
sides_agree true false true = ((λ e. cc), (λ e. cc))
sides_agree true false false = ((λ e. refl), (λ e. refl))
sides_agree false true true = ((λ e. refl), (λ e. refl))
sides_agree false true false = ((λ e. cc), (λ e. cc))
sides_agree false false true = ((λ e. cc), (λ e. cc))
sides_agree false false false = ((λ e. refl), (λ e. refl))

turned_together : (t p q : Bool) → same (same true p) (same t q) ≡ turned (turned t p) q
turned_together true true true = refl
turned_together true true false = refl
turned_together true false true = refl
turned_together true false false = refl
turned_together false true true = refl
turned_together false true false = refl
turned_together false false true = refl
turned_together false false false = refl

equal_either : (n k : ℕ) → (n == k) ≡ (k == n)
equal_either n k = elim (cases_eq n k) [
  | inl same ↦ ap (λ (x : ℕ). x == k) same ∙ sym (ap (λ (x : ℕ). k == x) same)
  | inr other ↦ ne_eqb n k other ∙ sym (ne_eqb k n (λ e. other (sym e)))
]

stands_together : (sides : Sides) (d e : ℕ) → same (same true (d == sides.first.0)) (same sides.together (e == sides.second.0)) ≡ stand_together sides d e
stands_together sides d e = turned_together sides.together (d == sides.first.0) (e == sides.second.0) ∙ rw (equal_either d sides.first.0, equal_either e sides.second.0) refl

same_not : (s : Bool) → same s (not s) ≡ false
same_not true = refl
same_not false = refl

first_some : (halves : List HalfEdge) (k i : ℕ) (half : HalfEdge) → slice_get halves i ≡ Some half → half.bond.0 ≢ k
    → (name : Named) × (first_named (filter (λ (h : HalfEdge). not (h.bond.0 == k)) halves) ≡ Some name)
first_some [] k i half e other = cc
first_some (h ∷ halves) k zero half e other = let is = same_Some h half e in (record { atom = h.to; side = true }, rw (ne_eqb h.bond.0 k (λ same. other (ap (λ (y : HalfEdge). y.bond.0) (sym is) ∙ same))) refl)
first_some (h ∷ halves) k (suc i) half e other = elim (cases_eq h.bond.0 k) [
  | inr keep ↦ (record { atom = h.to; side = true }, rw (ne_eqb h.bond.0 k keep) refl)
  | inl skip ↦ let rest = first_some halves k i half e other in (rest.0, rw (skip, same_test k) rest.1)
]

module _ (m : Molecule) (rings : RingList) (may : MayBePlaced m rings) (x : ℕ → ℕ) (stands : Stands (FreeDouble m rings.sizes) (Wanted m rings.sizes) (λ (a : ℕ). a < length m.atoms) x)
    (c : ℕ → Vector) (bends : Bends c) (drawing : List Point) (is_at : (a : ℕ) → a < length m.atoms → at drawing a ≡ c (x a)) where
  turn_is : (a b d : ℕ) → a < length m.atoms → b < length m.atoms → d < length m.atoms → turn (ray_of drawing a b) (ray_of drawing a d) ≡ side_of (c (x a)) (c (x b)) (c (x d))
  turn_is a b d pa pb pd =
      ap (λ (p : Vector). turn (ray p (at drawing b)) (ray p (at drawing d))) (is_at a pa)
      ∙ ap (λ (p : Vector). turn (ray (c (x a)) p) (ray (c (x a)) (at drawing d))) (is_at b pb)
      ∙ ap (λ (p : Vector). turn (ray (c (x a)) (c (x b))) (ray (c (x a)) p)) (is_at d pd)

  turn_by : (a b d : ℕ) → a < length m.atoms → b < length m.atoms → d < length m.atoms → a ≢ b → d ≢ a → d ≢ b
      → turn (ray_of drawing a b) (ray_of drawing a d) ≡ side_by (nat_lt (x a) (x b)) (is_inside (x a) (x d) (x b))
  turn_by a b d pa pb pd ab da db = turn_is a b d pa pb pd ∙ side_is c bends (x a) (x b) (x d) (stands.apart a b pa pb ab) (stands.apart d a pd pa da) (stands.apart d b pd pb db)

  turn_some : (a b d : ℕ) → a < length m.atoms → b < length m.atoms → d < length m.atoms → a ≢ b → d ≢ a → d ≢ b → turn (ray_of drawing a b) (ray_of drawing a d) ≢ Null
  turn_some a b d pa pb pd ab da db e = side_some (nat_lt (x a) (x b)) (is_inside (x a) (x d) (x b)) (sym (turn_by a b d pa pb pd ab da db) ∙ e)

  pub rays_some : (a b : ℕ) → are_joined m.bonds a b ≡ true → is_zero (ray_of drawing a b) ≡ false
  rays_some a b joined =
      let ends = joined_ends (length m.atoms) m.bonds a b may.well_formed.bonds joined in
      not_zero (at drawing a) (at drawing b)
      (λ e. bends.apart (x a) (x b) (stands.apart a b ends.first ends.second ends.different) (ap (λ (p : Vector). p.0) (sym (is_at a ends.first)) ∙ e ∙ ap (λ (p : Vector). p.0) (is_at b ends.second)))

  pub rays_differ : (a b d : ℕ) → are_joined m.bonds a b ≡ true → are_joined m.bonds a d ≡ true → b ≢ d → have_one_direction (ray_of drawing a b) (ray_of drawing a d) ≡ false
  rays_differ a b d to_b to_d apart =
      let p = joined_ends (length m.atoms) m.bonds a b may.well_formed.bonds to_b in
      let q = joined_ends (length m.atoms) m.bonds a d may.well_formed.bonds to_d in
      not_along (turn (ray_of drawing a b) (ray_of drawing a d)) (sign (dot (ray_of drawing a b) (ray_of drawing a d)))
      (turn_some a b d p.first p.second q.second p.different (λ e. q.different (sym e)) (λ e. apart (sym e)))

  -- ---- double bonds

  module _ (k : ℕ) (bond : Bond) (sides : Sides) (at_k : slice_get m.bonds k ≡ Some bond) (specified : slice_get m.sides k ≡ Some (Some sides)) where
    is_bond : IsBond (length m.atoms) bond
    is_bond = bond_at (length m.atoms) m.bonds k bond may.well_formed.bonds at_k

    free : FreeDouble m rings.sizes k bond.first.0 bond.second.0
    free = record { bond = bond; is_bond = at_k; joined = rw (same_test bond.first.0, same_test bond.second.0) refl; double = (may.well_formed.sides k bond sides at_k specified).double; free = may.free k sides specified }

    free_back : FreeDouble m rings.sizes k bond.second.0 bond.first.0
    free_back = turned_ends m rings may k bond.first.0 bond.second.0 free

    name_first : named_at m k bond.first.0 ≡ Some (record { atom = sides.first; side = true })
    name_first = rw (at_k, specified, same_test bond.first.0) refl

    name_second : named_at m k bond.second.0 ≡ Some (record { atom = sides.second; side = sides.together })
    name_second = rw (at_k, specified, ne_eqb bond.first.0 bond.second.0 is_bond.different) refl

    -- where another neighbour stands
    inner : ℕ → Bool
    inner d = is_inside (x bond.first.0) (x d) (x bond.second.0)

    at_first : (d : ℕ) → IsOther m k bond.first.0 d → side_at drawing bond.first.0 bond.second.0 d ≡ side_by (nat_lt (x bond.first.0) (x bond.second.0)) (inner d)
    unfolding inner
    at_first d o =
        let apart = other_apart m rings may k bond.first.0 bond.second.0 d free o in
        turn_by bond.first.0 bond.second.0 d is_bond.first is_bond.second (across m may.well_formed k bond.first.0 d o).within is_bond.different apart.0 apart.1

    at_second : (d : ℕ) → IsOther m k bond.second.0 d → side_at drawing bond.first.0 bond.second.0 d ≡ side_by (nat_lt (x bond.first.0) (x bond.second.0)) (inner d)
    unfolding inner
    at_second d o =
        let apart = other_apart m rings may k bond.second.0 bond.first.0 d free_back o in
        turn_by bond.first.0 bond.second.0 d is_bond.first is_bond.second (across m may.well_formed k bond.second.0 d o).within is_bond.different apart.1 apart.0

    agree : (d e : ℕ) (s t : Bool) → Wanted m rings.sizes k d s → Wanted m rings.sizes k e t → d < length m.atoms → e < length m.atoms → same (inner d) (inner e) ≡ same s t
    unfolding inner
    agree d e s t wants_d wants_e pd pe = stands.agrees k bond.first.0 bond.second.0 d e s t (record { ends = free; wants = wants_d; wants_too = wants_e; first = is_bond.first; second = is_bond.second; one = pd; other = pe })

    pub reads : ReadsAs m drawing k bond.first.0 bond.second.0 sides
    reads = record {
      parted = record {
        beside_first = λ d o e. side_some (nat_lt (x bond.first.0) (x bond.second.0)) (inner d) (sym (at_first d o) ∙ e);
        beside_second = λ d o e. side_some (nat_lt (x bond.first.0) (x bond.second.0)) (inner d) (sym (at_second d o) ∙ e);
        opposite_first = λ d e apart o q.
            at_first d o ∙ on_both_sides (nat_lt (x bond.first.0) (x bond.second.0)) (inner d) (inner e)
            (agree d e (same true (d == sides.first.0)) (not (same true (d == sides.first.0))) (wanted m rings may k bond.first.0 bond.second.0 d (record { atom = sides.first; side = true }) free name_first o)
            (subst (Wanted m rings.sizes k e) (two_sides m rings may k bond.first.0 bond.second.0 d e (record { atom = sides.first; side = true }) free name_first apart o q) (wanted m rings may k bond.first.0 bond.second.0 e (record { atom = sides.first; side = true }) free name_first q))
            (across m may.well_formed k bond.first.0 d o).within (across m may.well_formed k bond.first.0 e q).within ∙ same_not (same true (d == sides.first.0)))
            ∙ ap flipped (sym (at_first e q));
        opposite_second = λ d e apart o q.
            at_second d o ∙ on_both_sides (nat_lt (x bond.first.0) (x bond.second.0)) (inner d) (inner e)
            (agree d e (same sides.together (d == sides.second.0)) (not (same sides.together (d == sides.second.0))) (wanted m rings may k bond.second.0 bond.first.0 d (record { atom = sides.second; side = sides.together }) free_back name_second o)
            (subst (Wanted m rings.sizes k e) (two_sides m rings may k bond.second.0 bond.first.0 d e (record { atom = sides.second; side = sides.together }) free_back name_second apart o q) (wanted m rings may k bond.second.0 bond.first.0 e (record { atom = sides.second; side = sides.together }) free_back name_second q))
            (across m may.well_formed k bond.second.0 d o).within (across m may.well_formed k bond.second.0 e q).within ∙ same_not (same sides.together (d == sides.second.0)))
            ∙ ap flipped (sym (at_second e q));
      };
      together = λ d e o q.
          let is : same (inner d) (inner e) ≡ stand_together sides d e =
          agree d e (same true (d == sides.first.0)) (same sides.together (e == sides.second.0)) (wanted m rings may k bond.first.0 bond.second.0 d (record { atom = sides.first; side = true }) free name_first o)
          (wanted m rings may k bond.second.0 bond.first.0 e (record { atom = sides.second; side = sides.together }) free_back name_second q)
          (across m may.well_formed k bond.first.0 d o).within (across m may.well_formed k bond.second.0 e q).within
          ∙ stands_together sides d e in
          let both = sides_agree (nat_lt (x bond.first.0) (x bond.second.0)) (inner d) (inner e) in
          ((λ h. sym is ∙ both.0 (sym (at_first d o) ∙ h ∙ at_second e q)), (λ h. at_first d o ∙ both.1 (is ∙ h) ∙ sym (at_second e q)));
    }

  -- ---- centres

  module _ (a : ℕ) (pa : a < length m.atoms) where
    -- a single bond at a place
    single_at : (i : ℕ) (g : HalfEdge) → slice_get (half_edges m a) i ≡ Some g → has_order m.bonds g.bond.0 1 ≡ true → MayCarry m drawing a g.to.0 → IsUsable m drawing a i
    single_at i g at_g single carry =
        let t = all_have_twins m (record { 0 = a }) may.well_formed i g at_g in
        let order : (t.bond.order == 1) ≡ true = subst (λ (o : Option Bond). order_is o 1 ≡ true) t.is_bond single in
        record { half = g; is_half = at_g; bond = t.bond; is_bond = t.is_bond; single = grind (arith, nat_tests); may_carry = carry }

    to_within : (i : ℕ) (g : HalfEdge) → slice_get (half_edges m a) i ≡ Some g → (g.to.0 < length m.atoms) × (g.to.0 ≢ a)
    to_within i g at_g = let t = all_have_twins m (record { 0 = a }) may.well_formed i g at_g in (t.to, t.different)

    -- three half-edges
    module _ (long : length (half_edges m a) ≡ 3) (i j l : ℕ) (g h r : HalfEdge) (ij : i ≢ j) (jl : j ≢ l) (il : i ≢ l)
        (at_g : slice_get (half_edges m a) i ≡ Some g) (at_h : slice_get (half_edges m a) j ≡ Some h) (at_r : slice_get (half_edges m a) l ≡ Some r) where
      -- g's ray isn't the middle one
      carries : is_middle (ray_of drawing a h.to.0) (ray_of drawing a g.to.0) (ray_of drawing a r.to.0) ≡ false → MayCarry m drawing a g.to.0
      carries off three b d to_b to_d not_b not_d apart = elim (other_two m may.well_formed a long i j l g h r ij jl il at_g at_h at_r b d to_b to_d not_b not_d apart) [
        | inl p ↦ rw (p.0, p.1) off
        | inr p ↦ rw (p.0, p.1) (middle_either (ray_of drawing a h.to.0) (ray_of drawing a g.to.0) (ray_of drawing a r.to.0) ∙ off)
      ]

    turn_between : (i j : ℕ) (g h : HalfEdge) → i ≢ j → slice_get (half_edges m a) i ≡ Some g → slice_get (half_edges m a) j ≡ Some h → turn (ray_of drawing a g.to.0) (ray_of drawing a h.to.0) ≢ Null
    turn_between i j g h different at_g at_h =
        let p = to_within i g at_g in
        let q = to_within j h at_h in
        let apart = lead_apart m a may.well_formed i j g h different at_g at_h in
        turn_some a g.to.0 h.to.0 pa p.0 q.0 (λ e. p.1 (sym e)) q.1 (λ e. apart (sym e))

    -- all three single: of g and h one at least isn't the middle ray, and so for the other pairs
    three_single : length (half_edges m a) ≡ 3 → (g h r : HalfEdge) → slice_get (half_edges m a) 0 ≡ Some g → slice_get (half_edges m a) 1 ≡ Some h → slice_get (half_edges m a) 2 ≡ Some r
        → has_order m.bonds g.bond.0 1 ≡ true → has_order m.bonds h.bond.0 1 ≡ true → has_order m.bonds r.bond.0 1 ≡ true → HasTwoUsable m drawing a
    three_single long g h r at_g at_h at_r single_g single_h single_r =
        let rg = ray_of drawing a g.to.0 in
        let rh = ray_of drawing a h.to.0 in
        let rr = ray_of drawing a r.to.0 in
        let gh = turn_between 0 1 g h (λ e. absurd (omega arith)) at_g at_h in
        let hg = turn_between 1 0 h g (λ e. absurd (omega arith)) at_h at_g in
        let hr = turn_between 1 2 h r (λ e. absurd (omega arith)) at_h at_r in
        let rh_ = turn_between 2 1 r h (λ e. absurd (omega arith)) at_r at_h in
        let gr = turn_between 0 2 g r (λ e. absurd (omega arith)) at_g at_r in
        let rg_ = turn_between 2 0 r g (λ e. absurd (omega arith)) at_r at_g in
        elim (cases_Bool (is_middle rg rh rr)) [
          | inl middle_h ↦ record {
            first = 0;
            second = 2;
            different = λ e. absurd (omega arith);
            one = single_at 0 g at_g single_g (carries long 0 1 2 g h r (λ e. absurd (omega arith)) (λ e. absurd (omega arith)) (λ e. absurd (omega arith)) at_g at_h at_r (one_middle rg rh rr gh hr gr middle_h));
            other = single_at 2 r at_r single_r (carries long 2 1 0 r h g (λ e. absurd (omega arith)) (λ e. absurd (omega arith)) (λ e. absurd (omega arith)) at_r at_h at_g
                (one_middle rr rh rg rh_ hg rg_ (middle_either rg rh rr ∙ middle_h)));
          }
          | inr side_h ↦ elim (cases_Bool (is_middle rh rg rr)) [
            | inl middle_g ↦ record {
              first = 1;
              second = 2;
              different = λ e. absurd (omega arith);
              one = single_at 1 h at_h single_h (carries long 1 0 2 h g r (λ e. absurd (omega arith)) (λ e. absurd (omega arith)) (λ e. absurd (omega arith)) at_h at_g at_r side_h);
              other = single_at 2 r at_r single_r (carries long 2 0 1 r g h (λ e. absurd (omega arith)) (λ e. absurd (omega arith)) (λ e. absurd (omega arith)) at_r at_g at_h
                  (one_middle rr rg rh rg_ gh rh_ (middle_either rh rg rr ∙ middle_g)));
            }
            | inr side_g ↦ record {
              first = 0;
              second = 1;
              different = λ e. absurd (omega arith);
              one = single_at 0 g at_g single_g (carries long 0 1 2 g h r (λ e. absurd (omega arith)) (λ e. absurd (omega arith)) (λ e. absurd (omega arith)) at_g at_h at_r side_g);
              other = single_at 1 h at_h single_h (carries long 1 0 2 h g r (λ e. absurd (omega arith)) (λ e. absurd (omega arith)) (λ e. absurd (omega arith)) at_h at_g at_r side_h);
            }
          ]
        ]

    -- four neighbours
    four : length (half_edges m a) ≡ 4 → 2 ≤ singles_at m a → HasTwoUsable m drawing a
    four long singles =
        let two = find_two (λ (half : HalfEdge). has_order m.bonds half.bond.0 1) (half_edges m a) singles in
        record {
          first = two.one.place;
          second = two.other.place;
          different = two.apart;
          one = single_at two.one.place two.one.item two.one.at two.one.passes (λ three. absurd (omega arith));
          other = single_at two.other.place two.other.item two.other.at two.other.passes (λ three. absurd (omega arith));
        }

    named : (places : List Slot) → slice_get m.centres a ≡ Some (Some places) → length (half_edges m a) ≡ 3 → (k : ℕ) (bond : Bond) → slice_get m.bonds k ≡ Some bond → (i : ℕ) (g : HalfEdge) → slice_get (half_edges m a) i ≡ Some g → g.bond.0 ≢ k
        → (name : Named) × (named_at m k a ≡ Some name)
    named places at_a long k bond at_k i g at_g other = by (slice_get m.sides k) refl
      where
        some_name : (t : Bool) (n r : Named) → (name : Named) × ((if t then Some n else Some r) ≡ Some name)
        some_name true n r = (n, refl)
        some_name false n r = (r, refl)

        by : (o : Option (Option Sides)) → slice_get m.sides k ≡ o → (name : Named) × (named_at m k a ≡ Some name)
        by None is =
            let within = slice_get_within m.bonds k bond at_k in
            let count : length m.sides ≡ length m.bonds = may.well_formed.side_count in
            let there = slice_get-get_or m.sides k None (omega arith) in
            cc
        by (Some (Some sides)) is = rw (at_k, is) (some_name (bond.first.0 == a) (record { atom = sides.first; side = true }) (record { atom = sides.second; side = sides.together }))
        by (Some None) is =
            let found = first_some (half_edges m a) k i g at_g other in
            (found.0, rw (at_k, is, at_a, long) found.1)

    not_same : (s : Bool) → same (not s) s ≡ false
    not_same true = refl
    not_same false = refl

    with_double : (places : List Slot) → slice_get m.centres a ≡ Some (Some places) → length (half_edges m a) ≡ 3 → 2 ≤ singles_at m a → 1 ≤ free_doubles_at m rings.sizes a → HasTwoUsable m drawing a
    with_double places at_a long singles doubles =
        let two = find_two (λ (half : HalfEdge). has_order m.bonds half.bond.0 1) (half_edges m a) singles in
        let one = find_one (λ (half : HalfEdge). has_order m.bonds half.bond.0 2 && lies_in_no_ring rings.sizes half.bond.0) (half_edges m a) doubles in
        finish two.one.place two.other.place one.place two.one.item two.other.item one.item two.apart two.one.at two.other.at one.at two.one.passes two.other.passes
        (and_parts (has_order m.bonds one.item.bond.0 2) (lies_in_no_ring rings.sizes one.item.bond.0) one.passes)
      where
        order_of : (o : Option Bond) (n : ℕ) (bond : Bond) → o ≡ Some bond → order_is o n ≡ true → bond.order ≡ n
        order_of None n bond e f = cc
        order_of (Some b) n bond e f = let same = same_Some b bond e in let is : b.order ≡ n = grind (arith, nat_tests) in sym (ap (λ (y : Bond). y.order) same) ∙ is

        none_of : (o : Option (Option ℕ)) → size_is_none o ≡ true → o ≡ Some None
        none_of None e = cc
        none_of (Some None) e = refl
        none_of (Some (Some n)) e = cc

        not_both : (k : ℕ) (bond : Bond) → slice_get m.bonds k ≡ Some bond → has_order m.bonds k 1 ≡ true → has_order m.bonds k 2 ≡ true → ⊥
        not_both k bond at_k e f = let p = order_of (slice_get m.bonds k) 1 bond at_k e in let q = order_of (slice_get m.bonds k) 2 bond at_k f in absurd (omega arith)

        finish : (i j l : ℕ) (g h r : HalfEdge) → i ≢ j → slice_get (half_edges m a) i ≡ Some g → slice_get (half_edges m a) j ≡ Some h → slice_get (half_edges m a) l ≡ Some r
            → has_order m.bonds g.bond.0 1 ≡ true → has_order m.bonds h.bond.0 1 ≡ true → (has_order m.bonds r.bond.0 2 ≡ true) × (lies_in_no_ring rings.sizes r.bond.0 ≡ true) → HasTwoUsable m drawing a
        finish i j l g h r ij at_g at_h at_r single_g single_h double_r =
            let t = all_have_twins m (record { 0 = a }) may.well_formed l r at_r in
            let d : FreeDouble m rings.sizes r.bond.0 a r.to.0 = record { bond = t.bond; is_bond = t.is_bond; joined = t.joined; double = order_of (slice_get m.bonds r.bond.0) 2 t.bond t.is_bond double_r.0; free = none_of (slice_get rings.sizes r.bond.0) double_r.1 } in
            let g_other : g.bond.0 ≢ r.bond.0 = λ e. not_both r.bond.0 t.bond t.is_bond (subst (λ (k : ℕ). has_order m.bonds k 1 ≡ true) e single_g) double_r.0 in
            let h_other : h.bond.0 ≢ r.bond.0 = λ e. not_both r.bond.0 t.bond t.is_bond (subst (λ (k : ℕ). has_order m.bonds k 1 ≡ true) e single_h) double_r.0 in
            let il : i ≢ l = λ e. g_other (ap (λ (y : HalfEdge). y.bond.0) (one_half (half_edges m a) i l g r e at_g at_r)) in
            let jl : j ≢ l = λ e. h_other (ap (λ (y : HalfEdge). y.bond.0) (one_half (half_edges m a) j l h r e at_h at_r)) in
            let name = named places at_a long r.bond.0 t.bond t.is_bond i g at_g g_other in
            let og : IsOther m r.bond.0 a g.to.0 = record { place = i; half = g; is_half = at_g; other = g_other; leads = refl } in
            let oh : IsOther m r.bond.0 a h.to.0 = record { place = j; half = h; is_half = at_h; other = h_other; leads = refl } in
            let apart = lead_apart m a may.well_formed i j g h ij at_g at_h in
            let side = side_from name.0 g.to.0 in
            let wants_g : Wanted m rings.sizes r.bond.0 g.to.0 side = wanted m rings may r.bond.0 a r.to.0 g.to.0 name.0 d name.1 og in
            let wants_h : Wanted m rings.sizes r.bond.0 h.to.0 (not side) = subst (Wanted m rings.sizes r.bond.0 h.to.0) (two_sides m rings may r.bond.0 a r.to.0 g.to.0 h.to.0 name.0 d name.1 apart og oh)
            (wanted m rings may r.bond.0 a r.to.0 h.to.0 name.0 d name.1 oh) in
            let pg = to_within i g at_g in
            let ph = to_within j h at_h in
            let pr = to_within l r at_r in
            let gr = lead_apart m a may.well_formed i l g r il at_g at_r in
            let hr = lead_apart m a may.well_formed j l h r jl at_h at_r in
            let turn_g = turn_by a r.to.0 g.to.0 pa pr.0 pg.0 (λ e. pr.1 (sym e)) pg.1 gr in
            let turn_h = turn_by a r.to.0 h.to.0 pa pr.0 ph.0 (λ e. pr.1 (sym e)) ph.1 hr in
            let gh = stands.agrees r.bond.0 a r.to.0 g.to.0 h.to.0 side (not side) (record { ends = d; wants = wants_g; wants_too = wants_h; first = pa; second = pr.0; one = pg.0; other = ph.0 }) ∙ same_not side in
            let hg = stands.agrees r.bond.0 a r.to.0 h.to.0 g.to.0 (not side) side (record { ends = d; wants = wants_h; wants_too = wants_g; first = pa; second = pr.0; one = ph.0; other = pg.0 }) ∙ not_same side in
            let ahead = nat_lt (x a) (x r.to.0) in
            let in_g = is_inside (x a) (x g.to.0) (x r.to.0) in
            let in_h = is_inside (x a) (x h.to.0) (x r.to.0) in
            let opposite_h = turn_h ∙ on_both_sides ahead in_h in_g hg ∙ ap flipped (sym turn_g) in
            let opposite_g = turn_g ∙ on_both_sides ahead in_g in_h gh ∙ ap flipped (sym turn_h) in
            let some_g = turn_between l i r g (λ e. il (sym e)) at_r at_g in
            let some_h = turn_between l j r h (λ e. jl (sym e)) at_r at_h in
            record {
              first = i;
              second = j;
              different = ij;
              one = single_at i g at_g single_g (carries long i l j g r h il (λ e. jl (sym e)) ij at_g at_r at_h (not_middle (ray_of drawing a r.to.0) (ray_of drawing a g.to.0) (ray_of drawing a h.to.0) some_g opposite_h));
              other = single_at j h at_h single_h (carries long j l i h r g jl (λ e. il (sym e)) (λ e. ij (sym e)) at_h at_r at_g (not_middle (ray_of drawing a r.to.0) (ray_of drawing a h.to.0) (ray_of drawing a g.to.0) some_h opposite_g));
            }

    pub centre_reads : (places : List Slot) → slice_get m.centres a ≡ Some (Some places) → HasTwoUsable m drawing a
    centre_reads places at_a = by (tells (length (half_edges m a)) (hydrogens_of (slice_get m.atoms a)) (singles_at m a) (free_doubles_at m rings.sizes a) (may.centres a places at_a))
      where
        tells : (n h s f : ℕ) → centre_test n h s f ≡ true → ((n ≡ 4) × (2 ≤ s)) ⊎ ((n ≡ 3) × ((s ≡ 3) ⊎ ((2 ≤ s) × (1 ≤ f))))
        tells n h s f e = elim (cases_eq n 4) [
          | inl is_four ↦ inl (is_four, four_singles h s f (subst (λ (k : ℕ). centre_test k h s f ≡ true) is_four e))
          | inr not_four ↦ elim (cases_eq n 3) [
            | inl is_three ↦ inr (is_three, three h s f (subst (λ (k : ℕ). centre_test k h s f ≡ true) is_three e))
            | inr not_three ↦ neither n h s f not_four not_three e
          ]
        ]
          where
            three : (h s f : ℕ) → centre_test 3 h s f ≡ true → (s ≡ 3) ⊎ ((2 ≤ s) × (1 ≤ f))
            three h s f e = elim (cases_eq s 3) [
              | inl all ↦ inl all
              | inr fewer ↦ inr (two_singles h s f e, one_free h s f fewer e)
            ]
              where
                one_free : (h s f : ℕ) → s ≢ 3 → centre_test 3 h s f ≡ true → 1 ≤ f
                one_free h s f fewer e = grind (arith, nat_tests)

            neither : (n h s f : ℕ) → n ≢ 4 → n ≢ 3 → centre_test n h s f ≡ true → ((n ≡ 4) × (2 ≤ s)) ⊎ ((n ≡ 3) × ((s ≡ 3) ⊎ ((2 ≤ s) × (1 ≤ f))))
            neither n h s f p q e = let bad : centre_test n h s f ≡ false = grind (arith, nat_tests) in cc

        all_single : length (half_edges m a) ≡ 3 → singles_at m a ≡ 3 → (i : ℕ) (g : HalfEdge) → slice_get (half_edges m a) i ≡ Some g → has_order m.bonds g.bond.0 1 ≡ true
        all_single long all i g at_g = elim (cases_Bool (has_order m.bonds g.bond.0 1)) [
          | inl single ↦ single
          | inr double ↦ let few = one_no (λ (half : HalfEdge). has_order m.bonds half.bond.0 1) (half_edges m a) i g at_g double in absurd (too_few (singles_at m a) (length (half_edges m a)) few long all)
        ]
          where
            too_few : (s n : ℕ) → s + 1 ≤ n → n ≡ 3 → s ≡ 3 → ⊥
            too_few s n e f g = absurd (omega arith)

        by : ((length (half_edges m a) ≡ 4) × (2 ≤ singles_at m a)) ⊎ ((length (half_edges m a) ≡ 3) × ((singles_at m a ≡ 3) ⊎ ((2 ≤ singles_at m a) × (1 ≤ free_doubles_at m rings.sizes a)))) → HasTwoUsable m drawing a
        by (inl (long, singles)) = four long singles
        by (inr (long, inr (singles, doubles))) = with_double places at_a long singles doubles
        by (inr (long, inl all)) =
            let some = find_one (λ (half : HalfEdge). has_order m.bonds half.bond.0 1) (half_edges m a) (let s : 1 ≤ singles_at m a = omega arith in s) in
            let g = get_or (half_edges m a) 0 some.item in
            let h = get_or (half_edges m a) 1 some.item in
            let r = get_or (half_edges m a) 2 some.item in
            let at_g = slice_get-get_or (half_edges m a) 0 some.item (omega arith) in
            let at_h = slice_get-get_or (half_edges m a) 1 some.item (omega arith) in
            let at_r = slice_get-get_or (half_edges m a) 2 some.item (omega arith) in
            three_single long g h r at_g at_h at_r (all_single long all 0 g at_g) (all_single long all 1 h at_h) (all_single long all 2 r at_r)
