-- The tests of a drawing decide what a drawing must give.
use Rattle.std.proofs.Common.{◌≡◌, ◌≢◌, ◌∙◌, ◌↔◌, ℕ, zero, suc, ◌+◌, ◌<◌, ◌≤◌, ◌⊎◌, Bool, true, false, arith, refl, sym, ap, subst, inl, inr, ◌==◌, ◌&&◌, ◌||◌, not, List, [], ◌∷◌, Option, Some, None, length, slice_get}
use Rattle.std.proofs.lemmas.Bool.{cases_eq, cases_Bool, and_parts}
use Rattle.std.proofs.lemmas.Bool.Decides.{nat_tests, Decides-and, Decides-like, Decides-not}
use Rattle.std.proofs.lemmas.Option.{same_Some}
use Rattle.std.specs.Bool.{Decides}
use Rattle.std.specs.List.{list_all, list_any}
use Rattle.mc_base.specs.declared.ids.AtomId.{AtomId}
use Rattle.mc_mol.specs.declared.drawing.Point.{Point}
use Rattle.mc_mol.specs.declared.parts.Bond.{Bond}
use Rattle.mc_mol.specs.declared.parts.HalfEdge.{HalfEdge}
use Rattle.mc_mol.specs.declared.parts.Sides.{Sides}
use Rattle.mc_mol.specs.Molecule.{Molecule, are_joined}
use Rattle.mc_mol.specs.HalfEdges.{half_edges}
use Rattle.mc_mol.specs.Same.{stand_together, turned}
use Rattle.mc_mol.specs.WellFormed.{IsMolecule}
use Rattle.mc_mol.proofs.Halves.{are_joined-half_edges}
use Rattle.mc_mol.proofs.Neighbours.{joined_at, joined_ends}
use Rattle.mc_mol.proofs.Numbered.{leads_to}
use Rattle.mc_mol.proofs.Twins.{all_have_twins}
use Rattle.ct_geometry.specs.Turns.{Sign, Negative, Null, Positive, is_null, is_zero, have_one_direction, is_middle, flipped}
use Rattle.mc_rings.specs.Centres.{has_order, order_is}
use Rattle.std.specs.Prelude.{count_by, nat_le}
use Rattle.mc_mol.specs.declared.parts.Slot.{Slot}
use Rattle.ct_geometry.specs.Drawn.{ray_of, side_at, IsOther, AreParted, ReadsAs, MayCarry, IsUsable, HasTwoUsable}
use Rattle.ct_geometry.proofs.Counted.{find_two, two_apart}
use Rattle.ct_geometry.specs.DrawnTests.{same_sign, goes_apart, ray_differs, rays_differ, are_opposite, is_parted, are_parted, is_told, tells, sides_read, bond_reads, bond_reads_by, is_middle_of, has_middle_ray, is_usable, usable_count, centre_reads, centre_reads_by}

-- ---- tests of lists

-- it holds of each element, at its place
abbrev pub Each : {X : Type 0} → (X → Type 0) → List X → Type 0
Each {X} P xs = (i : ℕ) (x : X) → slice_get xs i ≡ Some x → P x

abbrev pub OneOf : {X : Type 0} → (X → Type 0) → List X → Type 0
OneOf {X} P xs = (i : ℕ) × (x : X) × (slice_get xs i ≡ Some x) × P x

all_cons : {X : Type 0} (p : X → Bool) (P : X → Type 0) (x : X) (xs : List X) → Decides (p x) (P x) → Decides (list_all p xs) (Each P xs) → Decides (list_all p (x ∷ xs)) (Each P (x ∷ xs))
all_cons {X} p P x xs first rest = (all, back)
  where
    all : (p x && list_all p xs) ≡ true → Each P (x ∷ xs)
    all e zero y at = subst P (same_Some x y at) (first.0 (and_parts (p x) (list_all p xs) e).0)
    all e (suc i) y at = rest.0 (and_parts (p x) (list_all p xs) e).1 i y at

    back : Each P (x ∷ xs) → (p x && list_all p xs) ≡ true
    back h = rw (first.1 (h 0 x refl), rest.1 (λ i y at. h (suc i) y at)) refl

pub each_of : {X : Type 0} (p : X → Bool) (P : X → Type 0) → ((x : X) → Decides (p x) (P x)) → (xs : List X) → Decides (list_all p xs) (Each P xs)
each_of p P d [] = ((λ e i x at. cc), (λ h. refl))
each_of p P d (x ∷ xs) = all_cons p P x xs (d x) (each_of p P d xs)

any_cons : {X : Type 0} (p : X → Bool) (P : X → Type 0) (x : X) (xs : List X) → Decides (p x) (P x) → Decides (list_any p xs) (OneOf P xs) → Decides (list_any p (x ∷ xs)) (OneOf P (x ∷ xs))
any_cons {X} p P x xs first rest = (found, back)
  where
    found : (p x || list_any p xs) ≡ true → OneOf P (x ∷ xs)
    found e = elim (cases_Bool (p x)) [
      | inl on ↦ (0, x, refl, first.0 on)
      | inr off ↦ let later = rest.0 (sym (ap (λ (b : Bool). b || list_any p xs) off) ∙ e) in (suc later.0, later.1, later.2, later.3)
    ]

    back : OneOf P (x ∷ xs) → (p x || list_any p xs) ≡ true
    back (zero, y, at, h) = rw (first.1 (subst P (sym (same_Some x y at)) h)) refl
    back (suc i, y, at, h) = elim (cases_Bool (p x)) [
      | inl on ↦ rw on refl
      | inr off ↦ rw off (rest.1 (i, y, at, h))
    ]

pub some_of : {X : Type 0} (p : X → Bool) (P : X → Type 0) → ((x : X) → Decides (p x) (P x)) → (xs : List X) → Decides (list_any p xs) (OneOf P xs)
some_of p P d [] = ((λ e. cc), (λ (i, x, at, h). cc))
some_of p P d (x ∷ xs) = any_cons p P x xs (d x) (some_of p P d xs)

-- unless two numbers are equal
pub unless : {Q : Type 0} (n k : ℕ) (b : Bool) → Decides b Q → Decides ((n == k) || b) (n ≢ k → Q)
unless n k b d = elim (cases_eq n k) [
  | inl same ↦ let on : (n == k) ≡ true = grind (arith, nat_tests) in ((λ e other. absurd (other same)), (λ h. rw on refl))
  | inr other ↦ let off : (n == k) ≡ false = grind (arith, nat_tests) in ((λ e x. d.0 (sym (ap (λ (t : Bool). t || b) off) ∙ e)), (λ h. rw off (d.1 (h other))))
]

pub equals : (n k : ℕ) → Decides (n == k) (n ≡ k)
equals n k = ((λ e. grind (arith, nat_tests)), (λ e. grind (arith, nat_tests)))

pub differs : (n k : ℕ) → Decides (not (n == k)) (n ≢ k)
differs n k = Decides-not (n == k) (equals n k)

-- a test that fails
pub fails : (b : Bool) → Decides (not b) (b ≡ false)
fails true = ((λ e. cc), (λ e. cc))
fails false = ((λ e. refl), (λ e. refl))

pub not_null : (s : Sign) → Decides (not (is_null s)) (s ≢ Null)
not_null Negative = ((λ e f. cc), (λ e. refl))
not_null Null = ((λ e f. cc), (λ e. absurd (e refl)))
not_null Positive = ((λ e f. cc), (λ e. refl))

pub signs_equal : (s t : Sign) → Decides (same_sign s t) (s ≡ t)
signs_equal Negative Negative = ((λ e. refl), (λ e. refl))
signs_equal Negative Null = ((λ e. cc), (λ e. cc))
signs_equal Negative Positive = ((λ e. cc), (λ e. cc))
signs_equal Null Negative = ((λ e. cc), (λ e. cc))
signs_equal Null Null = ((λ e. refl), (λ e. refl))
signs_equal Null Positive = ((λ e. cc), (λ e. cc))
signs_equal Positive Negative = ((λ e. cc), (λ e. cc))
signs_equal Positive Null = ((λ e. cc), (λ e. cc))
signs_equal Positive Positive = ((λ e. refl), (λ e. refl))

pub agreed : {P : Type 0} (a b : Bool) → Decides a P → Decides (turned b a) (P ↔ (b ≡ true))
agreed true b d = ((λ e. ((λ p. e), (λ f. d.0 refl))), (λ h. h.0 (d.0 refl)))
agreed false true d = ((λ e. cc), (λ h. d.1 (h.1 refl)))
agreed false false d = ((λ e. ((λ p. absurd (off (d.1 p))), (λ f. cc))), (λ h. refl))
  where
    off : false ≡ true → ⊥
    off e = cc

-- ---- neighbours and half-edges

module _ (m : Molecule) (is : IsMolecule m) where
  pub half_to : (a b : ℕ) → are_joined m.bonds a b ≡ true → (i : ℕ) × (half : HalfEdge) × (slice_get (half_edges m a) i ≡ Some half) × (half.to.0 ≡ b)
  half_to a b joined =
      let ends = joined_ends (length m.atoms) m.bonds a b is.bonds joined in
      leads_to (half_edges m a) b (are_joined-half_edges m a b ends.different ∙ joined)

  pub half_joins : (a i : ℕ) (half : HalfEdge) → slice_get (half_edges m a) i ≡ Some half → are_joined m.bonds a half.to.0 ≡ true
  half_joins a i half at = let t = all_have_twins m (record { 0 = a }) is i half at in joined_at m.bonds half.bond.0 t.bond a half.to.0 t.is_bond t.joined

  -- ---- rays

  module _ (drawing : List Point) where
    abbrev pub Differ : ℕ → Type 0
    Differ a = ((b : ℕ) → are_joined m.bonds a b ≡ true → is_zero (ray_of drawing a b) ≡ false)
        × ((b c : ℕ) → are_joined m.bonds a b ≡ true → are_joined m.bonds a c ≡ true → b ≢ c → have_one_direction (ray_of drawing a b) (ray_of drawing a c) ≡ false)

    abbrev Goes : ℕ → HalfEdge → Type 0
    Goes a g = (is_zero (ray_of drawing a g.to.0) ≡ false) × ((j : ℕ) (h : HalfEdge) → slice_get (half_edges m a) j ≡ Some h → g.to.0 ≢ h.to.0 → have_one_direction (ray_of drawing a g.to.0) (ray_of drawing a h.to.0) ≡ false)

    goes : (a : ℕ) (g : HalfEdge) → Decides (ray_differs drawing a (half_edges m a) g) (Goes a g)
    goes a g = Decides-and (not (is_zero (ray_of drawing a g.to.0))) (list_all (λ (h : HalfEdge). goes_apart drawing a g h) (half_edges m a))
        (fails (is_zero (ray_of drawing a g.to.0)))
        (each_of (λ (h : HalfEdge). goes_apart drawing a g h) (λ (h : HalfEdge). g.to.0 ≢ h.to.0 → have_one_direction (ray_of drawing a g.to.0) (ray_of drawing a h.to.0) ≡ false)
        (λ h. unless g.to.0 h.to.0 (not (have_one_direction (ray_of drawing a g.to.0) (ray_of drawing a h.to.0))) (fails (have_one_direction (ray_of drawing a g.to.0) (ray_of drawing a h.to.0)))) (half_edges m a))

    pub differ : (a : ℕ) → Decides (rays_differ drawing a (half_edges m a)) (Differ a)
    differ a = Decides-like (rays_differ drawing a (half_edges m a)) to from (each_of (λ (g : HalfEdge). ray_differs drawing a (half_edges m a) g) (Goes a) (goes a) (half_edges m a))
      where
        to : ((i : ℕ) (g : HalfEdge) → slice_get (half_edges m a) i ≡ Some g → Goes a g) → Differ a
        to all = (
          (λ b joined. let h = half_to a b joined in subst (λ (x : ℕ). is_zero (ray_of drawing a x) ≡ false) h.3 (all h.0 h.1 h.2).0),
          (λ b c to_b to_c apart.
              let g = half_to a b to_b in
              let h = half_to a c to_c in
              subst (λ (x : ℕ). have_one_direction (ray_of drawing a x) (ray_of drawing a c) ≡ false) g.3
              (subst (λ (x : ℕ). have_one_direction (ray_of drawing a g.1.to.0) (ray_of drawing a x) ≡ false) h.3
              ((all g.0 g.1 g.2).1 h.0 h.1 h.2 (λ e. apart (sym g.3 ∙ e ∙ h.3))))),
        )

        from : Differ a → (i : ℕ) (g : HalfEdge) → slice_get (half_edges m a) i ≡ Some g → Goes a g
        from all i g at = (all.0 g.to.0 (half_joins a i g at), λ j h at_h apart. all.1 g.to.0 h.to.0 (half_joins a i g at) (half_joins a j h at_h) apart)

    -- ---- sides

    module _ (k u w : ℕ) where
      abbrev Opposite : HalfEdge → HalfEdge → Type 0
      Opposite g h = h.bond.0 ≢ k → g.to.0 ≢ h.to.0 → side_at drawing u w g.to.0 ≡ flipped (side_at drawing u w h.to.0)

      abbrev Beside : ℕ → HalfEdge → Type 0
      Beside a g = g.bond.0 ≢ k → (side_at drawing u w g.to.0 ≢ Null) × ((j : ℕ) (h : HalfEdge) → slice_get (half_edges m a) j ≡ Some h → Opposite g h)

      abbrev Parted : ℕ → Type 0
      Parted a = ((c : ℕ) → IsOther m k a c → side_at drawing u w c ≢ Null)
          × ((c d : ℕ) → c ≢ d → IsOther m k a c → IsOther m k a d → side_at drawing u w c ≡ flipped (side_at drawing u w d))

      beside : (a : ℕ) (g : HalfEdge) → Decides (is_parted drawing k u w (half_edges m a) g) (Beside a g)
      beside a g = unless g.bond.0 k (not (is_null (side_at drawing u w g.to.0)) && list_all (λ (h : HalfEdge). are_opposite drawing k u w g h) (half_edges m a))
          (Decides-and (not (is_null (side_at drawing u w g.to.0))) (list_all (λ (h : HalfEdge). are_opposite drawing k u w g h) (half_edges m a))
          (not_null (side_at drawing u w g.to.0))
          (each_of (λ (h : HalfEdge). are_opposite drawing k u w g h) (Opposite g)
          (λ h. unless h.bond.0 k ((g.to.0 == h.to.0) || same_sign (side_at drawing u w g.to.0) (flipped (side_at drawing u w h.to.0)))
          (unless g.to.0 h.to.0 (same_sign (side_at drawing u w g.to.0) (flipped (side_at drawing u w h.to.0))) (signs_equal (side_at drawing u w g.to.0) (flipped (side_at drawing u w h.to.0))))) (half_edges m a)))

      pub parted : (a : ℕ) → Decides (are_parted drawing k u w (half_edges m a)) (Parted a)
      parted a = Decides-like (are_parted drawing k u w (half_edges m a)) to from (each_of (λ (g : HalfEdge). is_parted drawing k u w (half_edges m a) g) (Beside a) (beside a) (half_edges m a))
        where
          to : ((i : ℕ) (g : HalfEdge) → slice_get (half_edges m a) i ≡ Some g → Beside a g) → Parted a
          to all = (
            (λ c o. subst (λ (x : ℕ). side_at drawing u w x ≢ Null) o.leads (all o.place o.half o.is_half o.other).0),
            (λ c d apart o q.
                subst (λ (x : ℕ). side_at drawing u w x ≡ flipped (side_at drawing u w d)) o.leads
                (subst (λ (x : ℕ). side_at drawing u w o.half.to.0 ≡ flipped (side_at drawing u w x)) q.leads
                ((all o.place o.half o.is_half o.other).1 q.place q.half q.is_half q.other (λ e. apart (sym o.leads ∙ e ∙ q.leads))))),
          )

          from : Parted a → (i : ℕ) (g : HalfEdge) → slice_get (half_edges m a) i ≡ Some g → Beside a g
          from all i g at other = (
            all.0 g.to.0 (record { place = i; half = g; is_half = at; other = other; leads = refl }),
            (λ j h at_h other_h apart. all.1 g.to.0 h.to.0 apart (record { place = i; half = g; is_half = at; other = other; leads = refl }) (record { place = j; half = h; is_half = at_h; other = other_h; leads = refl })),
          )

      abbrev Told : Sides → HalfEdge → HalfEdge → Type 0
      Told sides g h = h.bond.0 ≢ k → (side_at drawing u w g.to.0 ≡ side_at drawing u w h.to.0) ↔ (stand_together sides g.to.0 h.to.0 ≡ true)

      abbrev Together : Sides → Type 0
      Together sides = (c d : ℕ) → IsOther m k u c → IsOther m k w d → (side_at drawing u w c ≡ side_at drawing u w d) ↔ (stand_together sides c d ≡ true)

      told : (sides : Sides) (g : HalfEdge) → Decides (tells drawing k u w sides (half_edges m w) g) (g.bond.0 ≢ k → (j : ℕ) (h : HalfEdge) → slice_get (half_edges m w) j ≡ Some h → Told sides g h)
      told sides g = unless g.bond.0 k (list_all (λ (h : HalfEdge). is_told drawing k u w sides g h) (half_edges m w))
          (each_of (λ (h : HalfEdge). is_told drawing k u w sides g h) (Told sides g)
          (λ h. unless h.bond.0 k (turned (stand_together sides g.to.0 h.to.0) (same_sign (side_at drawing u w g.to.0) (side_at drawing u w h.to.0)))
          (agreed (same_sign (side_at drawing u w g.to.0) (side_at drawing u w h.to.0)) (stand_together sides g.to.0 h.to.0) (signs_equal (side_at drawing u w g.to.0) (side_at drawing u w h.to.0)))) (half_edges m w))

      pub together : (sides : Sides) → Decides (list_all (λ (g : HalfEdge). tells drawing k u w sides (half_edges m w) g) (half_edges m u)) (Together sides)
      together sides = Decides-like (list_all (λ (g : HalfEdge). tells drawing k u w sides (half_edges m w) g) (half_edges m u)) to from
          (each_of (λ (g : HalfEdge). tells drawing k u w sides (half_edges m w) g) (λ (g : HalfEdge). g.bond.0 ≢ k → (j : ℕ) (h : HalfEdge) → slice_get (half_edges m w) j ≡ Some h → Told sides g h) (told sides) (half_edges m u))
        where
          to : ((i : ℕ) (g : HalfEdge) → slice_get (half_edges m u) i ≡ Some g → g.bond.0 ≢ k → (j : ℕ) (h : HalfEdge) → slice_get (half_edges m w) j ≡ Some h → Told sides g h) → Together sides
          to all c d o q =
              subst (λ (x : ℕ). (side_at drawing u w x ≡ side_at drawing u w d) ↔ (stand_together sides x d ≡ true)) o.leads
              (subst (λ (x : ℕ). (side_at drawing u w o.half.to.0 ≡ side_at drawing u w x) ↔ (stand_together sides o.half.to.0 x ≡ true)) q.leads
              (all o.place o.half o.is_half o.other q.place q.half q.is_half q.other))

          from : Together sides → (i : ℕ) (g : HalfEdge) → slice_get (half_edges m u) i ≡ Some g → g.bond.0 ≢ k → (j : ℕ) (h : HalfEdge) → slice_get (half_edges m w) j ≡ Some h → Told sides g h
          from all i g at other j h at_h other_h = all g.to.0 h.to.0 (record { place = i; half = g; is_half = at; other = other; leads = refl }) (record { place = j; half = h; is_half = at_h; other = other_h; leads = refl })

    -- ---- centres

    module _ (a : ℕ) (g : HalfEdge) where
      abbrev Between : HalfEdge → HalfEdge → Type 0
      Between b d = (b.to.0 ≢ g.to.0) × ((d.to.0 ≢ g.to.0) × ((b.to.0 ≢ d.to.0) × (is_middle (ray_of drawing a b.to.0) (ray_of drawing a g.to.0) (ray_of drawing a d.to.0) ≡ true)))

      abbrev HasMiddle : Type 0
      HasMiddle = (i : ℕ) × (b : HalfEdge) × (slice_get (half_edges m a) i ≡ Some b) × ((j : ℕ) × (d : HalfEdge) × (slice_get (half_edges m a) j ≡ Some d) × Between b d)

      between : (b d : HalfEdge) → Decides (is_middle_of drawing a g b d) (Between b d)
      between b d =
          let last = Decides-and (not (b.to.0 == d.to.0)) (is_middle (ray_of drawing a b.to.0) (ray_of drawing a g.to.0) (ray_of drawing a d.to.0)) (differs b.to.0 d.to.0) ((λ e. e), (λ e. e)) in
          Decides-and (not (b.to.0 == g.to.0)) (not (d.to.0 == g.to.0) && (not (b.to.0 == d.to.0) && is_middle (ray_of drawing a b.to.0) (ray_of drawing a g.to.0) (ray_of drawing a d.to.0)))
          (differs b.to.0 g.to.0)
          (Decides-and (not (d.to.0 == g.to.0)) (not (b.to.0 == d.to.0) && is_middle (ray_of drawing a b.to.0) (ray_of drawing a g.to.0) (ray_of drawing a d.to.0)) (differs d.to.0 g.to.0) last)

      middle : Decides (has_middle_ray drawing a (half_edges m a) g) HasMiddle
      middle = some_of (λ (b : HalfEdge). list_any (λ (d : HalfEdge). is_middle_of drawing a g b d) (half_edges m a)) (λ (b : HalfEdge). (j : ℕ) × (d : HalfEdge) × (slice_get (half_edges m a) j ≡ Some d) × Between b d)
          (λ b. some_of (λ (d : HalfEdge). is_middle_of drawing a g b d) (Between b) (between b) (half_edges m a)) (half_edges m a)

      pub carries : Decides (not ((length (half_edges m a) == 3) && has_middle_ray drawing a (half_edges m a) g)) (MayCarry m drawing a g.to.0)
      carries = Decides-like (not ((length (half_edges m a) == 3) && has_middle_ray drawing a (half_edges m a) g)) to from
          (Decides-not ((length (half_edges m a) == 3) && has_middle_ray drawing a (half_edges m a) g)
          (Decides-and (length (half_edges m a) == 3) (has_middle_ray drawing a (half_edges m a) g) (equals (length (half_edges m a)) 3) middle))
        where
          to : ¬ ((length (half_edges m a) ≡ 3) × HasMiddle) → MayCarry m drawing a g.to.0
          to none three b d to_b to_d not_b not_d apart = elim (cases_Bool (is_middle (ray_of drawing a b) (ray_of drawing a g.to.0) (ray_of drawing a d))) [
            | inr off ↦ off
            | inl on ↦
                let h = half_to a b to_b in
                let r = half_to a d to_d in
                absurd (none (
                  three,
                  (
                    h.0,
                    h.1,
                    h.2,
                    (
                      r.0,
                      r.1,
                      r.2,
                      (
                        (λ e. not_b (sym h.3 ∙ e)),
                        (
                          (λ e. not_d (sym r.3 ∙ e)),
                          (
                            (λ e. apart (sym h.3 ∙ e ∙ r.3)),
                            subst (λ (x : ℕ). is_middle (ray_of drawing a x) (ray_of drawing a g.to.0) (ray_of drawing a r.1.to.0) ≡ true) (sym h.3)
                                (subst (λ (x : ℕ). is_middle (ray_of drawing a b) (ray_of drawing a g.to.0) (ray_of drawing a x) ≡ true) (sym r.3) on),
                          ),
                        ),
                      ),
                    ),
                  ),
                ))
          ]

          from : MayCarry m drawing a g.to.0 → ¬ ((length (half_edges m a) ≡ 3) × HasMiddle)
          from may (three, (i, b, at_b, (j, d, at_d, (not_b, (not_d, (apart, on)))))) =
              let off = may three b.to.0 d.to.0 (half_joins a i b at_b) (half_joins a j d at_d) not_b not_d apart in
              cc

    -- a single bond that may carry the wedge
    usable : (a : ℕ) (g : HalfEdge) → Decides (is_usable m.bonds drawing a (half_edges m a) g) ((has_order m.bonds g.bond.0 1 ≡ true) × MayCarry m drawing a g.to.0)
    usable a g = Decides-and (has_order m.bonds g.bond.0 1) (not ((length (half_edges m a) == 3) && has_middle_ray drawing a (half_edges m a) g)) ((λ e. e), (λ e. e)) (carries a g)

    order_of : (o : Option Bond) (n : ℕ) (bond : Bond) → o ≡ Some bond → order_is o n ≡ true → bond.order ≡ n
    order_of None n bond e f = cc
    order_of (Some b) n bond e f = let same = same_Some b bond e in let is_n : b.order ≡ n = grind (arith, nat_tests) in sym (ap (λ (y : Bond). y.order) same) ∙ is_n

    of_order : (o : Option Bond) (n : ℕ) (bond : Bond) → o ≡ Some bond → bond.order ≡ n → order_is o n ≡ true
    of_order None n bond e f = cc
    of_order (Some b) n bond e f = let same : b.order ≡ n = ap (λ (y : Bond). y.order) (same_Some b bond e) ∙ f in grind (arith, nat_tests)

    pub two_usable : (a : ℕ) → Decides (nat_le 2 (usable_count m.bonds drawing a (half_edges m a))) (HasTwoUsable m drawing a)
    two_usable a = (to, from)
      where
        one : (place : ℕ) (g : HalfEdge) → slice_get (half_edges m a) place ≡ Some g → is_usable m.bonds drawing a (half_edges m a) g ≡ true → IsUsable m drawing a place
        one place g at passes =
            let t = all_have_twins m (record { 0 = a }) is place g at in
            let both = (usable a g).0 passes in
            record { half = g; is_half = at; bond = t.bond; is_bond = t.is_bond; single = order_of (slice_get m.bonds g.bond.0) 1 t.bond t.is_bond both.0; may_carry = both.1 }

        to : nat_le 2 (usable_count m.bonds drawing a (half_edges m a)) ≡ true → HasTwoUsable m drawing a
        to e =
            let more : 2 ≤ usable_count m.bonds drawing a (half_edges m a) = grind (arith, nat_tests) in
            let two = find_two (λ (g : HalfEdge). is_usable m.bonds drawing a (half_edges m a) g) (half_edges m a) more in
            record { first = two.one.place; second = two.other.place; different = two.apart; one = one two.one.place two.one.item two.one.at two.one.passes; other = one two.other.place two.other.item two.other.at two.other.passes }

        passes : (place : ℕ) (u : IsUsable m drawing a place) → is_usable m.bonds drawing a (half_edges m a) u.half ≡ true
        passes place u = (usable a u.half).1 (of_order (slice_get m.bonds u.half.bond.0) 1 u.bond u.is_bond u.single, u.may_carry)

        from : HasTwoUsable m drawing a → nat_le 2 (usable_count m.bonds drawing a (half_edges m a)) ≡ true
        from h =
            let more : 2 ≤ usable_count m.bonds drawing a (half_edges m a) = two_apart (λ (g : HalfEdge). is_usable m.bonds drawing a (half_edges m a) g) (half_edges m a) h.first h.second h.one.half h.other.half h.different h.one.is_half h.other.is_half (passes h.first h.one) (passes h.second h.other) in
            grind (arith, nat_tests)

    abbrev pub CentreReads : ℕ → Type 0
    CentreReads a = (places : List Slot) → slice_get m.centres a ≡ Some (Some places) → HasTwoUsable m drawing a

    pub centre : (a : ℕ) → Decides (centre_reads m drawing a) (CentreReads a)
    centre a = by (slice_get m.centres a) refl
      where
        nothing : (o : Option (Option (List Slot))) (places : List Slot) → slice_get m.centres a ≡ o → slice_get m.centres a ≡ Some (Some places) → o ≡ Some (Some places)
        nothing o places e f = sym e ∙ f

        by : (o : Option (Option (List Slot))) → slice_get m.centres a ≡ o → Decides (centre_reads_by m drawing a o) (CentreReads a)
        by None e = ((λ t places f. absurd (clash (nothing None places e f))), (λ h. refl))
          where
            clash : {places : List Slot} → None ≡ Some (Some places) → ⊥
            clash g = cc
        by (Some None) e = ((λ t places f. absurd (clash (nothing (Some None) places e f))), (λ h. refl))
          where
            clash : {places : List Slot} → Some None ≡ Some (Some places) → ⊥
            clash g = cc
        by (Some (Some slots)) e = ((λ t places f. (two_usable a).0 t), (λ h. (two_usable a).1 (h slots e)))

    -- ---- bonds

    pub reads : (k u w : ℕ) (sides : Sides) → Decides (sides_read m drawing k u w sides) (ReadsAs m drawing k u w sides)
    reads k u w sides = Decides-like (sides_read m drawing k u w sides) to from
        (Decides-and (are_parted drawing k u w (half_edges m u)) (are_parted drawing k u w (half_edges m w) && list_all (λ (g : HalfEdge). tells drawing k u w sides (half_edges m w) g) (half_edges m u)) (parted k u w u)
        (Decides-and (are_parted drawing k u w (half_edges m w)) (list_all (λ (g : HalfEdge). tells drawing k u w sides (half_edges m w) g) (half_edges m u)) (parted k u w w) (together k u w sides)))
      where
        to : Parted k u w u × (Parted k u w w × Together k u w sides) → ReadsAs m drawing k u w sides
        to (first, (second, all)) = record { parted = record { beside_first = first.0; beside_second = second.0; opposite_first = first.1; opposite_second = second.1 }; together = all }

        from : ReadsAs m drawing k u w sides → Parted k u w u × (Parted k u w w × Together k u w sides)
        from r = let p = r.parted in ((p.beside_first, p.opposite_first), ((p.beside_second, p.opposite_second), r.together))

    abbrev pub BondReads : ℕ → Type 0
    BondReads k = (bond : Bond) (sides : Sides) → slice_get m.bonds k ≡ Some bond → slice_get m.sides k ≡ Some (Some sides) → ReadsAs m drawing k bond.first.0 bond.second.0 sides

    pub bond : (k : ℕ) → Decides (bond_reads m drawing k) (BondReads k)
    bond k = by (slice_get m.bonds k) (slice_get m.sides k) refl refl
      where
        by : (b : Option Bond) (s : Option (Option Sides)) → slice_get m.bonds k ≡ b → slice_get m.sides k ≡ s → Decides (bond_reads_by m drawing k b s) (BondReads k)
        by None s e f = ((λ t bond sides at_k at_s. absurd (clash bond (sym e ∙ at_k))), (λ h. refl))
          where
            clash : (bond : Bond) → None ≡ Some bond → ⊥
            clash bond g = cc
        by (Some b) None e f = ((λ t bond sides at_k at_s. absurd (clash sides (sym f ∙ at_s))), (λ h. refl))
          where
            clash : (sides : Sides) → None ≡ Some (Some sides) → ⊥
            clash sides g = cc
        by (Some b) (Some None) e f = ((λ t bond sides at_k at_s. absurd (clash sides (sym f ∙ at_s))), (λ h. refl))
          where
            clash : (sides : Sides) → Some None ≡ Some (Some sides) → ⊥
            clash sides g = cc
        by (Some b) (Some (Some s)) e f = (
          (λ t bond sides at_k at_s. subst (λ (x : Bond). ReadsAs m drawing k x.first.0 x.second.0 sides) (same_Some b bond (sym e ∙ at_k))
              (subst (λ (x : Sides). ReadsAs m drawing k b.first.0 b.second.0 x) (same_Some s sides (same_Some (Some s) (Some sides) (sym f ∙ at_s))) ((reads k b.first.0 b.second.0 s).0 t))),
          (λ h. (reads k b.first.0 b.second.0 s).1 (h b s e f)),
        )
