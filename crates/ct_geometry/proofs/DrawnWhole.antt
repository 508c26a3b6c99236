-- A drawing passes its tests exactly where it gives what it must.
use Rattle.std.proofs.Common.{◌≡◌, ◌≢◌, ◌∙◌, ◌↔◌, ℕ, zero, suc, ◌<◌, ◌≤◌, Bool, true, false, arith, refl, sym, ap, subst, inl, inr, ◌==◌, ◌&&◌, ◌||◌, List, [], ◌∷◌, Some, length, slice_get, get_or}
use Rattle.std.proofs.lemmas.Bool.{cases_Bool, and_parts}
use Rattle.std.proofs.lemmas.Bool.Decides.{nat_tests, Decides-and, Decides-like}
use Rattle.std.proofs.lemmas.Int.{ints}
use Rattle.std.proofs.lemmas.Option.{slice_get_within, slice_get-get_or, get_or_from_slice_get}
use Rattle.std.specs.Prelude.{◌≤ℤ◌, All, ℤ, pos, negsuc}
use Rattle.std.specs.List.{list_all, list_any}
use Rattle.std.specs.Bool.{Decides, IsTrue}
use Rattle.mc_mol.specs.declared.drawing.Point.{Point}
use Rattle.mc_mol.specs.declared.parts.Bond.{Bond}
use Rattle.mc_mol.specs.Molecule.{Molecule, are_joined}
use Rattle.mc_mol.specs.WellFormed.{IsMolecule}
use Rattle.mc_mol.specs.HalfEdges.{half_edges}
use Rattle.mc_mol.proofs.Neighbours.{joined_ends}
use Rattle.ct_geometry.specs.Bounds.{IsCoordinate, IsPlace, ArePlaces}
use Rattle.ct_geometry.specs.Drawn.{at, place, IsWithin, IsDrawn}
use Rattle.ct_geometry.specs.DrawnTests.{is_within, is_nought, is_placed, has_nought_x, has_nought_y, has_noughts, stands_right, rays_differ, centre_reads, atom_reads, ReadsRight}
use Rattle.ct_geometry.proofs.DrawnDecided.{each_of, some_of, unless, equals, Differ, differ, CentreReads, centre, BondReads, bond}

-- ---- coordinates

within : (z : ℤ) → Decides (is_within z) (IsWithin z)
within (pos n) = ((λ e. (n, refl, grind (arith, nat_tests))), (λ (k, same, few). let n_is : n ≡ k = cc in grind (arith, nat_tests)))
within (negsuc n) = ((λ e. cc), (λ (k, same, few). cc))

nought : (z : ℤ) → Decides (is_nought z) (z ≡ pos 0)
nought (pos n) = ((λ e. let none : n ≡ 0 = grind (arith, nat_tests) in ap pos none), (λ e. let none : n ≡ 0 = cc in grind (arith, nat_tests)))
nought (negsuc n) = ((λ e. cc), (λ e. cc))

abbrev Placed : Point → Type 0
Placed p = IsWithin p.x × IsWithin p.y

placed : (p : Point) → Decides (is_placed p) (Placed p)
placed p = Decides-and (is_within p.x) (is_within p.y) (within p.x) (within p.y)

coordinate : (z : ℤ) → IsWithin z → IsCoordinate z
coordinate (pos n) (k, same, few) = let n_is : n ≡ k = cc in record { low = omega (arith, ints); high = omega (arith, ints) }
coordinate (negsuc n) (k, same, few) = cc

pub drawn_places : (m : Molecule) (drawing : List Point) → stands_right m drawing ≡ true → ArePlaces drawing
drawn_places m drawing e i d small =
    let rest = (and_parts (length drawing == length m.atoms) (list_all is_placed drawing && has_noughts drawing) e).1 in
    let all = (and_parts (list_all is_placed drawing) (has_noughts drawing) rest).0 in
    let both = (each_of is_placed Placed placed drawing).0 all i (get_or drawing i d) (slice_get-get_or drawing i d small) in
    record { x = coordinate (get_or drawing i d).x both.0; y = coordinate (get_or drawing i d).y both.1 }

module _ (m : Molecule) (is : IsMolecule m) (drawing : List Point) where
  abbrev origin : Point
  origin = record { x = pos 0; y = pos 0 }

  abbrev OneIs : (Point → ℤ) → Type 0
  OneIs z = (a : ℕ) × (p : Point) × (slice_get drawing a ≡ Some p) × (z p ≡ pos 0)

  abbrev Least : Type 0
  Least = length drawing ≢ 0 → OneIs (λ p. p.x) × OneIs (λ p. p.y)

  least : Decides (has_noughts drawing) Least
  least = unless (length drawing) 0 (list_any has_nought_x drawing && list_any has_nought_y drawing)
      (Decides-and (list_any has_nought_x drawing) (list_any has_nought_y drawing)
      (some_of has_nought_x (λ (p : Point). p.x ≡ pos 0) (λ p. nought p.x) drawing) (some_of has_nought_y (λ (p : Point). p.y ≡ pos 0) (λ p. nought p.y) drawing))

  abbrev AllPlaced : Type 0
  AllPlaced = (i : ℕ) (p : Point) → slice_get drawing i ≡ Some p → Placed p

  abbrev StandsRight : Type 0
  StandsRight = (length drawing ≡ length m.atoms) × (AllPlaced × Least)

  stands : Decides (stands_right m drawing) StandsRight
  stands = Decides-and (length drawing == length m.atoms) (list_all is_placed drawing && has_noughts drawing) (equals (length drawing) (length m.atoms))
      (Decides-and (list_all is_placed drawing) (has_noughts drawing) (each_of is_placed Placed placed drawing) least)

  atom : (a : ℕ) → Decides (atom_reads m drawing a) (Differ m is drawing a × CentreReads m is drawing a)
  atom a = Decides-and (rays_differ drawing a (half_edges m a)) (centre_reads m drawing a) (differ m is drawing a) (centre m is drawing a)

  pub drawn : stands_right m drawing ≡ true → ReadsRight m drawing → IsDrawn m drawing
  drawn right (atoms, bonds) = record {
    count = count;
    within = λ a small. let same = count in all a (get_or drawing a origin) (slice_get-get_or drawing a origin (omega arith));
    least_x = λ some. let same = count in one (λ p. p.x) (noughts (λ e. absurd (omega arith))).0;
    least_y = λ some. let same = count in one (λ p. p.y) (noughts (λ e. absurd (omega arith))).1;
    apart = λ a b joined. (at_atom a b joined).0.0 b joined;
    different = λ a b c to_b to_c apart. (at_atom a b to_b).0.1 b c to_b to_c apart;
    sides = λ k line sides at_k at_s. (bond m is drawing k).0 (bonds k (slice_get_within m.bonds k line at_k)) line sides at_k at_s;
    centres = λ a slots at_a.
        let small = slice_get_within m.centres a (Some slots) at_a in
        let centre_count = is.centre_count in
        ((atom a).0 (atoms a (omega arith))).1 slots at_a;
  }
    where
      count : length drawing ≡ length m.atoms
      count = (stands.0 right).0

      all : AllPlaced
      all = (stands.0 right).1.0

      noughts : Least
      noughts = (stands.0 right).1.1

      one : (z : Point → ℤ) → OneIs z → (a : ℕ) × (a < length m.atoms) × (z (get_or drawing a origin) ≡ pos 0)
      one z (a, p, at_a, zero_there) =
          let small = slice_get_within drawing a p at_a in
          let same = count in
          (a, omega arith, ap z (get_or_from_slice_get drawing a p origin at_a) ∙ zero_there)

      at_atom : (a b : ℕ) → are_joined m.bonds a b ≡ true → Differ m is drawing a × CentreReads m is drawing a
      at_atom a b joined = let ends = joined_ends (length m.atoms) m.bonds a b is.bonds joined in (atom a).0 (atoms a ends.first)

  pub stands_if : IsDrawn m drawing → stands_right m drawing ≡ true
  stands_if d = stands.1 (d.count, (all, noughts))
    where
      all : AllPlaced
      all i p at_i =
          let small = slice_get_within drawing i p at_i in
          let count = d.count in
          subst Placed (get_or_from_slice_get drawing i p origin at_i) (d.within i (omega arith))

      one : (z : Point → ℤ) → (a : ℕ) × (a < length m.atoms) × (z (get_or drawing a origin) ≡ pos 0) → OneIs z
      one z (a, small, e) = let count = d.count in (a, get_or drawing a origin, slice_get-get_or drawing a origin (omega arith), e)

      noughts : Least
      noughts some = let count = d.count in (one (λ p. p.x) (d.least_x (omega arith)), one (λ p. p.y) (d.least_y (omega arith)))

  pub reads_if : IsDrawn m drawing → ReadsRight m drawing
  reads_if d = (
    (λ a small. (atom a).1 (((λ b joined. d.apart a b joined), (λ b c to_b to_c apart. d.different a b c to_b to_c apart)), (λ slots at_a. d.centres a slots at_a))),
    (λ k small. (bond m is drawing k).1 (λ line sides at_k at_s. d.sides k line sides at_k at_s)),
  )

-- ---- the answers

pub not_drawn : (m : Molecule) (is : IsMolecule m) (drawing points : List Point) → points ≡ drawing → (right : Bool) → right ≡ stands_right m points → right ≡ false → (IsTrue false → IsDrawn m drawing) × (IsDrawn m drawing → IsTrue false)
not_drawn m is drawing points same right e off = ((λ t. absurd (clash t)), (λ d. sym off ∙ e ∙ ap (stands_right m) same ∙ stands_if m is drawing d))
  where
    clash : false ≡ true → ⊥
    clash t = cc

pub drawn_exactly : (m : Molecule) (is : IsMolecule m) (drawing points : List Point) → points ≡ drawing → (right : Bool) → right ≡ stands_right m points → right ≡ true
    → (reads : Bool) → IsTrue reads ↔ ReadsRight m points → (IsTrue reads → IsDrawn m drawing) × (IsDrawn m drawing → IsTrue reads)
drawn_exactly m is drawing points same right e on reads r = (
  (λ t. drawn m is drawing (sym (ap (stands_right m) same) ∙ sym e ∙ on) (subst (ReadsRight m) same (r.0 t))),
  (λ d. r.1 (subst (ReadsRight m) (sym same) (reads_if m is drawing d))),
)
