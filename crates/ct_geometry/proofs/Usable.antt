-- What a drawing gives for the half-edges of an atom.
use Rattle.std.proofs.Common.{◌≡◌, ℕ, Bool, true, false, ◌&&◌, not, ◌==◌, List, [], ◌∷◌, Some, length, slice_get, refl, sym, arith, inl, inr}
use Rattle.std.proofs.lemmas.Bool.{cases_eq}
use Rattle.std.proofs.lemmas.Bool.Decides.{nat_tests}
use Rattle.std.proofs.lemmas.Map.Keys.{any_passes_from_place}
use Rattle.mc_base.specs.declared.ids.AtomId.{AtomId}
use Rattle.mc_mol.specs.declared.drawing.Point.{Point}
use Rattle.mc_mol.specs.declared.parts.Bond.{Bond}
use Rattle.mc_mol.specs.declared.parts.HalfEdge.{HalfEdge}
use Rattle.mc_mol.specs.Molecule.{Molecule, joins, are_joined}
use Rattle.mc_mol.specs.HalfEdges.{half_edges}
use Rattle.mc_mol.specs.WellFormed.{IsMolecule}
use Rattle.mc_mol.proofs.Apart.{lead_apart}
use Rattle.mc_mol.proofs.Twins.{all_have_twins}
use Rattle.ct_geometry.specs.Turns.{have_one_direction}
use Rattle.ct_geometry.specs.Drawn.{IsDrawn, MayCarry, ray_of, rays_from}
use Rattle.ct_geometry.specs.Wedges.{coincide, coincides, is_middle_of, is_middle_one, others}
use Rattle.ct_geometry.proofs.Alone.{any_not}
use Rattle.ct_geometry.proofs.Apart.{Each, Other, Apart, apart_others, each_other, others_differ}

-- a half-edge leads to an atom that is joined
pub joined_of : (m : Molecule) (a i : ℕ) (half : HalfEdge) → IsMolecule m → slice_get (half_edges m a) i ≡ Some half → are_joined m.bonds a half.to.0 ≡ true
joined_of m a i half is at =
    let twin = all_have_twins m (record { 0 = a }) is i half at in
    any_passes_from_place (λ (bond : Bond). joins bond a half.to.0) m.bonds half.bond.0 twin.bond twin.is_bond twin.joined

other_way : (b : Bool) → b ≡ false → (true && b) ≡ false
other_way b e = e

-- neighbours stand apart
pub coincide_not : (m : Molecule) (drawing : List Point) (a : ℕ) → IsMolecule m → IsDrawn m drawing → coincide (half_edges m a) (rays_from drawing a) ≡ false
unfolding coincide
coincide_not m drawing a is drawn = any_not (λ (g : HalfEdge). coincides (half_edges m a) (rays_from drawing a) g) (half_edges m a) (λ i g at.
    let own = drawn.apart a g.to.0 (joined_of m a i g is at) in
    let none = any_not (λ (h : HalfEdge). not (g.to.0 == h.to.0) && have_one_direction (ray_of drawing a g.to.0) (ray_of drawing a h.to.0)) (half_edges m a) (λ j h at_h.
    elim (cases_eq g.to.0 h.to.0) [
      | inl same ↦ (let test : (g.to.0 == h.to.0) ≡ true = grind (arith, nat_tests) in rw test refl)
      | inr other ↦ (let test : (g.to.0 == h.to.0) ≡ false = grind (arith, nat_tests) in
          rw test (drawn.different a g.to.0 h.to.0 (joined_of m a i g is at) (joined_of m a j h is at_h) other))
    ]) in
    rw (own, none) refl)

-- a neighbour that may carry the wedge isn't the middle one, whatever the others are called
carried_by : (m : Molecule) (drawing : List Point) (a : ℕ) (w : AtomId) (ys : List AtomId) → length (half_edges m a) ≡ 3 → MayCarry m drawing a w.0
    → Each (λ (c : AtomId). are_joined m.bonds a c.0 ≡ true) ys → Each (Other w) ys → Apart ys → is_middle_of (rays_from drawing a) w ys ≡ false
carried_by m drawing a w [] three may joined other apart = refl
carried_by m drawing a w (p ∷ []) three may joined other apart = refl
carried_by m drawing a w (p ∷ q ∷ []) three may (join_p, (join_q, _)) (w_p, (w_q, _)) ((p_q, _), _) =
    may three p.0 q.0 join_p join_q (λ e. w_p (sym e)) (λ e. w_q (sym e)) p_q
carried_by m drawing a w (p ∷ q ∷ s ∷ more) three may joined other apart = refl

and_false : (b : Bool) → b ≡ false → (b && b) ≡ false
and_false b e = rw e refl

pub middle_not : (m : Molecule) (drawing : List Point) (a : ℕ) (w : AtomId) → IsMolecule m → MayCarry m drawing a w.0 → is_middle_one (half_edges m a) (rays_from drawing a) w ≡ false
unfolding is_middle_one
middle_not m drawing a w is may = elim (cases_eq (length (half_edges m a)) 3) [
  | inl three ↦
      let test : (length (half_edges m a) == 3) ≡ true = grind (arith, nat_tests) in
      let free = carried_by m drawing a w (others (half_edges m a) w) three may (each_other (λ (c : AtomId). are_joined m.bonds a c.0 ≡ true) (half_edges m a) w (λ i half at. joined_of m a i half is at))
      (others_differ (half_edges m a) w) (apart_others (half_edges m a) w (lead_apart m a is)) in
      rw test free
  | inr other ↦ (let test : (length (half_edges m a) == 3) ≡ false = grind (arith, nat_tests) in rw test refl)
]
