-- Names, as the code finds them.
use Rattle.std.proofs.Common.{◌≡◌, ◌∙◌, ℕ, refl, sym, ap, ◌==◌, not, List, Option, Some, None, length, slice_get}
use Rattle.std.specs.Prelude.{filter}
use Rattle.mc_mol.specs.declared.parts.Bond.{Bond}
use Rattle.mc_mol.specs.declared.parts.HalfEdge.{HalfEdge}
use Rattle.mc_mol.specs.declared.parts.Sides.{Sides}
use Rattle.mc_mol.specs.declared.parts.Slot.{Slot}
use Rattle.mc_mol.specs.Molecule.{Molecule}
use Rattle.mc_mol.specs.HalfEdges.{half_edges}
use Rattle.lay_place.specs.declared.asking.Named.{Named}
use Rattle.lay_place.specs.Wanted.{named_at, first_named}

pub name_centre : (m : Molecule) (k a : ℕ) (bond : Bond) (sides : Option Sides) (centre : Option (List Slot)) (slots : List Slot) (halves : List HalfEdge) (result : Option Named)
    → slice_get m.bonds k ≡ Some bond → slice_get m.sides k ≡ Some sides → sides ≡ None → slice_get m.centres a ≡ Some centre → centre ≡ Some slots → halves ≡ half_edges m a → length halves ≡ 3
    → result ≡ first_named (filter (λ (half : HalfEdge). not (half.bond.0 == k)) halves) → result ≡ named_at m k a
name_centre m k a bond sides centre slots halves result at_k at_sides none at_a some are three is =
    let long : length (half_edges m a) ≡ 3 = ap length (sym are) ∙ three in
    is ∙ ap (λ (hs : List HalfEdge). first_named (filter (λ (half : HalfEdge). not (half.bond.0 == k)) hs)) are ∙ sym (rw (at_k, at_sides, none, at_a, some, long) refl)
