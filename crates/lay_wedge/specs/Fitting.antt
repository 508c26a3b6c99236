-- Which atoms of a molecule may be its centres, and with which lists (for the tests).
use Rattle.std.specs.Prelude.{◌≡◌, ℕ, ◌==◌, ◌&&◌, Bool, true, not, List, [], ◌∷◌, Option}
use Rattle.std.specs.List.{list_all, list_any}
use Rattle.mc_mol.specs.declared.parts.HalfEdge.{HalfEdge}
use Rattle.mc_mol.specs.declared.parts.Slot.{Slot}
use Rattle.mc_mol.specs.declared.parts.Slot.TheVariants.{At, Rest}
use Rattle.mc_mol.specs.Molecule.{Molecule}
use Rattle.mc_mol.specs.Permutations.{stands_in}
use Rattle.mc_rings.specs.Centres.{may_be_centre}
use Rattle.lay_wedge.specs.Plans.{IsCentre}

abbrev pub are_different : List Slot → Bool
are_different [] = true
are_different (p ∷ places) = not (stands_in places p) && are_different places

-- one of the half-edges leads to the place
abbrev pub leads_to : List HalfEdge → Slot → Bool
leads_to halves (At v) = list_any (λ (half : HalfEdge). half.to.0 == v.0) halves
leads_to halves Rest = true

-- the neighbours, and no other atoms
abbrev pub may_be_list : List HalfEdge → List Slot → Bool
may_be_list halves places = are_different places && (list_all (leads_to halves) places && list_all (λ (half : HalfEdge). stands_in places (At half.to)) halves)

-- where atom a is a centre it may be one
abbrev pub CentreFits : Molecule → List (Option ℕ) → ℕ → Type 0
CentreFits m sizes a = (places : List Slot) → IsCentre m a places → may_be_centre m sizes a ≡ true
