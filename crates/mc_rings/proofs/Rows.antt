-- Worked examples of the definitions.
use Rattle.std.proofs.Common.{◌≡◌, ℕ, true, false, [], ◌∷◌, Some, None, refl}
use Rattle.std.specs.Prelude.{pos}
use Rattle.mc_elements.specs.declared.element.Element.TheVariants.{C}
use Rattle.mc_mol.specs.declared.parts.Atom.{Atom}
use Rattle.mc_mol.specs.declared.parts.Bond.{Bond}
use Rattle.mc_mol.specs.Molecule.{Molecule}
use Rattle.mc_rings.specs.Centres.{may_be_centre}
use Rattle.mc_rings.specs.SidePlaces.{may_have_sides}

carbon : ℕ → Atom
carbon hydrogens = record { element = C; isotope = 0; charge = pos 0; hydrogens = hydrogens; class = 0 }

between : ℕ → ℕ → ℕ → Bond
between u v order = record { first = record { 0 = u }; second = record { 0 = v }; order = order }

butene : Molecule
unfolding carbon between
butene = record {
  atoms = carbon 3 ∷ carbon 1 ∷ carbon 1 ∷ carbon 3 ∷ [];
  bonds = between 0 1 1 ∷ between 1 2 2 ∷ between 2 3 1 ∷ [];
  centres = None ∷ None ∷ None ∷ None ∷ [];
  sides = None ∷ None ∷ None ∷ [];
}

-- two methyl groups at one end
methylbutene : Molecule
unfolding carbon between
methylbutene = record {
  atoms = carbon 3 ∷ carbon 0 ∷ carbon 1 ∷ carbon 3 ∷ carbon 3 ∷ [];
  bonds = between 0 1 1 ∷ between 1 2 2 ∷ between 2 3 1 ∷ between 1 4 1 ∷ [];
  centres = None ∷ None ∷ None ∷ None ∷ None ∷ [];
  sides = None ∷ None ∷ None ∷ None ∷ [];
}

sides_of_butene : may_have_sides butene (None ∷ None ∷ None ∷ []) 1 ≡ true
unfolding butene carbon between
sides_of_butene = refl

no_sides_of_a_single_bond : may_have_sides butene (None ∷ None ∷ None ∷ []) 0 ≡ false
unfolding butene carbon between
no_sides_of_a_single_bond = refl

no_sides_in_a_ring_of_seven : may_have_sides butene (Some 7 ∷ Some 7 ∷ Some 7 ∷ []) 1 ≡ false
unfolding butene carbon between
no_sides_in_a_ring_of_seven = refl

sides_in_a_ring_of_eight : may_have_sides butene (Some 8 ∷ Some 8 ∷ Some 8 ∷ []) 1 ≡ true
unfolding butene carbon between
sides_in_a_ring_of_eight = refl

no_sides_at_equal_leaves : may_have_sides methylbutene (None ∷ None ∷ None ∷ None ∷ []) 1 ≡ false
unfolding methylbutene carbon between
no_sides_at_equal_leaves = refl

-- three neighbours, one of them by a double bond: a centre only where that bond lies in no ring
centre_beside_a_double_bond : may_be_centre methylbutene (None ∷ None ∷ None ∷ None ∷ []) 1 ≡ true
unfolding methylbutene carbon between
centre_beside_a_double_bond = refl

no_centre_beside_a_double_bond_in_a_ring : may_be_centre methylbutene (None ∷ Some 5 ∷ None ∷ None ∷ []) 1 ≡ false
unfolding methylbutene carbon between
no_centre_beside_a_double_bond_in_a_ring = refl

no_centre_with_two_neighbours : may_be_centre butene (None ∷ None ∷ None ∷ []) 1 ≡ false
unfolding butene carbon between
no_centre_with_two_neighbours = refl
