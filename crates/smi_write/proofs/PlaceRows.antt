-- Examples of places and of their written order, which close by computing.
use Rattle.std.proofs.Common.{◌≡◌, [], ◌∷◌, false, Some, refl}
use Rattle.std.specs.Prelude.{codes}
use Rattle.mc_elements.specs.Elements.{element_of}
use Rattle.mc_mol.specs.declared.parts.Slot.TheVariants.{Rest}
use Rattle.smi_graph.specs.Rules.{roles_in}
use Rattle.smi_graph.specs.TextOrder.{neighbours}
use Rattle.smi_mean.specs.CentrePlaces.{atom_slot, places, exchanged}
use Rattle.smi_mean.specs.Meaning.{meaning}
use Rattle.smi_mean.specs.Order.{graph_of}
use Rattle.smi_mean.specs.WrittenPlaces.{written_neighbours, written_places, parity_mark}

-- partners stand in the order of their numbers at the atom, and not in that in which they close
ring_order : neighbours 0 (roles_in (codes "C21(F)CCC1CC2")) ≡ 6 ∷ 4 ∷ 1 ∷ 2 ∷ []
ring_order = refl

written_rings : written_neighbours (graph_of (meaning (codes "C21(F)CCC1CC2"))) 0 ≡ 4 ∷ 6 ∷ 1 ∷ 2 ∷ []
written_rings = refl

one_exchange : parity_mark (Some (places (roles_in (codes "C21(F)CCC1CC2")) 0 0)) (written_places (graph_of (meaning (codes "C21(F)CCC1CC2"))) 0 0) ≡ Some false
one_exchange = refl

-- a closing number stands behind the hydrogen, and a predecessor before it
behind_a_dot : places (roles_in (codes "C1.[CH]1(F)Cl")) 1 1 ≡ Rest ∷ atom_slot 0 ∷ atom_slot 2 ∷ atom_slot 3 ∷ []
unfolding element_of
behind_a_dot = refl

written_behind : written_places (graph_of (meaning (codes "C1.[CH]1(F)Cl"))) 1 1 ≡ atom_slot 0 ∷ Rest ∷ atom_slot 2 ∷ atom_slot 3 ∷ []
unfolding element_of
written_behind = refl

-- the rest is one of the four: the first two are exchanged, and so `@` is written as `@@`
rest_counts : parity_mark (Some (Rest ∷ atom_slot 0 ∷ atom_slot 2 ∷ atom_slot 3 ∷ [])) (atom_slot 0 ∷ Rest ∷ atom_slot 2 ∷ atom_slot 3 ∷ []) ≡ Some false
rest_counts = refl

hydrogen_second : places (roles_in (codes "N[CH](C)C(=O)O")) 1 1 ≡ atom_slot 0 ∷ Rest ∷ atom_slot 2 ∷ atom_slot 3 ∷ []
unfolding element_of
hydrogen_second = refl

-- three neighbours and no hydrogen
sulfoxide : places (roles_in (codes "CS(=O)CC")) 1 0 ≡ atom_slot 0 ∷ Rest ∷ atom_slot 2 ∷ atom_slot 3 ∷ []
sulfoxide = refl

-- partners in other parts, and a number of two digits
across_dots : neighbours 0 (roles_in (codes "C12(F)Cl.Br1.I2")) ≡ 3 ∷ 4 ∷ 1 ∷ 2 ∷ []
across_dots = refl

two_digits : neighbours 4 (roles_in (codes "C%12C1CCC1%12F")) ≡ 3 ∷ 1 ∷ 0 ∷ 5 ∷ []
two_digits = refl

last_two : exchanged (atom_slot 0 ∷ Rest ∷ atom_slot 2 ∷ atom_slot 3 ∷ []) ≡ atom_slot 0 ∷ Rest ∷ atom_slot 3 ∷ atom_slot 2 ∷ []
last_two = refl
