-- Worked examples of the definitions.
use Rattle.std.proofs.Common.{◌≡◌, ℕ, Some, true, false, [], ◌∷◌, refl}
use Rattle.std.specs.Prelude.{pos}
use Rattle.mc_mol.specs.declared.parts.Bond.{Bond}
use Rattle.mc_mol.specs.declared.parts.HalfEdge.{HalfEdge}
use Rattle.mc_mol.specs.declared.parts.Slot.{Slot}
use Rattle.mc_mol.specs.declared.parts.Slot.TheVariants.{At, Rest}
use Rattle.mc_elements.specs.declared.element.Element.{Element}
use Rattle.mc_elements.specs.declared.element.Element.TheVariants.{H, C}
use Rattle.mc_mol.specs.declared.parts.Atom.{Atom}
use Rattle.mc_mol.specs.HalfEdges.{half_edges}
use Rattle.mc_mol.specs.Limits.{is_over, is_hydrogen_with_more}
use Rattle.mc_mol.specs.Permutations.{is_even_permutation}

between : ℕ → ℕ → Bond
between u v = record { first = record { 0 = u }; second = record { 0 = v }; order = 1 }

half : ℕ → ℕ → ℕ → HalfEdge
half b to twin = record { bond = record { 0 = b }; to = record { 0 = to }; twin = twin }

at : ℕ → Slot
at a = At (record { 0 = a })

-- a ring of three with a tail at atom 1: the middle half-edge of atom 1 leads to atom 2, whose first half-edge leads back
ring_with_tail : half_edges (record { atoms = []; bonds = between 0 1 ∷ between 1 2 ∷ between 0 2 ∷ between 1 3 ∷ []; centres = []; sides = [] }) 1
    ≡ half 0 0 0 ∷ half 1 2 0 ∷ half 3 3 0 ∷ []
unfolding between half
ring_with_tail = refl

ring_closed : half_edges (record { atoms = []; bonds = between 0 1 ∷ between 1 2 ∷ between 0 2 ∷ between 1 3 ∷ []; centres = []; sides = [] }) 2
    ≡ half 1 1 1 ∷ half 2 0 1 ∷ []
unfolding between half
ring_closed = refl

no_exchange : is_even_permutation (at 0 ∷ Rest ∷ at 2 ∷ at 3 ∷ []) (at 0 ∷ Rest ∷ at 2 ∷ at 3 ∷ []) ≡ true
unfolding at
no_exchange = refl

-- the rest counts as a place
one_exchange : is_even_permutation (at 0 ∷ Rest ∷ at 2 ∷ at 3 ∷ []) (Rest ∷ at 0 ∷ at 2 ∷ at 3 ∷ []) ≡ false
unfolding at
one_exchange = refl

turn_of_three : is_even_permutation (at 0 ∷ at 1 ∷ at 2 ∷ at 3 ∷ []) (at 0 ∷ at 2 ∷ at 3 ∷ at 1 ∷ []) ≡ true
unfolding at
turn_of_three = refl

turn_of_four : is_even_permutation (at 0 ∷ at 1 ∷ at 2 ∷ at 3 ∷ []) (at 1 ∷ at 2 ∷ at 3 ∷ at 0 ∷ []) ≡ false
unfolding at
turn_of_four = refl

-- fourteen bonds and hydrogens are the most; a hydrogen has none
plain : Element → ℕ → Atom
plain element hydrogens = record { element = element; isotope = 0; charge = pos 0; hydrogens = hydrogens; class = 0 }

at_the_limit : is_over (Some (plain C 4)) 10 ≡ false
unfolding plain
at_the_limit = refl

past_the_limit : is_over (Some (plain C 4)) 11 ≡ true
unfolding plain
past_the_limit = refl

hydrogen_alone : is_hydrogen_with_more (Some (plain H 0)) ≡ false
unfolding plain
hydrogen_alone = refl

hydrogen_with_one : is_hydrogen_with_more (Some (plain H 1)) ≡ true
unfolding plain
hydrogen_with_one = refl

carbon_with_some : is_hydrogen_with_more (Some (plain C 3)) ≡ false
unfolding plain
carbon_with_some = refl
