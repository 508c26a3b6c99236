-- Examples of marks as they are written, which close by computing.
use Rattle.std.proofs.Common.{◌≡◌, [], ◌∷◌, List, map, false, None, Option, Some, refl}
use Rattle.std.specs.Prelude.{codes, slice_get}
use Rattle.mc_elements.specs.Elements.{element_of}
use Rattle.mc_mol.specs.declared.parts.Slot.{Slot}
use Rattle.mc_mol.specs.declared.parts.Slot.TheVariants.{Rest}
use Rattle.mc_mol.specs.Permutations.{is_even_permutation}
use Rattle.mc_mol.specs.Same.{carried}
use Rattle.smi_lex.specs.Tokens.{kinds}
use Rattle.smi_mean.specs.CentrePlaces.{atom_slot}
use Rattle.smi_mean.specs.Meaning.{meaning}
use Rattle.smi_mean.specs.Written.{written_text, written_tokens}

-- one exchange of places each
behind_a_dot : written_tokens (meaning (codes "C1.[C@H]1(F)Cl")) ≡ kinds (codes "C[C@@H](F)Cl")
unfolding element_of
behind_a_dot = refl

rings : written_tokens (meaning (codes "[C@]21(F)CCC1CC2")) ≡ kinds (codes "[C@@]12(F)CCC1CC2")
unfolding element_of
rings = refl

-- partners stand in the order of their numbers at the atom
ring_list : slice_get (meaning (codes "[C@]21(F)CCC1CC2")).centres 0 ≡ Some (Some (atom_slot 6 ∷ atom_slot 4 ∷ atom_slot 1 ∷ atom_slot 2 ∷ []))
unfolding element_of
ring_list = refl

-- each its own text
hydrogen_second : written_text (meaning (codes "N[C@@H](C)C(=O)O")) ≡ codes "N[C@@H](C)C(=O)O"
unfolding element_of
hydrogen_second = refl

hydrogen_first : written_text (meaning (codes "[C@@H](N)(C)C(=O)O")) ≡ codes "[C@@H](N)(C)C(=O)O"
unfolding element_of
hydrogen_first = refl

-- the further place of three neighbours without a hydrogen
sulfoxide : written_text (meaning (codes "C[S@](=O)CC")) ≡ codes "C[S@](=O)CC"
unfolding element_of
sulfoxide = refl

sulfoxide_list : slice_get (meaning (codes "C[S@](=O)CC")).centres 1 ≡ Some (Some (atom_slot 0 ∷ Rest ∷ atom_slot 2 ∷ atom_slot 3 ∷ []))
unfolding element_of
sulfoxide_list = refl

-- a centre stands in brackets where a bare atom would do
in_brackets : written_text (meaning (codes "C[C@](F)(N)O")) ≡ codes "C[C@](F)(N)O"
unfolding element_of
in_brackets = refl

-- the long form of a mark
by_number : written_text (meaning (codes "N[C@TH2H](C)O")) ≡ codes "N[C@@H](C)O"
unfolding element_of
by_number = refl

abbrev places_of : Option (Option (List Slot)) → List Slot
places_of None = []
places_of (Some None) = []
places_of (Some (Some list)) = list

-- the same atoms in another order: not the same centre
not_the_same : is_even_permutation (places_of (slice_get (meaning (codes "N[C@@H](C)C(=O)O")).centres 1))
    (map (carried (record { 0 = 1 } ∷ record { 0 = 0 } ∷ record { 0 = 2 } ∷ record { 0 = 3 } ∷ record { 0 = 4 } ∷ record { 0 = 5 } ∷ []))
    (places_of (slice_get (meaning (codes "[C@@H](N)(C)C(=O)O")).centres 0))) ≡ false
unfolding element_of
not_the_same = refl
