-- Centres of texts, worked by hand.
use Rattle.std.specs.Prelude.{◌≡◌, ℕ, List, [], ◌∷◌, Option, Some, None, codes}
use Rattle.std.proofs.Common.{refl}
use Rattle.mc_elements.specs.Elements.{element_of}
use Rattle.mc_mol.specs.declared.parts.Slot.{Slot}
use Rattle.mc_mol.specs.declared.parts.Slot.TheVariants.{Rest}
use Rattle.smi_graph.specs.Rules.{atoms_in, roles_in}
use Rattle.smi_mean.specs.CentrePlaces.{atom_slot}
use Rattle.smi_mean.specs.MeantCentres.{centres_with}

abbrev centres_of : List ℕ → List (Option (List Slot))
centres_of text = centres_with (roles_in text) 0 (atoms_in text)

-- a hydrogen stands behind the predecessor, and `@@` exchanges the last two
chain : centres_of (codes "N[C@@H](C)C(=O)O") ≡ None ∷ Some (atom_slot 0 ∷ Rest ∷ atom_slot 3 ∷ atom_slot 2 ∷ []) ∷ None ∷ None ∷ None ∷ None ∷ []
unfolding element_of
chain = refl

-- without a predecessor the hydrogen stands first
first : centres_of (codes "[C@@H](N)(C)C(=O)O") ≡ Some (Rest ∷ atom_slot 1 ∷ atom_slot 3 ∷ atom_slot 2 ∷ []) ∷ None ∷ None ∷ None ∷ None ∷ None ∷ []
unfolding element_of
first = refl

-- ring partners stand in the order of the numbers at the atom, `@TH1` is `@`
rings : centres_of (codes "[C@TH1]21(F)CCC1CC2") ≡ Some (atom_slot 6 ∷ atom_slot 4 ∷ atom_slot 1 ∷ atom_slot 2 ∷ []) ∷ None ∷ None ∷ None ∷ None ∷ None ∷ None ∷ []
unfolding element_of
rings = refl

-- three neighbours and no hydrogen: the rest stands where the hydrogen would; `@TH2` is `@@`
three : centres_of (codes "C[S@TH2](=O)CC") ≡ None ∷ Some (atom_slot 0 ∷ Rest ∷ atom_slot 3 ∷ atom_slot 2 ∷ []) ∷ None ∷ None ∷ None ∷ []
unfolding element_of
three = refl

-- a dot between the ends of a ring
dot : centres_of (codes "C1.[C@H]1(F)Cl") ≡ None ∷ Some (Rest ∷ atom_slot 0 ∷ atom_slot 2 ∷ atom_slot 3 ∷ []) ∷ None ∷ None ∷ []
unfolding element_of
dot = refl
