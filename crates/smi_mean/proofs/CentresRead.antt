-- The centres of a skeleton are those of its text.
use Rattle.std.proofs.Common.{arith, ◌≡◌, ◌∙◌, ℕ, zero, suc, ◌+◌, List, [], ◌∷◌, ◌++◌, length, map, Bool, Option, Some, refl, ap}
use Rattle.std.specs.Prelude.{slice_get}
use Rattle.std.proofs.lemmas.Option.{slice_get_within}
use Rattle.mc_base.specs.declared.ids.AtomId.{AtomId}
use Rattle.mc_mol.specs.declared.parts.Slot.{Slot}
use Rattle.smi_graph.specs.declared.role.Role.{Role}
use Rattle.smi_graph.specs.declared.skel_atom.SkelAtom.{SkelAtom}
use Rattle.smi_graph.specs.RingSlots.{atom_id}
use Rattle.smi_graph.specs.Rules.{atoms_in, roles_in}
use Rattle.smi_graph.specs.Skeletons.{TextGraph, IsSkeleton}
use Rattle.smi_graph.specs.TextOrder.{neighbours, has_predecessor}
use Rattle.smi_graph.proofs.JoinedAtoms.{numbers_back}
use Rattle.smi_mean.specs.CentrePlaces.{places, places_by, centre_of}
use Rattle.smi_mean.specs.MeantCentres.{centre_at, centre_in, centres_in, centres_with, first_centres}
use Rattle.smi_mean.proofs.CentreLists.{text_places}

abbrev Centre : Type 0
Centre = Option (List Slot)

abbrev first : (ℕ → Centre) → ℕ → List Centre
first f zero = []
first f (suc n) = first f n ++ f n ∷ []

first_shift : (f : ℕ → Centre) (n : ℕ) → first f (suc n) ≡ f 0 ∷ first (λ k. f (suc k)) n
first_shift f zero = refl
first_shift f (suc n) = ap (λ (xs : List Centre). xs ++ f (suc n) ∷ []) (first_shift f n)

first_is : (graph : TextGraph) (n : ℕ) → first_centres graph n ≡ first (λ k. centre_at graph k) n
first_is graph zero = refl
first_is graph (suc n) = ap (λ (xs : List Centre). xs ++ centre_at graph n ∷ []) (first_is graph n)

by_atoms : (ks : List Role) (atoms : List SkelAtom) (j : ℕ) (f : ℕ → Centre)
    → ((k i : ℕ) (atom : SkelAtom) → slice_get atoms k ≡ Some atom → i ≡ j + k → f k ≡ centre_of atom.chiral (places ks i atom.hydrogens)) → first f (length atoms) ≡ centres_with ks j atoms
by_atoms ks [] j f each = refl
by_atoms ks (x ∷ atoms) j f each =
    first_shift f (length atoms)
    ∙ ap (λ (c : Centre). c ∷ first (λ k. f (suc k)) (length atoms)) (each 0 j x refl (omega arith))
    ∙ ap (λ (xs : List Centre). centre_of x.chiral (places ks j x.hydrogens) ∷ xs)
    (by_atoms ks atoms (suc j) (λ k. f (suc k)) (λ k i atom at e. each (suc k) i atom at (omega arith)))

pub centres_read : (text : List ℕ) (graph : TextGraph) → IsSkeleton text graph → centres_in graph ≡ centres_with (roles_in text) 0 (atoms_in text)
centres_read text graph is =
    first_is graph (length graph.atoms)
    ∙ by_atoms (roles_in text) graph.atoms 0 (λ k. centre_at graph k) (λ k i atom at e. each k atom at ∙ ap (λ (n : ℕ). centre_of atom.chiral (places (roles_in text) n atom.hydrogens)) (let same : k ≡ i = omega arith in same))
    ∙ ap (centres_with (roles_in text) 0) is.atoms
  where
    each : (k : ℕ) (atom : SkelAtom) → slice_get graph.atoms k ≡ Some atom → centre_at graph k ≡ centre_of atom.chiral (places (roles_in text) k atom.hydrogens)
    each k atom at =
        let ks : List Role = roles_in text in
        let less = slice_get_within graph.atoms k atom at in
        ap (λ (o : Option SkelAtom). centre_in o (slice_get graph.neighbours k) (slice_get graph.led k)) at
        ∙ ap (λ (l : Option (List AtomId)). centre_in (Some atom) l (slice_get graph.led k)) (is.neighbours.lists k less)
        ∙ ap (λ (d : Option Bool). centre_in (Some atom) (Some (map atom_id (neighbours k ks))) d) (is.neighbours.led k less)
        ∙ ap (λ (xs : List ℕ). centre_of atom.chiral (places_by (has_predecessor k ks) xs atom.hydrogens)) (numbers_back (neighbours k ks))
        ∙ ap (centre_of atom.chiral) (text_places ks k atom.hydrogens)
