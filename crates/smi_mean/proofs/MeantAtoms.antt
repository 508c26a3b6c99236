-- The atoms of a molecule, by those of its text.
use Rattle.std.proofs.Common.{arith, ◌≡◌, ◌∙◌, ℕ, zero, suc, ◌+◌, List, [], ◌∷◌, length, Some, refl, ap}
use Rattle.std.specs.Prelude.{slice_get, option_map}
use Rattle.mc_mol.specs.declared.parts.Bond.{Bond}
use Rattle.mc_mol.specs.Molecule.{bond_sum}
use Rattle.smi_graph.specs.declared.skel_atom.SkelAtom.{SkelAtom}
use Rattle.smi_mean.specs.Meaning.{meant_atom, atoms_with}

pub meant_at : (bonds : List Bond) (j : ℕ) (all : List SkelAtom) (k : ℕ) → slice_get (atoms_with bonds j all) k ≡ option_map (λ a. meant_atom a (bond_sum bonds (j + k))) (slice_get all k)
meant_at bonds j [] k = refl
meant_at bonds j (a ∷ all) zero = let e : j ≡ j + 0 = omega arith in ap (λ (n : ℕ). Some (meant_atom a (bond_sum bonds n))) e
meant_at bonds j (a ∷ all) (suc k) =
    let e : j + 1 + k ≡ j + suc k = omega arith in
    meant_at bonds (j + 1) all k ∙ ap (λ (n : ℕ). option_map (λ x. meant_atom x (bond_sum bonds n)) (slice_get all k)) e

pub length_atoms : (bonds : List Bond) (j : ℕ) (all : List SkelAtom) → length (atoms_with bonds j all) ≡ length all
length_atoms bonds j [] = refl
length_atoms bonds j (a ∷ all) = let e = length_atoms bonds (j + 1) all in omega arith
