-- The faults of the atoms of a table, noted one behind the other.
use Rattle.std.proofs.Common.{arith, ◌≡◌, ◌∙◌, ℕ, suc, ◌+◌, ◌<◌, List, [], ◌∷◌, ◌++◌, length, drop, get_or, Option, refl, ap, sym}
use Rattle.std.proofs.Math.Seq.{drop-cons}
use Rattle.mc_base.specs.declared.kind.Kind.{Kind}
use Rattle.mc_mol.specs.declared.parts.Bond.{Bond}
use Rattle.mc_mol.specs.Molecule.{bond_sum}
use Rattle.ct_sd.specs.declared.fault.Fault.{Fault}
use Rattle.ct_sd.specs.declared.table.TableAtom.{TableAtom}
use Rattle.ct_sd.specs.Faults.{first_of, faults_at}
use Rattle.ct_sd.proofs.First.{first_of_joined, first_of_two}
use Rattle.ct_geometry.specs.TableFaults.{atom_shows, atom_faults}

pub first_of_four : (k : ℕ) (first : Option Fault) (a b c d : List Kind)
    → first_of (first_of (first_of (first_of first (faults_at k a)) (faults_at k b)) (faults_at k c)) (faults_at k d) ≡ first_of first (faults_at k (a ++ (b ++ (c ++ d))))
first_of_four k first a b c d = sym
    (first_of_two k first a (b ++ (c ++ d))
    ∙ (first_of_two k (first_of first (faults_at k a)) b (c ++ d)
    ∙ first_of_two k (first_of (first_of first (faults_at k a)) (faults_at k b)) c d))

-- one more atom
pub atom_more : (bonds : List Bond) (atoms : List TableAtom) (k sum : ℕ) (d : TableAtom) (f0 f1 all : Option Fault) → k < length atoms
    → sum ≡ bond_sum bonds k
    → f1 ≡ first_of f0 (faults_at (k + 1) (atom_shows (get_or atoms k d) sum))
    → first_of f0 (atom_faults bonds k (drop k atoms)) ≡ all
    → first_of f1 (atom_faults bonds (k + 1) (drop (k + 1) atoms)) ≡ all
atom_more bonds atoms k sum d f0 f1 all less is noted before =
    ap (λ (f : Option Fault). first_of f (atom_faults bonds (k + 1) (drop (k + 1) atoms))) noted
    ∙ (ap (λ (s : ℕ). first_of (first_of f0 (faults_at (k + 1) (atom_shows (get_or atoms k d) s))) (atom_faults bonds (k + 1) (drop (k + 1) atoms))) is
    ∙ (sym (first_of_joined f0 (faults_at (k + 1) (atom_shows (get_or atoms k d) (bond_sum bonds k))) (atom_faults bonds (k + 1) (drop (k + 1) atoms)))
    ∙ (sym (ap (λ (t : List TableAtom). first_of f0 (atom_faults bonds k t)) (one_more k atoms d less)) ∙ before)))
  where
    one_more : (k : ℕ) (atoms : List TableAtom) (d : TableAtom) → k < length atoms → drop k atoms ≡ get_or atoms k d ∷ drop (k + 1) atoms
    one_more k atoms d less = drop-cons atoms k d less ∙ ap (λ (m : ℕ). get_or atoms k d ∷ drop m atoms) (let e : suc k ≡ k + 1 = omega arith in e)
