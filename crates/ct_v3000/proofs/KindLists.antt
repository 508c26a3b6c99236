-- Kinds that a line shows, one behind the other.
use Rattle.std.proofs.Common.{◌≡◌, ◌∙◌, ℕ, List, ◌++◌, Option, ap, sym}
use Rattle.mc_base.specs.declared.kind.Kind.{Kind}
use Rattle.ct_sd.specs.declared.fault.Fault.{Fault}
use Rattle.ct_sd.specs.Faults.{first_of, faults_at}
use Rattle.ct_sd.proofs.First.{first_of_two}

pub two_shown : (k : ℕ) (xs ys : List Kind) (f0 f1 f2 : Option Fault) → f1 ≡ first_of f0 (faults_at k xs) → f2 ≡ first_of f1 (faults_at k ys) → f2 ≡ first_of f0 (faults_at k (xs ++ ys))
two_shown k xs ys f0 f1 f2 a b = b ∙ (ap (λ (f : Option Fault). first_of f (faults_at k ys)) a ∙ sym (first_of_two k f0 xs ys))

pub four_shown : (k : ℕ) (xs ys zs ws : List Kind) (f0 f1 f2 f3 f4 : Option Fault) → f1 ≡ first_of f0 (faults_at k xs) → f2 ≡ first_of f1 (faults_at k ys) → f3 ≡ first_of f2 (faults_at k zs) → f4 ≡ first_of f3 (faults_at k ws)
    → f4 ≡ first_of f0 (faults_at k (xs ++ (ys ++ (zs ++ ws))))
four_shown k xs ys zs ws f0 f1 f2 f3 f4 a b c d = two_shown k xs (ys ++ (zs ++ ws)) f0 f1 f4 a (two_shown k ys (zs ++ ws) f1 f2 f4 b (two_shown k zs ws f2 f3 f4 c d))
