-- What a bond line shows, part by part.
use Rattle.std.proofs.Common.{◌≡◌, ℕ, List, ◌++◌, Option, ap, sym, ◌∙◌}
use Rattle.ct_sd.specs.declared.fault.Fault.{Fault}
use Rattle.ct_sd.specs.Bonds.{Pair, type_shows}
use Rattle.ct_sd.specs.Faults.{first_of, faults_at}
use Rattle.ct_sd.specs.Fields.{after_fields}
use Rattle.ct_sd.proofs.First.{line_first, first_of_two}
use Rattle.ct_v2000.specs.BondLines.{bond_line_shows, bond_fields, ends_fields, kind_fields, pair_shows, pair_in, type_in}

-- the fields from left to right, the type, and then the pair
pub line_parts : (k atoms : ℕ) (line : List ℕ) (before : List Pair) (pair : Pair) (type : ℕ) (f0 f1 f2 f3 f4 : Option Fault)
    → pair ≡ pair_in line
    → type ≡ type_in line
    → f1 ≡ after_fields k line f0 ends_fields
    → f2 ≡ after_fields k line f1 kind_fields
    → f3 ≡ first_of f2 (faults_at k (type_shows type))
    → f4 ≡ first_of f3 (faults_at k (pair_shows atoms before pair))
    → f4 ≡ first_of f0 (faults_at k (bond_line_shows atoms before line))
unfolding bond_line_shows
line_parts k atoms line before pair type f0 f1 f2 f3 f4 p t e1 e2 e3 e4 =
    e4 ∙ (ap (λ (x : Pair). first_of f3 (faults_at k (pair_shows atoms before x))) p
    ∙ (ap (λ (f : Option Fault). first_of f (faults_at k (pair_shows atoms before (pair_in line))))
    (e3 ∙ (ap (λ (x : ℕ). first_of f2 (faults_at k (type_shows x))) t ∙ ap (λ (f : Option Fault). first_of f (faults_at k (type_shows (type_in line)))) (e2 ∙ ap (λ (f : Option Fault). after_fields k line f kind_fields) e1)))
    ∙ sym (line_first k line f0 bond_fields (type_shows (type_in line) ++ pair_shows atoms before (pair_in line))
    ∙ first_of_two k (after_fields k line f0 bond_fields) (type_shows (type_in line)) (pair_shows atoms before (pair_in line)))))
