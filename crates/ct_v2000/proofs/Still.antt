-- One more line of a block.
use Rattle.std.proofs.Common.{arith, ◌≡◌, ◌∙◌, ℕ, suc, ◌+◌, ◌-◌, ◌≤◌, ◌<◌, List, [], ◌∷◌, ◌++◌, length, take, drop, get_or, Option, refl, ap, sym, append_assoc}
use Rattle.std.proofs.Math.Seq.{drop-cons}
use Rattle.std.proofs.lemmas.List.{append-nil}
use Rattle.ct_sd.specs.declared.fault.Fault.{Fault}
use Rattle.ct_sd.specs.declared.table.TableBond.{TableBond}
use Rattle.ct_sd.specs.Bonds.{Pair}
use Rattle.ct_sd.specs.Faults.{first_of, faults_at, faults_of_lines}
use Rattle.ct_sd.proofs.First.{first_of_joined}
use Rattle.ct_v2000.specs.declared.atom_line.AtomLine.{AtomLine}
use Rattle.ct_v2000.specs.AtomLines.{atom_line_of, atom_lines_of, atom_line_shows}
use Rattle.ct_v2000.specs.BondLines.{bond_of, bond_line_shows, bond_faults, pair_in}
use Rattle.ct_v2000.specs.Table.{bonds_from}
use Rattle.ct_v2000.specs.Blocks.{still}

pub still_more : (first n count : ℕ) (lines : List (List ℕ)) → n < count → first + count ≤ length lines
    → still first n count lines ≡ get_or lines (first + n) [] ∷ still first (n + 1) count lines
still_more first n count lines less within =
    ap (λ (m : ℕ). take m (drop (first + n) lines)) (let e : count - n ≡ suc (count - (n + 1)) = omega arith in e)
    ∙ (ap (λ (t : List (List ℕ)). take (suc (count - (n + 1))) t) (drop-cons lines (first + n) [] (omega arith))
    ∙ ap (λ (m : ℕ). get_or lines (first + n) [] ∷ take (count - (n + 1)) (drop m lines)) (let e : suc (first + n) ≡ first + (n + 1) = omega arith in e))

pub still_none : (first n count : ℕ) (lines : List (List ℕ)) → count ≤ n → still first n count lines ≡ []
still_none first n count lines over = ap (λ (m : ℕ). take m (drop (first + n) lines)) (let e : count - n ≡ 0 = omega arith in e)

pub still_whole : (first count : ℕ) (lines : List (List ℕ)) → still first 0 count lines ≡ take count (drop first lines)
still_whole first count lines =
    ap (λ (m : ℕ). take m (drop (first + 0) lines)) (let e : count - 0 ≡ count = omega arith in e)
    ∙ ap (λ (m : ℕ). take count (drop m lines)) (let e : first + 0 ≡ first = omega arith in e)

-- ---- atom lines

pub atoms_show_more : (n count : ℕ) (lines : List (List ℕ)) (line : List ℕ) (f0 f1 start : Option Fault) → n < count → 4 + count ≤ length lines
    → line ≡ get_or lines (4 + n) []
    → f1 ≡ first_of f0 (faults_at (5 + n) (atom_line_shows line))
    → first_of f0 (faults_of_lines atom_line_shows (5 + n) (still 4 n count lines)) ≡ start
    → first_of f1 (faults_of_lines atom_line_shows (5 + (n + 1)) (still 4 (n + 1) count lines)) ≡ start
atoms_show_more n count lines line f0 f1 start less within is noted before =
    ap (λ (f : Option Fault). first_of f (faults_of_lines atom_line_shows (5 + (n + 1)) (still 4 (n + 1) count lines))) (noted ∙ ap (λ (t : List ℕ). first_of f0 (faults_at (5 + n) (atom_line_shows t))) is)
    ∙ (sym (first_of_joined f0 (faults_at (5 + n) (atom_line_shows (get_or lines (4 + n) []))) (faults_of_lines atom_line_shows (5 + (n + 1)) (still 4 (n + 1) count lines)))
    ∙ (ap (λ (m : ℕ). first_of f0 (faults_at (5 + n) (atom_line_shows (get_or lines (4 + n) [])) ++ faults_of_lines atom_line_shows m (still 4 (n + 1) count lines))) (let e : 5 + (n + 1) ≡ 5 + n + 1 = omega arith in e)
    ∙ (ap (λ (t : List (List ℕ)). first_of f0 (faults_of_lines atom_line_shows (5 + n) t)) (sym (still_more 4 n count lines less within)) ∙ before)))

pub atoms_give_more : (n count : ℕ) (lines : List (List ℕ)) (line : List ℕ) (made all : List AtomLine) (given : AtomLine) → n < count → 4 + count ≤ length lines
    → line ≡ get_or lines (4 + n) []
    → given ≡ atom_line_of (5 + n) line
    → made ++ atom_lines_of (5 + n) (still 4 n count lines) ≡ all
    → (made ++ given ∷ []) ++ atom_lines_of (5 + (n + 1)) (still 4 (n + 1) count lines) ≡ all
atoms_give_more n count lines line made all given less within l is before =
    append_assoc made (given ∷ []) (atom_lines_of (5 + (n + 1)) (still 4 (n + 1) count lines))
    ∙ (ap (λ (t : AtomLine). made ++ t ∷ atom_lines_of (5 + (n + 1)) (still 4 (n + 1) count lines)) (is ∙ ap (λ (t : List ℕ). atom_line_of (5 + n) t) l)
    ∙ (ap (λ (m : ℕ). made ++ atom_line_of (5 + n) (get_or lines (4 + n) []) ∷ atom_lines_of m (still 4 (n + 1) count lines)) (let e : 5 + (n + 1) ≡ 5 + n + 1 = omega arith in e)
    ∙ (ap (λ (t : List (List ℕ)). made ++ atom_lines_of (5 + n) t) (sym (still_more 4 n count lines less within)) ∙ before)))

pub atoms_show_all : (n count : ℕ) (lines : List (List ℕ)) (f start : Option Fault) → count ≤ n → first_of f (faults_of_lines atom_line_shows (5 + n) (still 4 n count lines)) ≡ start → f ≡ start
atoms_show_all n count lines f start over last = sym (ap (λ (t : List (List ℕ)). first_of f (faults_of_lines atom_line_shows (5 + n) t)) (still_none 4 n count lines over)) ∙ last

pub atoms_give_all : (n count : ℕ) (lines : List (List ℕ)) (made all : List AtomLine) → count ≤ n → made ++ atom_lines_of (5 + n) (still 4 n count lines) ≡ all → made ≡ all
atoms_give_all n count lines made all over last = sym (ap (λ (t : List (List ℕ)). made ++ atom_lines_of (5 + n) t) (still_none 4 n count lines over) ∙ append-nil made) ∙ last

-- ---- bond lines

pub bonds_show_more : (atoms first n count : ℕ) (lines : List (List ℕ)) (line : List ℕ) (p0 p1 : List Pair) (f0 f1 start : Option Fault) → n < count → first + count ≤ length lines
    → line ≡ get_or lines (first + n) []
    → p1 ≡ p0 ++ pair_in line ∷ []
    → f1 ≡ first_of f0 (faults_at (first + n + 1) (bond_line_shows atoms p0 line))
    → first_of f0 (bond_faults atoms p0 (first + n + 1) (still first n count lines)) ≡ start
    → first_of f1 (bond_faults atoms p1 (first + (n + 1) + 1) (still first (n + 1) count lines)) ≡ start
bonds_show_more atoms first n count lines line p0 p1 f0 f1 start less within is joins noted before =
    ap (λ (p : List Pair). first_of f1 (bond_faults atoms p (first + (n + 1) + 1) (still first (n + 1) count lines))) (joins ∙ ap (λ (t : List ℕ). p0 ++ pair_in t ∷ []) is)
    ∙ (ap (λ (f : Option Fault). first_of f (bond_faults atoms (p0 ++ pair_in (get_or lines (first + n) []) ∷ []) (first + (n + 1) + 1) (still first (n + 1) count lines))) (noted ∙ ap (λ (t : List ℕ). first_of f0 (faults_at (first + n + 1) (bond_line_shows atoms p0 t))) is)
    ∙ (sym (first_of_joined f0 (faults_at (first + n + 1) (bond_line_shows atoms p0 (get_or lines (first + n) []))) (bond_faults atoms (p0 ++ pair_in (get_or lines (first + n) []) ∷ []) (first + (n + 1) + 1) (still first (n + 1) count lines)))
    ∙ (ap (λ (m : ℕ). first_of f0 (faults_at (first + n + 1) (bond_line_shows atoms p0 (get_or lines (first + n) [])) ++ bond_faults atoms (p0 ++ pair_in (get_or lines (first + n) []) ∷ []) m (still first (n + 1) count lines))) (let e : first + (n + 1) + 1 ≡ first + n + 1 + 1 = omega arith in e)
    ∙ (ap (λ (t : List (List ℕ)). first_of f0 (bond_faults atoms p0 (first + n + 1) t)) (sym (still_more first n count lines less within)) ∙ before))))

pub bonds_give_more : (first n count : ℕ) (lines : List (List ℕ)) (line : List ℕ) (made all : List TableBond) (given : TableBond) → n < count → first + count ≤ length lines
    → line ≡ get_or lines (first + n) []
    → given ≡ bond_of (first + n + 1) line
    → made ++ bonds_from (first + n + 1) (still first n count lines) ≡ all
    → (made ++ given ∷ []) ++ bonds_from (first + (n + 1) + 1) (still first (n + 1) count lines) ≡ all
bonds_give_more first n count lines line made all given less within l is before =
    append_assoc made (given ∷ []) (bonds_from (first + (n + 1) + 1) (still first (n + 1) count lines))
    ∙ (ap (λ (t : TableBond). made ++ t ∷ bonds_from (first + (n + 1) + 1) (still first (n + 1) count lines)) (is ∙ ap (λ (t : List ℕ). bond_of (first + n + 1) t) l)
    ∙ (ap (λ (m : ℕ). made ++ bond_of (first + n + 1) (get_or lines (first + n) []) ∷ bonds_from m (still first (n + 1) count lines)) (let e : first + (n + 1) + 1 ≡ first + n + 1 + 1 = omega arith in e)
    ∙ (ap (λ (t : List (List ℕ)). made ++ bonds_from (first + n + 1) t) (sym (still_more first n count lines less within)) ∙ before)))

pub bonds_show_all : (atoms first n count : ℕ) (lines : List (List ℕ)) (p : List Pair) (f start : Option Fault) → count ≤ n → first_of f (bond_faults atoms p (first + n + 1) (still first n count lines)) ≡ start → f ≡ start
bonds_show_all atoms first n count lines p f start over last = sym (ap (λ (t : List (List ℕ)). first_of f (bond_faults atoms p (first + n + 1) t)) (still_none first n count lines over)) ∙ last

pub bonds_give_all : (first n count : ℕ) (lines : List (List ℕ)) (made all : List TableBond) → count ≤ n → made ++ bonds_from (first + n + 1) (still first n count lines) ≡ all → made ≡ all
bonds_give_all first n count lines made all over last = sym (ap (λ (t : List (List ℕ)). made ++ bonds_from (first + n + 1) t) (still_none first n count lines over) ∙ append-nil made) ∙ last
