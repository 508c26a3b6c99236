-- The number of an entry is read from the columns that a line has.
use Rattle.std.proofs.Common.{arith, suc, ◌*◌, ◌≤◌, ◌<◌, Some, sym, subst, ◌≡◌, ◌∙◌, ℕ, ◌+◌, ◌-◌, List, length, Bool, Option, None, ap, ℤ, if◌then◌else◌}
use Rattle.std.proofs.Common.{w32, w64, FitsSigned, to_z, of_z, false}
use Rattle.std.proofs.lemmas.Int.{fits_signed_from_abs, to_z-of_z}
use Rattle.std.specs.Prelude.{IfSome, unsigned_abs}
use Rattle.mc_digits.specs.Fronts.{count_of}
use Rattle.ct_sd.specs.Columns.{columns, cut, is_blank_text}
use Rattle.ct_sd.proofs.Bounds.{HasAtMost, count_small}
use Rattle.ct_sd.proofs.Reading.{few_columns}
use Rattle.ct_sd.proofs.Padding.{count_padded, blanks_behind}
use Rattle.mc_base.specs.declared.kind.Kind.{Kind}
use Rattle.ct_sd.specs.declared.fault.Fault.{Fault}
use Rattle.ct_sd.specs.Faults.{first_of, faults_at}
use Rattle.ct_sd.proofs.First.{first_of_two}
use Rattle.ct_v2000.specs.Properties.{entry_number, entry_at, entries_from, each_shows}
use Rattle.ct_v2000.specs.Replaced.{said_for, last_entry}

pub number_is : (from to : ℕ) (line : List ℕ) → entry_number (columns from to line) ≡ entry_number (cut from to line)
unfolding entry_number
number_is from to line =
    ap (λ (t : Bool). if t then None else count_of (columns from to line)) (blanks_behind (cut from to line) (to + 1 - from - length (cut from to line)))
    ∙ ap (λ (n : Option ℤ). if is_blank_text (cut from to line) then None else n) (count_padded (cut from to line) (to + 1 - from - length (cut from to line)))

pub count_is : (from to : ℕ) (line : List ℕ) → count_of (columns from to line) ≡ count_of (cut from to line)
count_is from to line = count_padded (cut from to line) (to + 1 - from - length (cut from to line))

-- one more entry, by the number of the entries that are read
pub entries_more : (line : List ℕ) (e count k : ℕ) (old new all : Option ℤ) → e < count
    → new ≡ said_for (k + 1) (entry_at (10 + 8 * e) line).atom (entry_at (10 + 8 * e) line).value old
    → last_entry (k + 1) old (entries_from (count - e) (10 + 8 * e) line) ≡ all
    → last_entry (k + 1) new (entries_from (count - (e + 1)) (10 + 8 * (e + 1)) line) ≡ all
entries_more line e count k old new all less set before =
    ap (λ (b : Option ℤ). last_entry (k + 1) b (entries_from (count - (e + 1)) (10 + 8 * (e + 1)) line)) set
    ∙ (ap (λ (m : ℕ). last_entry (k + 1) (said_for (k + 1) (entry_at (10 + 8 * e) line).atom (entry_at (10 + 8 * e) line).value old) (entries_from (count - (e + 1)) m line)) (let q : 10 + 8 * (e + 1) ≡ 10 + 8 * e + 8 = omega arith in q)
    ∙ (ap (λ (m : ℕ). last_entry (k + 1) old (entries_from m (10 + 8 * e) line)) (let q : suc (count - (e + 1)) ≡ count - e = omega arith in q) ∙ before))

-- what one more entry shows
pub shows_more : (shows : ℕ → List ℕ → List Kind) (line : List ℕ) (e count k : ℕ) (f0 f1 all : Option Fault) → e < count
    → f1 ≡ first_of f0 (faults_at k (shows (10 + 8 * e) line))
    → first_of f0 (faults_at k (each_shows shows (count - e) (10 + 8 * e) line)) ≡ all
    → first_of f1 (faults_at k (each_shows shows (count - (e + 1)) (10 + 8 * (e + 1)) line)) ≡ all
shows_more shows line e count k f0 f1 all less noted before =
    ap (λ (f : Option Fault). first_of f (faults_at k (each_shows shows (count - (e + 1)) (10 + 8 * (e + 1)) line))) noted
    ∙ (ap (λ (m : ℕ). first_of (first_of f0 (faults_at k (shows (10 + 8 * e) line))) (faults_at k (each_shows shows (count - (e + 1)) m line))) (let q : 10 + 8 * (e + 1) ≡ 10 + 8 * e + 8 = omega arith in q)
    ∙ (sym (first_of_two k f0 (shows (10 + 8 * e) line) (each_shows shows (count - (e + 1)) (10 + 8 * e + 8) line))
    ∙ (ap (λ (m : ℕ). first_of f0 (faults_at k (each_shows shows m (10 + 8 * e) line))) (let q : suc (count - (e + 1)) ≡ count - e = omega arith in q) ∙ before)))

-- what is left to show behind the last entry
pub shows_all : (shows : ℕ → List ℕ → List Kind) (line : List ℕ) (e count from k : ℕ) (f all : Option Fault) → count ≤ e
    → first_of f (faults_at k (each_shows shows (count - e) from line)) ≡ all → f ≡ all
shows_all shows line e count from k f all last before =
    sym (ap (λ (m : ℕ). first_of f (faults_at k (each_shows shows m from line))) (let q : count - e ≡ 0 = omega arith in q)) ∙ before

pub entries_all : (line : List ℕ) (e count from k : ℕ) (said all : Option ℤ) → count ≤ e
    → last_entry (k + 1) said (entries_from (count - e) from line) ≡ all → said ≡ all
entries_all line e count from k said all last before =
    sym (ap (λ (m : ℕ). last_entry (k + 1) said (entries_from m from line)) (let q : count - e ≡ 0 = omega arith in q)) ∙ before

pub cut_few : (from : ℕ) (line : List ℕ) (number : Option ℤ) → number ≡ count_of (cut from (from + 3) line) → IfSome number (λ (n : ℤ). unsigned_abs n < 10000)
cut_few from line number is = subst (λ (x : Option ℤ). IfSome x (λ (n : ℤ). unsigned_abs n < 10000)) (sym is) (as_if (count_of (cut from (from + 3) line)) (count_small (cut from (from + 3) line) 4 (subst (λ (m : ℕ). length (cut from (from + 3) line) ≤ m) (four from) (few_columns from (from + 3) line))))
  where
    four : (from : ℕ) → from + 3 + 1 - from ≡ 4
    four from = omega arith

    as_if : (number : Option ℤ) → HasAtMost 4 number → IfSome number (λ (n : ℤ). unsigned_abs n < 10000)
    as_if None small = tt
    as_if (Some n) small = small

-- ---- the number of an entry fits into a narrow type

few_fit : (n : ℤ) → unsigned_abs n < 10000 → FitsSigned w32 n
few_fit n few = let k : ℕ = unsigned_abs n in let h : k < 10000 = few in fits_signed_from_abs w32 n (let e : k < 2147483648 = omega arith in e)

few_fit_wide : (n : ℤ) → unsigned_abs n < 10000 → FitsSigned w64 n
few_fit_wide n few = let k : ℕ = unsigned_abs n in let h : k < 10000 = few in fits_signed_from_abs w64 n (let e : k < 9223372036854775808 = omega arith in e)

number_few : (from : ℕ) (line text : List ℕ) (n : ℤ) → text ≡ cut from (from + 3) line → Some n ≡ count_of text → unsigned_abs n < 10000
number_few from line text n t is = cut_few from line (Some n) (is ∙ ap count_of t)

pub narrow_fits : (from : ℕ) (line text : List ℕ) (n : ℤ) → text ≡ cut from (from + 3) line → Some n ≡ count_of text → FitsSigned w32 (to_z w64 (of_z w64 n))
narrow_fits from line text n t is =
    subst (λ (z : ℤ). FitsSigned w32 z) (sym (to_z-of_z w64 n (few_fit_wide n (number_few from line text n t is)))) (few_fit n (number_few from line text n t is))

pub narrow_is : (from : ℕ) (line text : List ℕ) (n : ℤ) → text ≡ cut from (from + 3) line → is_blank_text text ≡ false → Some n ≡ count_of text
    → Some (to_z w32 (of_z w32 (to_z w64 (of_z w64 n)))) ≡ entry_number (columns from (from + 3) line)
unfolding entry_number
narrow_is from line text n t some is =
    ap (λ (z : ℤ). Some (to_z w32 (of_z w32 z))) (to_z-of_z w64 n (few_fit_wide n (number_few from line text n t is)))
    ∙ (ap (λ (z : ℤ). Some z) (to_z-of_z w32 n (few_fit n (number_few from line text n t is)))
    ∙ (is
    ∙ (sym (ap (λ (b : Bool). if b then None else count_of text) some)
    ∙ (ap (λ (x : List ℕ). if is_blank_text x then None else count_of x) t ∙ sym (number_is from (from + 3) line)))))
