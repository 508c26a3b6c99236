-- One more line of the property block.
use Rattle.std.proofs.Common.{arith, ◌≡◌, ◌∙◌, ◌||◌, ℕ, suc, ◌+◌, ◌≤◌, ◌<◌, List, [], ◌∷◌, ◌++◌, length, drop, get_or, Bool, true, false, if◌then◌else◌, Option, None, ℤ, refl, ap, sym, subst}
use Rattle.std.proofs.Math.Seq.{drop-cons}
use Rattle.std.proofs.lemmas.List.{drop_all}
use Rattle.ct_sd.specs.declared.fault.Fault.{Fault}
use Rattle.ct_sd.specs.Columns.{is_end_line}
use Rattle.ct_sd.specs.Faults.{first_of, faults_at}
use Rattle.ct_sd.proofs.First.{first_of_joined}
use Rattle.ct_v2000.specs.declared.property.Property.{Property}
use Rattle.ct_v2000.specs.Properties.{Numbered, block, has_end, passes_next, property_of, property_line_shows, property_faults}
use Rattle.ct_v2000.specs.Replaced.{replaces_codes, replaces_differences, says_charges, some_line, said_by_line, last_said}
use Rattle.ct_v2000.specs.declared.said.Said.{Said}
use Rattle.ct_v2000.specs.Blocks.{ReadsBlock, LineRead}

-- the lines from this one on
one_more : (lines : List (List ℕ)) (k : ℕ) → k < length lines → drop k lines ≡ get_or lines k [] ∷ drop (k + 1) lines
one_more lines k less = drop-cons lines k [] less ∙ ap (λ (m : ℕ). get_or lines k [] ∷ drop m lines) (let e : suc k ≡ k + 1 = omega arith in e)

-- ---- whether the block has its end: a line that is passed, the end, any other line, and no line

pub passed_ends : (lines : List (List ℕ)) (k : ℕ) (passed all : Bool) → k < length lines → passed ≡ true → has_end passed (drop k lines) ≡ all → has_end false (drop (k + 1) lines) ≡ all
passed_ends lines k passed all less is same = sym (ap (has_end true) (one_more lines k less)) ∙ (ap (λ (p : Bool). has_end p (drop k lines)) (sym is) ∙ same)

pub end_ends : (lines : List (List ℕ)) (k : ℕ) (passed all : Bool) → k < length lines → passed ≡ false → is_end_line (get_or lines k []) ≡ true → has_end passed (drop k lines) ≡ all → true ≡ all
end_ends lines k passed all less is ends same =
    sym (ap (has_end false) (one_more lines k less) ∙ ap (λ (e : Bool). e || has_end (passes_next (get_or lines k [])) (drop (k + 1) lines)) ends) ∙ (ap (λ (p : Bool). has_end p (drop k lines)) (sym is) ∙ same)

pub other_ends : (lines : List (List ℕ)) (k : ℕ) (passed all : Bool) → k < length lines → passed ≡ false → is_end_line (get_or lines k []) ≡ false → has_end passed (drop k lines) ≡ all
    → has_end (passes_next (get_or lines k [])) (drop (k + 1) lines) ≡ all
other_ends lines k passed all less is goes_on same =
    sym (ap (has_end false) (one_more lines k less) ∙ ap (λ (e : Bool). e || has_end (passes_next (get_or lines k [])) (drop (k + 1) lines)) goes_on) ∙ (ap (λ (p : Bool). has_end p (drop k lines)) (sym is) ∙ same)

pub none_ends : (lines : List (List ℕ)) (k : ℕ) (passed all : Bool) → length lines ≤ k → has_end passed (drop k lines) ≡ all → false ≡ all
none_ends lines k passed all over same = sym (ap (has_end passed) (drop_all k lines over) ∙ nothing passed) ∙ same
  where
    nothing : (p : Bool) → has_end p [] ≡ false
    nothing p = refl

-- ---- the lines of the block that are still to be read

pub passed_block : (lines : List (List ℕ)) (k : ℕ) (passed : Bool) → k < length lines → passed ≡ true → block passed (k + 1) (drop k lines) ≡ block false (k + 1 + 1) (drop (k + 1) lines)
passed_block lines k passed less is = ap (λ (p : Bool). block p (k + 1) (drop k lines)) is ∙ ap (block true (k + 1)) (one_more lines k less)

pub end_block : (lines : List (List ℕ)) (k : ℕ) (passed : Bool) → k < length lines → passed ≡ false → is_end_line (get_or lines k []) ≡ true → block passed (k + 1) (drop k lines) ≡ []
end_block lines k passed less is ends =
    ap (λ (p : Bool). block p (k + 1) (drop k lines)) is ∙ (ap (block false (k + 1)) (one_more lines k less)
    ∙ ap (λ (e : Bool). if e then [] else record { at = k + 1; text = get_or lines k [] } ∷ block (passes_next (get_or lines k [])) (k + 1 + 1) (drop (k + 1) lines)) ends)

abbrev numbered : ℕ → List ℕ → Numbered
numbered k line = record { at = k; text = line }

pub other_block : (lines : List (List ℕ)) (k : ℕ) (passed : Bool) → k < length lines → passed ≡ false → is_end_line (get_or lines k []) ≡ false
    → block passed (k + 1) (drop k lines) ≡ numbered (k + 1) (get_or lines k []) ∷ block (passes_next (get_or lines k [])) (k + 1 + 1) (drop (k + 1) lines)
other_block lines k passed less is goes_on =
    ap (λ (p : Bool). block p (k + 1) (drop k lines)) is ∙ (ap (block false (k + 1)) (one_more lines k less)
    ∙ ap (λ (e : Bool). if e then [] else numbered (k + 1) (get_or lines k []) ∷ block (passes_next (get_or lines k [])) (k + 1 + 1) (drop (k + 1) lines)) goes_on)

pub no_block : (lines : List (List ℕ)) (k : ℕ) (passed : Bool) → length lines ≤ k → block passed (k + 1) (drop k lines) ≡ []
no_block lines k passed over = ap (block passed (k + 1)) (drop_all k lines over) ∙ nothing passed
  where
    nothing : (p : Bool) → block p (k + 1) [] ≡ []
    nothing p = refl

-- ---- what one more line shows and says

pub shows_line : (atoms k : ℕ) (line : List ℕ) (rest before : List Numbered) (f0 f1 all : Option Fault) → before ≡ numbered k line ∷ rest
    → f1 ≡ first_of f0 (faults_at k (property_line_shows atoms line)) → first_of f0 (property_faults atoms before) ≡ all → first_of f1 (property_faults atoms rest) ≡ all
shows_line atoms k line rest before f0 f1 all is noted same =
    ap (λ (f : Option Fault). first_of f (property_faults atoms rest)) noted
    ∙ (sym (first_of_joined f0 (faults_at k (property_line_shows atoms line)) (property_faults atoms rest))
    ∙ (sym (ap (λ (b : List Numbered). first_of f0 (property_faults atoms b)) is) ∙ same))

pub some_more : (picks : Property → Bool) (k : ℕ) (line : List ℕ) (rest before : List Numbered) (s0 s1 all : Bool) → before ≡ numbered k line ∷ rest
    → s1 ≡ (s0 || picks (property_of line)) → (s0 || some_line picks before) ≡ all → (s1 || some_line picks rest) ≡ all
some_more picks k line rest before s0 s1 all is set same =
    ap (λ (s : Bool). s || some_line picks rest) set
    ∙ (grouped s0 (picks (property_of line)) (some_line picks rest)
    ∙ (sym (ap (λ (b : List Numbered). s0 || some_line picks b) is) ∙ same))
  where
    grouped : (a b c : Bool) → ((a || b) || c) ≡ (a || (b || c))
    grouped true b c = refl
    grouped false b c = refl

pub said_more : (picks : Property → Bool) (k j : ℕ) (line : List ℕ) (rest before : List Numbered) (v0 v1 all : Option ℤ) → before ≡ numbered k line ∷ rest
    → v1 ≡ said_by_line picks j v0 line → last_said picks j v0 before ≡ all → last_said picks j v1 rest ≡ all
said_more picks k j line rest before v0 v1 all is set same =
    ap (λ (v : Option ℤ). last_said picks j v rest) set ∙ (sym (ap (λ (b : List Numbered). last_said picks j v0 b) is) ∙ same)

-- ---- a line that is passed, and one that is read

passed_core : (lines : List (List ℕ)) (first atoms : ℕ) (s0 : Said) (g0 : Option Fault) (k : ℕ) (passed : Bool) (said : Said) (f : Option Fault)
    → k < length lines → passed ≡ true → ReadsBlock lines first atoms s0 g0 k passed said f → ReadsBlock lines first atoms s0 g0 (k + 1) false said f
passed_core lines first atoms s0 g0 k passed said f less is reads =
    let b = passed_block lines k passed less is in
    record {
      within = omega arith;
      ends = passed_ends lines k passed _ less is reads.ends;
      shows = ap (λ (t : List Numbered). first_of f (property_faults atoms t)) (sym b) ∙ reads.shows;
      count = reads.count;
      mass_count = reads.mass_count;
      codes = ap (λ (t : List Numbered). said.codes_replaced || some_line replaces_codes t) (sym b) ∙ reads.codes;
      differences = ap (λ (t : List Numbered). said.differences_replaced || some_line replaces_differences t) (sym b) ∙ reads.differences;
      charges = λ j below. ap (λ (t : List Numbered). last_said says_charges (j + 1) (get_or said.charges.items j None) t) (sym b) ∙ reads.charges j below;
      masses = λ j below. ap (λ (t : List Numbered). last_said replaces_differences (j + 1) (get_or said.masses.items j None) t) (sym b) ∙ reads.masses j below;
    }

line_core : (lines : List (List ℕ)) (first atoms : ℕ) (s0 : Said) (g0 : Option Fault) (k : ℕ) (passed : Bool) (said said1 : Said) (f f1 : Option Fault)
    → k < length lines → passed ≡ false → is_end_line (get_or lines k []) ≡ false → length s0.masses.items ≡ length s0.charges.items
    → LineRead (get_or lines k []) atoms (k + 1) said f said1 f1
    → ReadsBlock lines first atoms s0 g0 k passed said f → ReadsBlock lines first atoms s0 g0 (k + 1) (passes_next (get_or lines k [])) said1 f1
line_core lines first atoms s0 g0 k passed said said1 f f1 less is goes_on equal read reads =
    let line = get_or lines k [] in
    let b = other_block lines k passed less is goes_on in
    let rest = block (passes_next (get_or lines k [])) (k + 1 + 1) (drop (k + 1) lines) in
    let before = block passed (k + 1) (drop k lines) in
    record {
      within = omega arith;
      ends = other_ends lines k passed _ less is goes_on reads.ends;
      shows = shows_line atoms (k + 1) line rest before f f1 _ b read.shows reads.shows;
      count = read.count ∙ reads.count;
      mass_count = read.mass_count ∙ reads.mass_count;
      codes = some_more replaces_codes (k + 1) line rest before said.codes_replaced said1.codes_replaced _ b read.codes reads.codes;
      differences = some_more replaces_differences (k + 1) line rest before said.differences_replaced said1.differences_replaced _ b read.differences reads.differences;
      charges = λ j below. said_more says_charges (k + 1) (j + 1) line rest before (get_or said.charges.items j None) (get_or said1.charges.items j None) _ b
          (read.charges j (subst (λ (n : ℕ). j < n) (sym reads.count) below)) (reads.charges j below);
      masses = λ j below. said_more replaces_differences (k + 1) (j + 1) line rest before (get_or said.masses.items j None) (get_or said1.masses.items j None) _ b
          (read.masses j (subst (λ (n : ℕ). j < n) (sym (reads.mass_count ∙ equal)) below)) (reads.masses j below);
    }

-- the same where what is kept then is said by equations
moved : (lines : List (List ℕ)) (first atoms : ℕ) (s0 : Said) (g0 : Option Fault) (k : ℕ) (passed passed1 : Bool) (said said1 : Said) (f f1 : Option Fault)
    → passed1 ≡ passed → said1 ≡ said → f1 ≡ f → ReadsBlock lines first atoms s0 g0 k passed said f → ReadsBlock lines first atoms s0 g0 k passed1 said1 f1
moved lines first atoms s0 g0 k passed passed1 said said1 f f1 p s g reads =
    subst (λ (x : Bool). ReadsBlock lines first atoms s0 g0 k x said1 f1) (sym p)
    (subst (λ (x : Said). ReadsBlock lines first atoms s0 g0 k passed x f1) (sym s)
    (subst (λ (x : Option Fault). ReadsBlock lines first atoms s0 g0 k passed said x) (sym g) reads))

pub passed_step : (lines : List (List ℕ)) (first atoms : ℕ) (s0 : Said) (g0 : Option Fault) (k : ℕ) (passed passed1 : Bool) (said said1 : Said) (f f1 : Option Fault)
    → k < length lines → passed ≡ true → passed1 ≡ false → said1 ≡ said → f1 ≡ f
    → ReadsBlock lines first atoms s0 g0 k passed said f → ReadsBlock lines first atoms s0 g0 (k + 1) passed1 said1 f1
passed_step lines first atoms s0 g0 k passed passed1 said said1 f f1 less is p s g reads =
    moved lines first atoms s0 g0 (k + 1) false passed1 said said1 f f1 p s g (passed_core lines first atoms s0 g0 k passed said f less is reads)

pub line_step : (lines : List (List ℕ)) (first atoms : ℕ) (s0 : Said) (g0 : Option Fault) (k : ℕ) (line : List ℕ) (passed passed1 : Bool) (said said1 said2 : Said) (f f1 f2 : Option Fault)
    → k < length lines → passed ≡ false → line ≡ get_or lines k [] → is_end_line line ≡ false → length s0.masses.items ≡ length s0.charges.items
    → LineRead line atoms (k + 1) said f said1 f1
    → passed1 ≡ passes_next line → said2 ≡ said1 → f2 ≡ f1
    → ReadsBlock lines first atoms s0 g0 k passed said f → ReadsBlock lines first atoms s0 g0 (k + 1) passed1 said2 f2
line_step lines first atoms s0 g0 k line passed passed1 said said1 said2 f f1 f2 less is l goes_on equal read p s g reads =
    moved lines first atoms s0 g0 (k + 1) (passes_next (get_or lines k [])) passed1 said1 said2 f1 f2 (p ∙ ap passes_next l) s g
    (line_core lines first atoms s0 g0 k passed said said1 f f1 less is (ap is_end_line (sym l) ∙ goes_on) equal
    (subst (λ (t : List ℕ). LineRead t atoms (k + 1) said f said1 f1) l read) reads)
