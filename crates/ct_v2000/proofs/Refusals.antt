-- How a record is read, from its header on: the first fault, step by step.
use Rattle.std.proofs.Common.{arith, ◌≡◌, ◌∙◌, ◌&&◌, ◌||◌, ℕ, suc, ◌+◌, ◌-◌, ◌*◌, ◌≤◌, ◌<◌, List, [], ◌∷◌, ◌++◌, length, take, drop, Bool, true, false, if◌then◌else◌, Option, Some, None, refl, ap, sym, subst, append_assoc}
use Rattle.std.proofs.lemmas.Bool.Decides.{nat_tests}
use Rattle.std.specs.Prelude.{nat_lt, not, unsigned_abs, is_some}
use Rattle.std.specs.List.{list_all}
use Rattle.std.proofs.lemmas.List.{length-take-le, length-drop}
use Rattle.mc_base.specs.declared.kind.Kind.TheVariants.{ShortRecord, ReactionFile, BadField, Version as VersionKind}
use Rattle.ct_sd.specs.declared.fault.Fault.{Fault}
use Rattle.ct_sd.specs.declared.head.Version.{Version}
use Rattle.ct_sd.specs.declared.head.Version.TheVariants.{V2000, V3000, Other}
use Rattle.ct_sd.specs.Faults.{first_of, faults_at, faults_of_lines, shown_if}
use Rattle.ct_sd.specs.Fields.{value, read, fields_show}
use Rattle.ct_sd.specs.Heads.{line, name_shows, version_of, is_other_file}
use Rattle.ct_sd.proofs.First.{first_of_joined, four_lists}
use Rattle.ct_sd.specs.declared.table.TableAtom.{TableAtom}
use Rattle.ct_sd.specs.declared.table.TableBond.{TableBond}
use Rattle.ct_v2000.specs.declared.atom_line.AtomLine.{AtomLine}
use Rattle.ct_v2000.specs.declared.counts.Counts.{Counts}
use Rattle.ct_v2000.specs.Counts.{counts_fields, lists_field, is_well_formed, lines_before, counted, atom_count, bond_count, atom_lines}
use Rattle.ct_v2000.specs.AtomLines.{atom_line_shows, atom_lines_of}
use Rattle.ct_v2000.specs.BondLines.{bond_faults}
use Rattle.ct_v2000.specs.Properties.{Numbered, block, has_end, property_faults}
use Rattle.ct_v2000.specs.Replaced.{replaces_codes, replaces_differences, some_line}
use Rattle.ct_v2000.specs.Table.{record_faults, is_short, is_v2000, ends_early, version_faults, block_faults, late_faults, atoms_from, bonds_from, table_atoms, table_bonds}
use Rattle.ct_v2000.specs.Blocks.{still, HasCounts, IsRest, lines_counted}
use Rattle.ct_v2000.proofs.Still.{still_whole}

-- a record that is too short shows nothing else
pub short_first : (lines : List (List ℕ)) → is_short lines ≡ true → first_of None (record_faults lines) ≡ first_of None (faults_at (length lines) (ShortRecord ∷ []))
short_first lines is = ap (λ (t : Bool). first_of None (if t then faults_at (length lines) (ShortRecord ∷ []) else faults_at 1 (name_shows lines) ++ version_faults (version_of lines) lines)) is

-- ---- whether a record with these counts is too short

pub counts_are : (lines : List (List ℕ)) (counts : Counts) (fault : Option Fault) → HasCounts lines counts fault → lines_counted counts ≡ lines_before lines
unfolding counted
counts_are lines counts fault has =
    ap (λ (n : ℕ). 4 + n + counts.bonds + counts.lists + 2 * counts.stexts) has.counted.atoms
    ∙ (ap (λ (n : ℕ). 4 + atom_count lines + n + counts.lists + 2 * counts.stexts) has.counted.bonds
    ∙ (ap (λ (n : ℕ). 4 + atom_count lines + bond_count lines + n + 2 * counts.stexts) has.counted.lists
    ∙ ap (λ (n : ℕ). 4 + atom_count lines + bond_count lines + counted lists_field lines + 2 * n) has.counted.stexts))

-- whether fewer than four lines are there, with four of them
four_there : (n : ℕ) (early : Bool) → 4 ≤ n → (nat_lt n 4 || early) ≡ early
four_there n early four = grind (arith, nat_tests)

short_where : (lines : List (List ℕ)) (counts : Counts) (fault : Option Fault) → HasCounts lines counts fault → is_short lines ≡ ends_early lines
short_where lines counts fault has =
    ap (λ (v : Version). nat_lt (length lines) 4 || (is_v2000 v && (is_well_formed lines && ends_early lines))) has.version
    ∙ (ap (λ (w : Bool). nat_lt (length lines) 4 || (w && ends_early lines)) has.formed
    ∙ four_there (length lines) (ends_early lines) has.four)

-- the lines that are asked for, and the end behind them
early_where : (n m : ℕ) (ends : Bool) → m ≤ n → (nat_lt n m || not ends) ≡ not ends
early_where n m ends there = grind (arith, nat_tests)

fewer : (n m : ℕ) (ends : Bool) → n < m → (nat_lt n m || not ends) ≡ true
fewer n m ends less = grind (arith, nat_tests)

pub few_lines : (lines : List (List ℕ)) (counts : Counts) (fault : Option Fault) → HasCounts lines counts fault → length lines < lines_counted counts → is_short lines ≡ true
few_lines lines counts fault has less =
    short_where lines counts fault has
    ∙ fewer (length lines) (lines_before lines) (has_end false (drop (lines_before lines) lines)) (subst (λ (m : ℕ). length lines < m) (counts_are lines counts fault has) less)

short_by_end : (lines : List (List ℕ)) (counts : Counts) (fault : Option Fault) (ends : Bool) → HasCounts lines counts fault → lines_counted counts ≤ length lines
    → has_end false (drop (lines_counted counts) lines) ≡ ends → is_short lines ≡ not ends
short_by_end lines counts fault ends has there is =
    short_where lines counts fault has
    ∙ (early_where (length lines) (lines_before lines) (has_end false (drop (lines_before lines) lines)) (subst (λ (m : ℕ). m ≤ length lines) (counts_are lines counts fault has) there)
    ∙ ap not (subst (λ (m : ℕ). has_end false (drop m lines) ≡ ends) (counts_are lines counts fault has) is))

pub no_end : (lines : List (List ℕ)) (counts : Counts) (fault : Option Fault) → HasCounts lines counts fault → lines_counted counts ≤ length lines
    → has_end false (drop (lines_counted counts) lines) ≡ false → is_short lines ≡ true
no_end lines counts fault has there is = short_by_end lines counts fault false has there is

-- ---- the faults of a record that is long enough

behind_version : (lines : List (List ℕ)) (short : Bool) (version : Version) → is_short lines ≡ short → version_of lines ≡ version
    → record_faults lines ≡ (if short then faults_at (length lines) (ShortRecord ∷ []) else faults_at 1 (name_shows lines) ++ version_faults version lines)
behind_version lines short version s v =
    ap (λ (t : Bool). if t then faults_at (length lines) (ShortRecord ∷ []) else faults_at 1 (name_shows lines) ++ version_faults (version_of lines) lines) s
    ∙ ap (λ (t : Version). if short then faults_at (length lines) (ShortRecord ∷ []) else faults_at 1 (name_shows lines) ++ version_faults t lines) v

-- a version that isn't read
four_other : (n : ℕ) → 4 ≤ n → (nat_lt n 4 || false) ≡ false
four_other n four = grind (arith, nat_tests)

pub other_version : (lines : List (List ℕ)) (first : Option Fault) → 4 ≤ length lines → version_of lines ≡ Other → first ≡ first_of None (faults_at 1 (name_shows lines))
    → first_of None (record_faults lines) ≡ first_of first (faults_at 4 (VersionKind ∷ []))
other_version lines first four is noted =
    ap (first_of None) (behind_version lines false Other
    (ap (λ (v : Version). nat_lt (length lines) 4 || (is_v2000 v && (is_well_formed lines && ends_early lines))) is ∙ four_other (length lines) four) is)
    ∙ (first_of_joined None (faults_at 1 (name_shows lines)) (faults_at 4 (VersionKind ∷ []))
    ∙ sym (ap (λ (f : Option Fault). first_of f (faults_at 4 (VersionKind ∷ []))) noted))

-- a line 4 that isn't of its grammar
pub bad_counts : (lines : List (List ℕ)) (first : Option Fault) → 4 ≤ length lines → version_of lines ≡ V2000 → is_well_formed lines ≡ false → first ≡ first_of None (faults_at 1 (name_shows lines))
    → first_of None (record_faults lines) ≡ first_of first (faults_at 4 (BadField ∷ []))
bad_counts lines first four is bad noted =
    ap (first_of None) (behind_version lines false V2000
    (ap (λ (v : Version). nat_lt (length lines) 4 || (is_v2000 v && (is_well_formed lines && ends_early lines))) is
    ∙ (ap (λ (w : Bool). nat_lt (length lines) 4 || (w && ends_early lines)) bad ∙ four_other (length lines) four)) is)
    ∙ (ap (λ (w : Bool). first_of None (faults_at 1 (name_shows lines) ++ (if w then faults_at 4 (fields_show counts_fields (line 4 lines)) ++ block_faults lines else faults_at 4 (BadField ∷ [])))) bad
    ∙ (first_of_joined None (faults_at 1 (name_shows lines)) (faults_at 4 (BadField ∷ []))
    ∙ sym (ap (λ (f : Option Fault). first_of f (faults_at 4 (BadField ∷ []))) noted)))

-- a record with its blocks
whole_first : (lines : List (List ℕ)) (counts : Counts) (fault : Option Fault) → HasCounts lines counts fault → is_short lines ≡ false
    → first_of None (record_faults lines) ≡ first_of fault (block_faults lines)
whole_first lines counts fault has long =
    ap (first_of None) (behind_version lines false V2000 long has.version)
    ∙ (ap (λ (w : Bool). first_of None (faults_at 1 (name_shows lines) ++ (if w then faults_at 4 (fields_show counts_fields (line 4 lines)) ++ block_faults lines else faults_at 4 (BadField ∷ [])))) has.formed
    ∙ (ap (first_of None) (sym (append_assoc (faults_at 1 (name_shows lines)) (faults_at 4 (fields_show counts_fields (line 4 lines))) (block_faults lines)))
    ∙ (first_of_joined None (faults_at 1 (name_shows lines) ++ faults_at 4 (fields_show counts_fields (line 4 lines))) (block_faults lines)
    ∙ sym (ap (λ (f : Option Fault). first_of f (block_faults lines)) has.noted))))

-- the faults of the blocks by their counts
abbrev faults_by : List (List ℕ) → ℕ → ℕ → ℕ → List Fault
faults_by lines a b n =
    faults_of_lines atom_line_shows 5 (take a (drop 4 lines))
    ++ (bond_faults a [] (5 + a) (take b (drop (4 + a) lines))
    ++ (property_faults a (block false (n + 1) (drop n lines))
    ++ late_faults (some_line replaces_codes (block false (n + 1) (drop n lines))) (some_line replaces_differences (block false (n + 1) (drop n lines))) 5 (atom_lines_of 5 (take a (drop 4 lines)))))

faults_are : (lines : List (List ℕ)) (counts : Counts) (fault : Option Fault) → HasCounts lines counts fault → block_faults lines ≡ faults_by lines counts.atoms counts.bonds (lines_counted counts)
unfolding counted
faults_are lines counts fault has =
    sym (ap (λ (a : ℕ). faults_by lines a counts.bonds (lines_counted counts)) has.counted.atoms
    ∙ (ap (λ (b : ℕ). faults_by lines (atom_count lines) b (lines_counted counts)) has.counted.bonds
    ∙ ap (λ (n : ℕ). faults_by lines (atom_count lines) (bond_count lines) n) (counts_are lines counts fault has)))

-- what is kept behind the last line is the first fault of the record
pub all_first : (lines : List (List ℕ)) (counts : Counts) (f0 f1 f2 : Option Fault) (given : List AtomLine) (atoms : List TableAtom) → HasCounts lines counts f0 → lines_counted counts ≤ length lines
    → given ≡ atom_lines_of 5 (still 4 0 counts.atoms lines)
    → f1 ≡ first_of (first_of f0 (faults_of_lines atom_line_shows 5 (still 4 0 counts.atoms lines))) (bond_faults counts.atoms [] (4 + counts.atoms + 1) (still (4 + counts.atoms) 0 counts.bonds lines))
    → IsRest lines counts given f1 (Some atoms) f2
    → first_of None (record_faults lines) ≡ f2
all_first lines counts f0 f1 f2 given atoms has there g is rest =
    whole_first lines counts f0 has (short_by_end lines counts f0 true has there rest.end)
    ∙ (ap (first_of f0) (faults_are lines counts f0 has)
    ∙ (four_lists f0 (faults_of_lines atom_line_shows 5 (take a (drop 4 lines))) (bond_faults a [] (5 + a) (take b (drop (4 + a) lines))) (property_faults a props) (late_faults (some_line replaces_codes props) (some_line replaces_differences props) 5 (atom_lines_of 5 (take a (drop 4 lines))))
    ∙ sym (rest.shows
    ∙ (ap (λ (t : List AtomLine). first_of (first_of f1 (property_faults a props)) (late_faults (some_line replaces_codes props) (some_line replaces_differences props) 5 t)) (g ∙ ap (atom_lines_of 5) (still_whole 4 a lines))
    ∙ ap (λ (f : Option Fault). first_of (first_of f (property_faults a props)) (late_faults (some_line replaces_codes props) (some_line replaces_differences props) 5 (atom_lines_of 5 (take a (drop 4 lines)))))
    (is ∙ (ap (λ (t : List (List ℕ)). first_of (first_of f0 (faults_of_lines atom_line_shows 5 t)) (bond_faults a [] (4 + a + 1) (still (4 + a) 0 b lines))) (still_whole 4 a lines)
    ∙ (ap (λ (m : ℕ). first_of (first_of f0 (faults_of_lines atom_line_shows 5 (take a (drop 4 lines)))) (bond_faults a [] m (still (4 + a) 0 b lines))) (let e : 4 + a + 1 ≡ 5 + a = omega arith in e)
    ∙ ap (λ (t : List (List ℕ)). first_of (first_of f0 (faults_of_lines atom_line_shows 5 (take a (drop 4 lines)))) (bond_faults a [] (5 + a) t)) (still_whole (4 + a) b lines))))))))
  where
    a : ℕ
    a = counts.atoms

    b : ℕ
    b = counts.bonds

    props : List Numbered
    props = block false (lines_counted counts + 1) (drop (lines_counted counts) lines)

-- ---- the table

pub atoms_table : (lines : List (List ℕ)) (counts : Counts) (f0 f1 f2 : Option Fault) (given : List AtomLine) (atoms : List TableAtom) → HasCounts lines counts f0
    → given ≡ atom_lines_of 5 (still 4 0 counts.atoms lines)
    → IsRest lines counts given f1 (Some atoms) f2
    → atoms ≡ table_atoms lines
unfolding counted
atoms_table lines counts f0 f1 f2 given atoms has g rest =
    rest.atoms_are
    ∙ (ap (λ (t : List AtomLine). atoms_from (block false (lines_counted counts + 1) (drop (lines_counted counts) lines)) 1 t) (g ∙ ap (atom_lines_of 5) (still_whole 4 counts.atoms lines))
    ∙ (ap (λ (a : ℕ). atoms_from (block false (lines_counted counts + 1) (drop (lines_counted counts) lines)) 1 (atom_lines_of 5 (take a (drop 4 lines)))) has.counted.atoms
    ∙ ap (λ (n : ℕ). atoms_from (block false (n + 1) (drop n lines)) 1 (atom_lines_of 5 (atom_lines lines))) (counts_are lines counts f0 has)))

pub bonds_table : (lines : List (List ℕ)) (counts : Counts) (f0 : Option Fault) (bonds : List TableBond) → HasCounts lines counts f0
    → bonds ≡ bonds_from (4 + counts.atoms + 1) (still (4 + counts.atoms) 0 counts.bonds lines)
    → bonds ≡ table_bonds lines
unfolding counted
bonds_table lines counts f0 bonds has is =
    is
    ∙ (ap (λ (m : ℕ). bonds_from m (still (4 + a) 0 counts.bonds lines)) (let e : 4 + a + 1 ≡ 5 + a = omega arith in e)
    ∙ (ap (λ (t : List (List ℕ)). bonds_from (5 + a) t) (still_whole (4 + a) counts.bonds lines)
    ∙ (ap (λ (n : ℕ). bonds_from (5 + n) (take counts.bonds (drop (4 + n) lines))) has.counted.atoms
    ∙ ap (λ (m : ℕ). bonds_from (5 + atom_count lines) (take m (drop (4 + atom_count lines) lines))) has.counted.bonds)))
  where
    a : ℕ
    a = counts.atoms

-- ---- the steps of the reader

pub count_atoms : (a : ℕ) (lines : List (List ℕ)) → 4 + a ≤ length lines → length (atom_lines_of 5 (still 4 0 a lines)) ≡ a
count_atoms a lines within =
    one_each 5 (still 4 0 a lines) ∙ (ap length (still_whole 4 a lines) ∙ length-take-le a (drop 4 lines) (let n : ℕ = length lines in let h : 4 + a ≤ n = within in let m : ℕ = length (drop 4 lines) in let e : m ≡ n - 4 = length-drop 4 lines in let r : a ≤ m = omega arith in r))
  where
    one_each : (k : ℕ) (texts : List (List ℕ)) → length (atom_lines_of k texts) ≡ length texts
    one_each k [] = refl
    one_each k (text ∷ texts) = ap suc (one_each (k + 1) texts)

pub formed_is : (lines : List (List ℕ)) (text : List ℕ) (formed : Bool) → text ≡ line 4 lines → formed ≡ list_all (λ f. is_some (read f text)) counts_fields → is_well_formed lines ≡ formed
unfolding is_well_formed
formed_is lines text formed is so = sym (so ∙ ap (λ (t : List ℕ). list_all (λ f. is_some (read f t)) counts_fields) is)

pub counts_noted : (lines : List (List ℕ)) (text : List ℕ) (first behind : Option Fault) → text ≡ line 4 lines → first ≡ first_of None (faults_at 1 (name_shows lines))
    → behind ≡ first_of first (faults_at 4 (fields_show counts_fields text))
    → behind ≡ first_of None (faults_at 1 (name_shows lines) ++ faults_at 4 (fields_show counts_fields (line 4 lines)))
counts_noted lines text first behind is noted more =
    more
    ∙ (ap (λ (t : List ℕ). first_of first (faults_at 4 (fields_show counts_fields t))) is
    ∙ (ap (λ (f : Option Fault). first_of f (faults_at 4 (fields_show counts_fields (line 4 lines)))) noted
    ∙ sym (first_of_joined None (faults_at 1 (name_shows lines)) (faults_at 4 (fields_show counts_fields (line 4 lines))))))

pub other_is : (v : Version) → (v ≡ V2000 → ⊥) → (v ≡ V3000 → ⊥) → v ≡ Other
other_is V2000 a b = absurd (a refl)
other_is V3000 a b = absurd (b refl)
other_is Other a b = refl

pub name_noted : (lines : List (List ℕ)) (text : List ℕ) (is_other : Bool) (none first : Option Fault) → text ≡ line 1 lines → is_other ≡ is_other_file text → none ≡ None
    → first ≡ first_of none (faults_at 1 (shown_if is_other ReactionFile)) → first ≡ first_of None (faults_at 1 (name_shows lines))
name_noted lines text is_other none first is other nothing noted =
    noted
    ∙ (ap (λ (b : Bool). first_of none (faults_at 1 (shown_if b ReactionFile))) (other ∙ ap is_other_file is)
    ∙ ap (λ (f : Option Fault). first_of f (faults_at 1 (name_shows lines))) nothing)
