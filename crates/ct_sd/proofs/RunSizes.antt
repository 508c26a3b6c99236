-- How many bytes and lines the run at the front of bytes has.
use Rattle.std.proofs.Common.{arith, ◌≡◌, ◌∙◌, ℕ, suc, ◌+◌, ◌≤◌, ◌==◌, ◌||◌, Bool, true, false, if◌then◌else◌, List, [], ◌∷◌, ◌++◌, length, Some, None, refl, ap, sym, subst, inl, inr}
use Rattle.std.specs.Prelude.{option_to_list}
use Rattle.std.specs.List.{filter, list_any}
use Rattle.std.proofs.lemmas.Bool.{false≢true, or_parts}
use Rattle.std.proofs.lemmas.List.{length-append}
use Rattle.mc_base.specs.declared.kind.Kind.{Kind}
use Rattle.mc_io.specs.Lines.{line_feed, onto_ended}
use Rattle.ct_sd.specs.Faults.{faults_at}
use Rattle.ct_sd.specs.FoundRecords.{ArePlain, IsFront, last_run}
use Rattle.ct_sd.specs.Records.{Run, ended_lines, ended_records, ends_record, has_end, is_record, joined, length_faults, length_shows, most_record_bytes, onto_run, runs_of, too_long}
use Rattle.std.proofs.lemmas.List.Folds.{list_any-append}
use Rattle.ct_sd.proofs.FedLines.{fed_len, few_lines, short_enough, too_long_joined}
use Rattle.ct_sd.proofs.NoneShown.{none_front, none_back, none_at}

-- ---- bytes

-- a record has a byte
pub front_size : (run : Run) (bytes rest : List ℕ) (ended : Bool) → IsFront run bytes rest ended → is_record run ≡ true → 1 + length rest ≤ length bytes
front_size run bytes rest ended (inl c) is =
    let all = ap length c.split in
    let a = length-append (joined run.lines) (c.whole ++ rest) in
    let b = length-append c.whole rest in
    let size : length c.whole ≡ length c.fed.piece + 1 = ap length c.fed.is ∙ fed_len c.fed.piece in omega arith
front_size run bytes rest ended (inr l) is =
    let all = ap length l.split in
    let a = length-append (joined l.lines) l.piece in
    let none = ap length l.none in
    let some = some_byte l.lines l.piece l.plain (sym (ap is_record l.is) ∙ is) in omega arith
  where
    some_byte : (lines : List (List ℕ)) (piece : List ℕ) → ArePlain lines → is_record (last_run lines piece) ≡ true → 1 ≤ length (joined lines) + length piece
    some_byte [] [] plain is = absurd (false≢true is)
    some_byte lines (b ∷ piece) plain is = omega arith
    some_byte (line ∷ lines) [] plain is = let few = few_lines (line ∷ lines) plain in let n : length (line ∷ lines) ≡ suc (length lines) = refl in omega arith

-- ---- lines

-- lines that aren't too long are few bytes
short_lines : (before k : ℕ) (lines : List (List ℕ)) → before ≤ most_record_bytes → too_long before k lines ≡ [] → before + length (joined lines) ≤ most_record_bytes
short_lines before k [] low none = omega arith
short_lines before k (line ∷ lines) low none =
    let here = none_at k (length_shows before line) (none_front (faults_at k (length_shows before line)) (too_long (before + length line) (k + 1) lines) none) in
    let later = short_lines (before + length line) (k + 1) lines (short_enough before line low here) (none_back (faults_at k (length_shows before line)) (too_long (before + length line) (k + 1) lines) none) in
    let n = length-append line (joined lines) in omega arith

few_in_front : (lines later : List (List ℕ)) → ArePlain lines → too_long 0 1 (lines ++ later) ≡ [] → length lines ≤ most_record_bytes
few_in_front lines later plain none =
    let short = short_lines 0 1 lines (omega arith) (none_front (too_long 0 1 lines) (too_long (0 + length (joined lines)) (1 + length lines) later) (sym (too_long_joined 0 1 lines later) ∙ none)) in
    let few = few_lines lines plain in omega arith

-- a last run, by whether its last line ends it
abbrev ended_by : List (List ℕ) → List ℕ → Bool → Run
ended_by lines piece true = record { lines = lines; end = Some piece }
ended_by lines piece false = record { lines = lines ++ piece ∷ []; end = None }

pub few_of_run : (run : Run) (bytes rest : List ℕ) (ended : Bool) → IsFront run bytes rest ended → length_faults run ≡ [] → length run.lines ≤ most_record_bytes + 1
few_of_run run bytes rest ended (inl c) none = let few = few_in_front run.lines (option_to_list run.end) c.plain none in omega arith
few_of_run run bytes rest ended (inr l) none =
    subst (λ (r : Run). length r.lines ≤ most_record_bytes + 1) (sym l.is) (by_piece l.lines l.piece l.plain (ap length_faults (sym l.is) ∙ none))
  where
    by_piece : (lines : List (List ℕ)) (piece : List ℕ) → ArePlain lines → length_faults (last_run lines piece) ≡ [] → length (last_run lines piece).lines ≤ most_record_bytes + 1
    by_piece lines [] plain none = let few = few_in_front lines [] plain none in omega arith
    by_piece lines (b ∷ piece) plain none =
        subst (λ (r : Run). length r.lines ≤ most_record_bytes + 1) (sym (is_by (ends_record (b ∷ piece)))) (by_end (ends_record (b ∷ piece)) (ap length_faults (sym (is_by (ends_record (b ∷ piece)))) ∙ none))
      where
        is_by : (t : Bool) → (if t then record { lines = lines; end = Some (b ∷ piece) } else record { lines = lines ++ (b ∷ piece) ∷ []; end = None }) ≡ ended_by lines (b ∷ piece) t
        is_by true = refl
        is_by false = refl

        by_end : (t : Bool) → length_faults (ended_by lines (b ∷ piece) t) ≡ [] → length (ended_by lines (b ∷ piece) t).lines ≤ most_record_bytes + 1
        by_end true none = let few = few_in_front lines ((b ∷ piece) ∷ []) plain none in omega arith
        by_end false none =
            let all = none_front (too_long 0 1 (lines ++ (b ∷ piece) ∷ [])) (too_long (0 + length (joined (lines ++ (b ∷ piece) ∷ []))) (1 + length (lines ++ (b ∷ piece) ∷ [])) []) (sym (too_long_joined 0 1 (lines ++ (b ∷ piece) ∷ []) []) ∙ none) in
            let few = few_in_front lines ((b ∷ piece) ∷ []) plain all in
            let n = length-append lines ((b ∷ piece) ∷ []) in omega arith

-- ---- records that have ended

-- no run has an end where no line ends a record, and only there
no_line_ends : (lines : List (List ℕ)) → filter has_end (runs_of lines) ≡ [] → list_any ends_record lines ≡ false
no_line_ends [] none = refl
no_line_ends (line ∷ lines) none = by_end (ends_record line) (λ later. no_line_ends lines later) none
  where
    under : (runs : List Run) → filter has_end (onto_run line runs) ≡ [] → filter has_end runs ≡ []
    under [] none = refl
    under (run ∷ runs) none = by_first (has_end run) none
      where
        by_first : (t : Bool) → (if t then record { lines = line ∷ run.lines; end = run.end } ∷ filter has_end runs else filter has_end runs) ≡ [] → (if t then run ∷ filter has_end runs else filter has_end runs) ≡ []
        by_first true e = absurd cc
        by_first false e = e

    by_end : (t : Bool) → (filter has_end (runs_of lines) ≡ [] → list_any ends_record lines ≡ false) → filter has_end (if t then record { lines = []; end = Some line } ∷ runs_of lines else onto_run line (runs_of lines)) ≡ [] → (t || list_any ends_record lines) ≡ false
    by_end true later e = absurd cc
    by_end false later e = later (under (runs_of lines) e)

no_end : (lines : List (List ℕ)) → list_any ends_record lines ≡ false → filter has_end (runs_of lines) ≡ []
no_end [] none = refl
no_end (line ∷ lines) none = by_end (ends_record line) (λ later. no_end lines later) none
  where
    onto : (runs : List Run) → filter has_end runs ≡ [] → filter has_end (onto_run line runs) ≡ []
    onto [] none = refl
    onto (run ∷ runs) none = by_first (has_end run) none
      where
        by_first : (t : Bool) → (if t then run ∷ filter has_end runs else filter has_end runs) ≡ [] → (if t then record { lines = line ∷ run.lines; end = run.end } ∷ filter has_end runs else filter has_end runs) ≡ []
        by_first true e = absurd cc
        by_first false e = e

    by_end : (t : Bool) → (list_any ends_record lines ≡ false → filter has_end (runs_of lines) ≡ []) → (t || list_any ends_record lines) ≡ false → filter has_end (if t then record { lines = []; end = Some line } ∷ runs_of lines else onto_run line (runs_of lines)) ≡ []
    by_end true later e = absurd cc
    by_end false later e = onto (runs_of lines) (later e)

-- lines that have ended stay, whatever bytes come next
ended_stay : (held more : List ℕ) → (later : List (List ℕ)) × (ended_lines (held ++ more) ≡ ended_lines held ++ later)
ended_stay [] more = (ended_lines more, refl)
ended_stay (b ∷ held) more = let rest = ended_stay held more in by_feed rest.0 rest.1 (b == line_feed)
  where
    onto : (lines : List (List ℕ)) → (later : List (List ℕ)) → (all : List (List ℕ)) → all ≡ lines ++ later → (behind : List (List ℕ)) × (onto_ended b all ≡ onto_ended b lines ++ behind)
    onto [] later all is = (onto_ended b later, ap (onto_ended b) is)
    onto (line ∷ lines) later all is = (later, ap (onto_ended b) is)

    by_feed : (rest : List (List ℕ)) → ended_lines (held ++ more) ≡ ended_lines held ++ rest → (t : Bool) → (later : List (List ℕ)) × ((if t then (b ∷ []) ∷ ended_lines (held ++ more) else onto_ended b (ended_lines (held ++ more))) ≡ (if t then (b ∷ []) ∷ ended_lines held else onto_ended b (ended_lines held)) ++ later)
    by_feed rest is true = (rest, ap (λ (t : List (List ℕ)). (b ∷ []) ∷ t) is)
    by_feed rest is false = onto (ended_lines held) rest (ended_lines (held ++ more)) is

pub none_in_front : (held more : List ℕ) → ended_records (held ++ more) ≡ [] → ended_records held ≡ []
none_in_front held more none =
    let stay = ended_stay held more in
    let all : (list_any ends_record (ended_lines held) || list_any ends_record stay.0) ≡ false =
    sym (list_any-append ends_record (ended_lines held) stay.0) ∙ (ap (list_any ends_record) (sym stay.1) ∙ no_line_ends (ended_lines (held ++ more)) none) in
    no_end (ended_lines held) (or_parts (list_any ends_record (ended_lines held)) (list_any ends_record stay.0) all).0
