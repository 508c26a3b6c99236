-- The record at the front of bytes.
use Rattle.std.proofs.Common.{arith, ◌≡◌, ◌∙◌, ℕ, ◌+◌, ◌<◌, ◌&&◌, Bool, true, false, if◌then◌else◌, List, [], ◌∷◌, ◌++◌, length, Option, Some, None, refl, ap, sym, inl, inr}
use Rattle.std.specs.Prelude.{IsTrue, is_some, nat_le, nat_lt}
use Rattle.std.specs.List.{filter}
use Rattle.std.proofs.lemmas.Bool.{false≢true}
use Rattle.std.proofs.lemmas.Bool.Decides.{nat_tests}
use Rattle.std.proofs.lemmas.List.{append_assoc, append-nil}
use Rattle.mc_base.specs.declared.kind.Kind.{Kind}
use Rattle.mc_base.specs.declared.kind.Kind.TheVariants.{LineTooLong, RecordTooLong}
use Rattle.mc_io.specs.Lines.{has_feed, is_long}
use Rattle.ct_sd.specs.declared.fault.Fault.{Fault}
use Rattle.ct_sd.specs.Faults.{faults_at, first_of, shown_if, sooner}
use Rattle.ct_sd.specs.FoundRecords.{ArePlain, IsClosed, IsFront, ShowsFirst, last_run}
use Rattle.ct_sd.specs.Records.{Run, ended_lines, ended_records, ends_record, has_end, is_record, joined, most_record_bytes, onto_run, piece_of, runs_of, sd_records, too_long, whole_lines}
use Rattle.ct_sd.proofs.FedLines.{closed_run, fed_ended, fed_whole, joined_both, last_whole, open_runs, plain_both, plain_ended, plain_runs, plain_whole, too_long_joined}

filter_one : {A : Type 0} (p : A → Bool) (x : A) (xs : List A) → filter p (x ∷ xs) ≡ filter p (x ∷ []) ++ filter p xs
filter_one p x xs = by_test (p x)
  where
    by_test : (t : Bool) → (if t then x ∷ filter p xs else filter p xs) ≡ (if t then x ∷ [] else []) ++ filter p xs
    by_test true = refl
    by_test false = refl

-- ---- a run with its end

closed_is : (run : Run) (bytes rest : List ℕ) (c : IsClosed run bytes rest) → run ≡ record { lines = run.lines; end = Some c.whole }
closed_is run bytes rest c = ap (λ (e : Option (List ℕ)). record { lines = run.lines; end = e }) c.end

closed_split : (run : Run) (bytes rest more : List ℕ) (c : IsClosed run bytes rest) → bytes ++ more ≡ joined run.lines ++ (c.whole ++ (rest ++ more))
closed_split run bytes rest more c =
    ap (λ (t : List ℕ). t ++ more) c.split ∙ (append_assoc (joined run.lines) (c.whole ++ rest) more ∙ ap (λ (t : List ℕ). joined run.lines ++ t) (append_assoc c.whole rest more))

closed_runs : (run : Run) (bytes rest more : List ℕ) → IsClosed run bytes rest → runs_of (whole_lines (bytes ++ more)) ≡ run ∷ runs_of (whole_lines (rest ++ more))
closed_runs run bytes rest more c =
    ap (λ (t : List ℕ). runs_of (whole_lines t)) (closed_split run bytes rest more c)
    ∙ (ap runs_of (plain_whole run.lines (c.whole ++ (rest ++ more)) c.plain ∙ ap (λ (t : List (List ℕ)). run.lines ++ t) (fed_whole c.whole (rest ++ more) c.fed))
    ∙ (closed_run run.lines c.whole (whole_lines (rest ++ more)) c.plain c.ends ∙ ap (λ (r : Run). r ∷ runs_of (whole_lines (rest ++ more))) (sym (closed_is run bytes rest c))))

closed_ended_runs : (run : Run) (bytes rest more : List ℕ) → IsClosed run bytes rest → runs_of (ended_lines (bytes ++ more)) ≡ run ∷ runs_of (ended_lines (rest ++ more))
closed_ended_runs run bytes rest more c =
    ap (λ (t : List ℕ). runs_of (ended_lines t)) (closed_split run bytes rest more c)
    ∙ (ap runs_of (plain_ended run.lines (c.whole ++ (rest ++ more)) c.plain ∙ ap (λ (t : List (List ℕ)). run.lines ++ t) (fed_ended c.whole (rest ++ more) c.fed))
    ∙ (closed_run run.lines c.whole (ended_lines (rest ++ more)) c.plain c.ends ∙ ap (λ (r : Run). r ∷ runs_of (ended_lines (rest ++ more))) (sym (closed_is run bytes rest c))))

-- ---- the last run

last_records : (lines : List (List ℕ)) (piece : List ℕ) → ArePlain lines → has_feed piece ≡ false → sd_records (joined lines ++ piece) ≡ filter is_record (last_run lines piece ∷ [])
last_records lines [] plain clear =
    ap (λ (t : List (List ℕ)). filter is_record (runs_of t)) (plain_whole lines [] plain ∙ append-nil lines)
    ∙ (ap (filter is_record) (plain_runs lines plain) ∙ open_is lines)
  where
    open_is : (lines : List (List ℕ)) → filter is_record (open_runs lines) ≡ filter is_record (record { lines = lines; end = None } ∷ [])
    open_is [] = refl
    open_is (l ∷ lines) = refl
last_records lines (b ∷ piece) plain clear =
    ap (λ (t : List (List ℕ)). filter is_record (runs_of t)) (plain_whole lines (b ∷ piece) plain ∙ ap (λ (t : List (List ℕ)). lines ++ t) (last_whole b piece clear))
    ∙ ap (filter is_record) (by_end (ends_record (b ∷ piece)) refl)
  where
    by_end : (t : Bool) → ends_record (b ∷ piece) ≡ t → runs_of (lines ++ (b ∷ piece) ∷ []) ≡ (if t then record { lines = lines; end = Some (b ∷ piece) } else record { lines = lines ++ (b ∷ piece) ∷ []; end = None }) ∷ []
    by_end true ends = closed_run lines (b ∷ piece) [] plain ends
    by_end false other = open_last lines plain
      where
        open_last : (lines : List (List ℕ)) → ArePlain lines → runs_of (lines ++ (b ∷ piece) ∷ []) ≡ record { lines = lines ++ (b ∷ piece) ∷ []; end = None } ∷ []
        open_last [] plain = ap (λ (t : Bool). if t then record { lines = []; end = Some (b ∷ piece) } ∷ [] else record { lines = (b ∷ piece) ∷ []; end = None } ∷ []) other
        open_last (l ∷ lines) plain =
            ap (λ (t : Bool). if t then record { lines = []; end = Some l } ∷ runs_of (lines ++ (b ∷ piece) ∷ []) else onto_run l (runs_of (lines ++ (b ∷ piece) ∷ []))) plain.0.other
            ∙ ap (onto_run l) (open_last lines plain.1)

-- ---- whichever stands at the front

pub front_records : (run : Run) (bytes rest more : List ℕ) (ended : Bool) → IsFront run bytes rest ended → (IsTrue ended → more ≡ []) → sd_records (bytes ++ more) ≡ filter is_record (run ∷ []) ++ sd_records (rest ++ more)
front_records run bytes rest more ended (inl c) none =
    ap (filter is_record) (closed_runs run bytes rest more c) ∙ filter_one is_record run (runs_of (whole_lines (rest ++ more)))
front_records run bytes rest more ended (inr l) none =
    let empty : more ≡ [] = none l.end in
    let over : rest ++ more ≡ [] = ap (λ (t : List ℕ). t ++ more) l.none ∙ empty in
    ap (λ (t : List ℕ). sd_records (bytes ++ t)) empty ∙ (ap sd_records (append-nil bytes ∙ l.split) ∙ (last_records l.lines l.piece l.plain l.clear
    ∙ (ap (λ (r : Run). filter is_record (r ∷ [])) (sym l.is) ∙ (sym (append-nil (filter is_record (run ∷ []))) ∙ ap (λ (t : List ℕ). filter is_record (run ∷ []) ++ sd_records t) (sym over)))))

pub front_ended : (run : Run) (bytes rest more : List ℕ) (ended : Bool) → IsFront run bytes rest ended → ended ≡ false → ended_records (bytes ++ more) ≡ run ∷ ended_records (rest ++ more)
front_ended run bytes rest more ended (inl c) going =
    ap (filter has_end) (closed_ended_runs run bytes rest more c)
    ∙ ap (λ (t : Bool). if t then run ∷ filter has_end (runs_of (ended_lines (rest ++ more))) else filter has_end (runs_of (ended_lines (rest ++ more)))) (ap (λ (e : Option (List ℕ)). is_some e) c.end)
front_ended run bytes rest more ended (inr l) going = absurd (false≢true (sym going ∙ l.end))

abbrev as_run : List ℕ → Bool → List (List ℕ) → Run
as_run piece t lines = if t then record { lines = lines; end = Some piece } else record { lines = lines ++ piece ∷ []; end = None }

-- lines before it
last_behind : (lines more : List (List ℕ)) (piece : List ℕ) → record { lines = lines ++ (last_run more piece).lines; end = (last_run more piece).end } ≡ last_run (lines ++ more) piece
last_behind lines more [] = refl
last_behind lines more (b ∷ piece) = by_end (ends_record (b ∷ piece))
  where
    by_end : (t : Bool) → record { lines = lines ++ (as_run (b ∷ piece) t more).lines; end = (as_run (b ∷ piece) t more).end } ≡ as_run (b ∷ piece) t (lines ++ more)
    by_end true = refl
    by_end false = ap (λ (ls : List (List ℕ)). record { lines = ls; end = None }) (sym (append_assoc lines more ((b ∷ piece) ∷ [])))

abbrev pub behind : List (List ℕ) → Run → Run
behind lines run = record { lines = lines ++ run.lines; end = run.end }

pub front_behind : (lines : List (List ℕ)) (run : Run) (bytes rest : List ℕ) (ended : Bool) → ArePlain lines → IsFront run bytes rest ended → IsFront (behind lines run) (joined lines ++ bytes) rest ended
front_behind lines run bytes rest ended plain (inl c) = inl (record {
  plain = plain_both lines run.lines plain c.plain;
  whole = c.whole;
  fed = c.fed;
  ends = c.ends;
  end = c.end;
  split =
      ap (λ (t : List ℕ). joined lines ++ t) c.split
      ∙ (sym (append_assoc (joined lines) (joined run.lines) (c.whole ++ rest)) ∙ ap (λ (t : List ℕ). t ++ (c.whole ++ rest)) (sym (joined_both lines run.lines)));
})
front_behind lines run bytes rest ended plain (inr l) = inr (record {
  lines = lines ++ l.lines;
  plain = plain_both lines l.lines plain l.plain;
  piece = l.piece;
  clear = l.clear;
  is = ap (behind lines) l.is ∙ last_behind lines l.lines l.piece;
  split =
      ap (λ (t : List ℕ). joined lines ++ t) l.split
      ∙ (sym (append_assoc (joined lines) (joined l.lines) l.piece) ∙ ap (λ (t : List ℕ). t ++ l.piece) (sym (joined_both lines l.lines)));
  none = l.none;
  end = l.end;
})

-- no record ends in lines before others where none ends in these
pub none_behind : (lines : List (List ℕ)) (bytes : List ℕ) → ArePlain lines → ended_records bytes ≡ [] → ended_records (joined lines ++ bytes) ≡ []
none_behind lines bytes plain none =
    ap (λ (t : List (List ℕ)). filter has_end (runs_of t)) (plain_ended lines bytes plain) ∙ no_end lines plain
  where
    onto : (l : List ℕ) (runs : List Run) → filter has_end runs ≡ [] → filter has_end (onto_run l runs) ≡ []
    onto l [] none = refl
    onto l (run ∷ runs) none = none_first (has_end run) none
      where
        none_first : (t : Bool) → (if t then run ∷ filter has_end runs else filter has_end runs) ≡ [] → (if t then record { lines = l ∷ run.lines; end = run.end } ∷ filter has_end runs else filter has_end runs) ≡ []
        none_first true e = absurd cc
        none_first false e = e

    no_end : (lines : List (List ℕ)) → ArePlain lines → filter has_end (runs_of (lines ++ ended_lines bytes)) ≡ []
    no_end [] plain = none
    no_end (l ∷ lines) plain =
        ap (λ (t : Bool). filter has_end (if t then record { lines = []; end = Some l } ∷ runs_of (lines ++ ended_lines bytes) else onto_run l (runs_of (lines ++ ended_lines bytes)))) plain.0.other
        ∙ onto l (runs_of (lines ++ ended_lines bytes)) (no_end lines plain.1)

-- ---- the first fault of a record that is too long

beyond_all : (before n k : ℕ) → most_record_bytes < before → (nat_lt before most_record_bytes ≡ false) × ((nat_le before most_record_bytes && nat_lt most_record_bytes n) ≡ false)
beyond_all before n k far = (not_below before far, not_within before n far)
  where
    not_below : (b : ℕ) → most_record_bytes < b → nat_lt b most_record_bytes ≡ false
    not_below b far = grind (arith, nat_tests)

    not_within : (b n : ℕ) → most_record_bytes < b → (nat_le b most_record_bytes && nat_lt most_record_bytes n) ≡ false
    not_within b n far = grind (arith, nat_tests)

nothing_beyond : (before k : ℕ) (lines : List (List ℕ)) → most_record_bytes < before → too_long before k lines ≡ []
nothing_beyond before k [] far = refl
nothing_beyond before k (l ∷ lines) far =
    let tests = beyond_all before (before + length l) k far in
    ap (λ (t : Bool). faults_at k (shown_if (t && is_long (piece_of l)) LineTooLong ++ shown_if (nat_le before most_record_bytes && nat_lt most_record_bytes (before + length l)) RecordTooLong) ++ too_long (before + length l) (k + 1) lines) tests.0
    ∙ (ap (λ (t : Bool). faults_at k (shown_if t RecordTooLong) ++ too_long (before + length l) (k + 1) lines) tests.1 ∙ nothing_beyond (before + length l) (k + 1) lines (omega arith))

-- later lines show nothing that comes before
long_stays : (k before n : ℕ) (lines : List (List ℕ)) → k < n → first_of (Some (record { kind = LineTooLong; place = k })) (too_long before n lines) ≡ Some (record { kind = LineTooLong; place = k })
long_stays k before n [] less = refl
long_stays k before n (l ∷ lines) less =
    by_tests (nat_lt before most_record_bytes && is_long (piece_of l)) (nat_le before most_record_bytes && nat_lt most_record_bytes (before + length l)) (long_stays k (before + length l) (n + 1) lines (omega arith))
  where
    first : Fault
    first = record { kind = LineTooLong; place = k }

    later : (n k : ℕ) → k < n → nat_lt n k ≡ false
    later n k less = grind (arith, nat_tests)

    not_sooner : sooner (Some (record { kind = LineTooLong; place = k })) (record { kind = LineTooLong; place = n }) ≡ Some (record { kind = LineTooLong; place = k })
    not_sooner = rw (later n k less) refl

    by_tests : (p q : Bool) → first_of (Some (record { kind = LineTooLong; place = k })) (too_long (before + length l) (n + 1) lines) ≡ Some (record { kind = LineTooLong; place = k })
        → first_of (Some (record { kind = LineTooLong; place = k })) (faults_at n (shown_if p LineTooLong ++ shown_if q RecordTooLong) ++ too_long (before + length l) (n + 1) lines) ≡ Some (record { kind = LineTooLong; place = k })
    by_tests true true rest = ap (λ (f : Option Fault). first_of f (record { kind = RecordTooLong; place = n } ∷ too_long (before + length l) (n + 1) lines)) not_sooner ∙ rest
    by_tests true false rest = ap (λ (f : Option Fault). first_of f (too_long (before + length l) (n + 1) lines)) not_sooner ∙ rest
    by_tests false true rest = rest
    by_tests false false rest = rest

pub first_too_long : (lines : List (List ℕ)) (whole : List ℕ) (later : List (List ℕ)) (kind : Kind) → too_long 0 1 lines ≡ [] → ShowsFirst kind (length (joined lines)) whole
    → first_of None (too_long 0 1 (lines ++ whole ∷ later)) ≡ Some (record { kind = kind; place = 1 + length lines })
first_too_long lines whole later kind none shows =
    ap (first_of None) (too_long_joined 0 1 lines (whole ∷ later) ∙ (ap (λ (t : List Fault). t ++ too_long (0 + length (joined lines)) (1 + length lines) (whole ∷ later)) none
    ∙ ap (λ (n : ℕ). too_long n (1 + length lines) (whole ∷ later)) (let e : 0 + length (joined lines) ≡ length (joined lines) = omega arith in e)))
    ∙ by_tests (nat_lt (length (joined lines)) most_record_bytes && is_long (piece_of whole)) (nat_le (length (joined lines)) most_record_bytes && nat_lt most_record_bytes (length (joined lines) + length whole)) refl shows.0 shows.1
  where
    heads : (j : Kind) (js ks : List Kind) → j ∷ js ≡ kind ∷ ks → j ≡ kind
    heads j js ks e = cc

    far : (a n : ℕ) → (nat_le a most_record_bytes && nat_lt most_record_bytes (a + n)) ≡ true → most_record_bytes < a + n
    far a n is = grind (arith, nat_tests)

    by_tests : (p q : Bool) → (nat_le (length (joined lines)) most_record_bytes && nat_lt most_record_bytes (length (joined lines) + length whole)) ≡ q → (ks : List Kind) → shown_if p LineTooLong ++ shown_if q RecordTooLong ≡ kind ∷ ks
        → first_of None (faults_at (1 + length lines) (shown_if p LineTooLong ++ shown_if q RecordTooLong) ++ too_long (length (joined lines) + length whole) (1 + length lines + 1) later) ≡ Some (record { kind = kind; place = 1 + length lines })
    by_tests true true is ks e =
        long_stays (1 + length lines) (length (joined lines) + length whole) (1 + length lines + 1) later (omega arith)
        ∙ ap (λ (j : Kind). Some (record { kind = j; place = 1 + length lines })) (heads LineTooLong (RecordTooLong ∷ []) ks e)
    by_tests true false is ks e =
        long_stays (1 + length lines) (length (joined lines) + length whole) (1 + length lines + 1) later (omega arith)
        ∙ ap (λ (j : Kind). Some (record { kind = j; place = 1 + length lines })) (heads LineTooLong [] ks e)
    by_tests false true is ks e =
        ap (λ (t : List Fault). first_of (Some (record { kind = RecordTooLong; place = 1 + length lines })) t) (nothing_beyond (length (joined lines) + length whole) (1 + length lines + 1) later (far (length (joined lines)) (length whole) is))
        ∙ ap (λ (j : Kind). Some (record { kind = j; place = 1 + length lines })) (heads RecordTooLong [] ks e)
    by_tests false false is ks e = absurd cc
