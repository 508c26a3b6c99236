-- The last run of an input.
use Rattle.std.proofs.Common.{arith, ◌≡◌, ◌∙◌, ℕ, zero, suc, ◌+◌, ◌-◌, ◌<◌, ◌≤◌, ◌==◌, ◌&&◌, ◌||◌, Bool, true, false, if◌then◌else◌, List, [], ◌∷◌, ◌++◌, length, take, drop, Some, None, refl, ap, sym, subst, inl, inr}
use Rattle.std.specs.Prelude.{nat_lt}
use Rattle.std.specs.List.{filter, list_any}
use Rattle.std.proofs.lemmas.Bool.{false≢true, or_parts}
use Rattle.std.proofs.lemmas.Bool.Decides.{nat_tests}
use Rattle.std.proofs.lemmas.List.{append_assoc, append-nil, drop_all, length-append, length-drop, take_all, take-append-drop}
use Rattle.mc_base.specs.declared.kind.Kind.{Kind}
use Rattle.mc_base.specs.declared.kind.Kind.TheVariants.{LineTooLong, RecordTooLong}
use Rattle.mc_base.specs.declared.span.Span.{Span}
use Rattle.mc_io.specs.Lines.{has_feed, is_long, line_feed}
use Rattle.ct_sd.specs.declared.record_front.LineRole.{LineRole}
use Rattle.ct_sd.specs.declared.record_front.LineRole.TheVariants.{Line, End, TooLong}
use Rattle.ct_sd.specs.declared.record_front.Scan.{Scan}
use Rattle.ct_sd.specs.FoundRecords.{AreSpans, IsLastRecord, IsOpenRun, IsScanned, IsSearched, Plays, ShowsFirst, Spoils, last_run}
use Rattle.ct_sd.specs.Records.{ends_record, is_record, joined, most_record_bytes, piece_of, says_something, sd_records, too_long, whole_lines}
use Rattle.ct_sd.proofs.FedLines.{bare_is, fed_whole, joined_more, none_more, span_more, spans_on}
use Rattle.ct_sd.proofs.Fronts.{front_records}
use Rattle.ct_sd.proofs.LineRoles.{shows_some}
use Rattle.ct_sd.proofs.Scanning.{at_is}

-- what is scanned whole
pub searched_is : (held : List ℕ) (scan : Scan) (ranges : List Span) → IsScanned held scan ranges → scan.searched ≡ length held → IsSearched held scan.at ranges
searched_is held scan ranges s all =
    let order = s.order in
    let inside = s.within in
    let n = length-drop scan.at held in record {
      lines = s.lines;
      plain = s.plain;
      split = sym (take-append-drop scan.at held) ∙ ap (λ (t : List ℕ). t ++ drop scan.at held) s.front;
      at_is = at_is held scan ranges s;
      short = s.short;
      within = omega arith;
      none = s.none;
      clear = sym (ap has_feed (all_of (scan.searched - scan.at) (drop scan.at held) (omega arith))) ∙ s.clear;
      spans = s.spans;
    }
  where
    all_of : (n : ℕ) (xs : List ℕ) → length xs ≤ n → take n xs ≡ xs
    all_of zero [] low = refl
    all_of zero (x ∷ xs) low = absurd (omega arith)
    all_of (suc n) [] low = refl
    all_of (suc n) (x ∷ xs) low = ap (λ (t : List ℕ). x ∷ t) (all_of n xs (omega arith))

-- ---- a line that shows a kind, whatever comes behind it

pub feed_there : (piece rest : List ℕ) → has_feed (piece ++ line_feed ∷ rest) ≡ true
feed_there [] rest = refl
feed_there (b ∷ piece) rest = rw (feed_there piece rest) (or_true _)
  where
    or_true : (t : Bool) → (t || true) ≡ true
    or_true true = refl
    or_true false = refl

-- a line with its line feed stands there
pub spoils_fed : (at : ℕ) (held piece behind : List ℕ) → has_feed piece ≡ false → held ≡ piece ++ line_feed ∷ behind → Plays TooLong at (piece ++ line_feed ∷ []) → (ended : Bool) → Spoils at held ended
spoils_fed at held piece behind clear split shows ended whole rest more last is (inl fed) =
    subst (λ (w : List ℕ). (kind : Kind) × ShowsFirst kind at w) (heads (piece ++ line_feed ∷ []) whole (whole_lines (behind ++ more)) (whole_lines rest) (sym first ∙ (ap whole_lines is ∙ fed_whole whole rest fed))) shows
  where
    heads : (x y : List ℕ) (xs ys : List (List ℕ)) → x ∷ xs ≡ y ∷ ys → x ≡ y
    heads x y xs ys e = cc

    first : whole_lines (held ++ more) ≡ (piece ++ line_feed ∷ []) ∷ whole_lines (behind ++ more)
    first =
        ap (λ (t : List ℕ). whole_lines (t ++ more)) split
        ∙ (ap whole_lines (append_assoc piece (line_feed ∷ behind) more ∙ sym (append_assoc piece (line_feed ∷ []) (behind ++ more)))
        ∙ fed_whole (piece ++ line_feed ∷ []) (behind ++ more) (record { piece = piece; clear = clear; is = refl }))
spoils_fed at held piece behind clear split shows ended whole rest more last is (inr bare) =
    absurd (false≢true (sym bare.0 ∙ (ap has_feed (sym (append-nil whole) ∙ (ap (λ (t : List ℕ). whole ++ t) (sym bare.1) ∙ (sym is ∙ (ap (λ (t : List ℕ). t ++ more) split ∙ append_assoc piece (line_feed ∷ behind) more)))) ∙ feed_there piece (behind ++ more))))

-- no line feed stands there, and there are more bytes than a record may have
over_shows : (at : ℕ) (whole : List ℕ) → at ≤ most_record_bytes → most_record_bytes < at + length whole → (kind : Kind) × ShowsFirst kind at whole
over_shows at whole low far = by_long (nat_lt at most_record_bytes && is_long (piece_of whole)) refl
  where
    tests : (n : ℕ) → most_record_bytes < n → nat_lt most_record_bytes n ≡ true
    tests n far = grind (arith, nat_tests)

    by_long : (t : Bool) → (nat_lt at most_record_bytes && is_long (piece_of whole)) ≡ t → (kind : Kind) × ShowsFirst kind at whole
    by_long true is =
        (LineTooLong, shows_some at (at + length whole) (is_long (piece_of whole)) LineTooLong whole low refl refl (ap (λ (b : Bool). if b then Some LineTooLong else if nat_lt most_record_bytes (at + length whole) then Some RecordTooLong else None) is))
    by_long false is = (
      RecordTooLong,
      shows_some at (at + length whole) (is_long (piece_of whole)) RecordTooLong whole low refl refl
          (ap (λ (b : Bool). if b then Some LineTooLong else if nat_lt most_record_bytes (at + length whole) then Some RecordTooLong else None) is
          ∙ ap (λ (b : Bool). if b then Some RecordTooLong else None) (tests (at + length whole) far)),
    )

no_longer : (xs piece rest more : List ℕ) → has_feed xs ≡ false → xs ++ more ≡ piece ++ line_feed ∷ rest → length xs ≤ length piece
no_longer [] piece rest more clear is = omega arith
no_longer (x ∷ xs) [] rest more clear is =
    let head : x ≡ line_feed = cc in absurd (feed x xs head clear)
  where
    feed : (x : ℕ) (xs : List ℕ) → x ≡ line_feed → has_feed (x ∷ xs) ≡ false → ⊥
    feed x xs head clear = let there : has_feed (x ∷ xs) ≡ true = subst (λ (y : ℕ). has_feed (y ∷ xs) ≡ true) (sym head) refl in false≢true (sym clear ∙ there)
no_longer (x ∷ xs) (p ∷ piece) rest more clear is =
    let later = no_longer xs piece rest more (or_parts (x == line_feed) (has_feed xs) clear).1 (let t : xs ++ more ≡ piece ++ line_feed ∷ rest = cc in t) in omega arith

pub spoils_over : (at : ℕ) (held : List ℕ) → at ≤ most_record_bytes → has_feed held ≡ false → most_record_bytes < at + length held → (ended : Bool) → Spoils at held ended
spoils_over at held low clear far ended whole rest more last is (inl fed) =
    over_shows at whole low
    (let n : length whole ≡ length fed.piece + 1 = ap length fed.is ∙ length-append fed.piece (line_feed ∷ []) in
    let longer = no_longer held fed.piece rest more clear (is ∙ (ap (λ (t : List ℕ). t ++ rest) fed.is ∙ append_assoc fed.piece (line_feed ∷ []) rest)) in omega arith)
spoils_over at held low clear far ended whole rest more last is (inr bare) =
    over_shows at whole low
    (let same : length whole ≡ length held + length more = ap length (sym (append-nil whole) ∙ (ap (λ (t : List ℕ). whole ++ t) (sym bare.1) ∙ sym is)) ∙ length-append held more in omega arith)

-- the last line of an input, with no line feed
pub spoils_last : (at : ℕ) (held : List ℕ) → has_feed held ≡ false → Plays TooLong at held → Spoils at held true
spoils_last at held clear shows whole rest more last is (inl fed) =
    absurd (false≢true (sym clear ∙ (ap has_feed (sym (append-nil held) ∙ (ap (λ (t : List ℕ). held ++ t) (sym (last refl)) ∙ (is ∙ (ap (λ (t : List ℕ). t ++ rest) fed.is ∙ append_assoc fed.piece (line_feed ∷ []) rest)))) ∙ feed_there fed.piece rest)))
spoils_last at held clear shows whole rest more last is (inr bare) =
    subst (λ (w : List ℕ). (kind : Kind) × ShowsFirst kind at w) (sym (append-nil held) ∙ (ap (λ (t : List ℕ). held ++ t) (sym (last refl)) ∙ (is ∙ (ap (λ (t : List ℕ). whole ++ t) bare.1 ∙ append-nil whole)))) shows

-- ---- the exits of the last run

some_piece : (piece : List ℕ) → 0 < length piece → (b : ℕ) × (rest : List ℕ) × (piece ≡ b ∷ rest)
some_piece [] some = absurd (omega arith)
some_piece (b ∷ rest) some = (b, rest, refl)

run_with : (lines : List (List ℕ)) (piece : List ℕ) (ends : Bool) → 0 < length piece → ends_record piece ≡ ends
    → last_run lines piece ≡ (if ends then record { lines = lines; end = Some piece } else record { lines = lines ++ piece ∷ []; end = None })
run_with lines [] ends some is = absurd (omega arith)
run_with lines (b ∷ piece) ends some is = ap (λ (t : Bool). if t then record { lines = lines; end = Some (b ∷ piece) } else record { lines = lines ++ (b ∷ piece) ∷ []; end = None }) is

-- it is a line
pub open_line : (held : List ℕ) (at text : ℕ) (ranges : List Span) (range : Span) → IsSearched held at ranges → at < length held → Plays (Line text) at (drop at held) → range.from ≡ at → range.to ≡ at + text → IsOpenRun held (ranges ++ range ∷ [])
open_line held at text ranges range s some plays from to =
    let piece = drop at held in
    let n = length-drop at held in
    let all : held ≡ joined (s.lines ++ piece ∷ []) = s.split ∙ sym (joined_more s.lines piece) in record {
      lines = s.lines ++ piece ∷ [];
      last = record {
        lines = s.lines;
        plain = s.plain;
        piece = piece;
        clear = s.clear;
        is = sym (run_with s.lines piece false (omega arith) plays.1);
        split = s.split;
        none = refl;
        end = refl;
      };
      none = none_more s.lines at piece s.none s.at_is plays.0;
      spans =
          subst (λ (t : List ℕ). AreSpans t (ranges ++ range ∷ []) (s.lines ++ piece ∷ [])) (sym all)
          (span_more s.lines ranges piece piece [] at text range s.spans s.at_is (bare_is piece s.clear) (sym (append-nil piece)) plays.2 from to);
    }

-- there is none
pub open_none : (held : List ℕ) (at : ℕ) (ranges : List Span) → IsSearched held at ranges → length held ≤ at → IsOpenRun held ranges
open_none held at ranges s none =
    let empty : drop at held ≡ [] = drop_all at held none in
    let all : held ≡ joined s.lines = s.split ∙ (ap (λ (t : List ℕ). joined s.lines ++ t) empty ∙ append-nil (joined s.lines)) in record {
      lines = s.lines;
      last = record { lines = s.lines; plain = s.plain; piece = []; clear = refl; is = refl; split = all ∙ sym (append-nil (joined s.lines)); none = refl; end = refl };
      none = s.none;
      spans = subst (λ (t : List ℕ). AreSpans t ranges s.lines) (sym all) s.spans;
    }

-- it ends the record
pub last_end : (held : List ℕ) (at : ℕ) (ranges : List Span) → IsSearched held at ranges → at < length held → Plays End at (drop at held) → IsLastRecord (length held) held ranges
last_end held at ranges s some plays =
    let piece = drop at held in
    let n = length-drop at held in record {
      all = refl;
      run = record { lines = s.lines; end = Some piece };
      last = record { lines = s.lines; plain = s.plain; piece = piece; clear = s.clear; is = sym (run_with s.lines piece true (omega arith) plays.1); split = s.split; none = refl; end = refl };
      is_record = refl;
      none = none_more s.lines at piece s.none s.at_is plays.0;
      spans = subst (λ (t : List ℕ). AreSpans t ranges s.lines) (sym s.split) (spans_on (joined s.lines) piece ranges s.lines s.spans);
    }

-- the run says something, or nothing
pub open_record : (held : List ℕ) (ranges : List Span) (o : IsOpenRun held ranges) → list_any says_something o.lines ≡ true → IsLastRecord (length held) held ranges
open_record held ranges o says = record {
  all = refl;
  run = record { lines = o.lines; end = None };
  last = o.last;
  is_record = says;
  none = ap (too_long 0 1) (append-nil o.lines) ∙ o.none;
  spans = o.spans;
}

pub open_nothing : (held : List ℕ) (ranges : List Span) (o : IsOpenRun held ranges) → list_any says_something o.lines ≡ false → sd_records held ≡ []
open_nothing held ranges o says =
    ap sd_records (sym (append-nil held))
    ∙ (front_records (record { lines = o.lines; end = None }) held [] [] true (inr o.last) (λ e. refl)
    ∙ (append-nil (filter is_record (record { lines = o.lines; end = None } ∷ []))
    ∙ ap (λ (t : Bool). if t then record { lines = o.lines; end = None } ∷ [] else []) says))

-- what the last line is
pub role_last : (held : List ℕ) (at : ℕ) (ranges : List Span) (role : LineRole) → IsSearched held at ranges → ((whole : List ℕ) → piece_of whole ≡ take (length held - at) (drop at held) → length held ≡ at + length whole → Plays role at whole) → Plays role at (drop at held)
role_last held at ranges role s plays =
    let n = length-drop at held in
    let low = s.within in plays (drop at held) (bare_is (drop at held) s.clear ∙ sym (take_all (length held - at) (drop at held) (omega arith))) (omega arith)
