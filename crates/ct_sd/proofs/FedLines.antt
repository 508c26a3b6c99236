-- Lines one behind the other, and where they stand.
use Rattle.std.proofs.Common.{arith, ◌≡◌, ◌∙◌, ℕ, zero, suc, ◌+◌, ◌-◌, ◌≤◌, ◌==◌, ◌||◌, ◌&&◌, Bool, true, false, if◌then◌else◌, List, [], ◌∷◌, ◌++◌, length, take, drop, map, Some, None, refl, ap, sym, subst}
use Rattle.std.specs.Prelude.{nat_le, nat_lt, not, All}
use Rattle.std.specs.List.{filter, list_any}
use Rattle.std.proofs.lemmas.Bool.Decides.{nat_tests}
use Rattle.std.proofs.lemmas.List.{append_assoc, append-nil, drop_at, length-append}
use Rattle.std.proofs.lemmas.List.Elements.{All-cons, All-nil}
use Rattle.std.proofs.lemmas.Bool.{or_parts}
use Rattle.mc_base.specs.declared.kind.Kind.{Kind}
use Rattle.mc_base.specs.declared.kind.Kind.TheVariants.{LineTooLong, RecordTooLong}
use Rattle.mc_base.specs.declared.span.Span.{Span}
use Rattle.mc_io.specs.Lines.{has_feed, is_long, line_feed, text_of}
use Rattle.mc_io.proofs.Cutting.{text_front, text_len_le}
use Rattle.ct_sd.specs.declared.fault.Fault.{Fault}
use Rattle.ct_sd.specs.Columns.{is_blank_text}
use Rattle.ct_sd.specs.Faults.{faults_at, shown_if}
use Rattle.ct_sd.specs.FoundRecords.{ArePlain, AreSpans, IsFed, IsSpan}
use Rattle.ct_sd.specs.Ranges.{part}
use Rattle.ct_sd.specs.Records.{Run, ended_lines, ended_records, ends_record, has_end, joined, length_shows, line_text, most_record_bytes, onto_run, piece_of, runs_of, too_long, says_something, whole_lines}
use Rattle.ct_sd.proofs.NoneShown.{none_back, not_shown}

-- ---- a line with its line feed

pub piece_is : (piece : List ℕ) → has_feed piece ≡ false → piece_of (piece ++ line_feed ∷ []) ≡ piece
piece_is [] clear = refl
piece_is (b ∷ piece) clear = let both = or_parts (b == line_feed) (has_feed piece) clear in rw (both.0, piece_is piece both.1) refl

pub bare_is : (piece : List ℕ) → has_feed piece ≡ false → piece_of piece ≡ piece
bare_is [] clear = refl
bare_is (b ∷ piece) clear = let both = or_parts (b == line_feed) (has_feed piece) clear in rw (both.0, bare_is piece both.1) refl

pub fed_len : (piece : List ℕ) → length (piece ++ line_feed ∷ []) ≡ length piece + 1
fed_len piece = length-append piece (line_feed ∷ [])

pub fed_front : (piece rest : List ℕ) → take (length piece + 1) (piece ++ line_feed ∷ rest) ≡ piece ++ line_feed ∷ []
fed_front [] rest = refl
fed_front (b ∷ piece) rest =
    ap (λ (k : ℕ). take k (b ∷ (piece ++ line_feed ∷ rest))) (let e : suc (length piece) + 1 ≡ suc (length piece + 1) = omega arith in e) ∙ ap (λ (t : List ℕ). b ∷ t) (fed_front piece rest)

-- ---- lines in a row

pub joined_more : (lines : List (List ℕ)) (line : List ℕ) → joined (lines ++ line ∷ []) ≡ joined lines ++ line
joined_more [] line = append-nil line
joined_more (l ∷ lines) line = ap (λ (t : List ℕ). l ++ t) (joined_more lines line) ∙ sym (append_assoc l (joined lines) line)

pub joined_both : (xs ys : List (List ℕ)) → joined (xs ++ ys) ≡ joined xs ++ joined ys
joined_both [] ys = refl
joined_both (l ∷ xs) ys = ap (λ (t : List ℕ). l ++ t) (joined_both xs ys) ∙ sym (append_assoc l (joined xs) (joined ys))

pub plain_both : (xs ys : List (List ℕ)) → ArePlain xs → ArePlain ys → ArePlain (xs ++ ys)
plain_both [] ys p q = q
plain_both (l ∷ xs) ys p q = (p.0, plain_both xs ys p.1 q)

-- each line has a byte
pub few_lines : (lines : List (List ℕ)) → ArePlain lines → length lines ≤ length (joined lines)
few_lines [] plain = omega arith
few_lines (l ∷ lines) plain =
    let later = few_lines lines plain.1 in
    let n = length-append l (joined lines) in
    let size : length l ≡ length plain.0.fed.piece + 1 = ap length plain.0.fed.is ∙ fed_len plain.0.fed.piece in omega arith

-- ---- the lines of bytes

first_whole : (piece rest : List ℕ) → has_feed piece ≡ false → whole_lines (piece ++ line_feed ∷ rest) ≡ (piece ++ line_feed ∷ []) ∷ whole_lines rest
first_whole [] rest clear = refl
first_whole (b ∷ piece) rest clear = let both = or_parts (b == line_feed) (has_feed piece) clear in rw (both.0, first_whole piece rest both.1) refl

first_ended : (piece rest : List ℕ) → has_feed piece ≡ false → ended_lines (piece ++ line_feed ∷ rest) ≡ (piece ++ line_feed ∷ []) ∷ ended_lines rest
first_ended [] rest clear = refl
first_ended (b ∷ piece) rest clear = let both = or_parts (b == line_feed) (has_feed piece) clear in rw (both.0, first_ended piece rest both.1) refl

none_ended : (piece : List ℕ) → has_feed piece ≡ false → ended_lines piece ≡ []
none_ended [] clear = refl
none_ended (b ∷ piece) clear = let both = or_parts (b == line_feed) (has_feed piece) clear in rw (both.0, none_ended piece both.1) refl

pub last_whole : (b : ℕ) (piece : List ℕ) → has_feed (b ∷ piece) ≡ false → whole_lines (b ∷ piece) ≡ (b ∷ piece) ∷ []
last_whole b [] clear = let both = or_parts (b == line_feed) false clear in rw both.0 refl
last_whole b (c ∷ piece) clear = let both = or_parts (b == line_feed) (has_feed (c ∷ piece)) clear in rw (both.0, last_whole c piece both.1) refl

split_at : (piece rest : List ℕ) (whole : List ℕ) → whole ≡ piece ++ line_feed ∷ [] → whole ++ rest ≡ piece ++ line_feed ∷ rest
split_at piece rest whole is = ap (λ (t : List ℕ). t ++ rest) is ∙ append_assoc piece (line_feed ∷ []) rest

pub fed_whole : (whole rest : List ℕ) → IsFed whole → whole_lines (whole ++ rest) ≡ whole ∷ whole_lines rest
fed_whole whole rest fed =
    ap whole_lines (split_at fed.piece rest whole fed.is) ∙ (first_whole fed.piece rest fed.clear ∙ ap (λ (t : List ℕ). t ∷ whole_lines rest) (sym fed.is))

pub fed_ended : (whole rest : List ℕ) → IsFed whole → ended_lines (whole ++ rest) ≡ whole ∷ ended_lines rest
fed_ended whole rest fed =
    ap ended_lines (split_at fed.piece rest whole fed.is) ∙ (first_ended fed.piece rest fed.clear ∙ ap (λ (t : List ℕ). t ∷ ended_lines rest) (sym fed.is))

pub plain_whole : (lines : List (List ℕ)) (rest : List ℕ) → ArePlain lines → whole_lines (joined lines ++ rest) ≡ lines ++ whole_lines rest
plain_whole [] rest plain = refl
plain_whole (l ∷ lines) rest plain =
    ap whole_lines (append_assoc l (joined lines) rest) ∙ (fed_whole l (joined lines ++ rest) plain.0.fed ∙ ap (λ (t : List (List ℕ)). l ∷ t) (plain_whole lines rest plain.1))

pub plain_ended : (lines : List (List ℕ)) (rest : List ℕ) → ArePlain lines → ended_lines (joined lines ++ rest) ≡ lines ++ ended_lines rest
plain_ended [] rest plain = refl
plain_ended (l ∷ lines) rest plain =
    ap ended_lines (append_assoc l (joined lines) rest) ∙ (fed_ended l (joined lines ++ rest) plain.0.fed ∙ ap (λ (t : List (List ℕ)). l ∷ t) (plain_ended lines rest plain.1))

-- ---- runs

-- lines and the line that ends their record
pub closed_run : (lines : List (List ℕ)) (end : List ℕ) (later : List (List ℕ)) → ArePlain lines → ends_record end ≡ true → runs_of (lines ++ end ∷ later) ≡ record { lines = lines; end = Some end } ∷ runs_of later
closed_run [] end later plain ends = ap (λ (t : Bool). if t then record { lines = []; end = Some end } ∷ runs_of later else onto_run end (runs_of later)) ends
closed_run (l ∷ lines) end later plain ends =
    ap (λ (t : Bool). if t then record { lines = []; end = Some l } ∷ runs_of (lines ++ end ∷ later) else onto_run l (runs_of (lines ++ end ∷ later))) plain.0.other
    ∙ ap (onto_run l) (closed_run lines end later plain.1 ends)

-- the runs of lines that end none: at most one, and that without an end
abbrev pub open_runs : List (List ℕ) → List Run
open_runs [] = []
open_runs (l ∷ lines) = record { lines = l ∷ lines; end = None } ∷ []

pub plain_runs : (lines : List (List ℕ)) → ArePlain lines → runs_of lines ≡ open_runs lines
plain_runs [] plain = refl
plain_runs (l ∷ lines) plain =
    ap (λ (t : Bool). if t then record { lines = []; end = Some l } ∷ runs_of lines else onto_run l (runs_of lines)) plain.0.other
    ∙ (ap (onto_run l) (plain_runs lines plain.1) ∙ onto l lines)
  where
    onto : (l : List ℕ) (lines : List (List ℕ)) → onto_run l (open_runs lines) ≡ record { lines = l ∷ lines; end = None } ∷ []
    onto l [] = refl
    onto l (m ∷ lines) = refl

-- no record has ended
pub none_closed : (lines : List (List ℕ)) (rest : List ℕ) → ArePlain lines → has_feed rest ≡ false → ended_records (joined lines ++ rest) ≡ []
none_closed lines rest plain clear =
    ap (λ (t : List (List ℕ)). filter has_end (runs_of t)) (plain_ended lines rest plain ∙ (ap (λ (t : List (List ℕ)). lines ++ t) (none_ended rest clear) ∙ append-nil lines))
    ∙ (ap (filter has_end) (plain_runs lines plain) ∙ none lines)
  where
    none : (lines : List (List ℕ)) → filter has_end (open_runs lines) ≡ []
    none [] = refl
    none (l ∷ lines) = refl

-- ---- what is too long

not_over : (before n : ℕ) → before ≤ most_record_bytes → (nat_le before most_record_bytes && nat_lt most_record_bytes (before + n)) ≡ false → before + n ≤ most_record_bytes
not_over before n low is = grind (arith, nat_tests)

pub short_enough : (before : ℕ) (whole : List ℕ) → before ≤ most_record_bytes → length_shows before whole ≡ [] → before + length whole ≤ most_record_bytes
short_enough before whole low none =
    not_over before (length whole) low
    (not_shown (nat_le before most_record_bytes && nat_lt most_record_bytes (before + length whole)) RecordTooLong
    (none_back (shown_if (nat_lt before most_record_bytes && is_long (piece_of whole)) LineTooLong) (shown_if (nat_le before most_record_bytes && nat_lt most_record_bytes (before + length whole)) RecordTooLong) none))

sum_behind : (a b c : ℕ) → a + b + c ≡ a + (b + c)
sum_behind a b c = omega arith

one_behind : (k n : ℕ) → k + 1 + n ≡ k + suc n
one_behind k n = omega arith

-- lines one behind the other
pub too_long_joined : (before k : ℕ) (xs ys : List (List ℕ)) → too_long before k (xs ++ ys) ≡ too_long before k xs ++ too_long (before + length (joined xs)) (k + length xs) ys
too_long_joined before k [] ys = ap (λ (n : ℕ). too_long n k ys) (let e : before ≡ before + 0 = omega arith in e) ∙ ap (λ (n : ℕ). too_long (before + 0) n ys) (let e : k ≡ k + 0 = omega arith in e)
too_long_joined before k (x ∷ xs) ys =
    ap (λ (t : List Fault). here ++ t) (too_long_joined (before + length x) (k + 1) xs ys
    ∙ (ap (λ (n : ℕ). too_long (before + length x) (k + 1) xs ++ too_long n (k + 1 + length xs) ys) (sum_behind before (length x) (length (joined xs)) ∙ ap (λ (n : ℕ). before + n) (sym (length-append x (joined xs))))
    ∙ ap (λ (n : ℕ). too_long (before + length x) (k + 1) xs ++ too_long (before + length (x ++ joined xs)) n ys) (one_behind k (length xs))))
    ∙ sym (append_assoc here (too_long (before + length x) (k + 1) xs) (too_long (before + length (x ++ joined xs)) (k + suc (length xs)) ys))
  where
    here : List Fault
    here = faults_at k (length_shows before x)

pub none_more : (lines : List (List ℕ)) (at : ℕ) (whole : List ℕ) → too_long 0 1 lines ≡ [] → at ≡ length (joined lines) → length_shows at whole ≡ [] → too_long 0 1 (lines ++ whole ∷ []) ≡ []
none_more lines at whole none size shows =
    too_long_joined 0 1 lines (whole ∷ [])
    ∙ (ap (λ (t : List Fault). t ++ too_long (0 + length (joined lines)) (1 + length lines) (whole ∷ [])) none
    ∙ (ap (λ (n : ℕ). too_long n (1 + length lines) (whole ∷ [])) (let e : 0 + length (joined lines) ≡ length (joined lines) = omega arith in e)
    ∙ ap (λ (kinds : List Kind). faults_at (1 + length lines) kinds ++ []) (ap (λ (n : ℕ). length_shows n whole) (sym size) ∙ shows)))

-- ---- ranges

pub more_bytes : (bytes more : List ℕ) (range : Span) (line : List ℕ) → IsSpan bytes range line → IsSpan (bytes ++ more) range line
more_bytes bytes more range line is = record {
  rising = is.rising;
  within = let n = length-append bytes more in let low = is.within in omega arith;
  text = front (range.to - range.from) range.from bytes (let low = is.within in let up = is.rising in omega arith) ∙ is.text;
}
  where
    none : (n : ℕ) (bytes more : List ℕ) → n ≤ length bytes → take n (bytes ++ more) ≡ take n bytes
    none zero bytes more low = refl
    none (suc n) [] more low = absurd (omega arith)
    none (suc n) (b ∷ bytes) more low = ap (λ (t : List ℕ). b ∷ t) (none n bytes more (omega arith))

    front : (n from : ℕ) (bytes : List ℕ) → from + n ≤ length bytes → take n (drop from (bytes ++ more)) ≡ take n (drop from bytes)
    front n zero bytes low = none n bytes more (omega arith)
    front n (suc from) [] low = absurd (omega arith)
    front n (suc from) (b ∷ bytes) low = front n from bytes (omega arith)

pub spans_on : (bytes more : List ℕ) (ranges : List Span) (lines : List (List ℕ)) → AreSpans bytes ranges lines → AreSpans (bytes ++ more) ranges lines
spans_on bytes more [] [] are = tt
spans_on bytes more (range ∷ ranges) (line ∷ lines) are = (more_bytes bytes more range line are.0, spans_on bytes more ranges lines are.1)
spans_on bytes more [] (line ∷ lines) are = absurd are
spans_on bytes more (range ∷ ranges) [] are = absurd are

spans_more : (bytes : List ℕ) (ranges : List Span) (lines : List (List ℕ)) (range : Span) (line : List ℕ) → AreSpans bytes ranges lines → IsSpan bytes range line → AreSpans bytes (ranges ++ range ∷ []) (lines ++ line ∷ [])
spans_more bytes [] [] range line are is = (is, tt)
spans_more bytes (r ∷ ranges) (l ∷ lines) range line are is = (are.0, spans_more bytes ranges lines range line are.1 is)
spans_more bytes [] (l ∷ lines) range line are is = absurd are
spans_more bytes (r ∷ ranges) [] range line are is = absurd are

pub count_is : (bytes : List ℕ) (ranges : List Span) (lines : List (List ℕ)) → AreSpans bytes ranges lines → length ranges ≡ length lines
count_is bytes [] [] are = refl
count_is bytes (r ∷ ranges) (l ∷ lines) are = ap suc (count_is bytes ranges lines are.1)
count_is bytes [] (l ∷ lines) are = absurd are
count_is bytes (r ∷ ranges) [] are = absurd are

pub texts_are : (bytes : List ℕ) (ranges : List Span) (lines : List (List ℕ)) → AreSpans bytes ranges lines → map (part bytes) ranges ≡ map line_text lines
texts_are bytes [] [] are = refl
texts_are bytes (r ∷ ranges) (l ∷ lines) are = ap (λ (t : List ℕ). t ∷ map (part bytes) ranges) are.0.text ∙ ap (λ (t : List (List ℕ)). line_text l ∷ t) (texts_are bytes ranges lines are.1)
texts_are bytes [] (l ∷ lines) are = absurd are
texts_are bytes (r ∷ ranges) [] are = absurd are

-- the range of a line behind others
span_is : (front piece whole : List ℕ) (at text : ℕ) (range : Span) → at ≡ length front → piece_of whole ≡ piece → (more : List ℕ) → whole ≡ piece ++ more → text ≡ length (line_text whole) → range.from ≡ at → range.to ≡ at + text → IsSpan (front ++ whole) range whole
span_is front piece whole at text range size is more split texts from to =
    let same : text ≡ length (text_of piece) = texts ∙ ap (λ (p : List ℕ). length (text_of p)) is in
    let low : text ≤ length piece = let le = text_len_le piece in omega arith in
    let n = length-append front whole in
    let m : length whole ≡ length piece + length more = ap length split ∙ length-append piece more in record {
      rising = omega arith;
      within = omega arith;
      text =
          ap (λ (k : ℕ). take (k - range.from) (drop range.from (front ++ whole))) to
          ∙ (ap (λ (k : ℕ). take (at + text - k) (drop k (front ++ whole))) from
          ∙ (ap (λ (k : ℕ). take k (drop at (front ++ whole))) (let e : at + text - at ≡ text = omega arith in e)
          ∙ (ap (λ (t : List ℕ). take text t) (drop_at front whole at (sym size))
          ∙ (ap (λ (t : List ℕ). take text t) split ∙ (front_of text piece more low ∙ (ap (λ (k : ℕ). take k piece) same ∙ (text_front piece ∙ ap text_of (sym is))))))));
    }
  where
    front_of : (n : ℕ) (xs ys : List ℕ) → n ≤ length xs → take n (xs ++ ys) ≡ take n xs
    front_of zero xs ys low = refl
    front_of (suc n) [] ys low = absurd (omega arith)
    front_of (suc n) (x ∷ xs) ys low = ap (λ (t : List ℕ). x ∷ t) (front_of n xs ys (omega arith))

pub span_more : (lines : List (List ℕ)) (ranges : List Span) (piece whole more : List ℕ) (at text : ℕ) (range : Span) → AreSpans (joined lines) ranges lines → at ≡ length (joined lines) → piece_of whole ≡ piece → whole ≡ piece ++ more
    → text ≡ length (line_text whole) → range.from ≡ at → range.to ≡ at + text → AreSpans (joined (lines ++ whole ∷ [])) (ranges ++ range ∷ []) (lines ++ whole ∷ [])
span_more lines ranges piece whole more at text range are size is split texts from to =
    subst (λ (t : List ℕ). AreSpans t (ranges ++ range ∷ []) (lines ++ whole ∷ [])) (sym (joined_more lines whole))
    (spans_more (joined lines ++ whole) ranges lines range whole (spans_on (joined lines) whole ranges lines are) (span_is (joined lines) piece whole at text range size is more split texts from to))

-- each range is a part of the bytes
pub spans_within : (bytes : List ℕ) (ranges : List Span) (lines : List (List ℕ)) → AreSpans bytes ranges lines → All (λ (r : Span). (r.from ≤ r.to) × (r.to ≤ length bytes)) ranges
spans_within bytes [] [] are = All-nil (λ (r : Span). (r.from ≤ r.to) × (r.to ≤ length bytes))
spans_within bytes (r ∷ ranges) (l ∷ lines) are =
    All-cons (λ (r : Span). (r.from ≤ r.to) × (r.to ≤ length bytes)) r ranges (are.0.rising, are.0.within) (spans_within bytes ranges lines are.1)
spans_within bytes [] (l ∷ lines) are = absurd are
spans_within bytes (r ∷ ranges) [] are = absurd are

-- what they say is what the lines say
pub say_is : (bytes : List ℕ) (ranges : List Span) (lines : List (List ℕ)) → AreSpans bytes ranges lines → list_any (λ (r : Span). not (is_blank_text (part bytes r))) ranges ≡ list_any says_something lines
say_is bytes [] [] are = refl
say_is bytes (r ∷ ranges) (l ∷ lines) are =
    ap (λ (t : List ℕ). not (is_blank_text t) || list_any (λ (s : Span). not (is_blank_text (part bytes s))) ranges) are.0.text
    ∙ ap (λ (t : Bool). says_something l || t) (say_is bytes ranges lines are.1)
say_is bytes [] (l ∷ lines) are = absurd are
say_is bytes (r ∷ ranges) [] are = absurd are
