-- The records of an SD file (CTfile formats, SD files): a record is a run of lines up to and with a line that begins with
-- `$$$$`. A line is kept whole here, with its carriage returns and its line feed, since its bytes are counted.
use Rattle.std.specs.Prelude.{ℕ, ◌+◌, ◌==◌, Bool, not, ◌&&◌, ◌||◌, nat_lt, nat_le, nat_eq, if◌then◌else◌, List, [], ◌∷◌, ◌++◌, length, map, codes, Option, Some, None, is_some, option_to_list}
use Rattle.std.specs.List.{filter, list_any, starts_with}
use Rattle.mc_base.specs.declared.kind.Kind.{Kind}
use Rattle.mc_base.specs.declared.kind.Kind.TheVariants.{LineTooLong, RecordTooLong}
use Rattle.mc_io.specs.Lines.{line_feed, onto_first, onto_ended, text_of, is_long}
use Rattle.ct_sd.specs.declared.fault.Fault.{Fault}
use Rattle.ct_sd.specs.Faults.{faults_at, shown_if}
use Rattle.ct_sd.specs.Columns.{is_blank_text}

-- the lines of bytes, each with its line feed; joined they are the bytes
abbrev pub whole_lines : List ℕ → List (List ℕ)
whole_lines [] = []
whole_lines (b ∷ bytes) = if b == line_feed then (b ∷ []) ∷ whole_lines bytes else onto_first b (whole_lines bytes)

-- those that have ended, whatever bytes come next
abbrev pub ended_lines : List ℕ → List (List ℕ)
ended_lines [] = []
ended_lines (b ∷ bytes) = if b == line_feed then (b ∷ []) ∷ ended_lines bytes else onto_ended b (ended_lines bytes)

abbrev pub joined : List (List ℕ) → List ℕ
joined [] = []
joined (line ∷ lines) = line ++ joined lines

-- a line without its line feed
abbrev pub piece_of : List ℕ → List ℕ
piece_of [] = []
piece_of (b ∷ whole) = if b == line_feed then [] else b ∷ piece_of whole

-- a line's text has no carriage returns at its end
abbrev pub line_text : List ℕ → List ℕ
line_text whole = text_of (piece_of whole)

abbrev pub ends_record : List ℕ → Bool
ends_record whole = starts_with nat_eq (piece_of whole) (codes "$$$$")

-- a run of lines, and the line that ends it, where it has one
pub record Run : Type 0 where
  pub lines : List (List ℕ)
  pub end : Option (List ℕ)

abbrev pub onto_run : List ℕ → List Run → List Run
onto_run whole [] = record { lines = whole ∷ []; end = None } ∷ []
onto_run whole (run ∷ runs) = record { lines = whole ∷ run.lines; end = run.end } ∷ runs

abbrev pub runs_of : List (List ℕ) → List Run
runs_of [] = []
runs_of (whole ∷ later) = if ends_record whole then record { lines = []; end = Some whole } ∷ runs_of later else onto_run whole (runs_of later)

-- a line has a byte other than space and tab
abbrev pub says_something : List ℕ → Bool
says_something whole = not (is_blank_text (line_text whole))

abbrev pub has_end : Run → Bool
has_end run = is_some run.end

-- the last run without an end line is a record only where one of its lines says something
abbrev pub is_record : Run → Bool
is_record run = has_end run || list_any says_something run.lines

-- the records of an input
abbrev pub sd_records : List ℕ → List Run
sd_records bytes = filter is_record (runs_of (whole_lines bytes))

-- those that have ended, with the line feed of their end lines, whatever bytes come next
abbrev pub ended_records : List ℕ → List Run
ended_records bytes = filter has_end (runs_of (ended_lines bytes))

-- the texts of a record's lines
abbrev pub texts : Run → List (List ℕ)
texts run = map line_text run.lines

-- ---- the first two kinds

-- the most bytes of a record, its line ends and its end line counted
abbrev pub most_record_bytes : ℕ
most_record_bytes = 16777216

-- the lines that count, the end line as the line behind the last
abbrev pub counted_lines : Run → List (List ℕ)
counted_lines run = run.lines ++ option_to_list run.end

-- what a line shows that so many bytes of its record stand before: it begins within the first bytes that a record may have,
-- and is long; or the first byte too many is one of its
abbrev pub length_shows : ℕ → List ℕ → List Kind
length_shows before whole =
    shown_if (nat_lt before most_record_bytes && is_long (piece_of whole)) LineTooLong
    ++ shown_if (nat_le before most_record_bytes && nat_lt most_record_bytes (before + length whole)) RecordTooLong

-- what is too long in lines, from the number of bytes before them and the number of the first
abbrev pub too_long : ℕ → ℕ → List (List ℕ) → List Fault
too_long before k [] = []
too_long before k (whole ∷ later) = faults_at k (length_shows before whole) ++ too_long (before + length whole) (k + 1) later

abbrev pub length_faults : Run → List Fault
length_faults run = too_long 0 1 (counted_lines run)
