-- The records of an input (this project's own): of lines of SMILES, the lines that aren't empty.
use Rattle.std.specs.Prelude.{ℕ, ◌<◌, ◌≤◌, ⊤, length, slice_range, ◌≡◌, Bool, true, false, List, [], ◌∷◌, ◌++◌, ◌==◌, Option, Some, None, count_by, filter, map}
use Rattle.mc_base.specs.declared.span.Span.{Span}
use Rattle.mc_io.specs.Lines.{IsLineText, ended_lines, line_feed, lines_of, most_bytes, pieces, text_of}
use Rattle.smi_mean.specs.Lines.{name_of}
use Rattle.ct_sd.specs.declared.fault.Fault.{Fault}
use Rattle.ct_sd.specs.DataLines.{data_lines}
use Rattle.ct_sd.specs.Faults.{first_of}
use Rattle.ct_sd.specs.Heads.{line as line_in}
use Rattle.ct_sd.specs.Records.{Run, length_faults, texts}
use Rattle.mc_convert.specs.declared.formats.Origin.{Origin}
use Rattle.mc_convert.specs.declared.formats.Origin.TheVariants.{Smi}
use Rattle.mc_convert.specs.declared.given.Given.{Given}
use Rattle.mc_convert.specs.declared.given.Given.TheVariants.{Line as GivenLine, TooLong as GivenLong, Sd as GivenSd, SdTooLong as GivenSdLong}

-- a record: a line with this text, or a line that is too long, of which there is no text; the lines of a record of an SD
-- file, or one that is too long, of which there is its first fault
pub data Record : Type 0 where
  Line : List ℕ → Record
  TooLong : Record
  Sd : List (List ℕ) → Record
  SdTooLong : Fault → Record

-- a record as it is handed in
abbrev pub record_of : Given → Record
record_of (GivenLine text) = Line text.now
record_of GivenLong = TooLong
record_of (GivenSd lines) = Sd lines
record_of (GivenSdLong fault) = SdTooLong fault

-- a line that is given isn't empty, is within the limit, and has nothing of its end
pub record IsGivenLine (text : List ℕ) : Type 0 where
  pub some : 0 < length text
  pub short : length text ≤ most_bytes
  pub one : IsLineText text

-- nor has the name of a record of an SD file
abbrev pub IsGiven : Given → Type 0
IsGiven (GivenLine text) = IsGivenLine text.now
IsGiven GivenLong = ⊤
IsGiven (GivenSd lines) = IsLineText (line_in 1 lines)
IsGiven (GivenSdLong fault) = ⊤

-- a line that is a record: any but an empty one
abbrev pub is_record : Option (List ℕ) → Bool
is_record None = true
is_record (Some []) = false
is_record (Some (b ∷ bs)) = true

abbrev pub line_record : Option (List ℕ) → Record
line_record None = TooLong
line_record (Some text) = Line text

-- a record of an SD file is too long where a kind of its length stands
abbrev pub run_record : Option Fault → List (List ℕ) → Record
run_record None lines = Sd lines
run_record (Some fault) lines = SdTooLong fault

abbrev pub sd_record : Run → Record
sd_record run = run_record (first_of None (length_faults run)) (texts run)

abbrev pub records : Origin → List ℕ → List Record
records Smi bytes = map line_record (filter is_record (lines_of bytes))

-- those that have ended, whatever bytes come next
abbrev pub ended_records : Origin → List ℕ → List Record
ended_records Smi bytes = map line_record (filter is_record (ended_lines bytes))

abbrev pub is_some_text : List ℕ → Bool
is_some_text [] = false
is_some_text (b ∷ bs) = true

-- the texts of the lines that are records, whatever their length: a limit on it is a reader's
abbrev pub record_texts : List ℕ → List (List ℕ)
record_texts bytes = filter is_some_text (map text_of (pieces bytes))

-- A text and a name as one line: a blank parts them, and stands also where both are empty.
abbrev pub with_name : List ℕ → List ℕ → List ℕ
with_name [] name = 32 ∷ name
with_name (b ∷ bs) [] = b ∷ bs
with_name (b ∷ bs) (c ∷ cs) = (b ∷ bs) ++ (32 ∷ c ∷ cs)

-- the name of a line stands here in it
pub record IsNameAt (text : List ℕ) (name : Span) : Type 0 where
  pub within : (name.from ≤ name.to) × (name.to ≤ length text)
  pub is : slice_range text name.from name.to ≡ name_of text

-- the name of a record
abbrev pub name_in : Record → List ℕ
name_in (Line text) = name_of text
name_in TooLong = []
name_in (Sd lines) = line_in 1 lines
name_in (SdTooLong fault) = []

-- a data line that begins with `>` is a header
abbrev pub is_header : List ℕ → Bool
is_header [] = false
is_header (b ∷ text) = b == 62

abbrev pub header_count : List (List ℕ) → ℕ
header_count lines = count_by is_header (data_lines lines)

-- how many headers of a record's data lines aren't carried over: a line has no data
abbrev pub headers_in : Record → ℕ
headers_in (Line text) = 0
headers_in TooLong = 0
headers_in (Sd lines) = header_count lines
headers_in (SdTooLong fault) = 0

-- a text as a line
abbrev pub line : List ℕ → List ℕ
line text = text ++ line_feed ∷ []
