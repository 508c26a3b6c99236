-- How the record at the front of an input is found in a buffer (this project's own).
use Rattle.std.specs.Prelude.{◌≡◌, ◌⊎◌, ℕ, ◌+◌, ◌-◌, ◌^◌, ◌<◌, ◌≤◌, Bool, true, false, IsTrue, ⊤, if◌then◌else◌, ◌||◌, ◌&&◌, nat_lt, List, [], ◌∷◌, ◌++◌, length, take, drop, Option, Some, None}
use Rattle.mc_base.specs.declared.kind.Kind.{Kind}
use Rattle.mc_base.specs.declared.kind.Kind.TheVariants.{LineTooLong, RecordTooLong}
use Rattle.mc_base.specs.declared.span.Span.{Span}
use Rattle.mc_io.specs.declared.read_stop.ReadStop.{ReadStop}
use Rattle.mc_io.specs.declared.read_stop.ReadStop.TheVariants.{ReadFault, InputLimit, NoMemory}
use Rattle.mc_io.specs.Buffered.{Buffered, most_read}
use Rattle.mc_io.specs.Causes.{Rose}
use Rattle.mc_io.specs.FoundLines.{Fills, IsFirstFeed}
use Rattle.mc_io.specs.Lines.{line_feed, has_feed}
use Rattle.mc_io.specs.Outside.{Input}
use Rattle.ct_sd.specs.declared.fault.Fault.{Fault}
use Rattle.ct_sd.specs.declared.record_finding.Found.{Found}
use Rattle.ct_sd.specs.declared.record_finding.Found.TheVariants.{Record as FoundRecord, TooLong as FoundLong, End as FoundEnd}
use Rattle.ct_sd.specs.declared.record_front.Front.{Front}
use Rattle.ct_sd.specs.declared.record_front.Front.TheVariants.{Record as FrontRecord, TooLong as FrontTooLong, Nothing as FrontNothing}
use Rattle.ct_sd.specs.declared.record_front.LineRole.{LineRole}
use Rattle.ct_sd.specs.declared.record_front.LineRole.TheVariants.{Line, End, TooLong}
use Rattle.ct_sd.specs.declared.record_front.Met.{Met}
use Rattle.ct_sd.specs.declared.record_front.Met.TheVariants.{End as MetEnd, TooLong as MetLong}
use Rattle.ct_sd.specs.declared.record_front.Scan.{Scan}
use Rattle.ct_sd.specs.declared.record_passing.Passing.{Passing}
use Rattle.ct_sd.specs.declared.line_so_far.LineSoFar.{LineSoFar}
use Rattle.ct_sd.specs.LinesSoFar.{ends_here, is_long_so_far, is_something, none_yet}
use Rattle.ct_sd.specs.Ranges.{part}
use Rattle.ct_sd.specs.Faults.{first_of}
use Rattle.ct_sd.specs.Records.{Run, counted_lines, ended_records, ends_record, is_record, joined, length_faults, length_shows, sd_records, line_text, most_record_bytes, too_long}

-- the most bytes that a reader of records keeps: a record, and one read
abbrev pub most_room : ℕ
most_room = 16842752

-- ---- lines

-- a line with its line feed
pub record IsFed (whole : List ℕ) : Type 0 where
  pub piece : List ℕ
  pub clear : has_feed piece ≡ false
  pub is : whole ≡ piece ++ line_feed ∷ []

-- a line of a record, which another line follows
pub record IsPlain (whole : List ℕ) : Type 0 where
  pub fed : IsFed whole
  pub other : ends_record whole ≡ false

abbrev pub ArePlain : List (List ℕ) → Type 0
ArePlain [] = ⊤
ArePlain (line ∷ lines) = IsPlain line × ArePlain lines

-- a range has the text of a line
pub record IsSpan (bytes : List ℕ) (range : Span) (line : List ℕ) : Type 0 where
  pub rising : range.from ≤ range.to
  pub within : range.to ≤ length bytes
  pub text : part bytes range ≡ line_text line

abbrev pub AreSpans : List ℕ → List Span → List (List ℕ) → Type 0
AreSpans bytes [] [] = ⊤
AreSpans bytes (range ∷ ranges) (line ∷ lines) = IsSpan bytes range line × AreSpans bytes ranges lines
AreSpans bytes [] (line ∷ lines) = ⊥
AreSpans bytes (range ∷ ranges) [] = ⊥

-- what a line shows first that so many bytes of its record stand before
abbrev pub ShowsFirst : Kind → ℕ → List ℕ → Type 0
ShowsFirst kind before whole = (rest : List Kind) × (length_shows before whole ≡ kind ∷ rest)

-- the kind that stands first, by the bytes before a line and up to its end, and whether it is long
abbrev pub too_long_by : ℕ → ℕ → Bool → Option Kind
too_long_by before behind long = if nat_lt before most_record_bytes && long then Some LineTooLong else if nat_lt most_record_bytes behind then Some RecordTooLong else None

abbrev pub role_by : Option Kind → Bool → ℕ → LineRole
role_by (Some kind) ends text = TooLong
role_by None true text = End
role_by None false text = Line text

-- what a line is for its record
abbrev pub Plays : LineRole → ℕ → List ℕ → Type 0
Plays (Line text) before whole = (length_shows before whole ≡ []) × (ends_record whole ≡ false) × (text ≡ length (line_text whole))
Plays End before whole = (length_shows before whole ≡ []) × (ends_record whole ≡ true)
Plays TooLong before whole = (kind : Kind) × ShowsFirst kind before whole

-- ---- the lines that are held

-- The lines of a record at the front of what is held: none of them is too long, they stand at these ranges, and no line feed
-- stands between the end of the last and the place up to which it is searched.
pub record IsScanned (held : List ℕ) (scan : Scan) (ranges : List Span) : Type 0 where
  pub lines : List (List ℕ)
  pub plain : ArePlain lines
  pub front : take scan.at held ≡ joined lines
  pub order : scan.at ≤ scan.searched
  pub within : scan.searched ≤ length held
  pub short : scan.at ≤ most_record_bytes
  pub none : too_long 0 1 lines ≡ []
  pub clear : has_feed (take (scan.searched - scan.at) (drop scan.at held)) ≡ false
  pub spans : AreSpans (joined lines) ranges lines

-- behind them stands a line with its line feed
pub record Meets (held : List ℕ) (scan : Scan) (ranges : List Span) (to behind : ℕ) (Is : List ℕ → Type 0) : Type 0 where
  pub scanned : IsScanned held scan ranges
  pub piece : List ℕ
  pub clear : has_feed piece ≡ false
  pub split : drop scan.at held ≡ piece ++ line_feed ∷ drop behind held
  pub to_is : to ≡ scan.at + length piece
  pub behind_is : behind ≡ to + 1
  pub within : behind ≤ length held
  pub later : scan.searched ≤ behind
  pub is : Is (piece ++ line_feed ∷ [])

abbrev pub HasMet : Option Met → List ℕ → Scan → List Span → Type 0
HasMet None held scan ranges = IsScanned held scan ranges × (scan.searched ≡ length held)
HasMet (Some (MetEnd behind)) held scan ranges = (to : ℕ) × Meets held scan ranges to behind (λ whole. Plays End scan.at whole)
HasMet (Some MetLong) held scan ranges = (to : ℕ) × (behind : ℕ) × Meets held scan ranges to behind (λ whole. Plays TooLong scan.at whole)

-- ---- the record at the front of bytes

-- its lines and the line that ends it, with its line feed
pub record IsClosed (run : Run) (bytes rest : List ℕ) : Type 0 where
  pub plain : ArePlain run.lines
  pub whole : List ℕ
  pub fed : IsFed whole
  pub ends : ends_record whole ≡ true
  pub end : run.end ≡ Some whole
  pub split : bytes ≡ joined run.lines ++ (whole ++ rest)

-- the last run of an input: lines, and what stands behind the last line feed
abbrev pub last_run : List (List ℕ) → List ℕ → Run
last_run lines [] = record { lines = lines; end = None }
last_run lines (b ∷ piece) = if ends_record (b ∷ piece) then record { lines = lines; end = Some (b ∷ piece) } else record { lines = lines ++ (b ∷ piece) ∷ []; end = None }

pub record IsLastRun (run : Run) (bytes rest : List ℕ) (ended : Bool) : Type 0 where
  pub lines : List (List ℕ)
  pub plain : ArePlain lines
  pub piece : List ℕ
  pub clear : has_feed piece ≡ false
  pub is : run ≡ last_run lines piece
  pub split : bytes ≡ joined lines ++ piece
  pub none : rest ≡ []
  pub end : IsTrue ended

abbrev pub IsFront : Run → List ℕ → List ℕ → Bool → Type 0
IsFront run bytes rest ended = IsClosed run bytes rest ⊎ IsLastRun run bytes rest ended

-- the record at the front is too long, whatever comes: its next line, behind so many bytes, shows a kind
abbrev pub Spoils : ℕ → List ℕ → Bool → Type 0
Spoils at held ended = (whole rest more : List ℕ) → (IsTrue ended → more ≡ []) → held ++ more ≡ whole ++ rest → IsFed whole ⊎ ((has_feed whole ≡ false) × (rest ≡ [])) → (kind : Kind) × ShowsFirst kind at whole

abbrev pub front_of : Met → ℕ → Front
front_of (MetEnd behind) at = FrontRecord behind
front_of MetLong at = FrontTooLong at

-- few bytes stand behind the first line feed
abbrev pub HasFewBehind : List ℕ → Type 0
HasFewBehind held = (n : ℕ) → IsFirstFeed held n → length held ≤ n + 1 + most_read

-- ---- reads

-- Reads took these bytes, and none where a record has ended in what was held.
pub record Goes (limit : ℕ) (old new : Buffered) (before after : Input) : Type 0 where
  pub bytes : List ℕ
  pub fills : Fills old new before after bytes
  pub small : new.taken < 2 ^ 64
  pub within : old.taken ≤ limit → new.taken ≤ limit
  pub unread : ((after ≡ before) × (bytes ≡ [])) ⊎ (ended_records old.held ≡ [])

-- Reading stopped within a record: `last` was taken by the last read, and no record ends in what was held and what was read
-- before it, which is within the limit.
pub record StopsWithin (limit : ℕ) (old new : Buffered) (before after : Input) (last : List ℕ) : Type 0 where
  pub front : List ℕ
  pub fills : Fills old new before after (front ++ last)
  pub few : length last ≤ most_read
  pub going : old.ended ≡ false
  pub none : ended_records (old.held ++ front) ≡ []
  pub small : old.taken + length front < 2 ^ 64
  pub within : old.taken ≤ limit → old.taken + length front ≤ limit

-- a read failed, the limit was passed, or memory ran out
abbrev pub Stops : ℕ → ReadStop → Buffered → Buffered → Input → Input → Type 0
Stops limit ReadFault old new before after = StopsWithin limit old new before after [] × Rose before.faults after.faults × (after.ended ≡ false)
Stops limit InputLimit old new before after = (last : List ℕ) × StopsWithin limit old new before after last × (limit < new.taken) × (after.ended ≡ false)
Stops limit NoMemory old new before after = Goes limit old new before after

-- ---- what stands at the front of an input

-- a record of so many bytes, which is within the limits, and of which these ranges are the lines
pub record IsFoundRecord (count : ℕ) (held : List ℕ) (ended : Bool) (ranges : List Span) : Type 0 where
  pub run : Run
  pub front : IsFront run held (drop count held) ended
  pub is_record : is_record run ≡ true
  pub none : length_faults run ≡ []
  pub within : count ≤ length held
  pub beyond : length held ≤ count + most_read
  pub spans : AreSpans (take count held) ranges run.lines

-- a record that is too long by the line that begins behind so many bytes
pub record IsFoundLong (at : ℕ) (held : List ℕ) (ended : Bool) (ranges : List Span) : Type 0 where
  pub lines : List (List ℕ)
  pub plain : ArePlain lines
  pub split : held ≡ joined lines ++ drop at held
  pub at_is : at ≡ length (joined lines)
  pub short : at ≤ most_record_bytes
  pub within : at ≤ length held
  pub none : too_long 0 1 lines ≡ []
  pub spans : AreSpans (joined lines) ranges lines
  pub spoils : Spoils at (drop at held) ended
  pub few : HasFewBehind (drop at held)

abbrev pub IsFound : Front → List ℕ → Bool → List Span → Type 0
IsFound (FrontRecord count) held ended ranges = IsFoundRecord count held ended ranges
IsFound (FrontTooLong at) held ended ranges = IsFoundLong at held ended ranges
IsFound FrontNothing held ended ranges = (sd_records held ≡ []) × IsTrue ended

-- what is held is searched, and no front of an input is found yet
abbrev pub Looks : Option Front → List ℕ → Bool → Scan → List Span → Type 0
Looks None held ended scan ranges = IsScanned held scan ranges × (scan.searched ≡ length held) × (ended ≡ false) × (length held ≤ most_record_bytes)
Looks (Some front) held ended scan ranges = IsFound front held ended ranges

-- reads put these bytes behind those that were held
pub record Reaches (limit : ℕ) (old new : Buffered) (before after : Input) : Type 0 where
  pub goes : Goes limit old new before after
  pub held : new.held ≡ old.held ++ goes.bytes

-- ---- the last run

-- all that is held is searched, and no line feed stands behind the lines that are found
pub record IsSearched (held : List ℕ) (at : ℕ) (ranges : List Span) : Type 0 where
  pub lines : List (List ℕ)
  pub plain : ArePlain lines
  pub split : held ≡ joined lines ++ drop at held
  pub at_is : at ≡ length (joined lines)
  pub short : at ≤ most_record_bytes
  pub within : at ≤ length held
  pub none : too_long 0 1 lines ≡ []
  pub clear : has_feed (drop at held) ≡ false
  pub spans : AreSpans (joined lines) ranges lines

-- the last run has no end, and isn't too long
pub record IsOpenRun (held : List ℕ) (ranges : List Span) : Type 0 where
  pub lines : List (List ℕ)
  pub last : IsLastRun (record { lines = lines; end = None }) held [] true
  pub none : too_long 0 1 lines ≡ []
  pub spans : AreSpans held ranges lines

pub record IsLastRecord (count : ℕ) (held : List ℕ) (ranges : List Span) : Type 0 where
  pub all : count ≡ length held
  pub run : Run
  pub last : IsLastRun run held [] true
  pub is_record : is_record run ≡ true
  pub none : length_faults run ≡ []
  pub spans : AreSpans held ranges run.lines

abbrev pub IsLast : Front → List ℕ → List Span → Type 0
IsLast (FrontRecord count) held ranges = IsLastRecord count held ranges
IsLast (FrontTooLong at) held ranges = IsSearched held at ranges × Spoils at (drop at held) true
IsLast FrontNothing held ranges = sd_records held ≡ []

abbrev pub IsLastPushed : Option Front → List ℕ → List Span → Type 0
IsLastPushed None held ranges = IsOpenRun held ranges
IsLastPushed (Some front) held ranges = IsLast front held ranges

-- ---- a record that is passed

-- the kind of a line that is too long, and begins behind so many bytes
abbrev pub kind_of : ℕ → Bool → Kind
kind_of at long = if nat_lt at most_record_bytes && long then LineTooLong else RecordTooLong

-- the kind that stands behind a line
abbrev pub kind_behind : Option Kind → ℕ → Bool → Kind
kind_behind (Some kind) at long = kind
kind_behind None at long = kind_of at long

-- behind a line the next begins
abbrev pub passing_behind : Passing → LineSoFar → Kind → Passing
passing_behind passing line kind = record { line = none_yet; said = passing.said || is_something line.said; kind = Some kind }

-- the kind that stands where the input has ended, and none where it ends with no record
abbrev pub last_kind : Passing → ℕ → Option Kind
last_kind passing at = if ends_here passing.line.wanted || (passing.said || is_something passing.line.said) then Some (kind_behind passing.kind at (is_long_so_far passing.line)) else None

-- the first line of a run shows a kind, and with a run before it it is a record; or it is none
pub record TellsKind (at : ℕ) (said : Bool) (run : Run) (kind : Kind) : Type 0 where
  pub whole : List ℕ
  pub more : List (List ℕ)
  pub first : counted_lines run ≡ whole ∷ more
  pub shows : ShowsFirst kind at whole
  pub is_record : (said || is_record run) ≡ true

abbrev pub Tells : ℕ → Bool → Run → Option Kind → Type 0
Tells at said run None = (said || is_record run) ≡ false
Tells at said run (Some kind) = TellsKind at said run kind

-- reads passed the rest of a record, from the line on that begins behind so many bytes
pub record Passes (limit : ℕ) (at : ℕ) (said : Bool) (kind : Option Kind) (old new : Buffered) (before after : Input) : Type 0 where
  pub goes : Goes limit old new before after
  pub run : Run
  pub front : IsFront run (old.held ++ goes.bytes) new.held new.ended
  pub tells : Tells at said run kind
  pub few : length new.held ≤ most_read

-- ---- a record at the front of an input, whichever way it was found

-- Reads took what stands before so many bytes of what is held: a record is there, and few bytes stand behind it.
pub record FindsRun (limit : ℕ) (run : Run) (count : ℕ) (old new : Buffered) (before after : Input) : Type 0 where
  pub goes : Goes limit old new before after
  pub front : IsFront run (old.held ++ goes.bytes) (drop count new.held) new.ended
  pub is_record : is_record run ≡ true
  pub within : count ≤ length new.held
  pub few : length (drop count new.held) ≤ most_read

-- nothing is left but what is no record, and it is passed
pub record FindsEnd (limit : ℕ) (old new : Buffered) (before after : Input) : Type 0 where
  pub goes : Goes limit old new before after
  pub none : sd_records (old.held ++ goes.bytes) ≡ []
  pub empty : new.held ≡ []
  pub ended : IsTrue new.ended

-- a record within the limits, of which these ranges are the lines
pub record FindsRecord (limit : ℕ) (count : ℕ) (old new : Buffered) (before after : Input) (ranges : List Span) : Type 0 where
  pub run : Run
  pub finds : FindsRun limit run count old new before after
  pub none : length_faults run ≡ []
  pub spans : AreSpans (take count new.held) ranges run.lines

-- a record that is too long was passed, and this is its first fault
pub record FindsLong (limit : ℕ) (fault : Fault) (old new : Buffered) (before after : Input) : Type 0 where
  pub run : Run
  pub finds : FindsRun limit run 0 old new before after
  pub first : first_of None (length_faults run) ≡ Some fault

abbrev pub FindsNext : ℕ → Found → Buffered → Buffered → Input → Input → List Span → Type 0
FindsNext limit (FoundRecord count) old new before after ranges = FindsRecord limit count old new before after ranges
FindsNext limit (FoundLong fault) old new before after ranges = FindsLong limit fault old new before after
FindsNext limit FoundEnd old new before after ranges = FindsEnd limit old new before after
