-- What a reader of lines has, and what its answers say.
use Rattle.std.specs.Prelude.{◌≡◌, ℕ, ◌+◌, ◌<◌, ◌≤◌, ◌^◌, Bool, true, false, IsTrue, List, [], ◌∷◌, ◌++◌, length, take, drop, Option, Some, None, ⊤}
use Rattle.std.specs.Io.KnownBytes.{IsAtEnd, prepend_known}
use Rattle.mc_io.specs.declared.lines.LineStep.{LineStep}
use Rattle.mc_io.specs.declared.lines.LineStep.TheVariants.{Line, TooLong, End, ReadFault, InputLimit, NoMemory}
use Rattle.mc_io.specs.declared.read_stop.ReadStop.{ReadStop}
use Rattle.mc_io.specs.declared.read_stop.ReadStop.TheVariants.{ReadFault as ReadFailed, InputLimit as LimitReached, NoMemory as MemoryOut}
use Rattle.mc_io.specs.Buffered.{Buffered, most_read}
use Rattle.mc_io.specs.declared.line_finding.FoundLine.{FoundLine}
use Rattle.mc_io.specs.FoundLines.{most_room, text_len}
use Rattle.mc_io.specs.Lines.{ended_lines, lines_of}
use Rattle.mc_io.specs.Outside.{Input, Takes}

-- A reader of lines: the number of its input; the bytes that were read and aren't passed; how many bytes its reads have
-- taken; whether they have met the end; how many lines were passed; the text of the line that was given last; the last
-- answer; and how many bytes it has room for.
pub record LineReader : Type 0 where
  pub input : ℕ
  pub held : List ℕ
  pub taken : ℕ
  pub ended : Bool
  pub passed : ℕ
  pub text : List ℕ
  pub answer : Option LineStep
  pub room : ℕ

-- a reader that has read nothing yet
abbrev pub fresh : ℕ → LineReader
fresh input = record { input = input; held = []; taken = 0; ended = false; passed = 0; text = []; answer = None; room = 0 }

-- Its reads took these bytes of its input and no others, and it counts them. It has met the end where the source says so.
pub record Reading (old new : LineReader) (before after : Input) : Type 0 where
  pub input : new.input ≡ old.input
  pub bytes : List ℕ
  pub takes : Takes before after bytes
  pub taken : new.taken ≡ old.taken + length bytes
  pub few : old.taken < 2 ^ 65 → new.taken < 2 ^ 65
  pub at_end : (IsTrue old.ended → IsTrue before.ended) → IsTrue new.ended → IsTrue after.ended

-- it is new, has passed a line, or has met the end
abbrev pub MayGoOn : Option LineStep → Type 0
MayGoOn None = ⊤
MayGoOn (Some Line) = ⊤
MayGoOn (Some (TooLong k)) = ⊤
MayGoOn (Some End) = ⊤
MayGoOn (Some _) = ⊥

-- the bytes that are still to be passed: those that it holds, once it has met the end; else with those that its input
-- has left, where the input tells them
abbrev pub ahead_of : Bool → List ℕ → Option (List ℕ) → Option (List ℕ)
ahead_of true held left = Some held
ahead_of false held left = prepend_known held left

abbrev pub ahead : LineReader → Option (List ℕ) → Option (List ℕ)
ahead reader left = ahead_of reader.ended reader.held left

-- lines are taken from the front of known bytes
abbrev pub TakesLines : Option (List ℕ) → Option (List ℕ) → List (Option (List ℕ)) → Type 0
TakesLines None rest lines = ⊤
TakesLines (Some all) None lines = ⊥
TakesLines (Some all) (Some rest) lines = lines_of all ≡ lines ++ lines_of rest

-- What an answer says of the bytes ahead, at the call and after it: a line with this text was taken from them, a
-- long line with this number, or none is there.
abbrev pub Gives : LineStep → Option (List ℕ) → Option (List ℕ) → List ℕ → ℕ → Type 0
Gives Line all rest text number = TakesLines all rest (Some text ∷ [])
Gives (TooLong k) all rest text number = TakesLines all rest (None ∷ []) × (k ≡ number)
Gives End all rest text number = IsAtEnd all × IsAtEnd rest
Gives _ all rest text number = ⊤

-- how many lines an answer passes
abbrev pub lines_passed : LineStep → ℕ
lines_passed Line = 1
lines_passed (TooLong k) = 1
lines_passed _ = 0

-- an answer that isn't a stop
abbrev pub IsNoStop : LineStep → Type 0
IsNoStop Line = ⊤
IsNoStop (TooLong k) = ⊤
IsNoStop End = ⊤
IsNoStop _ = ⊥

-- the answer where reading stopped
abbrev pub step_of : ReadStop → LineStep
step_of ReadFailed = ReadFault
step_of LimitReached = InputLimit
step_of MemoryOut = NoMemory

-- ---- lines and the bytes that were taken for them

-- Of the bytes that are held and those that a call takes, the lines that it gives are those that end first, whatever
-- stands behind. At the end of the input there may be no line feed behind the last line.
pub record GivesEnded (lines : List (Option (List ℕ))) (old new : LineReader) (before after : Input) : Type 0 where
  pub bytes : List ℕ
  pub takes : Takes before after bytes
  pub taken : new.taken ≡ old.taken + length bytes
  pub going : new.ended ≡ false → old.ended ≡ false
  pub ended : new.ended ≡ false → (later : List ℕ) → ended_lines ((old.held ++ bytes) ++ later) ≡ lines ++ ended_lines (new.held ++ later)

-- A call that stops gives no line: `last` was taken by its last read, and none ends in what was held and what was read
-- before it, which is within the limit.
pub record EndsNone (limit : ℕ) (old new : LineReader) (before after : Input) (last : List ℕ) : Type 0 where
  pub front : List ℕ
  pub takes : Takes before after (front ++ last)
  pub taken : new.taken ≡ old.taken + length (front ++ last)
  pub few : length last ≤ most_read
  pub going : old.ended ≡ false
  pub none : ended_lines (old.held ++ front) ≡ []
  pub within : old.taken ≤ limit → old.taken + length front ≤ limit

-- Which lines end in the bytes that a call takes.
abbrev pub Ends : ℕ → LineStep → LineReader → LineReader → Input → Input → Type 0
Ends limit Line old new before after = GivesEnded (Some new.text ∷ []) old new before after
Ends limit (TooLong k) old new before after = GivesEnded (None ∷ []) old new before after
Ends limit End old new before after = IsTrue new.ended
Ends limit ReadFault old new before after = EndsNone limit old new before after []
Ends limit InputLimit old new before after = (last : List ℕ) × EndsNone limit old new before after last
Ends limit NoMemory old new before after = ⊤

-- the answer where a line of this number was found
abbrev pub step_of_text : Option ℕ → ℕ → LineStep
step_of_text None number = TooLong number
step_of_text (Some len) number = Line

-- a reader with this buffer, which holds the line that was passed last in front
abbrev pub reader_of : Buffered → ℕ → FoundLine → Option LineStep → LineReader
reader_of buffer passed line answer = record {
  input = buffer.input;
  held = drop line.whole buffer.held;
  taken = buffer.taken;
  ended = buffer.ended;
  passed = passed;
  text = take (text_len line.text) buffer.held;
  answer = answer;
  room = buffer.room;
}

-- what it keeps true of them
pub record IsSound (buffer : Buffered) (passed : ℕ) (line : FoundLine) (answer : Option LineStep) : Type 0 where
  pub text : text_len line.text ≤ line.whole
  pub whole : line.whole ≤ length buffer.held
  pub few : passed + length (drop line.whole buffer.held) ≤ buffer.taken
  pub room : buffer.room ≤ most_room
  pub small : MayGoOn answer → buffer.taken < 2 ^ 64
  pub beyond : MayGoOn answer → length (drop line.whole buffer.held) ≤ most_read
