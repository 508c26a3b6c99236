-- What a reader of records has, and what its answers say.
use Rattle.std.specs.Prelude.{◌≡◌, ℕ, ◌+◌, ◌<◌, ◌≤◌, ◌^◌, Bool, false, IsTrue, List, [], ◌∷◌, ◌++◌, length, take, drop, map, Option, Some, None, ⊤}
use Rattle.std.specs.Io.KnownBytes.{IsAtEnd}
use Rattle.mc_base.specs.declared.refusal.Refusal.{Refusal}
use Rattle.mc_base.specs.declared.span.Span.{Span}
use Rattle.mc_base.specs.Shown.{IsFirst}
use Rattle.mc_io.specs.declared.read_stop.ReadStop.{ReadStop}
use Rattle.mc_io.specs.declared.read_stop.ReadStop.TheVariants.{ReadFault as ReadFailed, InputLimit as LimitReached, NoMemory as MemoryOut}
use Rattle.mc_io.specs.Buffered.{Buffered, most_read}
use Rattle.mc_io.specs.LineReader.{ahead_of}
use Rattle.mc_io.specs.Outside.{Input, Takes}
use Rattle.ct_sd.specs.declared.records.Answered.{Answered}
use Rattle.ct_sd.specs.declared.records.Answered.TheVariants as last
use Rattle.ct_sd.specs.declared.records.RecordStep.{RecordStep}
use Rattle.ct_sd.specs.declared.records.RecordStep.TheVariants.{Record, Refused, End, ReadFault, InputLimit, NoMemory}
use Rattle.ct_sd.specs.Faults.{IsNoBarrier, StandsIn}
use Rattle.ct_sd.specs.FoundRecords.{most_room}
use Rattle.ct_sd.specs.Ranges.{AreWithin, part}
use Rattle.ct_sd.specs.Records.{Run, ended_records, length_faults, sd_records, texts}

-- A reader of records: the number of its input; the bytes that were read and aren't passed; how many bytes its reads have
-- taken; whether they have met the end; how many records were passed; the lines of the record that was given last; the last
-- answer; and how many bytes it has room for.
pub record RecordReader : Type 0 where
  pub input : ℕ
  pub held : List ℕ
  pub taken : ℕ
  pub ended : Bool
  pub passed : ℕ
  pub lines : List (List ℕ)
  pub answer : Option Answered
  pub room : ℕ

-- a reader that has read nothing yet
abbrev pub fresh_records : ℕ → RecordReader
fresh_records input = record { input = input; held = []; taken = 0; ended = false; passed = 0; lines = []; answer = None; room = 0 }

-- it is new, has passed a record, or has met the end
abbrev pub MayGoOn : Option Answered → Type 0
MayGoOn None = ⊤
MayGoOn (Some last.Record) = ⊤
MayGoOn (Some last.Refused) = ⊤
MayGoOn (Some last.End) = ⊤
MayGoOn (Some last.Stopped) = ⊥

abbrev pub answered : RecordStep → Answered
answered Record = last.Record
answered (Refused refusal) = last.Refused
answered End = last.End
answered _ = last.Stopped

-- the bytes that are still to be passed, where the input tells them
abbrev pub bytes_ahead : RecordReader → Option (List ℕ) → Option (List ℕ)
bytes_ahead reader left = ahead_of reader.ended reader.held left

-- records are taken from the front of known bytes
abbrev pub TakesRuns : Option (List ℕ) → Option (List ℕ) → List Run → Type 0
TakesRuns None rest runs = ⊤
TakesRuns (Some all) None runs = ⊥
TakesRuns (Some all) (Some rest) runs = sd_records all ≡ runs ++ sd_records rest

-- Of the bytes that are held and those that a call takes, the record that it gives is the one that ends first, whatever
-- stands behind. At the end of the input its end line may be missing.
pub record EndsFirst (run : Run) (old new : RecordReader) (before after : Input) : Type 0 where
  pub bytes : List ℕ
  pub takes : Takes before after bytes
  pub taken : new.taken ≡ old.taken + length bytes
  pub going : new.ended ≡ false → old.ended ≡ false
  pub ended : new.ended ≡ false → (later : List ℕ) → ended_records ((old.held ++ bytes) ++ later) ≡ run ∷ ended_records (new.held ++ later)

-- a record was taken from the bytes ahead
pub record GivesRun (run : Run) (old new : RecordReader) (before after : Input) : Type 0 where
  pub takes : TakesRuns (bytes_ahead old before.left) (bytes_ahead new after.left) (run ∷ [])
  pub first : EndsFirst run old new before after

-- one within the limits, whose lines these are
pub record GivesRecord (old new : RecordReader) (before after : Input) : Type 0 where
  pub run : Run
  pub gives : GivesRun run old new before after
  pub none : length_faults run ≡ []
  pub lines : new.lines ≡ texts run

-- one that is too long, by the refusal that it shows
pub record GivesRefusal (refusal : Refusal) (old new : RecordReader) (before after : Input) : Type 0 where
  pub run : Run
  pub gives : GivesRun run old new before after
  pub shown : IsFirst (StandsIn (length_faults run)) IsNoBarrier refusal

-- What an answer says of the bytes ahead, at the call and after it.
abbrev pub Gives : RecordStep → RecordReader → RecordReader → Input → Input → Type 0
Gives Record old new before after = GivesRecord old new before after
Gives (Refused refusal) old new before after = GivesRefusal refusal old new before after
Gives End old new before after = TakesRuns (bytes_ahead old before.left) (bytes_ahead new after.left) [] × IsAtEnd (bytes_ahead new after.left) × IsTrue new.ended
Gives _ old new before after = ⊤

-- how many records an answer passes
abbrev pub records_passed : RecordStep → ℕ
records_passed Record = 1
records_passed (Refused refusal) = 1
records_passed _ = 0

-- the answer where reading stopped
abbrev pub step_of : ReadStop → RecordStep
step_of ReadFailed = ReadFault
step_of LimitReached = InputLimit
step_of MemoryOut = NoMemory

-- an answer that isn't a stop
abbrev pub IsNoStop : RecordStep → Type 0
IsNoStop Record = ⊤
IsNoStop (Refused refusal) = ⊤
IsNoStop End = ⊤
IsNoStop _ = ⊥

-- Its reads took these bytes of its input and no others, and it counts them. It has met the end where the source says so.
pub record ReadsOn (old new : RecordReader) (before after : Input) : Type 0 where
  pub input : new.input ≡ old.input
  pub bytes : List ℕ
  pub takes : Takes before after bytes
  pub taken : new.taken ≡ old.taken + length bytes
  pub at_end : (IsTrue old.ended → IsTrue before.ended) → IsTrue new.ended → IsTrue after.ended

-- A call that stops gives no record: `last` was taken by its last read, and none ends in what was held and what was read
-- before it, which is within the limit.
pub record EndsNone (limit : ℕ) (old new : RecordReader) (before after : Input) (last : List ℕ) : Type 0 where
  pub front : List ℕ
  pub takes : Takes before after (front ++ last)
  pub taken : new.taken ≡ old.taken + length (front ++ last)
  pub few : length last ≤ most_read
  pub going : old.ended ≡ false
  pub none : ended_records (old.held ++ front) ≡ []
  pub within : old.taken ≤ limit → old.taken + length front ≤ limit

-- which records ended in the bytes that a call took that was stopped
abbrev pub Stopped : ℕ → RecordStep → RecordReader → RecordReader → Input → Input → Type 0
Stopped limit ReadFault old new before after = EndsNone limit old new before after []
Stopped limit InputLimit old new before after = (last : List ℕ) × EndsNone limit old new before after last
Stopped limit _ old new before after = ⊤

-- a reader with this buffer, which holds the record that was given last in front
abbrev pub records_of : Buffered → List Span → ℕ → ℕ → Option Answered → RecordReader
records_of buffer ranges whole passed answer = record {
  input = buffer.input;
  held = drop whole buffer.held;
  taken = buffer.taken;
  ended = buffer.ended;
  passed = passed;
  lines = map (part (take whole buffer.held)) ranges;
  answer = answer;
  room = buffer.room;
}

-- what it keeps true of them
pub record IsSound (buffer : Buffered) (ranges : List Span) (whole passed : ℕ) (answer : Option Answered) : Type 0 where
  pub inside : whole ≤ length buffer.held
  pub parts : AreWithin (take whole buffer.held) ranges
  pub few : MayGoOn answer → passed + length (drop whole buffer.held) ≤ buffer.taken
  pub room : buffer.room ≤ most_room
  pub small : MayGoOn answer → buffer.taken < 2 ^ 64
  pub beyond : MayGoOn answer → length (drop whole buffer.held) ≤ most_read
