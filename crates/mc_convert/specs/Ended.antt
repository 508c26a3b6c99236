-- Which records end in the bytes that are taken of an input, and so which answers are held where a read stops a run (this
-- project's own). A record ends with the line feed of its line.
use Rattle.std.specs.Prelude.{◌≡◌, ℕ, ◌+◌, ◌≤◌, false, List, [], ◌∷◌, ◌++◌, length, Option, Some, None, Result, Ok, Err, ⊤, Bool}
use Rattle.mc_io.specs.declared.read_stop.ReadStop.{ReadStop}
use Rattle.mc_io.specs.declared.read_stop.ReadStop.TheVariants.{ReadFault, InputLimit, NoMemory}
use Rattle.mc_io.specs.Buffered.{most_read}
use Rattle.mc_io.specs.LineReader.{EndsNone, GivesEnded, LineReader}
use Rattle.mc_io.specs.Outside.{Input, Outputs, Takes}
use Rattle.mc_convert.specs.declared.formats.Formats.{Formats}
use Rattle.mc_convert.specs.declared.formats.Origin.{Origin}
use Rattle.mc_convert.specs.declared.records.Passed.{Passed}
use Rattle.mc_convert.specs.declared.records.Passed.TheVariants.{Line, TooLong}
use Rattle.mc_convert.specs.declared.status.Halt.{Halt}
use Rattle.mc_convert.specs.declared.status.Halt.TheVariants.{ReadFault as ReadHalt, InputLimit as LimitHalt, WriteFault as WriteHalt, NoMemory as MemoryHalt}
use Rattle.mc_convert.specs.Answers.{Whole}
use Rattle.mc_convert.specs.Readers.{found}
use Rattle.mc_convert.specs.Records.{Record, ended_records}
use Rattle.mc_convert.specs.Runs.{Grown}

-- which lines end in what a call takes
abbrev pub EndsLine : ℕ → Result (Option Passed) ReadStop → LineReader → LineReader → Input → Input → Type 0
EndsLine limit (Ok None) old new before after = ⊤
EndsLine limit (Ok (Some Line)) old new before after = GivesEnded (Some new.text ∷ []) old new before after
EndsLine limit (Ok (Some TooLong)) old new before after = GivesEnded (None ∷ []) old new before after
EndsLine limit (Err ReadFault) old new before after = EndsNone limit old new before after []
EndsLine limit (Err InputLimit) old new before after = (last : List ℕ) × EndsNone limit old new before after last
EndsLine limit (Err NoMemory) old new before after = ⊤

-- Of the bytes that are held and those that are taken, these records are those that end first, whatever stands behind.
pub record EndsRecords (from : Origin) (given : List Record) (old new : LineReader) (before after : Input) : Type 0 where
  pub bytes : List ℕ
  pub takes : Takes before after bytes
  pub taken : new.taken ≡ old.taken + length bytes
  pub going : new.ended ≡ false → old.ended ≡ false
  pub ended : new.ended ≡ false → (later : List ℕ) → ended_records from ((old.held ++ bytes) ++ later) ≡ given ++ ended_records from (new.held ++ later)

-- Reading stopped within a record: `last` was taken by the last read, and none ends in what was held and what was read
-- before it, which is within the limit.
pub record EndsNoRecord (from : Origin) (limit : ℕ) (old : LineReader) (before after : Input) (last : List ℕ) : Type 0 where
  pub front : List ℕ
  pub takes : Takes before after (front ++ last)
  pub few : length last ≤ most_read
  pub going : old.ended ≡ false
  pub none : ended_records from (old.held ++ front) ≡ []
  pub within : old.taken ≤ limit → old.taken + length front ≤ limit

-- which records end in what a call takes
abbrev pub EndsRecord : Origin → ℕ → Result (Option Passed) ReadStop → LineReader → LineReader → Input → Input → Type 0
EndsRecord from limit (Ok None) old new before after = ⊤
EndsRecord from limit (Ok (Some passed)) old new before after = EndsRecords from (found passed new.text ∷ []) old new before after
EndsRecord from limit (Err ReadFault) old new before after = EndsNoRecord from limit old before after []
EndsRecord from limit (Err InputLimit) old new before after = (last : List ℕ) × EndsNoRecord from limit old before after last
EndsRecord from limit (Err NoMemory) old new before after = ⊤

-- Of the bytes that were taken, `last` came last. The answers that are held are exactly those of the records that ended
-- before it, each whole, and what was taken before it is within the limit.
pub record HoldsEnded (formats : Formats) (limit : ℕ) (before after : Input) (old new : Outputs) (last : List ℕ) : Type 0 where
  pub front : List ℕ
  pub takes : Takes before after (front ++ last)
  pub within : length front ≤ limit
  pub answered : Grown old new (Whole formats.to (ended_records formats.from front))

-- the same but for few bytes, those of the last read
pub record HoldsEndedBefore (formats : Formats) (limit : ℕ) (before after : Input) (old new : Outputs) : Type 0 where
  pub last : List ℕ
  pub few : length last ≤ most_read
  pub holds : HoldsEnded formats limit before after old new last

-- what is held where a read stopped a run
abbrev pub HoldsAt : Formats → ℕ → Result Bool Halt → Input → Input → Outputs → Outputs → Type 0
HoldsAt formats limit (Ok refused) before after old new = ⊤
HoldsAt formats limit (Err ReadHalt) before after old new = HoldsEnded formats limit before after old new []
HoldsAt formats limit (Err LimitHalt) before after old new = HoldsEndedBefore formats limit before after old new
HoldsAt formats limit (Err WriteHalt) before after old new = ⊤
HoldsAt formats limit (Err MemoryHalt) before after old new = ⊤
