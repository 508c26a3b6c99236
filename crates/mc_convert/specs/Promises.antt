-- What each command promises of a run, from what source and sink told before it to what they tell after it (this
-- project's own). A command is a variant of `Command`, its words, and its record here.
use Rattle.std.specs.Prelude.{◌≡◌, ◌≢◌, ◌⊎◌, ◌↔◌, ℕ, ◌^◌, ◌<◌, ◌≤◌, [], IfSome, IsTrue}
use Rattle.mc_io.specs.Causes.{Rose}
use Rattle.mc_io.specs.Outside.{Input, Outputs}
use Rattle.mc_convert.specs.declared.command_line.Command.{Command}
use Rattle.mc_convert.specs.declared.command_line.Command.TheVariants.{Convert, Check}
use Rattle.mc_convert.specs.declared.formats.Formats.{Formats}
use Rattle.mc_convert.specs.declared.status.Status.{Status}
use Rattle.mc_convert.specs.declared.status.Status.TheVariants.{Done, SomeRefused, Usage, ReadFault, WriteFault, Memory, InputLimit}
use Rattle.mc_convert.specs.Ended.{HoldsEnded, HoldsEndedBefore}
use Rattle.mc_convert.specs.Records.{records}
use Rattle.mc_convert.specs.Runs.{AllIsHeld, AnswersAll, AnswersSome, FaultsRose, IsStop, IsWhole, PastLimit, SomeShown, Taken, risen}
use Rattle.mc_convert.specs.CheckRuns.{HoldsText, IfAllKnown, WritesFront, WritesText}
use Rattle.mc_convert.specs.Checks.{IsAllTrue, OneText}

-- Each other ending has its cause; a command has its first inputs alone, and changes no other. A source lets `most` bytes of
-- an input be taken.
pub record HasCauses (count most : ℕ) (before after : ℕ → Input) (old new : Outputs) (status : Status) : Type 0 where
  pub words : status ≢ Usage
  pub read : status ≡ ReadFault → FaultsRose count before after
  pub write : status ≡ WriteFault → Rose old.faults new.faults
  -- more than the limit was taken of an input
  pub taken : Taken count most (status ≡ InputLimit) before after
  pub limit : ((i : ℕ) → i < count → (before i).taken < 2 ^ 127) → (status ≡ InputLimit) ↔ PastLimit count most (risen before after)
  pub later_read : (i : ℕ) → i < count → (before i).faults ≤ (after i).faults
  pub later_written : old.faults ≤ new.faults
  pub others : (i : ℕ) → count ≤ i → after i ≡ before i

-- 'convert' answers the records of input 0, each by itself: a written record at output 0 or none, a report line at output 1.
pub record Converts (formats : Formats) (most : ℕ) (before after : ℕ → Input) (old new : Outputs) (status : Status) : Type 0 where
  -- the input was read to its end, and each record is answered whole
  pub whole : IsWhole status → IsTrue (after 0).ended × AnswersAll formats (before 0).left old new
  -- whether a record is refused
  pub done : status ≡ Done → IfSome (before 0).left (λ input. SomeShown formats.to (records formats.from input) → ⊥)
  pub some_refused : status ≡ SomeRefused → IfSome (before 0).left (λ input. SomeShown formats.to (records formats.from input))
  -- no stop but want of memory comes where the input was read to its end and all answers are held
  pub exactly : IsTrue (after 0).ended → AllIsHeld formats (before 0).left old new → IsWhole status ⊎ (status ≡ Memory)
  -- stopped: the first records are answered, the last of them maybe in part
  pub stopped : IsStop status → AnswersSome formats (before 0).left old new
  -- a failed read: exactly the records that ended in the bytes taken are answered, each whole
  pub read_fault : status ≡ ReadFault → HoldsEnded formats most (before 0) (after 0) old new []
  -- the limit: exactly those that ended in the first of them, within the limit and before the last read
  pub input_limit : status ≡ InputLimit → HoldsEndedBefore formats most (before 0) (after 0) old new
  pub causes : HasCauses 1 most before after old new status

-- 'check' reads originals, converted records and a report, and writes its text to output 0 and nothing to output 1.
pub record Checks (formats : Formats) (most : ℕ) (before after : ℕ → Input) (old new : Outputs) (status : Status) : Type 0 where
  -- the inputs were read to their ends, and the whole text is written, which is one
  pub ended : IsWhole status → (i : ℕ) → i < 3 → IsTrue (after i).ended
  pub whole : IsWhole status → WritesText formats before old new
  pub one_text : IfAllKnown before (OneText formats)
  -- whether each verdict is true and nothing is extra
  pub done : status ≡ Done → IfAllKnown before (IsAllTrue formats)
  pub some_refused : status ≡ SomeRefused → IfAllKnown before (λ o c r. IsAllTrue formats o c r → ⊥)
  -- no stop but want of memory comes where the inputs were read to their ends and the whole text is held
  pub exactly : ((i : ℕ) → i < 3 → IsTrue (after i).ended) → HoldsText formats before old new → IsWhole status ⊎ (status ≡ Memory)
  -- stopped: a front of the text is written
  pub stopped : IsStop status → WritesFront formats before old new
  pub kept : new.held 1 ≡ old.held 1
  pub causes : HasCauses 3 most before after old new status

-- what a command promises
abbrev pub Promises : Command → ℕ → (ℕ → Input) → (ℕ → Input) → Outputs → Outputs → Status → Type 0
Promises (Convert formats) most before after old new status = Converts formats most before after old new status
Promises (Check formats) most before after old new status = Checks formats most before after old new status
