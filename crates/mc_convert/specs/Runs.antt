-- What a run leaves at the outputs, and how it ends (this project's own).
use Rattle.std.specs.Prelude.{◌≡◌, ◌⊎◌, ◌↔◌, ℕ, ◌+◌, ◌-◌, ◌^◌, ◌<◌, Bool, false, List, [], ◌∷◌, ◌++◌, length, Option, Some, Result, Ok, Err, IfSome, IsTrue}
use Rattle.std.specs.Io.KnownBytes.{Appends}
use Rattle.mc_base.specs.declared.refusal.Refusal.{Refusal}
use Rattle.mc_io.specs.Causes.{Rose}
use Rattle.mc_io.specs.Outside.{Input, Outputs, Takes}
use Rattle.mc_convert.specs.declared.status.Halt.{Halt}
use Rattle.mc_convert.specs.declared.status.Halt.TheVariants.{ReadFault as ReadHalt, InputLimit as LimitHalt, WriteFault as WriteHalt, NoMemory as MemoryHalt}
use Rattle.mc_convert.specs.declared.status.Status.{Status}
use Rattle.mc_convert.specs.declared.status.Status.TheVariants.{Done, SomeRefused, ReadFault, WriteFault, Memory, InputLimit}
use Rattle.mc_convert.specs.declared.formats.Formats.{Formats}
use Rattle.mc_convert.specs.declared.formats.Target.{Target}
use Rattle.mc_convert.specs.Records.{Record, records}
use Rattle.mc_convert.specs.Answers.{Reply, IsPartOf, Shows, Whole, Stopped, LacksLine}

-- the two outputs have grown by bytes of which P holds, where they are known
pub record Grown (old new : Outputs) (P : List ℕ → List ℕ → Type 0) : Type 0 where
  pub more0 : List ℕ
  pub more1 : List ℕ
  pub out : Appends (old.held 0) (new.held 0) more0
  pub report : Appends (old.held 1) (new.held 1) more1
  pub holds : P more0 more1

-- each record of the input is answered whole, where the input is known
abbrev pub AnswersAll : Formats → Option (List ℕ) → Outputs → Outputs → Type 0
AnswersAll formats input old new = IfSome input (λ bytes. Grown old new (Whole formats.to (records formats.from bytes)))

-- the first records are answered, the last of them maybe in part
abbrev pub AnswersSome : Formats → Option (List ℕ) → Outputs → Outputs → Type 0
AnswersSome formats input old new = IfSome input (λ bytes. Grown old new (Stopped formats.to (records formats.from bytes)))

-- the report lacks a line, so not all answers are held
abbrev pub AnswersLess : Formats → Option (List ℕ) → Outputs → Outputs → Type 0
AnswersLess formats input old new = IfSome input (λ bytes. Grown old new (LacksLine (records formats.from bytes)))

-- the input and what the outputs hold are known, and the outputs have grown by the answers to all records
pub record AllIsHeld (formats : Formats) (input : Option (List ℕ)) (old new : Outputs) : Type 0 where
  pub bytes : List ℕ
  pub before0 : List ℕ
  pub before1 : List ℕ
  pub grown0 : List ℕ
  pub grown1 : List ℕ
  pub input_is : input ≡ Some bytes
  pub old0_is : old.held 0 ≡ Some before0
  pub old1_is : old.held 1 ≡ Some before1
  pub new0_is : new.held 0 ≡ Some (before0 ++ grown0)
  pub new1_is : new.held 1 ≡ Some (before1 ++ grown1)
  pub whole : Whole formats.to (records formats.from bytes) grown0 grown1

-- the record shows some refusal
abbrev pub IsShown : Target → Record → Type 0
IsShown to given = (refusal : Refusal) × Shows to given refusal

-- one of the records shows a refusal
abbrev pub SomeShown : Target → List Record → Type 0
SomeShown to [] = ⊥
SomeShown to (given ∷ more) = IsShown to given ⊎ SomeShown to more

-- the run went to its end
abbrev pub IsWhole : Status → Type 0
IsWhole status = (status ≡ Done) ⊎ (status ≡ SomeRefused)

-- a fault, a limit or want of memory stopped the run
abbrev pub IsStop : Status → Type 0
IsStop status = (status ≡ ReadFault) ⊎ ((status ≡ WriteFault) ⊎ ((status ≡ Memory) ⊎ (status ≡ InputLimit)))

-- a reply was written whole
pub record Holds (reply : Reply) (old new : Outputs) : Type 0 where
  pub in_out : Appends (old.held 0) (new.held 0) reply.out
  pub in_report : Appends (old.held 1) (new.held 1) reply.report

-- a part of a reply was written, and not all
pub record HoldsLess (reply : Reply) (old new : Outputs) : Type 0 where
  pub part0 : List ℕ
  pub part1 : List ℕ
  pub in_out : Appends (old.held 0) (new.held 0) part0
  pub in_report : Appends (old.held 1) (new.held 1) part1
  pub part : IsPartOf reply part0 part1
  pub less : length part0 + length part1 < length reply.out + length reply.report

-- each record was answered, and it is said whether one is refused
pub record RanWhole (formats : Formats) (refused : Bool) (before after : Input) (old new : Outputs) : Type 0 where
  pub at_end : IsTrue after.ended
  pub all : AnswersAll formats before.left old new
  pub shown : IfSome before.left (λ input. IsTrue refused ↔ SomeShown formats.to (records formats.from input))

-- a stop has its cause
abbrev pub HasStopped : Formats → Halt → Input → Input → Outputs → Outputs → Type 0
HasStopped formats ReadHalt before after old new = Rose before.faults after.faults × (after.ended ≡ false)
HasStopped formats LimitHalt before after old new = after.ended ≡ false
HasStopped formats WriteHalt before after old new = Rose old.faults new.faults × AnswersLess formats before.left old new
HasStopped formats MemoryHalt before after old new = Unit {0}

-- How a run over the records of an input ended.
abbrev pub Ran : Formats → Result Bool Halt → Input → Input → Outputs → Outputs → Type 0
Ran formats (Ok refused) before after old new = RanWhole formats refused before after old new
Ran formats (Err halt) before after old new = AnswersSome formats before.left old new × HasStopped formats halt before after old new

-- ---- the limit

-- more than the limit was taken of one of the first inputs
pub record PastLimit (count limit : ℕ) (taken : ℕ → ℕ) : Type 0 where
  pub input : ℕ
  pub is_input : input < count
  pub past : limit < taken input

-- These bytes were taken of the first inputs, and the limit stopped the run exactly where more than it was taken of one.
pub record Taken (count limit : ℕ) (Stopped : Type 0) (before after : ℕ → Input) : Type 0 where
  pub bytes : ℕ → List ℕ
  pub takes : (i : ℕ) → i < count → Takes (before i) (after i) (bytes i)
  pub few : (i : ℕ) → i < count → length (bytes i) < 2 ^ 65
  pub stopped : Stopped ↔ PastLimit count limit (λ i. length (bytes i))

-- by how much the count of what was taken of an input rose
abbrev pub risen : (ℕ → Input) → (ℕ → Input) → ℕ → ℕ
risen before after i = (after i).taken - (before i).taken

-- ---- causes

-- reads of one of the first inputs have failed
pub record FaultsRose (count : ℕ) (before after : ℕ → Input) : Type 0 where
  pub input : ℕ
  pub is_input : input < count
  pub rose : Rose (before input).faults (after input).faults
