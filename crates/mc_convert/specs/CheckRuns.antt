-- What a check leaves at the outputs, and how it ends (this project's own).
use Rattle.std.specs.Prelude.{◌≡◌, ◌↔◌, ⊤, ℕ, ◌<◌, ◌≤◌, List, ◌++◌, Bool, true, Option, Some, Result, Ok, Err, IfSome, IsTrue, length}
use Rattle.std.specs.List.{list_all}
use Rattle.std.specs.Io.KnownBytes.{Appends}
use Rattle.mc_io.specs.Causes.{Rose}
use Rattle.mc_io.specs.Outside.{AppendsPart, Input, Outputs}
use Rattle.mc_convert.specs.declared.finding.Finding.{Finding}
use Rattle.mc_convert.specs.declared.check_readers.CheckReaders.{CheckReaders}
use Rattle.mc_convert.specs.declared.status.Halt.{Halt}
use Rattle.mc_convert.specs.declared.status.Halt.TheVariants.{ReadFault, InputLimit, WriteFault, NoMemory}
use Rattle.mc_convert.specs.Findings.{is_true, verdict_line}
use Rattle.mc_convert.specs.Checks.{Finds, at_first, extra_line, extra_text, is_extra, verdict_lines, IsCheckText, IsCheckPart, IsAllTrue}
use Rattle.mc_convert.specs.declared.formats.Formats.{Formats}
use Rattle.mc_convert.specs.declared.formats.Target.{Target}
use Rattle.mc_convert.specs.Records.{Record, records}
use Rattle.mc_convert.specs.CheckSteps.{AreWithin, IsPast, ReadFailed, NotEnded, FindsNext}

-- where the three inputs are known
abbrev pub IfKnown : Option (List ℕ) → Option (List ℕ) → Option (List ℕ) → (List ℕ → List ℕ → List ℕ → Type 0) → Type 0
IfKnown originals converted report P = IfSome originals (λ o. IfSome converted (λ c. IfSome report (λ r. P o c r)))

-- an output has grown by bytes of which P holds
pub record GrownBy (old new : Option (List ℕ)) (P : List ℕ → Type 0) : Type 0 where
  pub more : List ℕ
  pub out : Appends old new more
  pub holds : P more

-- the whole text of a check is written
abbrev pub ChecksAll : Formats → Option (List ℕ) → Option (List ℕ) → Option (List ℕ) → Option (List ℕ) → Option (List ℕ) → Type 0
ChecksAll formats originals converted report old new = IfKnown originals converted report (λ o c r. GrownBy old new (IsCheckText formats o c r))

-- a front of the text is written
abbrev pub ChecksSome : Formats → Option (List ℕ) → Option (List ℕ) → Option (List ℕ) → Option (List ℕ) → Option (List ℕ) → Type 0
ChecksSome formats originals converted report old new = IfKnown originals converted report (λ o c r. GrownBy old new (IsCheckPart formats o c r))

-- less than the whole text
abbrev pub IsLessThanText : Formats → List ℕ → List ℕ → List ℕ → List ℕ → Type 0
IsLessThanText formats originals converted report more = (text : List ℕ) → IsCheckText formats originals converted report text → length more < length text

abbrev pub ChecksLess : Formats → Option (List ℕ) → Option (List ℕ) → Option (List ℕ) → Option (List ℕ) → Option (List ℕ) → Type 0
ChecksLess formats originals converted report old new = IfKnown originals converted report (λ o c r. GrownBy old new (IsLessThanText formats o c r))

-- the inputs and what output 0 holds are known, and it has grown by the whole text
pub record AllIsChecked (formats : Formats) (originals converted report old new : Option (List ℕ)) : Type 0 where
  pub o : List ℕ
  pub c : List ℕ
  pub r : List ℕ
  pub before : List ℕ
  pub text : List ℕ
  pub originals_are : originals ≡ Some o
  pub converted_are : converted ≡ Some c
  pub report_is : report ≡ Some r
  pub old_is : old ≡ Some before
  pub new_is : new ≡ Some (before ++ text)
  pub whole : IsCheckText formats o c r text

-- the same of the inputs of a check and of output 0

abbrev pub IfAllKnown : (ℕ → Input) → (List ℕ → List ℕ → List ℕ → Type 0) → Type 0
IfAllKnown inputs P = IfKnown (inputs 0).left (inputs 1).left (inputs 2).left P

abbrev pub WritesText : Formats → (ℕ → Input) → Outputs → Outputs → Type 0
WritesText formats inputs old new = ChecksAll formats (inputs 0).left (inputs 1).left (inputs 2).left (old.held 0) (new.held 0)

abbrev pub WritesFront : Formats → (ℕ → Input) → Outputs → Outputs → Type 0
WritesFront formats inputs old new = ChecksSome formats (inputs 0).left (inputs 1).left (inputs 2).left (old.held 0) (new.held 0)

abbrev pub HoldsText : Formats → (ℕ → Input) → Outputs → Outputs → Type 0
HoldsText formats inputs old new = AllIsChecked formats (inputs 0).left (inputs 1).left (inputs 2).left (old.held 0) (new.held 0)

-- ---- one original

-- it was found so, and its line stands behind those that are still to be written
pub record OneChecked (to : Target) (k : ℕ) (original : Record) (converted converted_rest report report_rest : Option (List ℕ)) (lines more : List ℕ) (all_true : Bool) : Type 0 where
  pub finding : Finding
  pub finds : FindsNext to k original converted converted_rest report report_rest finding
  pub true_is : all_true ≡ is_true finding
  pub added : more ≡ lines ++ verdict_line k finding

-- a front of these lines is written, and the rest of them is still to be written
pub record PutSome (old new : Option (List ℕ)) (lines rest : List ℕ) : Type 0 where
  pub written : List ℕ
  pub out : Appends old new written
  pub split : written ++ rest ≡ lines

-- a stop has its cause
abbrev pub CheckHalts : ℕ → Halt → CheckReaders → (ℕ → Input) → (ℕ → Input) → Outputs → Outputs → Type 0
CheckHalts limit ReadFault readers before after old new = AreWithin limit readers × ReadFailed before after
CheckHalts limit InputLimit readers before after old new = IsPast limit readers × NotEnded after
CheckHalts limit NoMemory readers before after old new = AreWithin limit readers
CheckHalts limit WriteFault readers before after old new = AreWithin limit readers × Rose old.faults new.faults

-- what an output is like behind any write
pub record Written (old new : Outputs) : Type 0 where
  pub later : old.faults ≤ new.faults
  pub report : new.held 1 ≡ old.held 1

-- ---- the whole

pub record CheckedAll (formats : Formats) (all_true : Bool) (before after : ℕ → Input) (old new : Outputs) : Type 0 where
  pub ended : (i : ℕ) → i < 3 → IsTrue (after i).ended
  pub all : ChecksAll formats (before 0).left (before 1).left (before 2).left (old.held 0) (new.held 0)
  pub true_is : IfKnown (before 0).left (before 1).left (before 2).left (λ o c r. IsTrue all_true ↔ IsAllTrue formats o c r)

-- the cause of a stop
abbrev pub CheckStopped : Formats → Halt → (ℕ → Input) → (ℕ → Input) → Outputs → Outputs → Type 0
CheckStopped formats ReadFault before after old new = ReadFailed before after
CheckStopped formats InputLimit before after old new = NotEnded after
CheckStopped formats NoMemory before after old new = ⊤
CheckStopped formats WriteFault before after old new = Rose old.faults new.faults × ChecksLess formats (before 0).left (before 1).left (before 2).left (old.held 0) (new.held 0)

-- How a check ended.
abbrev pub CheckRan : Formats → Result Bool Halt → (ℕ → Input) → (ℕ → Input) → Outputs → Outputs → Type 0
CheckRan formats (Ok all_true) before after old new = CheckedAll formats all_true before after old new
CheckRan formats (Err halt) before after old new = ChecksSome formats (before 0).left (before 1).left (before 2).left (old.held 0) (new.held 0) × CheckStopped formats halt before after old new

-- ---- all originals

-- all originals are checked, and their lines are written
pub record AllFound (formats : Formats) (all_true : Bool) (o c r : List ℕ) (converted report : Option (List ℕ)) (old new : Outputs) : Type 0 where
  pub c_left : List ℕ
  pub r_left : List ℕ
  pub converted_are : converted ≡ Some c_left
  pub report_is : report ≡ Some r_left
  pub findings : List Finding
  pub finds : Finds formats.to 1 (records formats.from o) (at_first formats.to c r) findings (at_first formats.to c_left r_left)
  pub true_is : list_all is_true findings ≡ all_true
  pub written : Appends (old.held 0) (new.held 0) (verdict_lines 1 findings)

abbrev pub FoundAll : Formats → Bool → Option (List ℕ) → Option (List ℕ) → Option (List ℕ) → Option (List ℕ) → Option (List ℕ) → Outputs → Outputs → Type 0
FoundAll formats all_true o c r converted report old new = IfKnown o c r (λ x y z. AllFound formats all_true x y z converted report old new)

-- a failed write leaves less than the whole text
abbrev pub LessAt : Formats → Halt → Option (List ℕ) → Option (List ℕ) → Option (List ℕ) → Outputs → Outputs → Type 0
LessAt formats WriteFault o c r old new = ChecksLess formats o c r (old.held 0) (new.held 0)
LessAt formats halt o c r old new = ⊤

-- ---- what is left behind the originals

-- it is said whether something is extra, and its line is written
pub record RestOf (to : Target) (converted report : List ℕ) (old new : Outputs) (extra : Bool) : Type 0 where
  pub extra_is : extra ≡ is_extra (at_first to converted report)
  pub written : Appends (old.held 0) (new.held 0) (extra_text extra)

abbrev pub RestChecked : Target → Option (List ℕ) → Option (List ℕ) → Outputs → Outputs → Bool → Type 0
RestChecked to converted report old new extra = IfSome converted (λ c. IfSome report (λ r. RestOf to c r old new extra))

-- a part of the line is written, and not all
pub record RestCut (to : Target) (converted report : List ℕ) (old new : Outputs) : Type 0 where
  pub extra : is_extra (at_first to converted report) ≡ true
  pub written : AppendsPart (old.held 0) (new.held 0) extra_line

abbrev pub RestStopped : Target → Halt → Option (List ℕ) → Option (List ℕ) → Outputs → Outputs → Type 0
RestStopped to WriteFault converted report old new = IfSome converted (λ c. IfSome report (λ r. RestCut to c r old new))
RestStopped to halt converted report old new = new.held 0 ≡ old.held 0
