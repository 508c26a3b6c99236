-- How far a check is: its three readers of lines, and what the source tells of their inputs (this project's own).
use Rattle.std.specs.Prelude.{◌≡◌, ◌⊎◌, ⊤, ℕ, ◌<◌, ◌≤◌, false, List, Option, Some, None, IfSome, drop}
use Rattle.mc_report.specs.declared.report_line.ReportLine.{ReportLine}
use Rattle.mc_io.specs.Causes.{Rose}
use Rattle.mc_io.specs.Lines.{lines_of}
use Rattle.mc_io.specs.LineReader.{LineReader, MayGoOn, Reading, fresh}
use Rattle.mc_io.specs.Outside.{Input}
use Rattle.mc_convert.specs.declared.check_readers.CheckReaders.{CheckReaders}
use Rattle.mc_convert.specs.declared.finding.Finding.{Finding}
use Rattle.mc_convert.specs.declared.formats.Origin.{Origin}
use Rattle.mc_convert.specs.declared.formats.Target.{Target}
use Rattle.mc_convert.specs.declared.record_read.RecordRead.{RecordRead}
use Rattle.mc_convert.specs.declared.status.Halt.{Halt}
use Rattle.mc_convert.specs.declared.status.Halt.TheVariants.{ReadFault, InputLimit, WriteFault, NoMemory}
use Rattle.mc_convert.specs.Findings.{AreReadAs, FindsSaid}
use Rattle.mc_convert.specs.Checks.{first, at_first, FindsOne}
use Rattle.mc_convert.specs.Records.{Record, records}

-- a reader may be asked for the next line of this input
pub record MayReadOn (input limit : ℕ) (reader : LineReader) : Type 0 where
  pub number : reader.input ≡ input
  pub goes_on : MayGoOn reader.answer
  pub within : reader.taken ≤ limit

pub record MayRead (limit : ℕ) (readers : CheckReaders) : Type 0 where
  pub originals : MayReadOn 0 limit readers.originals
  pub converted : MayReadOn 1 limit readers.converted
  pub report : MayReadOn 2 limit readers.report

-- readers that have read nothing yet
abbrev pub fresh_readers : CheckReaders
fresh_readers = record { originals = fresh 0; converted = fresh 1; report = fresh 2 }

-- what was taken of each input is within the limit
pub record AreWithin (limit : ℕ) (readers : CheckReaders) : Type 0 where
  pub originals : readers.originals.taken ≤ limit
  pub converted : readers.converted.taken ≤ limit
  pub report : readers.report.taken ≤ limit

-- any number of lines were taken of each of the three inputs, and of no other
pub record Advance (old new : CheckReaders) (before after : ℕ → Input) : Type 0 where
  pub originals : Reading old.originals new.originals (before 0) (after 0)
  pub converted : Reading old.converted new.converted (before 1) (after 1)
  pub report : Reading old.report new.report (before 2) (after 2)
  pub others : (i : ℕ) → 3 ≤ i → after i ≡ before i

-- the limit was passed by what was taken of one input
abbrev pub IsPast : ℕ → CheckReaders → Type 0
IsPast limit readers = (limit < readers.originals.taken) ⊎ ((limit < readers.converted.taken) ⊎ (limit < readers.report.taken))

-- a failed read of one of the inputs
pub record ReadFailed (before after : ℕ → Input) : Type 0 where
  pub input : ℕ
  pub is_input : input < 3
  pub rose : Rose (before input).faults (after input).faults
  pub not_ended : (after input).ended ≡ false

-- one of the inputs wasn't read to its end
pub record NotEnded (after : ℕ → Input) : Type 0 where
  pub input : ℕ
  pub is_input : input < 3
  pub not_ended : (after input).ended ≡ false

-- a stop of the reading has its cause
abbrev pub ReadHalts : ℕ → Halt → CheckReaders → (ℕ → Input) → (ℕ → Input) → Type 0
ReadHalts limit ReadFault new before after = AreWithin limit new × ReadFailed before after
ReadHalts limit InputLimit new before after = IsPast limit new × NotEnded after
ReadHalts limit NoMemory new before after = AreWithin limit new
ReadHalts limit WriteFault new before after = ⊥

-- the first of what known bytes are cut into is taken, where there is one
abbrev pub TakesFirst : {A : Type 0} → (List ℕ → List A) → Option (List ℕ) → Option (List ℕ) → Option A → Type 0
TakesFirst cut None rest given = ⊤
TakesFirst cut (Some all) None given = ⊥
TakesFirst cut (Some all) (Some rest) given = (given ≡ first (cut all)) × (cut rest ≡ drop 1 (cut all))

-- the next record is taken and read
pub record ReadsNext (from : Origin) (all rest : Option (List ℕ)) (read : Option RecordRead) : Type 0 where
  pub given : Option Record
  pub takes : TakesFirst (records from) all rest given
  pub reads : AreReadAs given read

-- the next line of the report is taken, and this is what it says of record k
pub record SaidNext (k : ℕ) (all rest : Option (List ℕ)) (said : Option ReportLine) : Type 0 where
  pub line : Option (Option (List ℕ))
  pub takes : TakesFirst lines_of all rest line
  pub says : FindsSaid k line said

-- original k is found so, and this is left of the converted records and of the report
pub record OneFound (to : Target) (k : ℕ) (original : Record) (converted report : List ℕ) (converted_rest report_rest : Option (List ℕ)) (finding : Finding) : Type 0 where
  pub converted_left : List ℕ
  pub report_left : List ℕ
  pub converted_is : converted_rest ≡ Some converted_left
  pub report_is : report_rest ≡ Some report_left
  pub one : FindsOne to k original (at_first to converted report) finding (at_first to converted_left report_left)

-- the same where the inputs are known
abbrev pub FindsNext : Target → ℕ → Record → Option (List ℕ) → Option (List ℕ) → Option (List ℕ) → Option (List ℕ) → Finding → Type 0
FindsNext to k original converted converted_rest report report_rest finding =
    IfSome converted (λ c. IfSome report (λ r. OneFound to k original c r converted_rest report_rest finding))
