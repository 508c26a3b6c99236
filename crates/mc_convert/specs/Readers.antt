-- What is true from one time to a later one while an input is read line by line (this project's own).
use Rattle.std.specs.Prelude.{◌≡◌, ℕ, ◌<◌, ◌≤◌, false, List, [], ◌∷◌, ◌++◌, length, Option, Some, None, Result, Ok, Err, IsTrue, ⊤}
use Rattle.std.specs.Io.KnownBytes.{IsAtEnd}
use Rattle.mc_io.specs.declared.lines.LineStep.TheVariants.{Line as LineStep}
use Rattle.mc_io.specs.declared.read_stop.ReadStop.{ReadStop}
use Rattle.mc_io.specs.declared.read_stop.ReadStop.TheVariants.{ReadFault, InputLimit, NoMemory}
use Rattle.mc_io.specs.Causes.{Rose}
use Rattle.mc_io.specs.LineReader.{LineReader, TakesLines}
use Rattle.mc_io.specs.Lines.{IsLineText, most_bytes}
use Rattle.mc_io.specs.Outside.{Input}
use Rattle.mc_convert.specs.declared.formats.Origin.{Origin}
use Rattle.mc_convert.specs.declared.records.Passed.{Passed}
use Rattle.mc_convert.specs.declared.records.Passed.TheVariants.{Line, TooLong}
use Rattle.mc_convert.specs.Records.{Record, Line as RecordLine, TooLong as RecordLong, records}

-- How a call ended: within the limit but where it says so; and a stop has its cause.
abbrev pub HasEnded : ℕ → Result (Option Passed) ReadStop → LineReader → Input → Input → Type 0
HasEnded limit (Ok None) new before after = (new.taken ≤ limit) × IsTrue new.ended
HasEnded limit (Ok (Some passed)) new before after = new.taken ≤ limit
HasEnded limit (Err ReadFault) new before after = (new.taken ≤ limit) × Rose before.faults after.faults × (after.ended ≡ false)
HasEnded limit (Err InputLimit) new before after = (limit < new.taken) × (after.ended ≡ false)
HasEnded limit (Err NoMemory) new before after = new.taken ≤ limit

-- how many lines were passed at least
abbrev pub lines_in : Option Passed → ℕ
lines_in None = 0
lines_in (Some passed) = 1

-- a line that was passed is lent: it is within the limit, and has nothing of its end
pub record LendsLine (reader : LineReader) : Type 0 where
  pub answer : reader.answer ≡ Some LineStep
  pub short : length reader.text ≤ most_bytes
  pub one : IsLineText reader.text

abbrev pub IsLent : LineReader → Option Passed → Type 0
IsLent reader None = ⊤
IsLent reader (Some Line) = LendsLine reader
IsLent reader (Some TooLong) = ⊤

abbrev pub IsEmptyLine : List ℕ → Option Passed → Type 0
IsEmptyLine text None = ⊥
IsEmptyLine text (Some Line) = text ≡ []
IsEmptyLine text (Some TooLong) = ⊥

abbrev pub IsSomeLine : List ℕ → Option Passed → Type 0
IsSomeLine text None = ⊤
IsSomeLine text (Some Line) = 0 < length text
IsSomeLine text (Some TooLong) = ⊤

-- records are taken from the front of known bytes
abbrev pub TakesRecords : Origin → Option (List ℕ) → Option (List ℕ) → List Record → Type 0
TakesRecords from None rest taken = ⊤
TakesRecords from (Some all) None taken = ⊥
TakesRecords from (Some all) (Some rest) taken = records from all ≡ taken ++ records from rest

-- What an answer says of the bytes ahead, at the call and after it: a line with this text was taken from them, a line
-- that is too long, or none is there.
abbrev pub GivesLine : Result (Option Passed) ReadStop → Option (List ℕ) → Option (List ℕ) → List ℕ → Type 0
GivesLine (Ok None) all rest text = IsAtEnd all × IsAtEnd rest
GivesLine (Ok (Some Line)) all rest text = TakesLines all rest (Some text ∷ [])
GivesLine (Ok (Some TooLong)) all rest text = TakesLines all rest (None ∷ [])
GivesLine (Err stop) all rest text = ⊤

-- the record that was passed
abbrev pub found : Passed → List ℕ → Record
found Line text = RecordLine text
found TooLong text = RecordLong

-- the same of records
abbrev pub GivesRecord : Origin → Result (Option Passed) ReadStop → Option (List ℕ) → Option (List ℕ) → List ℕ → Type 0
GivesRecord from (Ok None) all rest text = TakesRecords from all rest [] × IsAtEnd rest
GivesRecord from (Ok (Some passed)) all rest text = TakesRecords from all rest (found passed text ∷ [])
GivesRecord from (Err stop) all rest text = ⊤
