-- What is left of an input behind the last original.
use Rattle.std.proofs.Common.{◌≡◌, ℕ, List, Option, Some, None, refl, ap, subst}
use Rattle.std.specs.Prelude.{Ok, Err, Bool, IfSome, is_some}
use Rattle.mc_io.specs.declared.read_stop.ReadStop.{ReadStop}
use Rattle.mc_io.specs.declared.read_stop.ReadStop.TheVariants.{ReadFault, InputLimit, NoMemory}
use Rattle.mc_io.specs.Lines.{lines_of}
use Rattle.mc_io.specs.LineReader.{LineReader, ahead, Reading}
use Rattle.mc_io.specs.Outside.{Input}
use Rattle.mc_convert.specs.declared.formats.Origin.{Origin}
use Rattle.mc_convert.specs.declared.records.Passed.{Passed}
use Rattle.mc_convert.specs.declared.records.Passed.TheVariants.{Line, TooLong}
use Rattle.mc_convert.specs.Checks.{first}
use Rattle.mc_convert.specs.CheckSteps.{TakesFirst}
use Rattle.mc_convert.specs.Findings.{line_met, record_met}
use Rattle.mc_convert.specs.Readers.{HasEnded, GivesLine, GivesRecord}
use Rattle.mc_convert.specs.Records.{records}
use Rattle.mc_convert.proofs.CheckLifts.{record_first, line_taken}
use Rattle.mc_convert.proofs.ReaderSteps.{rose_later}

-- a later stop has its cause
pub stopped_later : (limit : ℕ) (stop : ReadStop) (a b c : LineReader) (x y z : Input) → Reading a b x y → HasEnded limit (Err stop) c y z → HasEnded limit (Err stop) c x z
stopped_later limit ReadFault a b c x y z p (within, rose, ended) = (within, rose_later x.faults y.faults z.faults p.takes.later rose, ended)
stopped_later limit InputLimit a b c x y z p h = h
stopped_later limit NoMemory a b c x y z p h = h

some_first : {A : Type 0} (cut : List ℕ → List A) (given : Option A) (all rest : Option (List ℕ)) → TakesFirst cut all rest given → IfSome all (λ bytes. is_some given ≡ is_some (first (cut bytes)))
some_first cut given None rest h = tt
some_first cut given (Some all) None h = absurd h
some_first {A} cut given (Some all) (Some rest) h = ap (λ (x : Option A). is_some x) h.0

some_record_met : (next : Option Passed) (text : List ℕ) → is_some (record_met next text) ≡ is_some next
some_record_met None text = refl
some_record_met (Some passed) text = refl

some_line_met : (next : Option Passed) (text : List ℕ) → is_some (line_met next text) ≡ is_some next
some_line_met None text = refl
some_line_met (Some Line) text = refl
some_line_met (Some TooLong) text = refl

pub some_record : (from : Origin) (next : Option Passed) (all rest : Option (List ℕ)) (text : List ℕ) → GivesRecord from (Ok next) all rest text → IfSome all (λ bytes. is_some next ≡ is_some (first (records from bytes)))
some_record from next all rest text gives =
    subst (λ (b : Bool). IfSome all (λ bytes. b ≡ is_some (first (records from bytes)))) (some_record_met next text) (some_first (records from) (record_met next text) all rest (record_first from next all rest text gives))

pub some_line : (limit : ℕ) (next : Option Passed) (all left : Option (List ℕ)) (reader : LineReader) (before after : Input) → GivesLine (Ok next) all (ahead reader left) reader.text
    → HasEnded limit (Ok next) reader before after → IfSome all (λ bytes. is_some next ≡ is_some (first (lines_of bytes)))
some_line limit next all left reader before after gives ended =
    subst (λ (b : Bool). IfSome all (λ bytes. b ≡ is_some (first (lines_of bytes)))) (some_line_met next reader.text) (some_first lines_of (line_met next reader.text) all (ahead reader left) (line_taken limit next all left reader before after gives ended))
