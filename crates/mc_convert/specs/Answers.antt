-- What a record is answered, and what a run writes (this project's own).
use Rattle.std.specs.Prelude.{◌≡◌, ℕ, ◌+◌, ◌<◌, ◌⊎◌, List, [], ◌∷◌, ◌++◌, take, flat_map, length, map}
use Rattle.mc_base.specs.declared.ids.AtomId.{AtomId}
use Rattle.mc_base.specs.declared.kind.Kind.{Kind}
use Rattle.mc_base.specs.declared.kind.Kind.TheVariants.{LineTooLong}
use Rattle.mc_base.specs.declared.refusal.Refusal.{Refusal}
use Rattle.mc_base.specs.Shown.{IsFirst}
use Rattle.mc_mol.specs.Molecule.{Molecule}
use Rattle.mc_mol.specs.Same.{Same}
use Rattle.mc_report.specs.Report.{line_ends, ok_line, refused_line}
use Rattle.smi_mean.specs.Barriers.{IsTextBarrier}
use Rattle.smi_mean.specs.Lines.{text_of}
use Rattle.smi_mean.specs.Rules.{StandsAt, SmilesStands}
use Rattle.smi_mean.specs.Written.{written_text, written_order}
use Rattle.mc_convert.specs.declared.formats.Target.{Target}
use Rattle.mc_convert.specs.declared.formats.Target.TheVariants.{Smi}
use Rattle.ct_sd.specs.Faults.{IsNoBarrier, StandsIn as StandsAmong}
use Rattle.mc_convert.specs.Records.{Record, Line, TooLong, Sd, SdTooLong, headers_in, line, name_in, record_texts, with_name}
use Rattle.mc_convert.specs.SdRecords.{SdStands, StandsInLines}

-- what is written for a record: at output 0, and at output 1
pub record Reply : Type 0 where
  pub out : List ℕ
  pub report : List ℕ

-- A kind stands at a place of a record that is to be written in a target: of the text of a line, of the lines of a record of
-- an SD file, or of one that is too long, which isn't read further.
abbrev pub StandsIn : Target → Record → Kind → ℕ → Type 0
StandsIn to TooLong LineTooLong place = place ≡ 1
StandsIn to TooLong kind place = ⊥
StandsIn to (Line text) kind place = StandsAt (text_of text) kind place
StandsIn to (Sd lines) kind place = StandsInLines lines kind place
StandsIn to (SdTooLong fault) kind place = StandsAmong (fault ∷ []) kind place

-- a record stands for what its text or its lines stand for
abbrev pub RecordStands : Record → Molecule → Type 0
RecordStands TooLong m = ⊥
RecordStands (Line text) m = SmilesStands (text_of text) m
RecordStands (Sd lines) m = SdStands lines m
RecordStands (SdTooLong fault) m = ⊥

-- ---- what is written in a target: the one form of a molecule with a name, as bytes and as a record

abbrev pub written_bytes : Target → Molecule → List ℕ → List ℕ
written_bytes Smi m name = line (with_name (written_text m) name)

abbrev pub written_record : Target → Molecule → List ℕ → Record
written_record Smi m name = Line (with_name (written_text m) name)

-- its atoms, in the order in which they are written
abbrev pub written_atoms : Target → Molecule → List AtomId
written_atoms Smi m = written_order m

-- the records of what is written, whatever the length of its lines
abbrev pub written_records : Target → List ℕ → List Record
written_records Smi bytes = map Line (record_texts bytes)

-- Record k is written: in the one form of a molecule that it stands for, with its name. What is written is one record
-- and stands for exactly one molecule, which is the same under the map that the report line has.
pub record IsWritten (to : Target) (k : ℕ) (given : Record) (reply : Reply) : Type 0 where
  pub input : Molecule
  pub output : Molecule
  pub stands : RecordStands given input
  pub form : reply.out ≡ written_bytes to input (name_in given)
  pub one_record : written_records to reply.out ≡ written_record to input (name_in given) ∷ []
  pub name : name_in (written_record to input (name_in given)) ≡ name_in given
  pub reads : RecordStands (written_record to input (name_in given)) output
  pub only : (other : Molecule) → RecordStands (written_record to input (name_in given)) other → other ≡ output
  pub same : Same input output (written_atoms to input)
  pub report : reply.report ≡ ok_line k (written_atoms to input) 0 0 (headers_in given)

-- the barriers of a record, each with its number of odd parts: those of the text of a line; an SD record has none
abbrev pub IsBarrierOf : Target → Record → List AtomId → ℕ → Type 0
IsBarrierOf to TooLong barrier odd = ⊥
IsBarrierOf to (Line text) barrier odd = IsTextBarrier (text_of text) barrier odd
IsBarrierOf to (Sd lines) barrier odd = IsNoBarrier barrier odd
IsBarrierOf to (SdTooLong fault) barrier odd = IsNoBarrier barrier odd

-- A record shows a refusal: of kind and place there is one, of barriers there may be several.
abbrev pub Shows : Target → Record → Refusal → Type 0
Shows to given refusal = IsFirst (StandsIn to given) (IsBarrierOf to given) refusal

-- Record k is refused, for a cause that it shows.
pub record IsRefusedFor (to : Target) (k : ℕ) (given : Record) (reply : Reply) : Type 0 where
  pub refusal : Refusal
  pub shows : Shows to given refusal
  pub out : reply.out ≡ []
  pub report : reply.report ≡ refused_line k refusal

abbrev pub IsAnswer : Target → ℕ → Record → Reply → Type 0
IsAnswer to k given reply = IsWritten to k given reply ⊎ IsRefusedFor to k given reply

-- the answers to the records from number k on, in order, one for each
abbrev pub Answers : Target → ℕ → List Record → List Reply → Type 0
Answers to k [] [] = Unit {0}
Answers to k [] (reply ∷ replies) = ⊥
Answers to k (given ∷ more) [] = ⊥
Answers to k (given ∷ more) (reply ∷ replies) = IsAnswer to k given reply × Answers to (k + 1) more replies

abbrev pub outs : List Reply → List ℕ
outs replies = flat_map (λ reply. reply.out) replies

abbrev pub reports : List Reply → List ℕ
reports replies = flat_map (λ reply. reply.report) replies

-- The outputs have grown by all of the answers.
pub record Whole (to : Target) (given : List Record) (grown0 grown1 : List ℕ) : Type 0 where
  pub replies : List Reply
  pub answers : Answers to 1 given replies
  pub out : grown0 ≡ outs replies
  pub report : grown1 ≡ reports replies

abbrev pub IsPrefix : List ℕ → List ℕ → Type 0
IsPrefix part whole = (rest : List ℕ) × (whole ≡ part ++ rest)

-- a part of a reply: of its record, or of its report line behind the whole record
abbrev pub IsPartOf : Reply → List ℕ → List ℕ → Type 0
IsPartOf reply part0 part1 = (IsPrefix part0 reply.out × (part1 ≡ [])) ⊎ ((part0 ≡ reply.out) × IsPrefix part1 reply.report)

-- The outputs have grown by the answers to the first records, and by a part of the answer to the last of these.
pub record StoppedIn (to : Target) (given : List Record) (grown0 grown1 : List ℕ) : Type 0 where
  pub before : List Reply
  pub last : Reply
  pub part0 : List ℕ
  pub part1 : List ℕ
  pub answers : Answers to 1 (take (length before + 1) given) (before ++ last ∷ [])
  pub part : IsPartOf last part0 part1
  pub out : grown0 ≡ outs before ++ part0
  pub report : grown1 ≡ reports before ++ part1

-- with no answer they haven't grown
abbrev pub Stopped : Target → List Record → List ℕ → List ℕ → Type 0
Stopped to given grown0 grown1 = ((grown0 ≡ []) × (grown1 ≡ [])) ⊎ StoppedIn to given grown0 grown1

-- A record has no line in the report: fewer lines have ended there than there are records.
abbrev pub LacksLine : List Record → List ℕ → List ℕ → Type 0
LacksLine given grown0 grown1 = line_ends grown1 < length given
