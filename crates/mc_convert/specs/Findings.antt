-- What is found for one original, by what the report says of it and the converted record that is next (this project's own).
use Rattle.std.specs.Prelude.{◌≡◌, ◌⊎◌, ◌↔◌, ◌<◌, ⊤, ℕ, length, List, [], ◌∷◌, ◌++◌, Bool, true, false, Option, Some, None, slice_get, codes, decimal, ◌==◌, if◌then◌else◌}
use Rattle.mc_base.specs.declared.ids.AtomId.{AtomId}
use Rattle.mc_base.specs.declared.kind.Kind.{Kind}
use Rattle.mc_base.specs.declared.kind.Kind.TheVariants.{NoPlacement}
use Rattle.mc_base.specs.declared.refusal.Refusal.{Refusal}
use Rattle.mc_base.specs.declared.span.Span.{Span}
use Rattle.mc_base.specs.declared.verdict.Verdict as verdict
use Rattle.mc_base.specs.declared.verdict.Verdict.TheVariants as verdicts
use Rattle.mc_mol.specs.Molecule.{Molecule}
use Rattle.mc_report.specs.declared.report_line.ReportLine.{ReportLine}
use Rattle.mc_report.specs.declared.report_line.ReportLine.TheVariants.{Ok as OkLine, Refused as RefusedLine}
use Rattle.mc_report.specs.Grammar.{Spells, number_of}
use Rattle.smi_graph.specs.declared.text_bond.TextBond.{TextBond}
use Rattle.smi_graph.specs.Candidates.{IsCandidate}
use Rattle.smi_graph.specs.Rules.{atoms_in, text_bonds_in}
use Rattle.smi_graph.specs.Skeletons.{TextGraph, IsSkeleton}
use Rattle.smi_mean.specs.Lines.{text_of}
use Rattle.smi_mean.specs.MeantCentres.{MarkFits}
use Rattle.smi_mean.specs.Sound.{IsSound}
use Rattle.mc_same.specs.Differences.{IsVerdict}
use Rattle.mc_same.specs.Stands.{IsStandsVerdict}
use Rattle.mc_convert.specs.declared.formats.Target.{Target}
use Rattle.mc_convert.specs.declared.records.Passed.{Passed}
use Rattle.mc_convert.specs.declared.records.Passed.TheVariants.{Line, TooLong}
use Rattle.mc_convert.specs.declared.record_read.RecordRead.{RecordRead}
use Rattle.mc_convert.specs.declared.record_read.RecordRead.TheVariants.{Stands, Table, Refused}
use Rattle.mc_convert.specs.declared.finding.Finding.{Finding}
use Rattle.mc_convert.specs.declared.finding.Finding.TheVariants.{Map, Shown, Report, Missing, Input, Output, Refusal as NotShown}
use Rattle.mc_convert.specs.Answers.{RecordStands, Shows}
use Rattle.mc_convert.specs.Readers.{found}
use Rattle.mc_convert.specs.Records.{Record, Line as RecordLine, TooLong as RecordLong, Sd as RecordSd, SdTooLong as RecordSdLong, IsNameAt, headers_in, name_in}
use Rattle.mc_convert.specs.Runs.{IsShown}

-- what a line of the report says of record k; a line that is too long says nothing, and where there is none nothing is said
abbrev pub Says : ℕ → Option (Option (List ℕ)) → ReportLine → Type 0
Says k None said = ⊥
Says k (Some None) said = ⊥
Says k (Some (Some text)) said = Spells said text × (number_of said ≡ k)

abbrev pub SaysNothing : ℕ → Option (Option (List ℕ)) → Type 0
SaysNothing k line = (said : ReportLine) → Says k line said → ⊥

-- the line says that the record is written under a map of which P holds
pub record SaysWritten (k : ℕ) (line : Option (Option (List ℕ))) (P : List AtomId → Type 0) : Type 0 where
  pub map : List AtomId
  pub says : Says k line (OkLine k map)
  pub holds : P map

-- the line says that the record shows a refusal of which P holds
pub record SaysRefused (k : ℕ) (line : Option (Option (List ℕ))) (P : Refusal → Type 0) : Type 0 where
  pub refusal : Refusal
  pub says : Says k line (RefusedLine k refusal)
  pub holds : P refusal

-- the skeleton of a record's text, where it has one
abbrev pub IsTextOf : Record → TextGraph → Type 0
IsTextOf (RecordLine text) skeleton = IsSkeleton (text_of text) skeleton
IsTextOf other skeleton = ⊥

-- a bond of a record's text is single or double, and the text doesn't say which
abbrev pub HasCandidate : Record → Type 0
HasCandidate RecordLong = ⊥
HasCandidate (RecordSd lines) = ⊥
HasCandidate (RecordSdLong fault) = ⊥
HasCandidate (RecordLine text) = (k : ℕ) × (b : TextBond) × (slice_get (text_bonds_in (text_of text)) k ≡ Some b) × IsCandidate (atoms_in (text_of text)) (text_bonds_in (text_of text)) b

-- the original can be read, and the converted record can't, or has a bond that may be single or double
pub record IsOutputShown (to : Target) (original converted : Record) : Type 0 where
  pub input : Molecule
  pub stands : RecordStands original input
  pub shown : IsShown to converted ⊎ HasCandidate converted

-- a text and a molecule compare so under a map: the text stands for any of its molecules
pub record CompareText (text : List ℕ) (output : Molecule) (map : List AtomId) (v : verdict.Verdict) : Type 0 where
  pub skeleton : TextGraph
  pub text_is : IsSkeleton (text_of text) skeleton
  pub is : IsStandsVerdict skeleton output map v

-- an original, which stands for a molecule, and a molecule compare so under a map
abbrev pub CompareOriginal : Record → Molecule → Molecule → List AtomId → verdict.Verdict → Type 0
CompareOriginal (RecordLine text) input output map v = CompareText text output map v
CompareOriginal (RecordSd lines) input output map v = IsVerdict input output map v
CompareOriginal RecordLong input output map v = ⊥
CompareOriginal (RecordSdLong fault) input output map v = ⊥

-- An original and the one molecule of a converted record compare so under a map.
pub record Compare (original converted : Record) (map : List AtomId) (v : verdict.Verdict) : Type 0 where
  pub input : Molecule
  pub output : Molecule
  pub input_stands : RecordStands original input
  pub output_stands : RecordStands converted output
  pub plain : HasCandidate converted → ⊥
  pub is : CompareOriginal original input output map v

-- what is found of an original that is said to be written under a map, with the converted record that is next
abbrev pub IsMapFinding : Target → Record → Option Record → List AtomId → Finding → Type 0
IsMapFinding to original None map Missing = ⊤
IsMapFinding to original (Some converted) map Input = IsShown to original
IsMapFinding to original (Some converted) map Output = IsOutputShown to original converted
IsMapFinding to original (Some converted) map (Map v) = Compare original converted map v
IsMapFinding to original next map finding = ⊥

-- what is found of an original that is said to show a refusal
abbrev pub IsRefusalFinding : Target → Record → Refusal → Finding → Type 0
IsRefusalFinding to original refusal Shown = Shows to original refusal
IsRefusalFinding to original refusal NotShown = Shows to original refusal → ⊥
IsRefusalFinding to original refusal finding = ⊥

abbrev pub shown_finding : Bool → Finding
shown_finding shows = if shows then Shown else NotShown

-- what is found of original k
abbrev pub IsFinding : Target → ℕ → Record → Option (Option (List ℕ)) → Option Record → Finding → Type 0
IsFinding to k original line next finding = (SaysNothing k line × (finding ≡ Report))
    ⊎ (SaysWritten k line (λ map. IsMapFinding to original next map finding) ⊎ SaysRefused k line (λ refusal. IsRefusalFinding to original refusal finding))

-- the record is carried over as the report says
abbrev pub is_true : Finding → Bool
is_true (Map verdicts.True) = true
is_true Shown = true
is_true other = false

abbrev pub difference_text : verdict.Verdict → List ℕ
difference_text verdicts.True = codes "true"
difference_text verdicts.Length = codes "false length"
difference_text (verdicts.Range k) = codes "false range " ++ decimal k
difference_text (verdicts.Repeat k) = codes "false repeat " ++ decimal k
difference_text (verdicts.Atom k) = codes "false atom " ++ decimal k
difference_text verdicts.Bonds = codes "false bonds"
difference_text (verdicts.Bond k) = codes "false bond " ++ decimal k
difference_text (verdicts.Centre k) = codes "false centre " ++ decimal k
difference_text (verdicts.Sides k) = codes "false sides " ++ decimal k

abbrev pub finding_text : Finding → List ℕ
finding_text (Map v) = difference_text v
finding_text Shown = codes "true"
finding_text Report = codes "false report"
finding_text Missing = codes "false missing"
finding_text Input = codes "false input"
finding_text Output = codes "false output"
finding_text NotShown = codes "false refusal"

-- the line that is written of original k
abbrev pub verdict_line : ℕ → Finding → List ℕ
verdict_line k finding = decimal k ++ (codes " " ++ (finding_text finding ++ 10 ∷ []))

-- exactly what a line says of record k is found
abbrev pub FindsSaid : ℕ → Option (Option (List ℕ)) → Option ReportLine → Type 0
FindsSaid k line found = (said : ReportLine) → (found ≡ Some said) ↔ Says k line said

-- what is said, if it is said of record k
abbrev pub if_numbered : Option ReportLine → ℕ → Option ReportLine
if_numbered None k = None
if_numbered (Some said) k = if number_of said == k then Some said else None

-- a line as it is met, and a record
abbrev pub line_met : Option Passed → List ℕ → Option (Option (List ℕ))
line_met None text = None
line_met (Some Line) text = Some (Some text)
line_met (Some TooLong) text = Some None

abbrev pub record_met : Option Passed → List ℕ → Option Record
record_met None text = None
record_met (Some passed) text = Some (found passed text)

-- the name of a record stands here
abbrev pub NameStands : Record → Span → Type 0
NameStands (RecordLine text) name = IsNameAt text name
NameStands other name = ⊥

-- a record is read: it stands for this molecule, which is sound, its text has this skeleton, and its name stands here
pub record IsRead (given : Record) (m : Molecule) (skeleton : TextGraph) (name : Span) : Type 0 where
  pub stands : RecordStands given m
  pub sound : IsSound m
  pub text : IsTextOf given skeleton
  pub name_is : NameStands given name

-- a record of an SD file is read: it stands for this molecule, which is sound, has this name and so many headers
pub record IsTableRead (given : Record) (m : Molecule) (name : List ℕ) (headers : ℕ) : Type 0 where
  pub stands : RecordStands given m
  pub sound : IsSound m
  pub no_text : HasCandidate given → ⊥
  pub compare : (output : Molecule) (map : List AtomId) (v : verdict.Verdict) → IsVerdict m output map v → CompareOriginal given m output map v
  pub name_is : name ≡ name_in given
  pub headers_are : headers ≡ headers_in given

-- where a line's atoms have no placement, the skeleton of its text is kept
abbrev pub IsTextKept : Record → Kind → Option TextGraph → Type 0
IsTextKept (RecordLine text) NoPlacement None = ⊥
IsTextKept (RecordLine text) NoPlacement (Some skeleton) = IsSkeleton (text_of text) skeleton
IsTextKept (RecordLine text) kind skeleton = ⊤
IsTextKept RecordLong kind skeleton = kind ≡ NoPlacement → ⊥
IsTextKept (RecordSd lines) kind skeleton = skeleton ≡ None
IsTextKept (RecordSdLong fault) kind skeleton = skeleton ≡ None

-- a record is refused, whatever it is to be written as
pub record IsReadRefused (given : Record) (refusal : Refusal) (skeleton : Option TextGraph) : Type 0 where
  pub shows : (to : Target) → Shows to given refusal
  pub text : IsTextKept given refusal.kind skeleton

-- what a record is read as
abbrev pub IsReadAs : Record → RecordRead → Type 0
IsReadAs given (Stands m skeleton name) = IsRead given m skeleton name
IsReadAs given (Table m name headers) = IsTableRead given m name headers
IsReadAs given (Refused refusal skeleton) = IsReadRefused given refusal skeleton

-- each mark of its text is at an atom with as many neighbours and hydrogens as a centre has
abbrev pub MarksFit : RecordRead → Type 0
MarksFit (Stands m skeleton name) = (k : ℕ) → k < length skeleton.atoms → MarkFits skeleton k
MarksFit (Table m name headers) = ⊤
MarksFit (Refused refusal skeleton) = ⊤

abbrev pub AreReadAs : Option Record → Option RecordRead → Type 0
AreReadAs None None = ⊤
AreReadAs (Some given) (Some read) = IsReadAs given read
AreReadAs next read = ⊥
