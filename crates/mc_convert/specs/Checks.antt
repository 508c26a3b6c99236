-- What a check writes of three inputs: the originals, the converted records and the report (this project's own).
use Rattle.std.specs.Prelude.{◌≡◌, ◌⊎◌, ⊤, ℕ, ◌+◌, List, [], ◌∷◌, ◌++◌, Bool, true, false, ◌||◌, if◌then◌else◌, Option, Some, None, is_some, codes, drop, take}
use Rattle.std.specs.List.{list_all}
use Rattle.mc_io.specs.Lines.{lines_of}
use Rattle.mc_convert.specs.declared.finding.Finding.{Finding}
use Rattle.mc_convert.specs.declared.formats.Formats.{Formats}
use Rattle.mc_convert.specs.declared.formats.Target.{Target}
use Rattle.mc_convert.specs.Formats.{read_back}
use Rattle.mc_convert.specs.Records.{Record, records}
use Rattle.mc_convert.specs.Answers.{IsPrefix}
use Rattle.mc_convert.specs.Findings.{SaysWritten, IsFinding, is_true, verdict_line}

abbrev pub first : {A : Type 0} → List A → Option A
first [] = None
first (x ∷ xs) = Some x

-- what is still to be taken: lines of the report, and converted records
pub record Remaining : Type 0 where
  pub lines : List (Option (List ℕ))
  pub converted : List Record

-- Original k takes the next converted record where its line says that it is written, whatever is found of it.
abbrev pub Leaves : ℕ → Option (Option (List ℕ)) → List Record → List Record → Type 0
Leaves k line converted rest = (SaysWritten k line (λ map. ⊤) × (rest ≡ drop 1 converted)) ⊎ ((SaysWritten k line (λ map. ⊤) → ⊥) × (rest ≡ converted))

-- one original with its line of the report
pub record FindsOne (to : Target) (k : ℕ) (original : Record) (before : Remaining) (finding : Finding) (after : Remaining) : Type 0 where
  pub finding_is : IsFinding to k original (first before.lines) (first before.converted) finding
  pub lines_left : after.lines ≡ drop 1 before.lines
  pub converted_left : Leaves k (first before.lines) before.converted after.converted

-- the findings of the originals from number k on, and what they leave
abbrev pub Finds : Target → ℕ → List Record → Remaining → List Finding → Remaining → Type 0
Finds to k [] before [] after = after ≡ before
Finds to k [] before (finding ∷ findings) after = ⊥
Finds to k (original ∷ originals) before [] after = ⊥
Finds to k (original ∷ originals) before (finding ∷ findings) after = (middle : Remaining) × FindsOne to k original before finding middle × Finds to (k + 1) originals middle findings after

-- the report or the converted records go on behind the last original; an empty line of the report counts
abbrev pub is_extra : Remaining → Bool
is_extra remaining = is_some (first remaining.lines) || is_some (first remaining.converted)

abbrev pub verdict_lines : ℕ → List Finding → List ℕ
verdict_lines k [] = []
verdict_lines k (finding ∷ findings) = verdict_line k finding ++ verdict_lines (k + 1) findings

abbrev pub extra_line : List ℕ
extra_line = codes "end false extra" ++ 10 ∷ []

abbrev pub extra_text : Bool → List ℕ
extra_text extra = if extra then extra_line else []

-- all that is before a check
abbrev pub at_first : Target → List ℕ → List ℕ → Remaining
at_first to converted report = record { lines = lines_of report; converted = records (read_back to) converted }

-- the text of a check
pub record IsCheckText (formats : Formats) (originals converted report text : List ℕ) : Type 0 where
  pub findings : List Finding
  pub after : Remaining
  pub finds : Finds formats.to 1 (records formats.from originals) (at_first formats.to converted report) findings after
  pub written : text ≡ verdict_lines 1 findings ++ extra_text (is_extra after)

-- a check has one text
abbrev pub OneText : Formats → List ℕ → List ℕ → List ℕ → Type 0
OneText formats originals converted report =
    (text other : List ℕ) → IsCheckText formats originals converted report text → IsCheckText formats originals converted report other → text ≡ other

-- each verdict line is 'true', and nothing is extra
pub record IsAllTrue (formats : Formats) (originals converted report : List ℕ) : Type 0 where
  pub findings : List Finding
  pub after : Remaining
  pub finds : Finds formats.to 1 (records formats.from originals) (at_first formats.to converted report) findings after
  pub all_true : list_all is_true findings ≡ true
  pub no_extra : is_extra after ≡ false

-- a front of the text of a check: as much as the first originals tell, or all of them with what is extra
pub record IsPartOfFirst (formats : Formats) (originals converted report text : List ℕ) : Type 0 where
  pub count : ℕ
  pub findings : List Finding
  pub after : Remaining
  pub finds : Finds formats.to 1 (take count (records formats.from originals)) (at_first formats.to converted report) findings after
  pub part : IsPrefix text (verdict_lines 1 findings)

pub record IsPartOfWhole (formats : Formats) (originals converted report text : List ℕ) : Type 0 where
  pub whole : List ℕ
  pub is : IsCheckText formats originals converted report whole
  pub part : IsPrefix text whole

abbrev pub IsCheckPart : Formats → List ℕ → List ℕ → List ℕ → List ℕ → Type 0
IsCheckPart formats originals converted report text = IsPartOfFirst formats originals converted report text ⊎ IsPartOfWhole formats originals converted report text
