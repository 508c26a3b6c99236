-- What a report line says behind its number, part by part.
use Rattle.std.specs.Prelude.{◌≡◌, ℕ, ◌^◌, ◌<◌, ◌==◌, ◌&&◌, ◌↔◌, ◌⊎◌, suc, Bool, true, false, if◌then◌else◌, List, [], ◌∷◌, ◌++◌, Option, Some, None, option_and_then, option_map, codes, decimal, IsTrue}
use Rattle.std.specs.Borrow.{Bor}
use Rattle.mc_base.specs.declared.ids.AtomId.{AtomId}
use Rattle.mc_base.specs.declared.kind.Kind.{Kind}
use Rattle.mc_base.specs.declared.kind.Kind.TheVariants.{NoPlacement}
use Rattle.mc_base.specs.declared.refusal.Refusal.{Refusal}
use Rattle.mc_base.specs.Kinds.{kind_name}
use Rattle.mc_report.specs.declared.report_line.ReportLine.{ReportLine}
use Rattle.mc_report.specs.declared.report_line.ReportLine.TheVariants.{Ok as OkLine, Refused as RefusedLine}
use Rattle.mc_report.specs.Fronts.{labelled, most_count}
use Rattle.mc_report.specs.Grammar.{AreAtoms, HasReason, is_increasing}
use Rattle.mc_report.specs.Report.{numbers, reason}

-- exactly the line that this holds of is found
abbrev pub FindsLine : (ReportLine → Type 0) → Option ReportLine → Type 0
FindsLine Is answer = (line : ReportLine) → (answer ≡ Some line) ↔ Is line

-- ---- a record that is written

abbrev pub is_end : List ℕ → Bool
is_end [] = true
is_end (b ∷ text) = false

abbrev pub ends : Option (ℕ × List ℕ) → Bool
ends None = false
ends (Some number) = is_end number.1

abbrev pub counts_front : List ℕ → Option (ℕ × List ℕ)
counts_front text = option_and_then (λ ring. labelled most_count (codes " data=") ring.1)
    (option_and_then (λ idle. labelled most_count (codes " ring=") idle.1) (labelled most_count (codes " idle=") text))

-- the line with this list in it
abbrev pub ok_of : ℕ → Option (List AtomId × List ℕ) → Option ReportLine
ok_of k None = None
ok_of k (Some list) = if ends (counts_front list.1) then Some (OkLine k list.0) else None

-- the three counts, to the end of the line
pub record AreCounts (text : List ℕ) : Type 0 where
  pub idle : ℕ
  pub ring : ℕ
  pub lines : ℕ
  pub idle_fits : idle < 2 ^ 32
  pub ring_fits : ring < 2 ^ 32
  pub lines_fit : lines < 2 ^ 32
  pub joined : text ≡ codes " idle=" ++ (decimal idle ++ (codes " ring=" ++ (decimal ring ++ (codes " data=" ++ decimal lines))))

-- behind `map=`
pub record OkBehind (k : ℕ) (line : ReportLine) (text : List ℕ) : Type 0 where
  pub map : List AtomId
  pub rest : List ℕ
  pub is : line ≡ OkLine k map
  pub atoms : AreAtoms map
  pub joined : text ≡ numbers map ++ rest
  pub counts : AreCounts rest

-- ---- a record that is refused

-- the line with this set of atoms in it
abbrev pub barrier_with : ℕ → List AtomId → Option (ℕ × List ℕ) → Option ReportLine
barrier_with k barrier None = None
barrier_with k barrier (Some odd) = if is_end odd.1 && is_increasing barrier
    then Some (RefusedLine k (record { kind = NoPlacement; place = 0; barrier = barrier; odd = odd.0 })) else None

abbrev pub barrier_of : ℕ → Option (List AtomId × List ℕ) → Option ReportLine
barrier_of k None = None
barrier_of k (Some list) = barrier_with k list.0 (labelled most_count (codes " odd=") list.1)

-- the line with a place in it
abbrev pub place_with : ℕ → Kind → Option (ℕ × List ℕ) → Option ReportLine
place_with k kind None = None
place_with k kind (Some place) = if is_end place.1
    then Some (RefusedLine k (record { kind = kind; place = place.0; barrier = []; odd = 0 })) else None

abbrev pub place_of : ℕ → Kind → List ℕ → Option ReportLine
place_of k kind text = place_with k kind (labelled most_count (codes " place=") text)

-- how many bytes stand before the first space
abbrev pub name_len : List ℕ → ℕ
name_len [] = 0
name_len (b ∷ text) = if b == 32 then 0 else suc (name_len text)

-- a name ends before a space
abbrev pub ends_name : List ℕ → Bool
ends_name [] = true
ends_name (b ∷ text) = b == 32

-- a kind's name at the front, and what is behind it
pub record IsKind (kind : Kind) (rest text : List ℕ) : Type 0 where
  pub joined : text ≡ kind_name kind ++ rest
  pub stops : ends_name rest ≡ true

abbrev pub FindsKind : List ℕ → Option (Kind × List ℕ) → Type 0
FindsKind text found = (kind : Kind) (rest : List ℕ) → (found ≡ Some (kind, rest)) ↔ IsKind kind rest text

abbrev pub kind_view : Option (Kind × Bor (List ℕ)) → Option (Kind × List ℕ)
kind_view found = option_map (λ n. (n.0, n.1.now)) found

-- behind the name NoPlacement
pub record BarrierBehind (k : ℕ) (line : ReportLine) (text : List ℕ) : Type 0 where
  pub barrier : List AtomId
  pub odd : ℕ
  pub is : line ≡ RefusedLine k (record { kind = NoPlacement; place = 0; barrier = barrier; odd = odd })
  pub atoms : AreAtoms barrier
  pub increasing : IsTrue (is_increasing barrier)
  pub odd_fits : odd < 2 ^ 32
  pub joined : text ≡ codes " barrier=" ++ (numbers barrier ++ (codes " odd=" ++ decimal odd))

-- behind `refused `
pub record RefusedBehind (k : ℕ) (line : ReportLine) (text : List ℕ) : Type 0 where
  pub refusal : Refusal
  pub is : line ≡ RefusedLine k refusal
  pub fits : HasReason refusal.kind refusal.place refusal.barrier refusal.odd
  pub joined : text ≡ kind_name refusal.kind ++ reason refusal.kind refusal.place refusal.barrier refusal.odd

-- ---- either

pub record Behind (k : ℕ) (line : ReportLine) (text : List ℕ) (word : List ℕ) (Is : ReportLine → List ℕ → Type 0) : Type 0 where
  pub rest : List ℕ
  pub joined : text ≡ word ++ rest
  pub is : Is line rest

-- behind the number
abbrev pub BehindNumber : ℕ → List ℕ → ReportLine → Type 0
BehindNumber k text line = Behind k line text (codes " ok map=") (OkBehind k) ⊎ Behind k line text (codes " refused ") (RefusedBehind k)
