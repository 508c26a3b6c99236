-- Which lines are of the report's grammar (this project's own): those that are written of some record, and no others.
use Rattle.std.specs.Prelude.{◌≡◌, ℕ, ◌-◌, ◌^◌, ◌<◌, ◌≤◌, ◌&&◌, nat_lt, Bool, true, List, [], ◌∷◌, All, IsTrue}
use Rattle.mc_base.specs.declared.ids.AtomId.{AtomId}
use Rattle.mc_base.specs.declared.kind.Kind.{Kind}
use Rattle.mc_base.specs.declared.kind.Kind.TheVariants.{NoPlacement}
use Rattle.mc_base.specs.declared.refusal.Refusal.{Refusal}
use Rattle.mc_report.specs.declared.report_line.ReportLine.{ReportLine}
use Rattle.mc_report.specs.declared.report_line.ReportLine.TheVariants.{Ok as OkLine, Refused as RefusedLine}
use Rattle.mc_report.specs.Report.{ok_text, refused_text}

-- a record's number, from 1
abbrev pub IsRecordNumber : ℕ → Type 0
IsRecordNumber k = (1 ≤ k) × (k < 2 ^ 64)

-- atoms whose numbers, counted from 1, are below 2 ^ 32
abbrev pub AreAtoms : List AtomId → Type 0
AreAtoms atoms = All (λ atom. atom.0 < 2 ^ 32 - 1) atoms

-- each atom is below the next
abbrev pub increases_from : AtomId → List AtomId → Bool
increases_from a [] = true
increases_from a (b ∷ others) = nat_lt a.0 b.0 && increases_from b others

abbrev pub is_increasing : List AtomId → Bool
is_increasing [] = true
is_increasing (a ∷ others) = increases_from a others

-- the line of a record that is written
pub record SpellsOk (k : ℕ) (map : List AtomId) (line : List ℕ) : Type 0 where
  pub idle : ℕ
  pub ring : ℕ
  pub lines : ℕ
  pub number : IsRecordNumber k
  pub atoms : AreAtoms map
  pub idle_fits : idle < 2 ^ 32
  pub ring_fits : ring < 2 ^ 32
  pub lines_fit : lines < 2 ^ 32
  pub written : line ≡ ok_text k map idle ring lines

-- what a line says of a refusal: a place; for NoPlacement a set of atoms in increasing order, and a number of parts
abbrev pub HasReason : Kind → ℕ → List AtomId → ℕ → Type 0
HasReason NoPlacement place barrier odd = (place ≡ 0) × AreAtoms barrier × IsTrue (is_increasing barrier) × (odd < 2 ^ 32)
HasReason _ place barrier odd = (place < 2 ^ 32) × (barrier ≡ []) × (odd ≡ 0)

-- the line of a record that is refused
pub record SpellsRefused (k : ℕ) (refusal : Refusal) (line : List ℕ) : Type 0 where
  pub number : IsRecordNumber k
  pub reason : HasReason refusal.kind refusal.place refusal.barrier refusal.odd
  pub written : line ≡ refused_text k refusal

-- the line, without its end, that says this
abbrev pub Spells : ReportLine → List ℕ → Type 0
Spells (OkLine k map) line = SpellsOk k map line
Spells (RefusedLine k refusal) line = SpellsRefused k refusal line

-- the number of the record of which a line speaks
abbrev pub number_of : ReportLine → ℕ
number_of (OkLine k map) = k
number_of (RefusedLine k refusal) = k
