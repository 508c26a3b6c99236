-- A line spells one thing.
use Rattle.std.proofs.Common.{◌≡◌, ◌∙◌, ◌++◌, ℕ, List, refl, ap, sym, subst, inl, inr}
use Rattle.std.specs.Prelude.{◌⊎◌, Option, Some, decimal, codes}
use Rattle.mc_base.specs.declared.kind.Kind.{Kind}
use Rattle.mc_base.specs.declared.kind.Kind.TheVariants.{NoPlacement}
use Rattle.mc_report.specs.declared.report_line.ReportLine.{ReportLine}
use Rattle.mc_report.specs.Grammar.{Spells}
use Rattle.mc_report.specs.Report.{numbers, reason}
use Rattle.mc_report.specs.Fronts.{word_front}
use Rattle.mc_report.specs.Behind.{FindsLine, FindsKind, BehindNumber, RefusedBehind, BarrierBehind, ok_of, barrier_of, place_of}
use Rattle.mc_report.proofs.Numbers.{number_exact}
use Rattle.mc_report.proofs.Words.{word_read}
use Rattle.mc_report.proofs.Lists.{list_exact}
use Rattle.mc_report.proofs.OkLines.{list_there, ok_exact}
use Rattle.mc_report.proofs.RefusedLines.{kind_there, kind_exact, barrier_list, barrier_exact, barrier_said, place_exact, refused_barrier}
use Rattle.mc_report.proofs.ReportLines.{Parts, parts_of, most, fits, line_found, ok_found, refused_found}

-- what a reader that finds exactly the lines of a rule answers
record Found (Is : ReportLine → Type 0) : Type 0 where
  answer : Option ReportLine
  finds : FindsLine Is answer

is_barrier : (kind : Kind) → (kind ≡ NoPlacement) ⊎ (kind ≡ NoPlacement → ⊥)
is_barrier NoPlacement = inl refl
is_barrier _ = inr (λ e. cc)

-- behind the name NoPlacement there is one list of atoms
barrier_line : (k : ℕ) (read : ReportLine) (text : List ℕ) → BarrierBehind k read text → Found (λ line. BarrierBehind k line text)
barrier_line k read text b =
    let rest : List ℕ = numbers b.barrier ++ (codes " odd=" ++ decimal b.odd) in
    let word = ap (word_front (codes " barrier=")) b.joined ∙ word_read (codes " barrier=") rest in
    let list = list_exact rest b.barrier (codes " odd=" ++ decimal b.odd) (barrier_list k read text rest b b.joined) in
    record { answer = barrier_of k (Some (b.barrier, codes " odd=" ++ decimal b.odd)); finds = barrier_exact k text rest _ word list }

-- behind `refused ` there is one refusal
refused_line : (k : ℕ) (read : ReportLine) (text : List ℕ) → RefusedBehind k read text → Found (λ line. RefusedBehind k line text)
refused_line k read text b = by_kind (is_barrier b.refusal.kind)
  where
    rest : List ℕ
    rest = reason b.refusal.kind b.refusal.place b.refusal.barrier b.refusal.odd

    kinds : FindsKind text (Some (b.refusal.kind, rest))
    kinds = kind_exact text b.refusal.kind rest (kind_there k read text b)

    by_kind : (b.refusal.kind ≡ NoPlacement) ⊎ (b.refusal.kind ≡ NoPlacement → ⊥) → Found (λ line. RefusedBehind k line text)
    by_kind (inl is) =
        let barrier = barrier_line k read rest (barrier_said k text rest read b (sym is, refl)) in
        record { answer = barrier.answer; finds = refused_barrier k text rest barrier.answer (subst (λ (kind : Kind). FindsKind text (Some (kind, rest))) is kinds) barrier.finds }
    by_kind (inr other) = record { answer = place_of k b.refusal.kind rest; finds = place_exact k text b.refusal.kind rest kinds other }

-- behind the number there is one map or one refusal
behind_line : (k : ℕ) (read : ReportLine) (text : List ℕ) → BehindNumber k text read → Found (BehindNumber k text)
behind_line k read text (inl b) =
    let list = list_exact b.rest b.is.map b.is.rest (list_there k read b.rest b.is) in
    let word = ap (word_front (codes " ok map=")) b.joined ∙ word_read (codes " ok map=") b.rest in
    let answer = ok_of k (Some (b.is.map, b.is.rest)) in
    record { answer = answer; finds = ok_found k text b.rest answer word (ok_exact k b.rest (Some (b.is.map, b.is.rest)) list) }
behind_line k read text (inr b) =
    let refused = refused_line k read b.rest b.is in
    let other = ap (word_front (codes " ok map=")) b.joined in
    let word = ap (word_front (codes " refused ")) b.joined ∙ word_read (codes " refused ") b.rest in
    record { answer = refused.answer; finds = refused_found k text b.rest refused.answer other word refused.finds }

found_once : (Is : ReportLine → Type 0) (r s : ReportLine) → Found Is → Is r → Is s → r ≡ s
found_once Is r s found is also =
    let first = (found.finds r).1 is in
    let other = (found.finds s).1 also in
    cc

pub spelled_once : (r s : ReportLine) (line : List ℕ) → Spells r line → Spells s line → r ≡ s
spelled_once r s line is also = found_once (λ read. Spells read line) r s (record { answer = behind.answer; finds = finds }) is also
  where
    parts : Parts line r
    parts = parts_of line r is

    behind : Found (BehindNumber parts.k parts.rest)
    behind = behind_line parts.k r parts.rest parts.behind

    finds : FindsLine (λ read. Spells read line) behind.answer
    finds = line_found line parts.k parts.rest behind.answer ((number_exact most line fits parts.k parts.rest).1 parts.is_number) parts.number.0 behind.finds
