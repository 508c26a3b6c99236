-- The line of a record that is written, behind its number.
use Rattle.std.proofs.Common.{◌≡◌, ◌∙◌, ℕ, Bool, true, false, if◌then◌else◌, List, refl, ap, sym, subst}
use Rattle.std.specs.Prelude.{Option, Some, None}
use Rattle.std.proofs.lemmas.Option.{some_pair_parts}
use Rattle.std.proofs.lemmas.Bool.{cond-true}
use Rattle.mc_base.specs.declared.ids.AtomId.{AtomId}
use Rattle.mc_report.specs.declared.report_line.ReportLine.{ReportLine}
use Rattle.mc_report.specs.declared.report_line.ReportLine.TheVariants.{Ok as OkLine}
use Rattle.mc_report.specs.Fronts.{goes_on, IsList, FindsList}
use Rattle.mc_report.specs.Behind.{FindsLine, OkBehind, AreCounts, ok_of, ends, counts_front}
use Rattle.mc_report.proofs.Labels.{counts_read, counts_found}

pub list_there : (k : ℕ) (line : ReportLine) (text : List ℕ) (b : OkBehind k line text) → IsList b.map b.rest text
list_there k line text b = record { joined = b.joined; in_range = b.atoms; stops = ap goes_on b.counts.joined }

pub ok_exact : (k : ℕ) (text : List ℕ) (found : Option (List AtomId × List ℕ)) → FindsList text found → FindsLine (λ line. OkBehind k line text) (ok_of k found)
ok_exact k text None finds = λ line. ((λ e. cc), (λ b. let there = (finds b.map b.rest).1 (list_there k line text b) in cc))
ok_exact k text (Some (map, rest)) finds = λ line. (
  (λ e. by_end line (ends (counts_front rest)) refl e),
  (λ b. let there = (finds b.map b.rest).1 (list_there k line text b) in at_same line b (some_pair_parts map b.map rest b.rest there)),
)
  where
    by_end : (line : ReportLine) (t : Bool) → ends (counts_front rest) ≡ t → (if t then Some (OkLine k map) else None) ≡ Some line → OkBehind k line text
    by_end line true end e =
        let list = (finds map rest).0 refl in
        let is : line ≡ OkLine k map = cc in
        record { map = map; rest = rest; is = is; atoms = list.in_range; joined = list.joined; counts = counts_found rest end }
    by_end line false end e = cc

    at_same : (line : ReportLine) (b : OkBehind k line text) → (map ≡ b.map) × (rest ≡ b.rest) → (if ends (counts_front rest) then Some (OkLine k map) else None) ≡ Some line
    at_same line b same =
        let counts : AreCounts rest = subst (λ t. AreCounts t) (sym same.1) b.counts in
        cond-true (ends (counts_front rest)) _ _ (counts_read rest counts) ∙ ap (λ m. Some (OkLine k m)) same.0 ∙ ap (λ l. Some l) (sym b.is)
