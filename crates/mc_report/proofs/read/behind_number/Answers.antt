use Rattle.std.proofs.Common.{sym, subst, Option}
use Rattle.mc_report.specs.declared.report_line.ReportLine.{ReportLine}
use Rattle.mc_report.specs.Behind.{FindsLine, BehindNumber}
use Rattle.mc_report.specs.Fronts.{list_view}
use Rattle.mc_report.proofs.ReportLines.{ok_found, refused_found, if_ok}
use Rattle.mc_report.proofs.OkLines.{ok_exact}
use Rattle.mc_report.proofs.read.behind_number.Goals as goal

pub returns-in_ok-found-in-Some : goal.returns-in_ok-found-in-Some
returns-in_ok-found-in-Some c =
    let text = c.args.text.now in
    subst (λ (answer : Option ReportLine). FindsLine (BehindNumber c.args.k text) answer) (sym c.ok_of.ensures)
    (ok_found c.args.k text c.in-Some.rest.now _ (sym c.in-Some.ensures.value) (ok_exact c.args.k c.in-Some.rest.now (list_view c.in_ok-found-in-Some.found) c.in_ok-found-in-Some.ensures))

pub returns-in-Some-word_front : goal.returns-in-Some-word_front
returns-in-Some-word_front c =
    let text = c.args.text.now in
    if_ok _ _ c.refused_behind.result
    (λ answer finds. refused_found c.args.k text c.in-Some-word_front.rest.now answer (sym c.in-None.ensures.value) (sym c.in-Some-word_front.ensures.value) finds)
    c.refused_behind.ensures
