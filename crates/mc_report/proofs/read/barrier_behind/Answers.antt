use Rattle.std.proofs.Common.{sym, subst, Option}
use Rattle.mc_report.specs.declared.report_line.ReportLine.{ReportLine}
use Rattle.mc_report.specs.Behind.{FindsLine, BarrierBehind}
use Rattle.mc_report.specs.Fronts.{list_view}
use Rattle.mc_report.proofs.RefusedLines.{barrier_exact}
use Rattle.mc_report.proofs.read.barrier_behind.Goals as goal

pub returns-in_ok-found-in-Some : goal.returns-in_ok-found-in-Some
returns-in_ok-found-in-Some c =
    subst (λ (answer : Option ReportLine). FindsLine (λ line. BarrierBehind c.args.k line c.args.text.now) answer) (sym c.barrier_of.ensures)
    (barrier_exact c.args.k c.args.text.now c.in-Some.rest.now (list_view c.in_ok-found-in-Some.found) (sym c.in-Some.ensures.value) c.in_ok-found-in-Some.ensures)
