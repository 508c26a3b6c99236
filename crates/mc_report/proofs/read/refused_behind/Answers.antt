use Rattle.std.proofs.Common.{sym, subst, Option, Some}
use Rattle.mc_base.specs.declared.kind.Kind.{Kind}
use Rattle.mc_report.specs.declared.report_line.ReportLine.{ReportLine}
use Rattle.mc_report.specs.Behind.{FindsLine, FindsKind, RefusedBehind}
use Rattle.mc_report.proofs.RefusedLines.{refused_barrier, place_exact}
use Rattle.mc_report.proofs.ReportLines.{if_ok}
use Rattle.mc_report.proofs.read.refused_behind.Goals as goal

pub returns-in-NoPlacement : goal.returns-in-NoPlacement
returns-in-NoPlacement c =
    let text = c.args.text.now in
    let kinds = subst (λ (kind : Kind). FindsKind text (Some (kind, c.in-Some.rest.now))) c.in-NoPlacement.is c.in-Some.ensures in
    if_ok _ _ c.barrier_behind.result (λ answer finds. refused_barrier c.args.k text c.in-Some.rest.now answer kinds finds) c.barrier_behind.ensures

pub returns-in_default : goal.returns-in_default
returns-in_default c =
    let text = c.args.text.now in
    subst (λ (answer : Option ReportLine). FindsLine (λ line. RefusedBehind c.args.k line text) answer) (sym c.place_of.ensures)
    (place_exact c.args.k text c.in-Some.kind c.in-Some.rest.now c.in-Some.ensures c.in_default.not-NoPlacement)
