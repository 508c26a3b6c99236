use Rattle.std.proofs.Common.{arith, sym, ◌≤◌}
use Rattle.mc_report.proofs.ReportLines.{line_found, no_number, number_zero, if_ok}
use Rattle.mc_report.proofs.read.line_of.Goals as goal

pub returns-then-k-eq0 : goal.returns-then-k-eq0
returns-then-k-eq0 c = number_zero c.args.line.now c.in-Some.k c.in-Some.rest.now (sym c.in-Some.ensures.value) c.if-k-eq0.true

pub returns-else-k-eq0 : goal.returns-else-k-eq0
returns-else-k-eq0 c =
    let some : 1 ≤ c.in-Some.k = omega arith in
    if_ok _ _ c.behind_number.result (λ answer finds. line_found c.args.line.now c.in-Some.k c.in-Some.rest.now answer (sym c.in-Some.ensures.value) some finds) c.behind_number.ensures

pub returns-in-None : goal.returns-in-None
returns-in-None c = no_number c.args.line.now (sym c.in-None.ensures.value)
