use Rattle.mc_report.proofs.ReportLines.{none_exact, if_ok}
use Rattle.mc_report.proofs.read.read_line.Goals as goal

pub returns-clause-none : goal.returns-clause-none
returns-clause-none c = if_ok _ _ c.line_of.result (λ answer finds. none_exact c.args.line.now answer finds) c.line_of.ensures
