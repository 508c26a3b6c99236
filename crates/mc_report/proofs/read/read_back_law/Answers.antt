use Rattle.mc_report.proofs.SpelledOnce.{spelled_once}
use Rattle.mc_report.proofs.read.read_back_law.Goals as goal

pub returns-clause-once : goal.returns-clause-once
returns-clause-once c = spelled_once
