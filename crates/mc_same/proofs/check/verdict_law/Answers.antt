use Rattle.mc_same.proofs.OneVerdict.{verdict_once}
use Rattle.mc_same.proofs.check.verdict_law.Goals as goal

pub returns : goal.returns
returns c = verdict_once
