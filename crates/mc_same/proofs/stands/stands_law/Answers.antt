use Rattle.mc_same.proofs.OneVerdict.{stands_once}
use Rattle.mc_same.proofs.stands.stands_law.Goals as goal

pub returns : goal.returns
returns c = stands_once
