use Rattle.smi_mean.proofs.PlacedBonds.{barrier_excludes_placement}
use Rattle.smi_mean.proofs.barrier_law.Goals as goal

pub returns : goal.returns
returns c = barrier_excludes_placement
