use Rattle.match_barrier.proofs.Naming.{some_number}
use Rattle.match_barrier.proofs.some_odd_parts.Goals as goal

pub returns : goal.returns
returns c = some_number
