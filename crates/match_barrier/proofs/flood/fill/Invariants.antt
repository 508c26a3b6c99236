use Rattle.std.proofs.Common.{◌+◌, length}
use Rattle.match_barrier.specs.Labels.{Filling, count_above}
use Rattle.match_barrier.proofs.flood.fill.Given as goal

abbrev pub invariant-loop-height : goal.invariant-loop-height
invariant-loop-height l = Filling l.graph l.root l.initial.labels l.labels l.stack l.height

abbrev pub decreases-loop-height : goal.decreases-loop-height
decreases-loop-height l = l.height + count_above (length l.graph) l.labels l.root
