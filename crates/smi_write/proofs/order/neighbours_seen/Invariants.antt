use Rattle.std.proofs.Common.{◌≡◌, drop}
use Rattle.smi_write.specs.Seen.{nothing, see_all}
use Rattle.smi_write.proofs.order.neighbours_seen.Given as goal

abbrev pub invariant-loop-half : goal.invariant-loop-half
invariant-loop-half l = see_all l.rank l.parent l.ranks l.found (drop l.half-index l.halves) ≡ see_all l.rank l.parent l.ranks nothing l.halves
