use Rattle.std.proofs.Common.{◌≡◌, drop, length}
use Rattle.smi_write.specs.Seen.{mark_all}
use Rattle.smi_write.proofs.order.mark_if.Given as goal

abbrev pub invariant-loop-half : goal.invariant-loop-half
invariant-loop-half l = record {
  count : length l.opens.items ≡ length l.initial.opens.items;
  same : mark_all l.rank l.parent l.ranks l.opens.items (drop l.half-index l.halves) ≡ mark_all l.rank l.parent l.ranks l.initial.opens.items l.halves;
}
