use Rattle.smi_write.specs.WrittenOrder.{LastChildren}
use Rattle.smi_write.proofs.text.last_children.Given as goal

abbrev pub invariant-loop-rank : goal.invariant-loop-rank
invariant-loop-rank l = LastChildren l.parents l.rank l.last.items
