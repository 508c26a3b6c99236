use Rattle.std.proofs.Common.{refl}
use Rattle.smi_write.proofs.LaterChildren.{one_more_child}
use Rattle.smi_write.proofs.text.last_children.Goals as goal

pub loop-rank-preserved : goal.loop-rank-preserved
loop-rank-preserved c = one_more_child c.args.parents.now c.loop-rank.last.items _ c.loop-rank.rank _ c.loop-rank.invariant c.loop-rank-test.true refl (c.requires.within c.loop-rank.rank c.loop-rank-test.true) refl
