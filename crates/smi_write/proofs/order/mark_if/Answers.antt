use Rattle.std.proofs.Common.{sym, ◌∙◌}
use Rattle.smi_write.proofs.Marks.{none_marked}
use Rattle.smi_write.proofs.order.mark_if.Goals as goal

pub returns-then-not-back : goal.returns-then-not-back
returns-then-not-back c = none_marked c.args.rank c.args.parent c.args.ranks.now c.args.opens.now.items c.args.halves.now (sym c.if-not-back.true ∙ c.requires.back)
