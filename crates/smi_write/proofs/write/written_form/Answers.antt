use Rattle.smi_write.proofs.TextSteps.{order_within}
use Rattle.smi_write.proofs.write.written_form.Goals as goal

pub returns-clause-in_range : goal.returns-clause-in_range
returns-clause-in_range c = order_within c.args.mol.now c.in_ok-written.written c.from_vec.result c.in_ok-written.ensures.written c.from_vec.ensures
