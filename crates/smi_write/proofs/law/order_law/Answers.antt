use Rattle.smi_write.proofs.OrderLaw.{is_order}
use Rattle.smi_write.proofs.law.order_law.Goals as goal

pub returns : goal.returns
returns c = is_order
