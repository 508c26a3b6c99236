use Rattle.std.proofs.Common.{◌∙◌, sym}
use Rattle.ct_sd.proofs.First.{refusal_is_shown}
use Rattle.ct_sd.proofs.fault.FirstFault.refuse.Goals as goal

pub returns : goal.returns
returns c = λ faults same. refusal_is_shown faults c.with.result c.refusal.result c.refusal.ensures (same ∙ sym c.with.ensures)
