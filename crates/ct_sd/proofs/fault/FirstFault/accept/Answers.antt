use Rattle.std.proofs.Common.{◌∙◌}
use Rattle.ct_sd.proofs.First.{refusal_is_shown}
use Rattle.ct_sd.proofs.fault.FirstFault.accept.Goals as goal

pub returns-in-Some-clause-err : goal.returns-in-Some-clause-err
returns-in-Some-clause-err c = λ faults same. refusal_is_shown faults c.in-Some.fault c.refusal.result c.refusal.ensures (same ∙ c.in-Some.is)
