use Rattle.smi_write.proofs.StructureLaw.{structure}
use Rattle.smi_write.proofs.law.structure_law.Goals as goal

pub returns : goal.returns
returns c = structure
