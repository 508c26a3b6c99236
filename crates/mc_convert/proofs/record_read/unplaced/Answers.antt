use Rattle.smi_mean.proofs.Refusals.{not_broken}
use Rattle.smi_mean.specs.Lines.{text_of}
use Rattle.mc_convert.specs.declared.formats.Target.TheVariants.{Smi}
use Rattle.mc_convert.proofs.record_read.unplaced.Goals as goal

pub unreachable-requires : goal.unreachable-requires
unreachable-requires c =
    not_broken (text_of c.args.text.now) c.args.refusal c.in-Err-Refused.field-0-0 (c.requires.shows Smi).first c.requires.kind (rw c.in-Err-Refused.field-0-is at c.in-Err-Refused.ensures.err)
