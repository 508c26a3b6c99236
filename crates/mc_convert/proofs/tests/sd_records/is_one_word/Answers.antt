use Rattle.std.proofs.Common.{◌∙◌, sym}
use Rattle.mc_convert.proofs.Answering.{alone_text}
use Rattle.mc_convert.proofs.tests.sd_records.is_one_word.Goals as goal

pub returns : goal.returns
returns c = λ on. alone_text c.args.text.now (sym c.are_high.ensures ∙ on)
