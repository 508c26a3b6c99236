use Rattle.std.proofs.Common.{sym, ◌∙◌}
use Rattle.ct_v2000.proofs.Entries.{narrow_fits, narrow_is}
use Rattle.ct_v2000.proofs.entry.entry_number.Goals as goal

pub overflow_cast-result : goal.overflow_cast-result
overflow_cast-result c = narrow_fits c.args.from c.args.line.now c.cut-text.result.now c.in_ok-number.number c.cut-text.ensures c.in_ok-number.ensures.value

pub returns : goal.returns
returns c = narrow_is c.args.from c.args.line.now c.cut-text.result.now c.in_ok-number.number c.cut-text.ensures (sym c.is_blank_text.ensures ∙ c.if-is_blank_text.false) c.in_ok-number.ensures.value
