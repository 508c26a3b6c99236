use Rattle.std.proofs.Common.{true, false}
use Rattle.mc_io.proofs.LineSteps.{line_is}
use Rattle.mc_io.proofs.line_finding.held_line.Goals as goal

pub returns-then-is_long-clause-line : goal.returns-then-is_long-clause-line
returns-then-is_long-clause-line c = line_is c.args.piece.now c.text_len-text.result true c.text_len-text.ensures.value c.if-is_long.ensures

pub returns-else-is_long-clause-line : goal.returns-else-is_long-clause-line
returns-else-is_long-clause-line c = line_is c.args.piece.now c.text_len-text.result false c.text_len-text.ensures.value c.if-is_long.ensures
