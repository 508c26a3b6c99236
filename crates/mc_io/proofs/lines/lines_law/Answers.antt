use Rattle.mc_io.specs.Lines.{pieces}
use Rattle.mc_io.proofs.FrontPieces.{ended_up_to_feed, no_ended_line}
use Rattle.mc_io.proofs.WholeCut.{are_cut, one_way, text_is}
use Rattle.mc_io.proofs.lines.lines_law.Goals as goal

pub returns-clause-cut : goal.returns-clause-cut
returns-clause-cut c = are_cut

pub returns-clause-one : goal.returns-clause-one
returns-clause-one c = λ parts bytes cut. one_way parts (pieces bytes) bytes cut (are_cut bytes)

pub returns-clause-text : goal.returns-clause-text
returns-clause-text c = text_is

pub returns-clause-ended : goal.returns-clause-ended
returns-clause-ended c = ended_up_to_feed

pub returns-clause-none_ended : goal.returns-clause-none_ended
returns-clause-none_ended c = no_ended_line
