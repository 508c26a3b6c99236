use Rattle.mc_io.specs.LineReader.{MayGoOn}
use Rattle.mc_io.proofs.lines.tests.lines_before.Given as goal

abbrev pub invariant-loop-count : goal.invariant-loop-count
invariant-loop-count g l = MayGoOn l.lines.answer
