use Rattle.mc_io.specs.LineReader.{MayGoOn}
use Rattle.mc_io.proofs.lines.tests.has_lines.Given as goal

abbrev pub invariant-loop-want : goal.invariant-loop-want
invariant-loop-want l = MayGoOn l.lines.answer
