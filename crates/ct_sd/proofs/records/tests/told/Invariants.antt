use Rattle.ct_sd.specs.RecordReader.{MayGoOn}
use Rattle.ct_sd.proofs.records.tests.told.Given as goal

abbrev pub invariant-loop : goal.invariant-loop
invariant-loop g l = MayGoOn l.records.answer
