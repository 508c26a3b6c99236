use Rattle.ct_v3000.proofs.EndSteps.{four_lines}
use Rattle.ct_v3000.proofs.reader.read.Goals as goal

pub end_of_table-requires : goal.end_of_table-requires
end_of_table-requires c = four_lines c.args.given.now c.requires
