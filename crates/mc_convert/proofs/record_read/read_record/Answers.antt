use Rattle.mc_convert.proofs.record_read.read_record.Goals as goal

pub returns-in_ok-read-in-Line : goal.returns-in_ok-read-in-Line
returns-in_ok-read-in-Line c = rw c.in-Line.is c.in_ok-read-in-Line.ensures
