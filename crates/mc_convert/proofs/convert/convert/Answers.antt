use Rattle.mc_convert.proofs.Limits.{taken_status}
use Rattle.mc_convert.proofs.Promised.{converts_stopped}
use Rattle.mc_convert.proofs.convert.convert.Goals as goal

pub returns-in-Err : goal.returns-in-Err
returns-in-Err g c =
    let ran = c.in-Err.ensures in
    rw c.status.ensures (converts_stopped c.args.formats g.S.Source.LIMIT c.in-Err.halt (g.S.Source.inputs c.args.source.now) (g.S.Source.inputs c.answer_all.new.source) (g.K.Sink.outputs c.args.sink.now) (g.K.Sink.outputs c.answer_all.new.sink)
    ran.ran.0 ran.ran.1 ran.holds (taken_status 1 g.S.Source.LIMIT c.in-Err.halt (g.S.Source.inputs c.args.source.now) (g.S.Source.inputs c.answer_all.new.source) ran.taken) ran.later_read ran.later_written ran.others)
