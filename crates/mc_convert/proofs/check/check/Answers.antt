use Rattle.mc_convert.proofs.Limits.{taken_status}
use Rattle.mc_convert.proofs.Promised.{checks_ended, checks_stopped}
use Rattle.mc_convert.proofs.check.check.Goals as goal

pub returns-in-Ok : goal.returns-in-Ok
returns-in-Ok g c =
    let ran = c.in-Ok.ensures in
    rw c.ended.ensures (checks_ended c.args.formats g.S.Source.LIMIT c.in-Ok.all_true (g.S.Source.inputs c.args.source.now) (g.S.Source.inputs c.check_all.new.source) (g.K.Sink.outputs c.args.sink.now) (g.K.Sink.outputs c.check_all.new.sink)
    ran.ran ran.taken ran.later_read ran.written ran.others)

pub returns-in-Err : goal.returns-in-Err
returns-in-Err g c =
    let ran = c.in-Err.ensures in
    rw c.status.ensures (checks_stopped c.args.formats g.S.Source.LIMIT c.in-Err.halt (g.S.Source.inputs c.args.source.now) (g.S.Source.inputs c.check_all.new.source) (g.K.Sink.outputs c.args.sink.now) (g.K.Sink.outputs c.check_all.new.sink)
    ran.ran.0 ran.ran.1 (taken_status 3 g.S.Source.LIMIT c.in-Err.halt (g.S.Source.inputs c.args.source.now) (g.S.Source.inputs c.check_all.new.source) ran.taken) ran.later_read ran.written ran.others)
