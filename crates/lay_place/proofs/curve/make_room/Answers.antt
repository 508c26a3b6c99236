use Rattle.std.proofs.Common.{None}
use Rattle.lay_place.proofs.Placing.{room_step}
use Rattle.lay_place.proofs.curve.make_room.Goals as goal

pub loop-i-preserved : goal.loop-i-preserved
loop-i-preserved c = room_step c.args.k c.loop-i.i c.args.places.now c.loop-i.places None c.moved.result c.loop-i-test.true c.loop-i.invariant c.moved.ensures
