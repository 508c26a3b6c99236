use Rattle.std.proofs.Common.{rules}
use Rattle.lay_wedge.proofs.Started.{are_places}
use Rattle.lay_wedge.proofs.tests.planned.is_right.Goals as goal

pub reads_back-requires : goal.reads_back-requires
reads_back-requires c = are_places c.args.mol.now c.args.drawing.now (c.is_drawn.ensures.0 (search rules))
