-- A centre without a wedge is where the walk begins.
use Rattle.std.proofs.Common.{◌∙◌, sym}
use Rattle.lay_wedge.proofs.Giving.{begun}
use Rattle.lay_wedge.proofs.walk.Walk.settle.Goals as goal

pub from-requires-clause-underway : goal.from-requires-clause-underway
from-requires-clause-underway c = begun c.args.mol.now c.args.drawing.now c.args.self.now.wedges.items c.args.self.now.planned.items c.args.a.0 c.requires.underway (sym c.is_open.ensures ∙ c.if-is_open.true)
