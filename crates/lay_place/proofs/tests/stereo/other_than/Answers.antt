use Rattle.std.proofs.Common.{rules}
use Rattle.lay_place.proofs.HalfFacts.{no_half}
use Rattle.lay_place.proofs.Fitted.{neighbour_but}
use Rattle.lay_place.proofs.tests.stereo.other_than.Goals as goal

pub returns-then-half-w : goal.returns-then-half-w
returns-then-half-w c = neighbour_but c.args.mol.now c.args.u c.args.w.0 c.bonds_of-halves.result.now c.loop-half.half-index no_half c.bonds_of-halves.ensures.value c.bonds_of-halves.ensures.twins c.loop-half-test.true (search rules)
