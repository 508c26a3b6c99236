use Rattle.std.proofs.Common.{rules}
use Rattle.lay_place.proofs.HalfFacts.{no_half}
use Rattle.lay_place.proofs.Fitted.{three_places, four_places}
use Rattle.lay_place.proofs.tests.stereo.places_of.Goals as goal

pub returns-then-halves-eq3 : goal.returns-then-halves-eq3
returns-then-halves-eq3 c = (search rules, three_places c.args.mol.now c.args.a c.bonds_of-halves.result.now no_half c.atom_count.ensures.well_formed c.bonds_of-halves.ensures.value (search rules))

pub returns-then-halves-eq4 : goal.returns-then-halves-eq4
returns-then-halves-eq4 c = (search rules, four_places c.args.mol.now c.args.a c.bonds_of-halves.result.now no_half c.atom_count.ensures.well_formed c.bonds_of-halves.ensures.value (search rules))
