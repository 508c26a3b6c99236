use Rattle.lay_place.proofs.HalfFacts.{told_alone}
use Rattle.lay_place.proofs.found.find_told_at.Goals as goal

pub returns-in-None-find_placed-clause-none : goal.returns-in-None-find_placed-clause-none
returns-in-None-find_placed-clause-none c = told_alone c.args.mol.now c.args.curve.now c.args.k.0 c.args.f.0 c.bonds_of-halves.result.now c.bonds_of-halves.ensures.value c.in-None-find_placed.ensures.none
