use Rattle.lay_place.proofs.HalfFacts.{not_parted, parted_by_none}
use Rattle.lay_place.proofs.found.parted_at.Goals as goal

pub returns-in-None-clause-none : goal.returns-in-None-clause-none
returns-in-None-clause-none c = not_parted c.args.halves.now c.args.curve.now c.args.k.0 c.args.u.0 c.in-None.ensures.none

pub returns-in-None-find_placed-clause-none : goal.returns-in-None-find_placed-clause-none
returns-in-None-find_placed-clause-none c = parted_by_none c.args.halves.now c.args.curve.now c.args.k.0 c.args.u.0 c.in-Some.one.atom.0 c.in-None-find_placed.ensures.none
