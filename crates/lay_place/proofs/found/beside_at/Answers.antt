use Rattle.lay_place.proofs.HalfFacts.{side_untold}
use Rattle.lay_place.proofs.found.beside_at.Goals as goal

pub returns-in-None-find_told-clause-none : goal.returns-in-None-find_told-clause-none
returns-in-None-find_told-clause-none c = side_untold c.args.mol.now c.args.rings.now.sizes c.args.curve.now c.args.k.0 c.args.e.0 c.args.half c.requires.asking c.in-None-find_told.ensures.none
