use Rattle.lay_place.proofs.HalfFacts.{unless_parted}
use Rattle.lay_place.proofs.found.as_end.Goals as goal

pub returns-in-Some-named_at-clause-none : goal.returns-in-Some-named_at-clause-none
returns-in-Some-named_at-clause-none c = unless_parted c.args.mol.now c.args.rings.now.sizes c.args.curve.now c.args.k.0 c.args.u.0 c.bonds_of.result.now c.bonds_of.ensures.value c.parted_at.result c.parted_at.ensures.none
