use Rattle.std.proofs.Common.{rules}
use Rattle.lay_place.proofs.NamedCentres.{name_centre}
use Rattle.lay_place.proofs.asking.named_at.Goals as goal

pub returns-in-Some-centre : goal.returns-in-Some-centre
returns-in-Some-centre c = name_centre c.args.mol.now c.args.k.0 c.args.a.0 c.bond-bond.result c.sides.result c.centre.result c.in-Some-centre.field-0 c.bonds_of-halves.result.now c.first_named.result
    c.bond-bond.ensures.value c.sides.ensures c.in-None.is c.centre.ensures c.in-Some-centre.is c.bonds_of-halves.ensures.value (search rules) c.first_named.ensures
