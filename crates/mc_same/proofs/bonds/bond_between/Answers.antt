use Rattle.mc_same.proofs.Between.{finds_turned}
use Rattle.mc_same.proofs.bonds.bond_between.Goals as goal

pub returns-else-bonds_of : goal.returns-else-bonds_of
returns-else-bonds_of c = finds_turned c.args.mol.now c.args.u.0 c.args.v.0 c.bond_at-else-bonds_of.result c.bond_at-else-bonds_of.ensures
