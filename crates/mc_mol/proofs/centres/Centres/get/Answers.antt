use Rattle.mc_mol.proofs.ShortLists.{found_some, found_none}
use Rattle.mc_mol.proofs.centres.Centres.get.Goals as goal

pub returns-in-Some : goal.returns-in-Some
returns-in-Some c = found_some c.self.inside.lists.items c.args.self.now c.args.atom _ c.in-Some.list _ c.self.view_is c.requires c.index.ensures c.in-Some.is c.slots_of.ensures

pub returns-in-None : goal.returns-in-None
returns-in-None c = found_none c.self.inside.lists.items c.args.self.now c.args.atom _ c.self.view_is c.requires c.index.ensures c.in-None.is
