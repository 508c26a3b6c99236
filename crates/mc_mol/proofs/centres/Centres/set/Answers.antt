use Rattle.mc_mol.proofs.ShortLists.{set_to}
use Rattle.mc_mol.proofs.centres.Centres.set.Goals as goal

pub returns : goal.returns
returns c = set_to c.self.inside.lists.items c.args.self.now c.args.atom c.args.places _ _ _ _ _ c.self.view_is c.requires.four
    c.short_of.ensures c.short_of-2.ensures c.short_of-3.ensures c.short_of-4.ensures
