use Rattle.mc_mol.proofs.ShortLists.{slots_four}
use Rattle.mc_mol.proofs.centres.slots_of.Goals as goal

pub returns : goal.returns
returns c = slots_four c.args.list.now _ _ _ _ _ c.told-list c.slot_of.ensures c.slot_of-2.ensures c.slot_of-3.ensures c.slot_of-4.ensures
