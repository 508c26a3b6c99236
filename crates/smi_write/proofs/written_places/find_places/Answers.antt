use Rattle.smi_write.proofs.FourPlaces.{others_below}
use Rattle.smi_write.proofs.written_places.find_places.Goals as goal

pub push_atoms-requires-clause-within : goal.push_atoms-requires-clause-within
push_atoms-requires-clause-within c = others_below c.args.mol.now c.args.rank c.requires.within c.args.others.now c.requires.others
