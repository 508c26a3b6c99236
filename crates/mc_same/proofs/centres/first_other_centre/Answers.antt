use Rattle.mc_same.proofs.Neighbours.{have_entries}
use Rattle.mc_same.proofs.centres.first_other_centre.Goals as goal

pub same_centre-requires : goal.same_centre-requires
same_centre-requires c = have_entries c.args.output.now _ c.loop-k.k c.centre.result c.requires.well_formed c.requires.same_length c.centre.ensures
