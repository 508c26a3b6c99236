use Rattle.smi_mean.proofs.PlacedBonds.{barred_by}
use Rattle.smi_mean.proofs.place.barred.Goals as goal

pub returns : goal.returns
returns c = λ skeleton is needs built. barred_by skeleton c.args.needs.now c.args.graph.now c.args.set.now c.in_ok-atoms.atoms c.in_ok-odd.odd is needs built c.in_ok-odd.ensures c.requires.none c.in_ok-atoms.ensures
