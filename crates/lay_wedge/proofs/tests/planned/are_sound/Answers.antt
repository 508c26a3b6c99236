use Rattle.lay_wedge.proofs.Fitted.{sound_of}
use Rattle.lay_wedge.proofs.tests.planned.are_sound.Goals as goal

pub returns : goal.returns
returns c = λ e. sound_of c.args.mol.now c.args.rings.now.sizes c.atom_count-count.ensures.well_formed (c.centres_fit.ensures e)
