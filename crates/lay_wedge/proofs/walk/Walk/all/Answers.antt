-- One atom after another.
use Rattle.std.proofs.Common.{Some, arith}
use Rattle.std.proofs.lemmas.Option.{slice_get_within}
use Rattle.lay_wedge.proofs.Started.{planned_all}
use Rattle.lay_wedge.proofs.walk.Walk.all.Goals as goal

pub returns : goal.returns
returns c =
    planned_all c.args.mol.now c.args.drawing.now c.requires.plannable c.loop-k.self.wedges.items c.loop-k.self.planned.items c.loop-k.invariant.underway (λ a places centre.
    let low = slice_get_within c.args.mol.now.centres a (Some places) centre in
    let count = c.requires.plannable.molecule.centre_count in
    let atoms = c.atom_count-k-end.ensures.count in
    let past = c.loop-k-test.false in
    c.loop-k.invariant.planned a (omega arith) places centre)
