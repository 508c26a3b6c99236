use Rattle.std.proofs.Common.{arith, ◌<◌, ℕ, length}
use Rattle.smi_mean.proofs.CentresSet.{filled_first, filled_more, filled_next}
use Rattle.smi_mean.proofs.centres.set_centres.Goals as goal

pub loop-k-init : goal.loop-k-init
loop-k-init c = record { mol = filled_first c.args.skeleton.now c.args.mol.now c.requires.count c.requires.none }

pub set_centre-requires-clause-none : goal.set_centre-requires-clause-none
set_centre-requires-clause-none c =
    let k : ℕ = c.loop-k.k in
    let count = c.atom_count-k-end.ensures.count in
    let test = c.loop-k-test.true in
    let less : k < length c.args.skeleton.now.atoms = omega arith in
    filled_next c.args.skeleton.now c.args.mol.now c.loop-k.mol k less c.loop-k.invariant.mol

pub loop-k-preserved : goal.loop-k-preserved
loop-k-preserved c =
    let k : ℕ = c.loop-k.k in
    let count = c.atom_count-k-end.ensures.count in
    let test = c.loop-k-test.true in
    let less : k < length c.args.skeleton.now.atoms = omega arith in
    record { mol = filled_more c.args.skeleton.now c.args.mol.now c.loop-k.mol c.set_centre.new.mol k less c.loop-k.invariant.mol (rw c.centre_at-centre.ensures at c.set_centre.ensures) }
