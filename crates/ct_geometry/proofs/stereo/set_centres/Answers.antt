use Rattle.std.proofs.Common.{arith, ◌≡◌, ◌<◌, ℕ, None, length}
use Rattle.ct_geometry.proofs.Filled.{centre_still, centres_all, centres_more}
use Rattle.ct_geometry.proofs.stereo.set_centres.Goals as goal

pub set_centre-requires-clause-places : goal.set_centre-requires-clause-places
set_centre-requires-clause-places c =
    let a : ℕ = c.loop-a.a in
    let count : ℕ = length c.args.centres.now in
    let less : a < count = omega arith in
    centre_still c.args.mol.now c.loop-a.mol c.args.centres.now a less c.loop-a.invariant.mol c.requires.places

pub loop-a-preserved : goal.loop-a-preserved
loop-a-preserved c =
    let a : ℕ = c.loop-a.a in
    let count : ℕ = length c.args.centres.now in
    let less : a < count = omega arith in
    record { mol = centres_more c.args.mol.now c.loop-a.mol c.set_centre.new.mol c.args.centres.now a None less c.loop-a.invariant.mol c.set_centre.ensures }

pub returns : goal.returns
returns c =
    let a : ℕ = c.loop-a.a in
    let count : ℕ = length c.args.centres.now in
    let end : a ≡ count = omega arith in
    centres_all c.args.mol.now c.loop-a.mol c.args.centres.now a end c.loop-a.invariant.mol
