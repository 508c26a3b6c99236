use Rattle.std.proofs.Common.{arith, ◌≡◌, ◌<◌, ℕ, None, length}
use Rattle.ct_geometry.proofs.Filled.{side_still, sides_all, sides_more}
use Rattle.ct_geometry.proofs.stereo.set_sides.Goals as goal

pub set_geometry-requires-clause-fit : goal.set_geometry-requires-clause-fit
set_geometry-requires-clause-fit c =
    let k : ℕ = c.loop-k.k in
    let count : ℕ = length c.args.sides.now in
    let less : k < count = omega arith in
    side_still c.args.mol.now c.loop-k.mol c.args.sides.now k less c.loop-k.invariant.mol c.requires.fit

pub loop-k-preserved : goal.loop-k-preserved
loop-k-preserved c =
    let k : ℕ = c.loop-k.k in
    let count : ℕ = length c.args.sides.now in
    let less : k < count = omega arith in
    record { mol = sides_more c.args.mol.now c.loop-k.mol c.set_geometry.new.mol c.args.sides.now k None less c.loop-k.invariant.mol c.set_geometry.ensures }

pub returns : goal.returns
returns c =
    let k : ℕ = c.loop-k.k in
    let count : ℕ = length c.args.sides.now in
    let end : k ≡ count = omega arith in
    sides_all c.args.mol.now c.loop-k.mol c.args.sides.now k end c.loop-k.invariant.mol
