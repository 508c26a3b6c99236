use Rattle.std.proofs.Common.{arith, ◌<◌, ◌≤◌, length}
use Rattle.mc_same.proofs.Between.{half_joins, none_joins}
use Rattle.mc_same.proofs.bonds.bond_at.Goals as goal

pub returns-then-half-v : goal.returns-then-half-v
returns-then-half-v c =
    let halves = c.bonds_of-half-items.result.now in
    let less : c.loop-half.half-index < length halves = omega arith in
    half_joins c.args.mol.now c.args.u c.args.v.0 halves c.loop-half.half-index _ c.bonds_of-half-items.ensures.value c.bonds_of-half-items.ensures.twins less c.if-half-v.true

pub returns : goal.returns
returns c =
    let halves = c.bonds_of-half-items.result.now in
    let past : length halves ≤ c.loop-half.half-index = omega arith in
    none_joins c.args.mol.now c.args.u.0 c.args.v.0 halves c.loop-half.half-index c.bonds_of-half-items.ensures.value c.requires.different past c.loop-half.invariant
