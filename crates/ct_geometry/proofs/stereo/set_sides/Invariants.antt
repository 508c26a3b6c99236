use Rattle.std.proofs.Common.{◌≡◌}
use Rattle.ct_geometry.proofs.Filled.{filled}
use Rattle.ct_geometry.proofs.stereo.set_sides.Given as goal

abbrev pub invariant-loop-k : goal.invariant-loop-k
invariant-loop-k l = record {
  mol : l.mol ≡ record l.initial.mol { sides = filled l.k l.sides };
}
