use Rattle.std.proofs.Common.{◌≡◌}
use Rattle.ct_geometry.proofs.Filled.{filled}
use Rattle.ct_geometry.proofs.stereo.set_centres.Given as goal

abbrev pub invariant-loop-a : goal.invariant-loop-a
invariant-loop-a l = record {
  mol : l.mol ≡ record l.initial.mol { centres = filled l.a l.centres };
}
