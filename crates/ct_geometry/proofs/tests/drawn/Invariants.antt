use Rattle.ct_geometry.specs.Bounds.{ArePlaces}
use Rattle.ct_geometry.proofs.tests.drawn.Given as goal

abbrev pub invariant-loop-place : goal.invariant-loop-place
invariant-loop-place l = ArePlaces l.drawing
