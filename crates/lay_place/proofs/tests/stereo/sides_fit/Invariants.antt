use Rattle.std.proofs.Common.{◌<◌, ℕ}
use Rattle.lay_place.specs.Fitting.{SideFits}
use Rattle.lay_place.proofs.tests.stereo.sides_fit.Given as goal

abbrev pub invariant-loop-k : goal.invariant-loop-k
invariant-loop-k l = (j : ℕ) → j < l.k → SideFits l.mol l.rings.sizes j
