use Rattle.std.proofs.Common.{◌<◌, ℕ}
use Rattle.lay_wedge.specs.Fitting.{CentreFits}
use Rattle.lay_wedge.proofs.tests.planned.centres_fit.Given as goal

abbrev pub invariant-loop-a : goal.invariant-loop-a
invariant-loop-a l = (j : ℕ) → j < l.a → CentreFits l.mol l.rings.sizes j
