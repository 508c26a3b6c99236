use Rattle.std.proofs.Common.{◌<◌, ℕ}
use Rattle.smi_mean.specs.MeantCentres.{MarkFits}
use Rattle.smi_mean.proofs.centres.marks_fit.Given as goal

abbrev pub invariant-loop-k : goal.invariant-loop-k
invariant-loop-k l = (j : ℕ) → j < l.k → MarkFits l.skeleton j
