use Rattle.std.proofs.Common.{◌≡◌, ◌<◌, ℕ, false}
use Rattle.smi_graph.specs.Candidates.{marked}
use Rattle.mc_convert.proofs.finding.has_candidate.Given as goal

abbrev pub invariant-loop-k : goal.invariant-loop-k
invariant-loop-k l = (j : ℕ) → j < l.k → marked l.skeleton.candidates j ≡ false
