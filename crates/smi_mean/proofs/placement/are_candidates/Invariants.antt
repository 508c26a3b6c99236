use Rattle.std.proofs.Common.{◌≡◌, ◌<◌, ℕ, true}
use Rattle.smi_graph.specs.Candidates.{marked}
use Rattle.smi_mean.proofs.placement.are_candidates.Given as goal

abbrev pub invariant-loop-k : goal.invariant-loop-k
invariant-loop-k l = (j : ℕ) → j < l.k → marked l.placed j ≡ true → marked l.skeleton.candidates j ≡ true
