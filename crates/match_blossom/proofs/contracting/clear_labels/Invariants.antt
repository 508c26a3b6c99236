use Rattle.std.proofs.Common.{◌≡◌, ℕ, length, get_or, take}
use Rattle.std.specs.Prelude.{cond}
use Rattle.match_barrier.specs.Graph.{has}
use Rattle.match_blossom.specs.declared.tree.Label.TheVariants.{Outside}
use Rattle.match_blossom.proofs.contracting.clear_labels.Given as goal

abbrev pub invariant-loop-v : goal.invariant-loop-v
invariant-loop-v l = record {
  length : length l.labels ≡ length l.initial.labels;
  cleared : (u : ℕ) → get_or l.labels u Outside ≡ cond (has (take l.v-index l.nodes) u) Outside (get_or l.initial.labels u Outside);
}
