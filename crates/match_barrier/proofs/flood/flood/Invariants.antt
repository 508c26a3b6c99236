use Rattle.std.proofs.Common.{◌≡◌, ℕ, List, length}
use Rattle.match_barrier.specs.Labels.{Labels, Flooded}
use Rattle.match_barrier.proofs.flood.flood.Given as goal

abbrev pub invariant-loop-root : goal.invariant-loop-root
invariant-loop-root l = record {
  stack_length : length l.stack ≡ length l.graph;
  labels : (set : List ℕ) → Labels l.graph set l.initial.labels → Labels l.graph set l.labels;
  flooded : Flooded l.graph l.labels l.root;
}
