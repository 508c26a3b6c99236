use Rattle.std.proofs.Common.{◌≡◌, ℕ, ◌<◌, length, get_or, take}
use Rattle.match_barrier.proofs.Naming.{first_label}
use Rattle.match_barrier.proofs.flood.begin.Given as goal

abbrev pub invariant-loop-v : goal.invariant-loop-v
invariant-loop-v l = record {
  each_node : length l.labels ≡ length l.graph;
  own : (k : ℕ) → k < l.v → get_or l.labels k 0 ≡ k;
}

abbrev pub invariant-loop-v-2 : goal.invariant-loop-v-2
invariant-loop-v-2 l = record {
  each_node : length l.labels ≡ length l.graph;
  labels : (k : ℕ) → k < length l.graph → get_or l.labels k 0 ≡ first_label (length l.graph) (take l.v-index l.set) k;
}
