use Rattle.std.proofs.Common.{◌≡◌, ℕ, ◌<◌, ◌≤◌, length, get_or}
use Rattle.match_barrier.specs.Labels.{Lowers}
use Rattle.match_barrier.proofs.flood.lower_neighbours.Given as goal

abbrev pub invariant-loop-w : goal.invariant-loop-w
invariant-loop-w l = record {
  lowers : Lowers l.graph l.root l.initial.labels l.labels l.initial.stack l.stack l.height l.top;
  own : get_or l.labels l.v 0 ≡ l.root;
  seen : (k : ℕ) → k < l.w-index → get_or l.labels (get_or l.w-items k 0) 0 < length l.graph → get_or l.labels (get_or l.w-items k 0) 0 ≤ l.root;
}
