use Rattle.std.proofs.Common.{◌≡◌, ◌<◌, ℕ, length, get_or, take, false}
use Rattle.match_barrier.specs.Graph.{has}
use Rattle.smi_mean.proofs.mating.flags.Given as goal

abbrev pub invariant-loop-v : goal.invariant-loop-v
invariant-loop-v l = record {
  length : length l.flags.items ≡ l.n;
  flags : (v : ℕ) → v < l.n → get_or l.flags.items v false ≡ has (take l.v-index l.set) v;
}
