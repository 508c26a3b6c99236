use Rattle.std.proofs.Common.{◌≡◌, ◌<◌, ℕ, []}
use Rattle.std.specs.Prelude.{slice_index_or}
use Rattle.smi_write.specs.Progress.{IsWalkWith}
use Rattle.smi_write.proofs.order.order.Given as goal

abbrev pub invariant-loop-root : goal.invariant-loop-root
invariant-loop-root l = record {
  walk : IsWalkWith l.mol l.walk [];
  empty : l.walk.stack.items ≡ [];
  earlier : (v : ℕ) → v < l.root → 0 < slice_index_or l.walk.ranks.items v 0;
}
