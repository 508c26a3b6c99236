use Rattle.std.proofs.Common.{◌≡◌, ℕ, ◌<◌, ◌≤◌, length, get_or, false}
use Rattle.match_barrier.specs.Barrier.{count, is_odd}
use Rattle.match_barrier.specs.Labels.{is_odd_label, size_of_label}
use Rattle.match_barrier.proofs.flood.count_odd.Given as goal

abbrev pub invariant-loop-label : goal.invariant-loop-label
invariant-loop-label l = record {
  same_length : length l.odd ≡ length l.labels;
  odd : (r : ℕ) → r < length l.odd → get_or l.odd r false ≡ is_odd (size_of_label l.labels l.label-index r);
}

abbrev pub invariant-loop-r : goal.invariant-loop-r
invariant-loop-r l = record {
  total : l.total ≡ count l.r (is_odd_label l.labels);
  few : l.total ≤ l.r;
}
