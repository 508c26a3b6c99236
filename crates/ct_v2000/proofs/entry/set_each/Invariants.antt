use Rattle.std.proofs.Common.{◌≡◌, ◌≤◌, ◌<◌, ◌+◌, ◌*◌, ◌-◌, ℕ, length, get_or, None}
use Rattle.ct_v2000.specs.Properties.{entries_from}
use Rattle.ct_v2000.specs.Replaced.{last_entry}
use Rattle.ct_v2000.proofs.entry.set_each.Given as goal

abbrev pub invariant-loop-e : goal.invariant-loop-e
invariant-loop-e l = record {
  within : l.e ≤ l.count;
  count : length l.values ≡ length l.initial.values;
  set : (k : ℕ) → k < length l.initial.values → last_entry (k + 1) (get_or l.values k None) (entries_from (l.count - l.e) (10 + 8 * l.e) l.line) ≡ last_entry (k + 1) (get_or l.initial.values k None) (entries_from l.count 10 l.line);
}

abbrev pub decreases-loop-e : goal.decreases-loop-e
decreases-loop-e l = l.count - l.e
