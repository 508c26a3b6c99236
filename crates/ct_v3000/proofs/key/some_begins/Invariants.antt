use Rattle.std.proofs.Common.{◌≡◌, ◌≤◌, ◌-◌, drop, length}
use Rattle.ct_v3000.specs.Keys.{some_begins}
use Rattle.ct_v3000.proofs.key.some_begins.Given as goal

abbrev pub invariant-loop-n : goal.invariant-loop-n
invariant-loop-n l = record {
  within : l.n ≤ length l.words;
  same : some_begins l.head (drop l.n l.words) ≡ some_begins l.head l.words;
}

abbrev pub decreases-loop-n : goal.decreases-loop-n
decreases-loop-n l = length l.words - l.n
