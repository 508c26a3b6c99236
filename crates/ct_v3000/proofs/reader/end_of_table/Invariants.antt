use Rattle.std.proofs.Common.{◌≡◌, ◌≤◌, ◌-◌, ◌++◌, length, drop}
use Rattle.ct_v3000.specs.Joined.{before_end}
use Rattle.ct_v3000.specs.Steps.{lines_between, is_short_behind}
use Rattle.ct_v3000.proofs.reader.end_of_table.Given as goal

abbrev pub invariant-loop-k : goal.invariant-loop-k
invariant-loop-k l = record {
  header : 4 ≤ l.k;
  within : l.k ≤ length l.given;
  body : lines_between 4 l.k l.given ++ before_end (drop l.k l.given) ≡ before_end (drop 4 l.given);
  short : is_short_behind l.k l.given ≡ is_short_behind 4 l.given;
}

abbrev pub decreases-loop-k : goal.decreases-loop-k
decreases-loop-k l = length l.given - l.k
