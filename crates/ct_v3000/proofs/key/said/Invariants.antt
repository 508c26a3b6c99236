use Rattle.std.proofs.Common.{◌≡◌, ◌≤◌, ◌-◌, drop, length}
use Rattle.ct_v3000.specs.Keys.{said}
use Rattle.ct_v3000.proofs.key.said.Given as goal

abbrev pub invariant-loop-n : goal.invariant-loop-n
invariant-loop-n l = record {
  within : l.n ≤ length l.words;
  same : said l.head l.grammar (drop l.n l.words) ≡ said l.head l.grammar l.words;
}

abbrev pub decreases-loop-n : goal.decreases-loop-n
decreases-loop-n l = length l.words - l.n
