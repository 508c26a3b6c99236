use Rattle.std.proofs.Common.{◌≡◌, ◌≤◌, ◌++◌, drop, length, vec_capacity}
use Rattle.smi_mean.specs.Lying.{agree}
use Rattle.smi_mean.proofs.lying.agree.Given as goal

abbrev pub invariant-loop-k : goal.invariant-loop-k
invariant-loop-k l = record {
  found : l.found.items ++ agree (drop l.k l.needs) (drop l.k l.counts) ≡ agree l.needs l.counts;
  count : length l.found.items ≡ l.k;
  room : length l.needs ≤ vec_capacity l.found;
}
