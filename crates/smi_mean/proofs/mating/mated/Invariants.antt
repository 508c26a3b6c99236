use Rattle.std.proofs.Common.{◌≡◌, ◌≤◌, ◌++◌, drop, length, vec_capacity}
use Rattle.smi_mean.specs.NeedGraphs.{mated_from}
use Rattle.smi_mean.proofs.mating.mated.Given as goal

abbrev pub invariant-loop-k : goal.invariant-loop-k
invariant-loop-k l = record {
  placed : l.placed.items ++ mated_from l.needs l.mates l.skeleton.candidates l.k (drop l.k l.bonds) ≡ mated_from l.needs l.mates l.skeleton.candidates 0 l.bonds;
  count : length l.placed.items ≡ l.k;
  room : length l.bonds ≤ vec_capacity l.placed;
}
