use Rattle.std.proofs.Common.{◌≡◌, length}
use Rattle.mc_rings.specs.Counts.{Counted}
use Rattle.mc_rings.proofs.sizes.bond_counts.Given as goal

abbrev pub invariant-loop-k : goal.invariant-loop-k
invariant-loop-k l = record {
  count : length l.counts.items ≡ l.block_count;
  counted : Counted l.blocks l.counts.items l.k;
}
