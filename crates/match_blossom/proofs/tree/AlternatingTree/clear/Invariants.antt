use Rattle.std.proofs.Common.{◌≡◌, ℕ, ◌<◌, length, get_or}
use Rattle.std.specs.Prelude.{◌⊎◌}
use Rattle.match_blossom.specs.Labels.{at}
use Rattle.match_blossom.specs.Forest.{StandsIn}
use Rattle.match_blossom.specs.declared.tree.Label.TheVariants.{Outside}
use Rattle.match_blossom.proofs.tree.AlternatingTree.clear.Given as goal

abbrev pub invariant-loop-k : goal.invariant-loop-k
invariant-loop-k l = record {
  rest : l.self ≡ record l.initial.self { labels = l.self.labels; blossoms = record l.initial.self.blossoms { base = l.self.blossoms.base; cycle_base = l.self.blossoms.cycle_base } };
  labels_length : length l.self.labels.items ≡ length l.initial.self.labels.items;
  base_length : length l.self.blossoms.base.items ≡ length l.initial.self.blossoms.base.items;
  cycle_length : length l.self.blossoms.cycle_base.items ≡ length l.initial.self.blossoms.cycle_base.items;
  labels : (u : ℕ) → (get_or l.self.labels.items u Outside ≡ Outside) ⊎ StandsIn l.initial.self.touched.items l.k l.initial.self.now u;
  base : (u : ℕ) → u < length l.initial.self.blossoms.base.items → (at l.self.blossoms.base.items u ≡ u) ⊎ StandsIn l.initial.self.touched.items l.k l.initial.self.now u;
  cycle_base : (u : ℕ) → u < length l.initial.self.blossoms.cycle_base.items → (at l.self.blossoms.cycle_base.items u ≡ u) ⊎ StandsIn l.initial.self.touched.items l.k l.initial.self.now u;
}
