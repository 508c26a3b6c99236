use Rattle.std.proofs.Common.{rules, slice_get}
use Rattle.std.proofs.lemmas.List.Sorted.{IsNonDecreasingBy-from_sort_by_key}
use Rattle.mc_rings.specs.Blocks.{block_key}
use Rattle.mc_rings.proofs.block_order.block_order.Goals as goal

pub returns-clause-sorted : goal.returns-clause-sorted
returns-clause-sorted c = IsNonDecreasingBy-from_sort_by_key (λ atom. block_key (slice_get c.args.tree.now.above.items atom.0)) _ c.sort_unstable_by_key.ensures.sorted (λ a r q k. search rules)
