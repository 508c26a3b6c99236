use Rattle.std.proofs.Common.{◌≡◌, ◌≤◌, ◌-◌, ℕ, length, drop}
use Rattle.std.specs.Prelude.{◌⊎◌}
use Rattle.match_blossom.specs.Labels.{at}
use Rattle.match_blossom.specs.Pointers.{Falls, Leads}
use Rattle.match_blossom.specs.Stack.{Fits}
use Rattle.match_blossom.specs.Foldings.{IsUnfolding}
use Rattle.match_blossom.specs.Forest.{stacked}
use Rattle.match_blossom.specs.Ends.{AreNoted}
use Rattle.match_blossom.proofs.lifting.lift_all.Given as goal

abbrev pub invariant-loop-cycles : goal.invariant-loop-cycles
invariant-loop-cycles l = record {
  lifting : IsUnfolding l.graph l.initial.mates (stacked l.initial.cycles) l.mates (stacked l.cycles);
  falls : Falls l.blossoms.cycle_base.items l.blossoms.order.items;
  leads : Leads (length l.blossoms.cycle_base.items) (at l.blossoms.cycle_base.items) (stacked l.cycles);
  noted : AreNoted l.blossoms.cycle_base.items l.known.ends.node.items l.known.ends.below.items;
  base : (u : ℕ) → (at l.blossoms.cycle_base.items u ≡ at l.initial.blossoms.cycle_base.items u) ⊎ (at l.blossoms.cycle_base.items u ≡ u);
  base_length : length l.blossoms.cycle_base.items ≡ length l.initial.blossoms.cycle_base.items;
  order : l.blossoms.order ≡ l.initial.blossoms.order;
  pointers : l.blossoms.base ≡ l.initial.blossoms.base;
  nodes : length l.cycles.nodes.items ≡ length l.initial.cycles.nodes.items;
  sizes : l.cycles.sizes ≡ l.initial.cycles.sizes;
  top : l.cycles.top ≤ length l.cycles.nodes.items;
  height : l.cycles.height ≤ length l.cycles.sizes.items;
  fits : Fits (drop l.cycles.height l.cycles.sizes.items) (drop l.cycles.top l.cycles.nodes.items);
}

abbrev pub decreases-loop-cycles : goal.decreases-loop-cycles
decreases-loop-cycles l = length l.cycles.sizes.items - l.cycles.height
