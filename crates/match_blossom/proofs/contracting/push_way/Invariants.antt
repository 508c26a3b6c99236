use Rattle.std.proofs.Common.{◌≡◌, ◌≤◌, length}
use Rattle.match_blossom.specs.Forest.{IsPushing}
use Rattle.match_blossom.proofs.contracting.push_way.Given as goal

abbrev pub invariant-loop-x : goal.invariant-loop-x
invariant-loop-x l = record {
  same : l.tree ≡ record l.initial.tree { cycles = record l.initial.tree.cycles { nodes = l.tree.cycles.nodes } };
  nodes : length l.tree.cycles.nodes.items ≡ length l.initial.tree.cycles.nodes.items;
  below : l.top ≤ l.bottom;
  pushing : IsPushing l.mates l.initial.tree l.bottom l.top l.initial.tree.cycles.nodes.items l.tree.cycles.nodes.items l.from l.x l.base;
}

abbrev pub decreases-loop-x : goal.decreases-loop-x
decreases-loop-x l = l.top
