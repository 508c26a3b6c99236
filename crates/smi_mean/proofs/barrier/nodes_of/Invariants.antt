use Rattle.std.proofs.Common.{◌≡◌, ◌≤◌, ◌++◌, drop, length, map, vec_capacity}
use Rattle.smi_mean.specs.Barriers.{number_of}
use Rattle.smi_mean.specs.NeedGraphs.{node_of}
use Rattle.smi_mean.proofs.barrier.nodes_of.Given as goal

abbrev pub invariant-loop-atom : goal.invariant-loop-atom
invariant-loop-atom l = record {
  nodes : l.nodes.items ++ map (node_of l.needs) (map number_of (drop l.atom-index l.atoms)) ≡ map (node_of l.needs) (map number_of l.atoms);
  count : length l.nodes.items ≡ l.atom-index;
  room : length l.atoms ≤ vec_capacity l.nodes;
}
