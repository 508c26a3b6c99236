use Rattle.std.proofs.Common.{◌≡◌, ◌≤◌, ◌+◌, drop, map}
use Rattle.smi_graph.specs.Links.{bond_of}
use Rattle.smi_mean.specs.Placements.{placed_at}
use Rattle.smi_mean.proofs.placement.placed_at.Given as goal

abbrev pub invariant-loop-k : goal.invariant-loop-k
invariant-loop-k l = record {
  counted : l.count + placed_at (map bond_of (drop l.k l.bonds)) (drop l.k l.placed) l.a ≡ placed_at (map bond_of l.bonds) l.placed l.a;
  few : l.count ≤ l.k;
}
