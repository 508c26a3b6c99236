use Rattle.std.proofs.Common.{◌≡◌, length, take}
use Rattle.mc_mol.proofs.Added.{HoldAt}
use Rattle.mc_mol.proofs.adjacency.Adjacency.of_bonds.Given as goal

abbrev pub invariant-loop-k : goal.invariant-loop-k
invariant-loop-k l = record {
  count : length l.adjacency.lists.items ≡ l.atoms;
  each : HoldAt l.atoms (take l.k l.bonds) l.adjacency.lists.items;
}
