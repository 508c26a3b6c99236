use Rattle.std.proofs.Common.{◌≡◌, ◌≤◌, ◌*◌, map, take}
use Rattle.mc_mol.specs.Molecule.{bond_sum}
use Rattle.smi_graph.specs.Links.{bond_of}
use Rattle.smi_mean.proofs.need.order_sum.Given as goal

abbrev pub invariant-loop-bond : goal.invariant-loop-bond
invariant-loop-bond l = record {
  value : l.sum ≡ bond_sum (map bond_of (take l.bond-index l.bonds)) l.a.0;
  small : l.sum ≤ 4 * l.bond-index;
}
