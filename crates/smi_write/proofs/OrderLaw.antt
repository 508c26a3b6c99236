-- Each atom of a molecule stands exactly once in its written order.
use Rattle.std.proofs.Common.{◌∙◌, arith}
use Rattle.mc_mol.specs.Molecule.{Molecule}
use Rattle.smi_mean.specs.Order.{Graph, graph_of, order, atoms}
use Rattle.smi_write.specs.Structure.{IsOrder}
use Rattle.smi_write.proofs.Walk.{grown}
use Rattle.smi_write.proofs.Once.{length_steps, length_atoms, below_count, distinct}

pub is_order : (m : Molecule) → IsOrder m (atoms (order (graph_of m)))
is_order m =
    let g : Graph = graph_of m in
    let len = length_steps g g.count (omega arith) in
    let h = grown g g.count in
    record {
      whole = length_atoms (order g) ∙ len;
      in_range = λ k below. below_count g (order g) k h (omega arith);
      distinct = λ j k less below same. distinct g (order g) j k h less (omega arith) same;
    }
