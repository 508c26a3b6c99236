use Rattle.std.proofs.Common.{arith}
use Rattle.mc_mol.proofs.Roots.{parts_of}
use Rattle.mc_mol.proofs.independent.part_count.Goals as goal

pub returns-clause-value : goal.returns-clause-value
returns-clause-value c =
    let parts = parts_of c.args.graph.now.bonds c.args.graph.now.atoms _ _ _ _ c.in_ok-forest.ensures.forest in
    let count = c.len.ensures in
    omega arith
