use Rattle.std.proofs.Common.{arith}
use Rattle.mc_mol.proofs.Roots.{independent_of}
use Rattle.mc_mol.proofs.forest.Forest.independent_rings.Goals as goal

pub returns : goal.returns
returns c =
    independent_of c.args.graph.now.bonds c.args.graph.now.atoms _ _ _ _ _ c.requires.forest c.requires.forest.fit
    (let atoms = c.atom_count.ensures.count in let bonds = c.bond_count.ensures.count in let parts = c.len.ensures in omega arith)
