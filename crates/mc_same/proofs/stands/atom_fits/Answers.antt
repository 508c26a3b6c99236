use Rattle.smi_graph.specs.Candidates.{marked}
use Rattle.mc_mol.specs.Same.{entry}
use Rattle.mc_same.specs.Differences.{SameAtom}
use Rattle.mc_same.specs.Stands.{has_bond}
use Rattle.mc_same.proofs.Fitting.{atom_decides}
use Rattle.mc_same.proofs.stands.atom_fits.Goals as goal

pub returns : goal.returns
returns c = atom_decides c.is_fit.result c.agrees-same.result c.is_marked_at-needing.result c.has_bond-bonded.result
    (marked c.args.needs.now (entry c.args.map.now c.args.k)) (has_bond c.args.output.now c.args.k) (SameAtom c.args.input.now c.args.output.now c.args.map.now c.args.k)
    c.is_fit.ensures c.is_marked_at-needing.ensures c.has_bond-bonded.ensures c.agrees-same.ensures
