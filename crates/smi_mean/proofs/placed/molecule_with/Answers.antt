use Rattle.std.proofs.Common.{◌∙◌, length, map, ap, sym, subst}
use Rattle.mc_mol.specs.Molecule.{Molecule}
use Rattle.mc_mol.specs.WellFormed.{IsPlaceList}
use Rattle.smi_graph.specs.Links.{bond_of}
use Rattle.smi_mean.proofs.CentreFits.{centre_is}
use Rattle.smi_mean.proofs.MeantAtoms.{length_atoms}
use Rattle.smi_mean.proofs.placed.molecule_with.Goals as goal

pub set_centres-requires-clause-count : goal.set_centres-requires-clause-count
set_centres-requires-clause-count c =
    ap (λ (m : Molecule). length m.atoms) c.in_ok-mol.ensures ∙ length_atoms (map bond_of c.args.skeleton.now.bonds) 0 c.args.skeleton.now.atoms

pub set_centres-requires-clause-places : goal.set_centres-requires-clause-places
set_centres-requires-clause-places c =
    λ k places less at. subst (λ (m : Molecule). IsPlaceList m.bonds k places) (sym c.in_ok-mol.ensures)
    (centre_is c.args.skeleton.now c.args.double.now k places c.bonds-limits.ensures.well_formed (c.requires.marks k less) at)
