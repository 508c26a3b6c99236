use Rattle.std.proofs.Common.{◌∙◌, Bool, IfOk, List, ap, length, map, subst, sym}
use Rattle.mc_mol.specs.Molecule.{Molecule}
use Rattle.smi_graph.specs.Links.{bond_of}
use Rattle.smi_mean.specs.Barriers.{needs_of}
use Rattle.smi_mean.specs.Lying.{lying_of}
use Rattle.smi_mean.proofs.MeantAtoms.{length_atoms}
use Rattle.mc_same.specs.Stands.{IsFitVerdict}
use Rattle.mc_same.proofs.UnfitMarks.{unfit_answer}
use Rattle.mc_same.proofs.stands.compare_text.Goals as goal

pub returns-then-marks_fit : goal.returns-then-marks_fit
returns-then-marks_fit c =
    subst (λ (m : Molecule). IfOk c.compare_written.result (IsFitVerdict m (needs_of c.args.input.now.atoms c.args.input.now.bonds) (lying_of c.args.input.now.atoms c.args.input.now.bonds c.args.doubles.now) c.args.output.now c.args.map.now))
    c.in_ok-mol.ensures
    (subst (λ (needs : List Bool). IfOk c.compare_written.result (IsFitVerdict c.in_ok-mol.mol needs (lying_of c.args.input.now.atoms c.args.input.now.bonds c.args.doubles.now) c.args.output.now c.args.map.now))
    (c.deref-then-marks_fit.ensures.value ∙ c.in_ok-needs.ensures)
    (subst (λ (lying : List Bool). IfOk c.compare_written.result (IsFitVerdict c.in_ok-mol.mol c.deref-then-marks_fit.result.now lying c.args.output.now c.args.map.now))
    (c.deref-then-marks_fit-2.ensures.value ∙ c.in_ok-lying.ensures) c.compare_written.ensures))

pub compare_written-requires-2-clause-same_count : goal.compare_written-requires-2-clause-same_count
compare_written-requires-2-clause-same_count c =
    c.requires.same_count ∙ sym (ap (λ (m : Molecule). length m.atoms) c.in_ok-mol-2.ensures ∙ length_atoms (map bond_of c.args.input.now.bonds) 0 c.args.input.now.atoms)

pub returns : goal.returns
returns c =
    unfit_answer c.args.input.now c.args.output.now c.args.map.now c.args.doubles.now c.in_ok-mol-2.mol c.compare_written-2.result c.requires.double c.bonds-bonds.ensures.well_formed c.atom_count-atoms.ensures.well_formed
    c.requires.marks (c.marks_fit.ensures.no c.if-marks_fit.false) c.in_ok-mol-2.ensures
    (subst (λ (needs : List Bool). IfOk c.compare_written-2.result (IsFitVerdict c.in_ok-mol-2.mol needs (lying_of c.args.input.now.atoms c.args.input.now.bonds c.args.doubles.now) c.args.output.now c.args.map.now))
    (c.deref-2.ensures.value ∙ c.in_ok-needs.ensures)
    (subst (λ (lying : List Bool). IfOk c.compare_written-2.result (IsFitVerdict c.in_ok-mol-2.mol c.deref-2.result.now lying c.args.output.now c.args.map.now))
    (c.deref-3.ensures.value ∙ c.in_ok-lying.ensures) c.compare_written-2.ensures))
