use Rattle.std.proofs.Common.{◌∙◌, subst}
use Rattle.match_blossom.specs.Answer.{IsAnswer}
use Rattle.smi_mean.proofs.PlacedBonds.{few_needs, few_bonds, bonds_in_range, found_apart, found_in_range, placed_by}
use Rattle.smi_mean.proofs.place.place.Goals as goal

pub node_numbers-requires : goal.node_numbers-requires
node_numbers-requires c = few_needs c.args.skeleton.now c.args.needs.now c.bonds-limits.ensures.well_formed c.requires.needs

pub candidate_bonds-requires : goal.candidate_bonds-requires
candidate_bonds-requires c = few_bonds c.args.skeleton.now c.args.bonds.now c.bonds-limits.ensures.well_formed c.requires.bonds

pub need_graph-requires-clause-few : goal.need_graph-requires-clause-few
need_graph-requires-clause-few c = few_needs c.args.skeleton.now c.args.needs.now c.bonds-limits.ensures.well_formed c.requires.needs

pub need_graph-requires-clause-apart : goal.need_graph-requires-clause-apart
need_graph-requires-clause-apart c =
    found_apart c.args.skeleton.now c.args.needs.now c.args.bonds.now c.deref-2.result.now c.bonds-limits.ensures.well_formed c.requires.needs c.requires.bonds (c.deref-2.ensures.value ∙ c.in_ok-candidates.ensures)

pub need_graph-requires-clause-in_range : goal.need_graph-requires-clause-in_range
need_graph-requires-clause-in_range c =
    found_in_range c.args.skeleton.now c.args.needs.now c.args.bonds.now c.deref-2.result.now c.bonds-limits.ensures.well_formed c.requires.needs c.requires.bonds (c.deref-2.ensures.value ∙ c.in_ok-candidates.ensures)

pub mated-requires-clause-in_range : goal.mated-requires-clause-in_range
mated-requires-clause-in_range c = bonds_in_range c.args.skeleton.now c.args.needs.now c.args.bonds.now c.bonds-limits.ensures.well_formed c.requires.needs c.requires.bonds

pub mated-requires-clause-few : goal.mated-requires-clause-few
mated-requires-clause-few c = few_bonds c.args.skeleton.now c.args.bonds.now c.bonds-limits.ensures.well_formed c.requires.bonds

pub returns-in-Perfect : goal.returns-in-Perfect
returns-in-Perfect c =
    placed_by c.args.skeleton.now c.args.needs.now c.args.bonds.now c.deref-2.result.now c.in_ok-graph.graph c.in-Perfect.mates.now c.in_ok-placed-in-Perfect.placed.items c.bonds-limits.ensures.well_formed c.requires.needs
    c.requires.bonds (c.deref-2.ensures.value ∙ c.in_ok-candidates.ensures) c.in_ok-graph.ensures (subst (IsAnswer c.in_ok-graph.graph) c.in-Perfect.is c.solve.ensures.answer) c.in_ok-placed-in-Perfect.ensures

pub barred-requires-clause-few : goal.barred-requires-clause-few
barred-requires-clause-few c = few_needs c.args.skeleton.now c.args.needs.now c.bonds-limits.ensures.well_formed c.requires.needs
