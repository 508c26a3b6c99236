use Rattle.std.proofs.Common.{◌∙◌}
use Rattle.smi_mean.proofs.PlacedBonds.{few_needs, few_bonds, found_apart, found_in_range}
use Rattle.smi_mean.proofs.BarrierTests.{passing_below, passing_differ, passing_in_range, some_found, none_found}
use Rattle.smi_mean.proofs.barrier.odd_parts_without.Goals as goal

pub node_numbers-requires : goal.node_numbers-requires
node_numbers-requires c = few_needs c.args.skeleton.now c.args.needs.now c.bonds-limits.ensures.well_formed c.requires.needs

pub candidate_bonds-requires : goal.candidate_bonds-requires
candidate_bonds-requires c = few_bonds c.args.skeleton.now c.args.bonds.now c.bonds-limits.ensures.well_formed c.requires.bonds

pub need_graph-requires-clause-few : goal.need_graph-requires-clause-few
need_graph-requires-clause-few c = few_needs c.args.skeleton.now c.args.needs.now c.bonds-limits.ensures.well_formed c.requires.needs

pub need_graph-requires-clause-apart : goal.need_graph-requires-clause-apart
need_graph-requires-clause-apart c =
    found_apart c.args.skeleton.now c.args.needs.now c.args.bonds.now c.deref-2.result.now c.bonds-limits.ensures.well_formed c.requires.needs c.requires.bonds (c.deref-2.ensures.value ∙ c.in_ok-candidates.ensures)

pub need_graph-requires-clause-in_range : goal.need_graph-requires-clause-in_range
need_graph-requires-clause-in_range c =
    found_in_range c.args.skeleton.now c.args.needs.now c.args.bonds.now c.deref-2.result.now c.bonds-limits.ensures.well_formed c.requires.needs c.requires.bonds (c.deref-2.ensures.value ∙ c.in_ok-candidates.ensures)

pub nodes_of-requires-clause-below : goal.nodes_of-requires-clause-below
nodes_of-requires-clause-below c = passing_below c.args.needs.now c.args.atoms.now c.requires.rises

pub is_barrier-requires-clause-different : goal.is_barrier-requires-clause-different
is_barrier-requires-clause-different c = passing_differ c.args.needs.now c.args.atoms.now c.deref-4.result.now c.requires.rises (c.deref-4.ensures.value ∙ c.in_ok-nodes.ensures)

pub is_barrier-requires-clause-in_range : goal.is_barrier-requires-clause-in_range
is_barrier-requires-clause-in_range c =
    passing_in_range c.args.needs.now c.deref-2.result.now c.in_ok-graph.graph c.args.atoms.now c.deref-4.result.now c.in_ok-graph.ensures c.requires.rises (c.deref-4.ensures.value ∙ c.in_ok-nodes.ensures)

pub returns-clause-some : goal.returns-clause-some
returns-clause-some c =
    some_found c.args.skeleton.now c.args.needs.now c.args.bonds.now c.deref-2.result.now c.in_ok-graph.graph c.args.atoms.now c.deref-4.result.now c.is_barrier.result c.bonds-limits.ensures.well_formed c.requires.needs
    c.requires.bonds (c.deref-2.ensures.value ∙ c.in_ok-candidates.ensures) c.in_ok-graph.ensures c.requires.rises (c.deref-4.ensures.value ∙ c.in_ok-nodes.ensures) c.is_barrier.ensures.some

pub returns-clause-none : goal.returns-clause-none
returns-clause-none c =
    none_found c.args.skeleton.now c.args.needs.now c.args.bonds.now c.deref-2.result.now c.in_ok-graph.graph c.args.atoms.now c.deref-4.result.now c.is_barrier.result c.bonds-limits.ensures.well_formed c.requires.needs
    c.requires.bonds (c.deref-2.ensures.value ∙ c.in_ok-candidates.ensures) c.in_ok-graph.ensures (c.deref-4.ensures.value ∙ c.in_ok-nodes.ensures) c.is_barrier.ensures.none
