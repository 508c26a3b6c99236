use Rattle.std.proofs.Common.{rules, slice_index_or}
use Rattle.mc_mol.specs.declared.parts.HalfEdge.{HalfEdge as Leading}
use Rattle.mc_mol.specs.HalfEdges.{half_edges}
use Rattle.lay_place.specs.Search.{NoEnd, NoSide}
use Rattle.lay_place.proofs.HalfFacts.{bond_within, atom_within, there, no_half, each_more, each_all}
use Rattle.lay_place.proofs.Served.{found_serves, none_serves}
use Rattle.lay_place.proofs.next.wish_of.Goals as goal

pub wish_at-requires-clause-bond : goal.wish_at-requires-clause-bond
wish_at-requires-clause-bond c = bond_within c.args.mol.now c.args.v c.bonds_of-halves.result.now c.loop-half.half-index no_half c.bonds_of-halves.ensures.value c.bonds_of-halves.ensures.twins c.loop-half-test.true

pub wish_at-requires-clause-far : goal.wish_at-requires-clause-far
wish_at-requires-clause-far c = atom_within c.args.mol.now c.args.v c.bonds_of-halves.result.now c.loop-half.half-index no_half c.bonds_of-halves.ensures.value c.bonds_of-halves.ensures.twins c.loop-half-test.true

pub returns-in-Some : goal.returns-in-Some
returns-in-Some c = found_serves c.args.mol.now c.args.rings.now c.requires.may c.args.done c.args.v.0 c.requires.at_v c.args.curve.now c.requires.row c.loop-half.half-index (slice_index_or c.bonds_of-halves.result.now c.loop-half.half-index no_half) c.in-Some.wish
    (there c.args.mol.now c.args.v.0 c.bonds_of-halves.result.now c.loop-half.half-index no_half c.bonds_of-halves.ensures.value c.loop-half-test.true) c.in-Some.ensures.found

pub loop-half-preserved : goal.loop-half-preserved
loop-half-preserved c = each_more (λ (half : Leading). NoEnd c.args.mol.now c.args.rings.now.sizes c.args.curve.now half.bond.0 half.to.0 × NoSide c.args.mol.now c.args.rings.now.sizes c.args.curve.now half.bond.0 half.to.0)
    c.bonds_of-halves.result.now c.loop-half.half-index no_half c.loop-half-test.true c.loop-half.invariant (c.in_default.ensures.no_end, c.in_default.ensures.no_side)

pub returns : goal.returns
returns c = none_serves c.args.mol.now c.args.rings.now c.requires.may c.args.done c.args.v.0 c.requires.at_v c.args.curve.now c.requires.row
    (each_all (λ (half : Leading). NoEnd c.args.mol.now c.args.rings.now.sizes c.args.curve.now half.bond.0 half.to.0 × NoSide c.args.mol.now c.args.rings.now.sizes c.args.curve.now half.bond.0 half.to.0)
    c.bonds_of-halves.result.now (half_edges c.args.mol.now c.args.v.0) c.loop-half.half-index c.bonds_of-halves.ensures.value (search rules) c.loop-half.invariant)
