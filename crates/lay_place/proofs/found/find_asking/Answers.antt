use Rattle.std.proofs.Common.{rules}
use Rattle.mc_mol.specs.declared.parts.HalfEdge.{HalfEdge as Leading}
use Rattle.mc_mol.specs.HalfEdges.{half_edges}
use Rattle.lay_place.specs.Search.{asks_here}
use Rattle.lay_place.proofs.HalfFacts.{one_more, all_fail, no_half}
use Rattle.lay_place.proofs.found.find_asking.Goals as goal

pub loop-half-preserved : goal.loop-half-preserved
loop-half-preserved c = one_more (λ (half : Leading). asks_here c.args.mol.now c.args.rings.now.sizes c.args.curve.now c.args.k.0 c.args.e.0 half) c.bonds_of-halves.result.now c.loop-half.half-index no_half (search rules) c.loop-half.invariant (search rules)

pub returns-clause-none : goal.returns-clause-none
returns-clause-none c = all_fail (λ (half : Leading). asks_here c.args.mol.now c.args.rings.now.sizes c.args.curve.now c.args.k.0 c.args.e.0 half) c.bonds_of-halves.result.now (half_edges c.args.mol.now c.args.e.0) c.loop-half.half-index c.bonds_of-halves.ensures.value (search rules) c.loop-half.invariant
