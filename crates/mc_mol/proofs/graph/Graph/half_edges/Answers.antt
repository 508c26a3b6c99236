use Rattle.std.proofs.Common.{◌≡◌, ◌<◌, ◌∙◌, List, length, subst, sym}
use Rattle.mc_mol.specs.declared.parts.HalfEdge.{HalfEdge as Half}
use Rattle.mc_mol.specs.Graphs.{BondGraph}
use Rattle.mc_mol.specs.HalfEdges.{half_edges_in, LeadToNeighbours}
use Rattle.mc_mol.proofs.Neighbours.{lead_to_neighbours}
use Rattle.mc_mol.proofs.graph.Graph.half_edges.Goals as goal

pub returns-clause-lead : goal.returns-clause-lead
returns-clause-lead c =
    let within : c.args.a.0 < length c.self.inside.half_edges.now = subst (λ (g : BondGraph). c.args.a.0 < g.atoms) (sym c.self.view_is) c.requires in
    let halves : c.as_slice.result.now ≡ half_edges_in c.self.inside.bonds.now c.args.a.0 = c.as_slice.ensures ∙ c.self.invariant.1.each c.args.a.0 _ within in
    subst (λ (g : BondGraph). LeadToNeighbours g.atoms g.bonds c.args.a.0 c.as_slice.result.now) c.self.view_is
    (subst (λ (hs : List Half). LeadToNeighbours (length c.self.inside.half_edges.now) c.self.inside.bonds.now c.args.a.0 hs) (sym halves)
    (lead_to_neighbours (length c.self.inside.half_edges.now) c.self.inside.bonds.now c.args.a.0 c.self.invariant.0.bonds))
